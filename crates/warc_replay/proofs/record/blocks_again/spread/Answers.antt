use Rattle.std.proofs.lemmas.Option.{slice_get-get_or}
use Rattle.warc_reading.specs.Archive.{contents}
use Rattle.warc_replay.proofs.BlocksAgainLemmas.{set_right, unknown_right}
use Rattle.warc_replay.proofs.record.blocks_again.spread.Goals as goal

pub spreading-init : goal.spreading-init
spreading-init g c = record { right = λ records are. unknown_right _ records c.in_ok-all.ensures }
