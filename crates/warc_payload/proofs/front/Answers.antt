use Rattle.std.proofs.lemmas.List.{take_min}
use Rattle.warc_payload.specs.Head.{front_of}
use Rattle.warc_payload.proofs.front.Goals as goal

pub returns : goal.returns
unfolding front_of
returns c = rw c.min.ensures (take_min 65_536 c.args.block.now)
