use Rattle.warc_replay.proofs.PayloadLemmas.{known_more}
use Rattle.warc_replay.proofs.record.digests.KnownDigests.add.Goals as goal

pub returns-then-origin-len : goal.returns-then-origin-len
returns-then-origin-len g c = λ records are has. known_more records c.args.self.now.known.items _ _ c.in_ok-push.ensures.items are has

pub returns-else-origin-len : goal.returns-else-origin-len
returns-else-origin-len g c = λ records are has. known_more records c.args.self.now.known.items _ _ c.in_ok-push.ensures.items are has
