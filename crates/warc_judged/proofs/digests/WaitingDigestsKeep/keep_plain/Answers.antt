use Rattle.warc_judged.proofs.FixityLemmas.{digests_more}
use Rattle.warc_judged.proofs.digests.WaitingDigestsKeep.keep_plain.Goals as goal

pub returns-clause-ok : goal.returns-clause-ok
returns-clause-ok g c = λ records p is position next.
    digests_more c.add.result c.args.self.now c.add.new.self records p _ c.args.found.now.head.digest.now is
    (c.plain_check.ensures p c.args._block_start next) next.says.digest c.add.ensures.ok
