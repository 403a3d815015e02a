use Rattle.std.proofs.Common.{ap, ◌∙◌}
use Rattle.warc_value.specs.Digests.{verdict_of}
use Rattle.warc_record.specs.Readings.{digest_wanted}
use Rattle.warc_judged.proofs.VerdictLemmas.{verdicts_more}
use Rattle.warc_judged.proofs.block_verdicts.BlockVerdictsKeep.keep.Goals as goal

pub returns-clause-ok : goal.returns-clause-ok
returns-clause-ok g c = λ records p is at next seen.
    verdicts_more c.add.result c.args.self.now c.add.new.self records p _ is
    (c.verdict.ensures c.args._head.now p.content.block seen ∙ ap (λ f. verdict_of (digest_wanted f) p.content.block) next.fields_are) c.add.ensures.ok
