use Rattle.std.proofs.Common.{sym, ap, ◌∙◌}
use Rattle.warc_value.specs.Digests.{verdict_of}
use Rattle.warc_record.specs.Readings.{digest_wanted}
use Rattle.warc_judged.proofs.VerdictLemmas.{verdicts_more}
use Rattle.warc_judged.proofs.block_verdicts.BlockVerdictsKeep.keep_plain.Goals as goal

pub returns-clause-ok : goal.returns-clause-ok
returns-clause-ok g c = λ records p is at next.
    let block = c.args.found.now.block.now in
    verdicts_more c.add.result c.args.self.now c.add.new.self records p _ is
    (c.of.ensures block ∙ ap (λ w. verdict_of w block) (c.wanted.ensures ∙ sym next.says.wanted) ∙ ap (λ l. verdict_of (digest_wanted p.content.fields) l) next.block_is) c.add.ensures.ok
