use Rattle.std.proofs.Common.{[], ◌∷◌, ◌++◌, ap, ◌∙◌}
use Rattle.std.proofs.lemmas.Result.{on_ok_weaker}
use Rattle.warc_checking.specs.Judged.{own_findings}
use Rattle.warc_checking.proofs.OwnFindingLemmas.{own_more}
use Rattle.warc_checking.proofs.findings.JudgingKeep.keep_plain.Goals as goal

pub returns-clause-ok : goal.returns-clause-ok
returns-clause-ok g c = λ records p is at next.
    on_ok_weaker c.add_plain.result (λ more. more ∙ ap (λ l. l ++ own_findings p.content ∷ []) is ∙ own_more records p)
    (c.add_plain.ensures.ok p c.args._block_start next)
