use Rattle.std.proofs.Common.{[], ◌∷◌, ◌++◌, ap, ◌∙◌}
use Rattle.std.proofs.lemmas.Result.{on_ok_weaker}
use Rattle.warc_checking.specs.OwnFindings.{unjudged}
use Rattle.warc_checking.proofs.OwnFindingLemmas.{unjudged_more}
use Rattle.warc_checking.proofs.unjudged.OwnFindingsKeep.keep_plain.Goals as goal

pub returns-clause-ok : goal.returns-clause-ok
returns-clause-ok g c = λ records p is at next.
    on_ok_weaker c.add_plain_head.result (λ more. more ∙ ap (λ l. l ++ unjudged p.content ∷ []) is ∙ unjudged_more records p)
    (c.add_plain_head.ensures.ok p c.args._block_start next)
