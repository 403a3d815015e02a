use Rattle.warc_lent.proofs.SelectionLemmas.{others_chosen, others_of_named}
use Rattle.warc_lent.proofs.selections.chosen.Goals as goal

pub returns-in-Ok-clause-chosen : goal.returns-in-Ok-clause-chosen
returns-in-Ok-clause-chosen g c =
    others_chosen _ _ _ _ c.if-not-except.false
    (others_of_named _ _ _ _ _ _ c.deref.ensures.value c.in_ok-named.ensures.named c.in-Ok.ensures)
