use Rattle.example_page.proofs.page.has_grown.Goals as goal

pub returns-in-Err-clause-stays : goal.returns-in-Err-clause-stays
returns-in-Err-clause-stays c = λ bytes is refused. c.in-Err.ensures.stays bytes is
