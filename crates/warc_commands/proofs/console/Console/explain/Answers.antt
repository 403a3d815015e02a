use Rattle.std.proofs.Common.{◌≡◌, ℕ, List, Option, Some, None, refl, subst}
use Rattle.warc_arguments.specs.Explanations.{explained}
use Rattle.warc_arguments.specs.declared.status.Status.{Status}
use Rattle.warc_commands.specs.Devices.{Devices}
use Rattle.warc_commands.specs.Explaining.{ExplainEnds}
use Rattle.warc_commands.proofs.console.Console.explain.Goals as goal

-- how it ends, by what the table has for the number
explain_by : (number : List ℕ) (found : Option (List ℕ)) (old new : Devices) (status : Status) → found ≡ explained number → ExplainEnds found old new status → ExplainEnds (explained number) old new status
explain_by number found old new status same ends = let P : Option (List ℕ) → Type 0 = λ o. ExplainEnds o old new status in subst P same ends

pub returns-in-Some-clause-ends : goal.returns-in-Some-clause-ends
returns-in-Some-clause-ends g c = explain_by c.args.number.now (Some c.in-Some.text.now) _ _ _ c.in-Some.ensures (refl, c.show.ensures)

pub returns-in-None-clause-ends : goal.returns-in-None-clause-ends
returns-in-None-clause-ends g c = explain_by c.args.number.now None _ _ _ c.in-None.ensures (record { unread = refl; untouched = refl; reported = c.report.ensures; status_is = refl })
