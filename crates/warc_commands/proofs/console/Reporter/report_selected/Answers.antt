use Rattle.std.proofs.Common.{Bool, ap, sym, ◌∙◌}
use Rattle.warc_commands.specs.Closed.{beside_text}
use Rattle.warc_commands.specs.Selected.{selected_line}
use Rattle.warc_commands.proofs.ProgramLemmas.{reported_as}
use Rattle.warc_commands.proofs.console.Reporter.report_selected.Goals as goal

pub returns-then-beside : goal.returns-then-beside
returns-then-beside g c = reported_as (c.as_str.ensures.value ∙ c.line_of_selected-line.ensures ∙ ap (λ (b : Bool). selected_line c.args.records c.args.bytes (beside_text b c.args.beside.besides)) (sym c.if-beside.true)) c.report.ensures

pub returns : goal.returns
returns g c = reported_as (c.as_str-2.ensures.value ∙ c.line_of_selected-line-2.ensures ∙ ap (λ (b : Bool). selected_line c.args.records c.args.bytes (beside_text b c.args.beside.besides)) (sym c.if-beside.false)) c.report-2.ensures
