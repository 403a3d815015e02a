use Rattle.std.proofs.Common.{ap, ◌∷◌, [], codes, ◌∙◌}
use Rattle.std.specs.List.{concat}
use Rattle.warc_commands.proofs.CaptureLemmas.{coded_line}
use Rattle.warc_commands.proofs.ProgramLemmas.{reported_as}
use Rattle.warc_commands.proofs.console.Reporter.report_coded.Goals as goal

pub returns : goal.returns
returns g c = λ text is.
    reported_as (ap (λ t. concat (t ∷ codes " coded" ∷ c.args.codings.now ∷ codes "\n" ∷ [])) (c.without_end.ensures text (c.as_bytes.ensures.value ∙ is)) ∙ coded_line text c.args.codings.now) c.report_all.ensures
