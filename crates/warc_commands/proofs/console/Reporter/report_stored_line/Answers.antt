use Rattle.std.proofs.Common.{ℕ, List, ◌++◌, codes, sym, ap, ◌∙◌}
use Rattle.warc_answer.specs.Seen.{stored_seen}
use Rattle.warc_answer.specs.Stored.{answer_with}
use Rattle.warc_commands.specs.Program.{answer_text}
use Rattle.warc_commands.specs.Stored.{coded_text}
use Rattle.warc_commands.proofs.ProgramLemmas.{reported_as}
use Rattle.warc_commands.proofs.console.Reporter.report_stored_line.Goals as goal

pub returns-then-at : goal.returns-then-at
returns-then-at g c =
    let text : List ℕ = answer_text (answer_with c.args.at.now.path (stored_seen c.args.at.now.stored)) in
    let same = ap (λ l. codes " coded" ++ l) c.deref.ensures.value ∙ sym (ap (λ b. coded_text b c.args.at.now.stored.codings.items) c.if-at.true) in
    reported_as (ap (λ t. text ++ t ++ codes "\n") same) (c.report_coded.ensures text (c.as_str.ensures.value ∙ c.line_of_answer-line.ensures))
