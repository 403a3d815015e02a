use Rattle.std.proofs.Common.{◌≡◌, ◌+◌, ◌∷◌, ◌++◌, take, drop, ◌∙◌, sym, arith}
use Rattle.std.proofs.lemmas.Grind.{common_steps}
use Rattle.warc_field.specs.Lines.{crlf}
use Rattle.warc_quick.proofs.LineLemmas.{line_is}
use Rattle.warc_quick.proofs.canonical.after_line.Goals as goal

pub returns-then-is_value : goal.returns-then-is_value
returns-then-is_value c =
    let text = c.args.text.now in
    let k = c.in_ok-colon.colon in
    let value = c.in_ok-value.value.now in
    let more = c.in_ok-value.more.now in
    let first = c.in_ok-colon.ensures in
    let after : drop (k + 1) text ≡ (32 ∷ value) ++ (crlf ++ more) = grind (arith, common_steps, c.in_ok-rest.ensures, c.in_ok-value.ensures.text) in (
      (take k text, value),
      (sym c.is_name.ensures ∙ c.if-is_name.true, sym c.is_value.ensures ∙ c.if-is_value.true),
      line_is text (32 ∷ value) more k first.0 first.1 after,
    )
