use Rattle.std.proofs.Common.{◌≡◌, ◌+◌, ◌∷◌, ◌++◌, take, drop, refl, arith}
use Rattle.std.proofs.lemmas.Grind.{common_steps}
use Rattle.warc_field.specs.Lines.{crlf}
use Rattle.warc_quick.proofs.NameLemmas.{named_is_name}
use Rattle.warc_quick.proofs.LineLemmas.{line_is}
use Rattle.warc_quick.proofs.lines.first_line.Goals as goal

pub returns : goal.returns
returns c =
    let text = c.args.text.now in
    let k = c.in_ok-colon.colon in
    let rest = c.in_ok-rest.rest.now in
    let more = c.in_ok-rest.more.now in
    let first = c.in_ok-colon.ensures in
    let after : drop (k + 1) text ≡ rest ++ (crlf ++ more) = grind (arith, common_steps, c.in_ok-rest.ensures.text) in
    record {
      bytes = take k text ++ 58 ∷ rest ++ crlf;
      is = record { rest = rest; name = named_is_name c.are_field_names.ensures (take k text) c.in_ok-naming.naming c.in_ok-naming.ensures; value = c.plain_value.ensures; text = refl };
      named = c.in_ok-naming.ensures;
      text_is = line_is text rest more k first.0 first.1 after;
    }
