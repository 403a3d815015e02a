use Rattle.std.proofs.Common.{rules, ap, ◌∙◌}
use Rattle.warc_field.specs.Text.{is_value}
use Rattle.warc_write.proofs.TextLemmas.{decimal_is_value}
use Rattle.warc_write.proofs.parts.add_digits.Goals as goal

pub add_copy-requires-clause-valued : goal.add_copy-requires-clause-valued
add_copy-requires-clause-valued g c =
    ap is_value (c.as_bytes.ensures.value ∙ c.format.ensures.text) ∙ decimal_is_value c.args.number (search rules)
