use Rattle.std.proofs.Common.{◌∙◌, ap, option_map, sym}
use Rattle.warc_field.specs.Meant.{meant}
use Rattle.warc_field.proofs.TextLemmas.{value_of-value}
use Rattle.warc_field.proofs.area.read_field.Goals as goal

pub returns-clause-valid : goal.returns-clause-valid
returns-clause-valid g c = (
  sym c.is_name.ensures ∙ c.if-not-is_name.false,
  value_of-value _ _ (sym c.in_ok-value.ensures ∙ ap (option_map meant) c.in-Some-2.is),
)
