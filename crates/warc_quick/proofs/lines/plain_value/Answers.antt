use Rattle.std.proofs.Common.{ap, ◌∙◌}
use Rattle.warc_field.specs.Text.{is_value}
use Rattle.warc_field.proofs.LawLemmas.{trimmed_part_is_value}
use Rattle.warc_quick.proofs.LineLemmas.{plain_means}
use Rattle.warc_quick.proofs.lines.plain_value.Goals as goal

pub returns : goal.returns
returns c =
    plain_means c.args.rest.now _ c.trim.ensures (ap is_value c.trim.ensures ∙ trimmed_part_is_value c.args.rest.now c.requires)
