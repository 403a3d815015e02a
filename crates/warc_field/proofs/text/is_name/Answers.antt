use Rattle.std.proofs.Common.{◌∙◌}
use Rattle.warc_field.proofs.TokenLemmas.{same_names}
use Rattle.warc_field.proofs.text.is_name.Goals as goal

pub returns : goal.returns
returns c = c.is_token.ensures ∙ same_names c.args.text.now
