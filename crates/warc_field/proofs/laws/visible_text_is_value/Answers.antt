use Rattle.warc_field.proofs.VisibleLemmas.{visible_text_is_value}
use Rattle.warc_field.proofs.laws.visible_text_is_value.Goals as goal

pub returns : goal.returns
returns c = visible_text_is_value
