use Rattle.warc_write.proofs.RenderLemmas.{rendered_opens_as_same}
use Rattle.warc_write.proofs.laws.rendered_opens_as_same.Goals as goal

pub returns : goal.returns
returns c = rendered_opens_as_same c.canonical_text_spells.ensures c.spelling_is_unambiguous.ensures.list
