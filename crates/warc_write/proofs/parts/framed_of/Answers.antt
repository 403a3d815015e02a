use Rattle.warc_write.proofs.PartLemmas.{only_framed}
use Rattle.warc_write.proofs.parts.framed_of.Goals as goal

pub returns : goal.returns
returns g c = only_framed _ c.in-Ok.framed c.requires c.in-Ok.ensures.exact
