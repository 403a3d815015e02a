use Rattle.warc_write.proofs.MakeLemmas.{fitted_some}
use Rattle.warc_write.proofs.made.fitting.Goals as goal

pub returns-in-Ok-clause-made : goal.returns-in-Ok-clause-made
returns-in-Ok-clause-made g c = fitted_some c.args.fields c.args.block.items c.in-Ok.framed c.requires c.in-Ok.ensures.exact
