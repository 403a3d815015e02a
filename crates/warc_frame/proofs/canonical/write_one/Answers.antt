use Rattle.warc_frame.proofs.WriteLemmas.{written}
use Rattle.warc_frame.proofs.canonical.write_one.Goals as goal

pub returns-clause-ok : goal.returns-clause-ok
returns-clause-ok g c = written c.args.framed.now _ _ _ _ _ _ _ _ _ _ _ c.version.ensures c.fields.ensures.fields c.block.ensures.block c.line.ensures.line c.in_ok-reserve.ensures.items c.put.ensures.items c.in-Ok.ensures.ok c.put-2.ensures.items c.put-3.ensures.items c.put-4.ensures.items
