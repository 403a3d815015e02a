use Rattle.warc_quick.proofs.ValueLemmas.{fields_more}
use Rattle.warc_quick.proofs.head.read_lines.Goals as goal

pub loop-rest-preserved : goal.loop-rest-preserved
loop-rest-preserved c = fields_more _ _ _ _ c.loop-rest.invariant c.in_ok-line.ensures _ (c.add.ensures _ c.loop-rest.invariant.are c.if-not-add.false)
