use Rattle.warc_quick.proofs.CanonicalLemmas.{front_more}
use Rattle.warc_quick.proofs.canonical.has_canonical_lines.Goals as goal

pub loop-rest-preserved : goal.loop-rest-preserved
loop-rest-preserved c = front_more c.loop-rest.invariant c.in-Some-after_line.ensures
