use Rattle.std.proofs.Common.{length}
use Rattle.warc_quick.specs.Fronts.{BeginsWithFields}
use Rattle.warc_quick.proofs.head.read_lines.Given as goal

-- the text begins with the fields so far, and the rest follows
abbrev pub invariant-loop-rest : goal.invariant-loop-rest
invariant-loop-rest l = BeginsWithFields l.text l.values.values l.rest

abbrev pub decreases-loop-rest : goal.decreases-loop-rest
decreases-loop-rest l = length l.rest
