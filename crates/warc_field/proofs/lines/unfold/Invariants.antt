use Rattle.std.proofs.Common.{◌≡◌, ◌++◌, length}
use Rattle.warc_field.specs.Lines.{unfolded}
use Rattle.warc_field.proofs.lines.unfold.Given as goal

abbrev pub invariant-loop-part : goal.invariant-loop-part
invariant-loop-part g l = l.out.items ++ unfolded l.rest ≡ unfolded l.text

abbrev pub decreases-loop-part : goal.decreases-loop-part
decreases-loop-part g l = length l.rest
