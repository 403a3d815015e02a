use Rattle.std.proofs.Common.{◌+◌, ◌++◌, length}
use Rattle.warc_frame.proofs.StreamEnds.{NoneBefore}
use Rattle.warc_frame.proofs.ends.find_end.Given as goal

abbrev pub invariant-loop-place : goal.invariant-loop-place
invariant-loop-place l = NoneBefore (l.kept ++ l.piece) (length l.kept + l.place)
