use Rattle.std.proofs.Common.{◌≡◌, ◌++◌, take}
use Rattle.warc_write.specs.Splitting.{kept}
use Rattle.warc_write.proofs.segments.add_kept.Given as goal

abbrev pub invariant-loop-field : goal.invariant-loop-field
invariant-loop-field g l = l.fields ≡ l.fn.fields ++ kept l.len (take l.field-index l.given)
