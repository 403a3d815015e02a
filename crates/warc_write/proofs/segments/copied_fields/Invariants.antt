use Rattle.std.proofs.Common.{◌≡◌, take}
use Rattle.warc_write.proofs.segments.copied_fields.Given as goal

abbrev pub invariant-loop-field : goal.invariant-loop-field
invariant-loop-field g l = l.fields ≡ take l.field-index l.given
