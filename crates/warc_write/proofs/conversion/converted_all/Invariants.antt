use Rattle.std.proofs.Common.{◌≡◌, take}
use Rattle.warc_write.specs.Conversion.{converted_fields}
use Rattle.warc_write.proofs.conversion.converted_all.Given as goal

abbrev pub invariant-loop-field : goal.invariant-loop-field
invariant-loop-field g l = l.all ≡ converted_fields (take l.field-index l.fields)
