use Rattle.std.proofs.Common.{◌≡◌, ◌+◌, length, drop}
use Rattle.warc_field.specs.Area.{canonical_fields}
use Rattle.warc_field.proofs.write.canonical_len.Given as goal

abbrev pub invariant-loop-name : goal.invariant-loop-name
invariant-loop-name g l = l.len + length (canonical_fields (drop l.name-index l.fields)) ≡ length (canonical_fields l.fields)
