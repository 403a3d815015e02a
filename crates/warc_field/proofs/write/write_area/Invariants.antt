use Rattle.std.proofs.Common.{◌≡◌, ◌+◌, ◌++◌, ◌≤◌, length, drop}
use Rattle.std.specs.Prelude.{vec_len, vec_capacity}
use Rattle.warc_field.specs.Area.{canonical_fields}
use Rattle.warc_field.proofs.write.write_area.Given as goal

abbrev pub invariant-loop-name : goal.invariant-loop-name
invariant-loop-name g l = record {
  written : l.out.items ++ canonical_fields (drop l.name-index l.fields) ≡ l.fn.out.items ++ canonical_fields l.fields;
  len : vec_len l.out + length (canonical_fields (drop l.name-index l.fields)) ≡ vec_len l.fn.out + length (canonical_fields l.fields);
  room : vec_len l.out + length (canonical_fields (drop l.name-index l.fields)) ≤ vec_capacity l.out;
  grown : vec_capacity l.fn.out ≤ vec_capacity l.out;
}
