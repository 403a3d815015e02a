use Rattle.std.proofs.Common.{map, take}
use Rattle.warc_lent.specs.Buffers.{HoldsFront, KeepsAfter}
use Rattle.warc_lent.specs.Heads.{http_field_numbers}
use Rattle.warc_lent.proofs.heads.put_http_fields.Given as goal

-- the places so far
abbrev pub invariant-putting : goal.invariant-putting
invariant-putting l = record {
  front : HoldsFront (map http_field_numbers (take l.index l.fields)) l.out;
  rest : KeepsAfter l.index l.fn.out l.out;
}
