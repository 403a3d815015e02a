use Rattle.std.proofs.Common.{map, take}
use Rattle.warc_lent.specs.Buffers.{HoldsFront, KeepsAfter}
use Rattle.warc_lent.specs.Heads.{field_numbers}
use Rattle.warc_lent.proofs.heads.put_lengths.Given as goal

-- the lengths so far
abbrev pub invariant-putting : goal.invariant-putting
invariant-putting g l = record {
  front : HoldsFront (map field_numbers (take l.index l.fields)) l.out;
  rest : KeepsAfter l.index l.fn.out l.out;
}
