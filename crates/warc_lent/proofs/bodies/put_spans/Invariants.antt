use Rattle.std.proofs.Common.{map, take}
use Rattle.warc_lent.specs.Bodies.{span_numbers}
use Rattle.warc_lent.specs.Buffers.{HoldsFront, KeepsAfter}
use Rattle.warc_lent.proofs.bodies.put_spans.Given as goal

-- the spans so far
abbrev pub invariant-putting : goal.invariant-putting
invariant-putting g l = record {
  front : HoldsFront (map span_numbers (take l.index l.located.spans)) l.out;
  rest : KeepsAfter l.index l.fn.out l.out;
}
