use Rattle.std.proofs.Common.{◌≡◌, length, take}
use Rattle.std.specs.List.{flat_map}
use Rattle.warc_frame.specs.Count.{capped}
use Rattle.warc_lent.specs.Buffers.{HoldsFront, KeepsAfter}
use Rattle.warc_lent.specs.Heads.{pair_text}
use Rattle.warc_lent.proofs.heads.put_texts.Given as goal

-- the texts of the fields so far, and their length
abbrev pub invariant-putting : goal.invariant-putting
invariant-putting g l = record {
  front : HoldsFront (flat_map pair_text (take l.index l.fields)) l.out;
  rest : KeepsAfter (length (flat_map pair_text (take l.index l.fields))) l.fn.out l.out;
  whole : l.at ≡ capped (length (flat_map pair_text (take l.index l.fields)));
}
