use Rattle.warc_rewrite.specs.Selecting.{AreOthers}
use Rattle.warc_rewrite.proofs.OtherLemmas.{IsPassed}
use Rattle.warc_rewrite.proofs.selection.other_positions.Given as goal

-- the others so far
abbrev pub invariant-listing : goal.invariant-listing
invariant-listing g l = record {
  passed : IsPassed l.positions l.position l.place;
  others : AreOthers l.position l.positions l.others.items;
}
