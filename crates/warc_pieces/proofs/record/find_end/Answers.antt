use Rattle.std.proofs.Common.{◌+◌, ◌-◌, ◌^◌, true, false, sym, ◌∙◌, arith}
use Rattle.std.proofs.lemmas.Bool.{leb-true, leb-false}
use Rattle.warc_pieces.proofs.HalvingLemmas.{halved, near_none, near_then}
use Rattle.warc_pieces.proofs.WindowLemmas.{near_len}
use Rattle.warc_pieces.proofs.record.find_end.Goals as goal
use Rattle.warc_pieces.proofs.record.find_end.Goals.{then-has, else-has}

pub halving-init : goal.halving-init
halving-init g c = record {
  between = λ bytes held low high. (low, omega (arith, high, near_len bytes, c.min-high.ensures));
  span = omega (arith, c.min-high.ensures, c.requires);
  limit = omega (arith, c.min-high.ensures);
  low = omega arith;
  high = omega (arith, c.min-high.ensures);
  reads = near_none _;
}

pub returns-in-Err-clause-reads : goal.returns-in-Err-clause-reads
returns-in-Err-clause-reads g c = near_then c.halving.step 1 48 true _ _ _ c.halving.invariant.reads c.in-Err.ensures.reads (omega (arith, c.halving-test.true))

pub halving-preserved : goal.halving-preserved
halving-preserved g c = record {
  between = λ bytes held low high.
      let before = c.halving.invariant.between bytes held low high in
      let test = c.in-Ok.ensures.has bytes (c.halving.invariant.reads.kept ∙ held) in
      elim c.if-has.branch [
        | then-has w ↦
            let there = leb-true _ _ (sym test ∙ w.if-has.true) in
            (omega (arith, w.low-is, there), omega (arith, w.high-is, before.1))
        | else-has w ↦
            let over = leb-false _ _ (sym test ∙ w.if-has.false) in
            (omega (arith, w.low-is, before.0), omega (arith, w.high-is, over))
      ];
  span = elim c.if-has.branch [
    | then-has w ↦ halved (c.halving.high - c.halving.low) _ c.halving.step (2 ^ 48) (omega (arith, w.low-is, w.high-is)) c.halving.invariant.span
    | else-has w ↦ halved (c.halving.high - c.halving.low) _ c.halving.step (2 ^ 48) (omega (arith, w.low-is, w.high-is)) c.halving.invariant.span
  ];
  limit = elim c.if-has.branch [
    | then-has w ↦ omega (arith, w.high-is, c.halving.invariant.limit)
    | else-has w ↦ omega (arith, w.high-is, c.halving.invariant.limit)
  ];
  low = elim c.if-has.branch [
    | then-has w ↦ omega (arith, w.low-is, c.halving.invariant.low)
    | else-has w ↦ omega (arith, w.low-is, c.halving.invariant.low)
  ];
  high = elim c.if-has.branch [
    | then-has w ↦ omega (arith, w.high-is, c.halving.invariant.high)
    | else-has w ↦ omega (arith, w.high-is, c.halving.invariant.high)
  ];
  reads = near_then c.halving.step 1 (c.halving.step + 1) false _ _ _ c.halving.invariant.reads c.in-Ok.ensures.reads (omega arith);
}
