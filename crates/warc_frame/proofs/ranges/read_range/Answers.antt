use Rattle.std.proofs.Common.{rules, ◌-◌, ◌<◌, length, drop, take, true, false, refl, ◌∙◌, arith}
use Rattle.std.proofs.lemmas.List.{length-drop, length-take}
use Rattle.warc_frame.proofs.RangeLemmas.{filled_by, filled_more, filled_no_more, filled_none, filled_within}
use Rattle.warc_frame.proofs.ranges.read_range.Goals as goal

pub filling-init : goal.filling-init
filling-init g c = record {
  within = omega arith;
  bytes = λ bytes held. refl;
  read = filled_none c.args.at _ _;
  sound = refl;
}

pub returns-in_default-clause-reads : goal.returns-in_default-clause-reads
returns-in_default-clause-reads g c =
    let some : 0 < length c.args.buf.now - c.filling.filled = omega (arith, c.filling-test.true, c.filling.auto.buf) in
    let has = filled_by c.args.at _ c.filling.filled (length (take (length c.filling.buf - c.filling.filled) (drop c.filling.filled c.filling.buf))) 1 _ _ _ false c.filling.invariant.read c.in-Ok.ensures.read (omega (arith, length-take (length c.filling.buf - c.filling.filled) (drop c.filling.filled c.filling.buf), length-drop c.filling.filled c.filling.buf, some, c.filling.auto.buf)) (omega arith) in
    filled_no_more _ _ _ _ _ has (omega (arith, c.filling-test.true, c.filling.auto.buf))

pub returns-in_default-2-clause-reads : goal.returns-in_default-2-clause-reads
returns-in_default-2-clause-reads g c =
    let some : 0 < length c.args.buf.now - c.filling.filled = omega (arith, c.filling-test.true, c.filling.auto.buf) in
    let has = filled_by c.args.at _ c.filling.filled (length (take (length c.filling.buf - c.filling.filled) (drop c.filling.filled c.filling.buf))) 1 _ _ _ true c.filling.invariant.read c.in_default.ensures.read (omega (arith, length-take (length c.filling.buf - c.filling.filled) (drop c.filling.filled c.filling.buf), length-drop c.filling.filled c.filling.buf, some, c.filling.auto.buf)) (omega arith) in
    filled_no_more _ _ _ _ _ has (omega (arith, c.filling-test.true, c.filling.auto.buf))

pub returns-clause-reads : goal.returns-clause-reads
returns-clause-reads g c = filled_no_more _ _ _ _ _ c.filling.invariant.read (omega (arith, c.filling.invariant.within, c.filling.auto.buf))

pub filling-preserved : goal.filling-preserved
filling-preserved g c = record {
  within = filled_within c.filling.buf c.read_at.new.buf c.filling.filled c.in-Ok.n c.filling.invariant.within c.in-Ok.ensures.bound;
  bytes = λ bytes held.
      filled_more bytes c.filling.buf c.read_at.new.buf c.args.at c.filling.filled c.in-Ok.n c.filling.invariant.within c.in-Ok.ensures.bound
      (c.filling.invariant.bytes bytes held) (c.in-Ok.ensures.bytes bytes (c.filling.invariant.read.kept ∙ held));
  read = filled_by c.args.at _ c.filling.filled (length (take (length c.filling.buf - c.filling.filled) (drop c.filling.filled c.filling.buf))) c.in-Ok.n _ _ _ false c.filling.invariant.read c.in-Ok.ensures.read (omega (arith, length-take (length c.filling.buf - c.filling.filled) (drop c.filling.filled c.filling.buf), length-drop c.filling.filled c.filling.buf, c.filling-test.true, c.filling.auto.buf)) (omega (arith, c.if-n-gt0.true));
  sound = search rules;
}
