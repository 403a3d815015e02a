use Rattle.std.proofs.Common.{rules, ◌≡◌, ◌+◌, ◌++◌, length, length-take, take, drop, false, refl, arith, ap, sym, ◌∙◌}
use Rattle.warc_frame.proofs.CopyLemmas.{same_out, same_staged, piece_more, range_out}
use Rattle.warc_frame.proofs.RangeLemmas.{filled_by, filled_no_more, filled_none}
use Rattle.warc_frame.proofs.ranges.put_range.Goals as goal
use Rattle.warc_frame.proofs.ranges.put_range.Goals.{in_default-via-in-Ok+else-n-gt0, in_default-via-in-Err-1}

pub copying-init : goal.copying-init
copying-init g c = record {
  within = omega arith;
  staged = search rules;
  read = filled_none c.args.at _ _;
  sound = refl;
  silent = refl;
}

pub returns-in_default-clause-emits : goal.returns-in_default-clause-emits
returns-in_default-clause-emits g c = record {
  out = λ bytes text held says start output is. search rules;
  cut = λ bytes text held says start output is.
      let from = drop c.args.at bytes in
      let gone = c.staged_went_out.ensures start _ (output ++ take c.copying.done from) c.copying.buffer (c.copying.invariant.staged bytes start output held is) in
      let out = range_out output from c.copying.done c.args.len c.copying.invariant.within gone in
      same_out (ap (λ l. output ++ l) (sym says.1)) (rw c.sent-in_default.ensures out);
  kept = search rules;
  cause = search rules;
  fails = record { may = search rules; failed = λ bytes held has. search rules };
}

pub returns-in-Err-clause-emits : goal.returns-in-Err-clause-emits
returns-in-Err-clause-emits g c = record {
  out = λ bytes text held says start output is. search rules;
  cut = λ bytes text held says start output is.
      let from = drop c.args.at bytes in
      let done = c.copying.done in
      let gives = c.in-Ok.ensures.bytes bytes (c.copying.invariant.read.kept ∙ held) in
      let cut = c.in-Err.ensures.cut start (output ++ take done from) (c.copying.invariant.staged bytes start output held is) in
      let same = piece_more bytes output c.read_at.new.buf c.args.at done c.in-Ok.n gives.same in
      same_out (ap (λ l. output ++ l) (sym says.1)) (range_out output from (done + c.in-Ok.n) c.args.len (omega (arith, c.in-Ok.ensures.bound, c.read_at.auto.buf, length-take c.next_len-want.result c.copying.scratch)) (same_out same cut));
  kept = search rules;
  cause = search rules;
  fails = record { may = search rules; failed = λ bytes held has. search rules };
}

pub returns-in-Err-clause-reads : goal.returns-in-Err-clause-reads
returns-in-Err-clause-reads g c =
    let has = filled_by c.args.at c.args.len c.copying.done (length (take c.next_len-want.result c.copying.scratch)) c.in-Ok.n _ _ _ false c.copying.invariant.read c.in-Ok.ensures.read (omega (arith, c.copying.invariant.within, c.next_len-want.ensures.left, length-take c.next_len-want.result c.copying.scratch)) (omega (arith, c.if-n-gt0.true)) in
    filled_no_more _ _ _ _ _ has (omega (arith, c.copying.invariant.within, c.in-Ok.ensures.bound, c.read_at.auto.buf, c.next_len-want.ensures.left, length-take c.next_len-want.result c.copying.scratch))

pub copying-preserved : goal.copying-preserved
copying-preserved g c = record {
  within = omega (arith, c.in-Ok.ensures.bound, c.read_at.auto.buf, length-take c.next_len-want.result c.copying.scratch);
  staged = λ bytes start output held is.
      let from = drop c.args.at bytes in
      let done = c.copying.done in
      let gives = c.in-Ok.ensures.bytes bytes (c.copying.invariant.read.kept ∙ held) in
      let same = piece_more bytes output c.read_at.new.buf c.args.at done c.in-Ok.n gives.same in
      same_staged same (c.in_default-put.ensures.out start (output ++ take done from) (c.copying.invariant.staged bytes start output held is));
  read = filled_by c.args.at c.args.len c.copying.done (length (take c.next_len-want.result c.copying.scratch)) c.in-Ok.n _ _ _ false c.copying.invariant.read c.in-Ok.ensures.read (omega (arith, c.copying.invariant.within, c.next_len-want.ensures.left, length-take c.next_len-want.result c.copying.scratch)) (omega (arith, c.if-n-gt0.true));
  sound = search rules;
  silent = search rules;
}

pub returns-clause-emits : goal.returns-clause-emits
returns-clause-emits g c = record {
  out = λ bytes text held says start output is.
      let all : c.copying.done ≡ c.args.len = omega (arith, c.copying.invariant.within, c.copying-test.false) in
      same_staged (ap (λ k. output ++ take k (drop c.args.at bytes)) all ∙ ap (λ l. output ++ l) (sym says.1)) (c.copying.invariant.staged bytes start output held is);
  cut = search rules;
  kept = search rules;
  cause = search rules;
  fails = record { may = search rules; failed = λ bytes held has. search rules };
}
