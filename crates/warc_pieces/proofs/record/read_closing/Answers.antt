use Rattle.std.proofs.Common.{◌≡◌, ◌+◌, true, false, length, take, drop, refl, sym, ap, ◌∙◌, arith, length-drop}
use Rattle.warc_frame.specs.declared.fault.Fault.{Fault}
use Rattle.warc_frame.proofs.RangeLemmas.{filled_more, filled_within}
use Rattle.warc_pieces.specs.Pieces.{near}
use Rattle.warc_pieces.proofs.HalvingLemmas.{front_last, front_open, front_read, near_none, near_then, read_end}
use Rattle.warc_pieces.proofs.WindowLemmas.{near_len}
use Rattle.warc_pieces.proofs.record.read_closing.Goals as goal

pub filling-init : goal.filling-init
filling-init g c = record { within = omega arith; limit = λ some. absurd (omega (arith, some)); bytes = λ bytes held. refl; begins_as = refl; reads = near_none _ }

pub returns-then-place-ge-MAX_ARCHIVE-clause-bytes : goal.returns-then-place-ge-MAX_ARCHIVE-clause-bytes
returns-then-place-ge-MAX_ARCHIVE-clause-bytes g c = λ bytes held.
    let i = c.filling.invariant in
    front_read c.args.at (length c.args.buf.now) (near bytes) c.filling.buf c.filling.filled i.within (i.bytes bytes held) (λ yes.
    read_end (drop c.args.at (near bytes)) c.filling.buf c.filling.filled (length c.args.buf.now) (i.bytes bytes held)
    (omega (arith, length-drop c.args.at (near bytes), near_len bytes, c.if-place-ge-MAX_ARCHIVE.true)) (omega (arith, i.within, c.filling.auto.buf)))

pub returns-in-Err-clause-unclosed : goal.returns-in-Err-clause-unclosed
returns-in-Err-clause-unclosed g c = λ bytes held.
    let i = c.filling.invariant in
    front_open c.args.at _ (near bytes) c.filling.buf c.read_near.new.buf c.filling.filled (ap (λ (f : Fault). f.offset) c.at.ensures) i.within (i.bytes bytes held) i.begins_as

pub returns-in-Err-clause-reads : goal.returns-in-Err-clause-reads
returns-in-Err-clause-reads g c =
    near_then c.filling.filled 1 (length c.args.buf.now) true _ _ _ c.filling.invariant.reads c.in-Err.ensures.read (omega (arith, c.filling-test.true, c.filling.auto.buf))

pub returns-then-n-eq0-clause-bytes : goal.returns-then-n-eq0-clause-bytes
returns-then-n-eq0-clause-bytes g c = λ bytes held.
    let i = c.filling.invariant in
    front_last c.args.at (length c.args.buf.now) (near bytes) c.filling.buf c.read_near.new.buf c.filling.filled c.in-Ok.n i.within (omega (arith, c.filling-test.true, c.filling.auto.buf)) (sym c.filling.auto.buf)
    (omega (arith, c.in-Ok.ensures.len, length-drop c.filling.filled c.filling.buf)) (i.bytes bytes held) (c.in-Ok.ensures.bytes bytes (i.reads.kept ∙ held)) c.if-n-eq0.true

pub returns-then-n-eq0-clause-reads : goal.returns-then-n-eq0-clause-reads
returns-then-n-eq0-clause-reads g c =
    near_then c.filling.filled 1 (length c.args.buf.now) false _ _ _ c.filling.invariant.reads c.in-Ok.ensures.read (omega (arith, c.filling-test.true, c.filling.auto.buf))

pub returns-then-not-begins_as-clause-bytes : goal.returns-then-not-begins_as-clause-bytes
returns-then-not-begins_as-clause-bytes g c = λ bytes held.
    let i = c.filling.invariant in
    front_read c.args.at (length c.args.buf.now) (near bytes) _ (c.filling.filled + c.in-Ok.n) (filled_within c.filling.buf c.read_near.new.buf c.filling.filled c.in-Ok.n i.within c.in-Ok.ensures.bound)
    (filled_more (near bytes) c.filling.buf c.read_near.new.buf c.args.at c.filling.filled c.in-Ok.n i.within c.in-Ok.ensures.bound (i.bytes bytes held) (c.in-Ok.ensures.bytes bytes (i.reads.kept ∙ held)))
    (λ yes. absurd (let no : false ≡ true = sym c.if-not-begins_as.true ∙ c.begins_as.ensures ∙ yes in cc no))

pub returns-then-not-begins_as-clause-reads : goal.returns-then-not-begins_as-clause-reads
returns-then-not-begins_as-clause-reads g c =
    near_then c.filling.filled 1 (length c.args.buf.now) false _ _ _ c.filling.invariant.reads c.in-Ok.ensures.read (omega (arith, c.filling-test.true, c.filling.auto.buf))

pub returns-clause-bytes : goal.returns-clause-bytes
returns-clause-bytes g c = λ bytes held.
    let i = c.filling.invariant in
    let all : c.filling.filled ≡ length c.args.buf.now = omega (arith, i.within, c.filling.auto.buf, c.filling-test.false) in
    front_read c.args.at (length c.args.buf.now) (near bytes) c.filling.buf c.filling.filled i.within (i.bytes bytes held) (λ yes.
    i.bytes bytes held ∙ ap (λ k. take k (drop c.args.at (near bytes))) all)

pub filling-preserved : goal.filling-preserved
filling-preserved g c = record {
  within = filled_within c.filling.buf c.read_near.new.buf c.filling.filled c.in-Ok.n c.filling.invariant.within c.in-Ok.ensures.bound;
  limit = λ some. omega (arith, c.in-Ok.ensures.limit);
  bytes = λ bytes held.
      filled_more (near bytes) c.filling.buf c.read_near.new.buf c.args.at c.filling.filled c.in-Ok.n c.filling.invariant.within c.in-Ok.ensures.bound
      (c.filling.invariant.bytes bytes held) (c.in-Ok.ensures.bytes bytes (c.filling.invariant.reads.kept ∙ held));
  begins_as = sym c.begins_as.ensures ∙ c.if-not-begins_as.false;
  reads = near_then c.filling.filled 1 (c.filling.filled + c.in-Ok.n) false _ _ _ c.filling.invariant.reads c.in-Ok.ensures.read (omega (arith, c.if-n-eq0.false));
}
