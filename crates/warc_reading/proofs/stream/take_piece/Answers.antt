use Rattle.std.proofs.Common.{◌≡◌, ℕ, ◌+◌, ◌-◌, List, ◌++◌, length, take, drop, inl, refl, sym, ap, subst, ◌∙◌, arith}
use Rattle.std.proofs.lemmas.List.{append_assoc, append-nil, length-drop, take-append-drop, take_all, take_rest}
use Rattle.std.proofs.lemmas.Result.{err_from_is_err_and}
use Rattle.warc_frame.specs.Decoding.{IsAt}
use Rattle.warc_reading.specs.Stream.{Since, IsReadSoFar, StaysRefused, Stops}
use Rattle.std.proofs.Math.Seq.{take-add}
use Rattle.warc_reading.proofs.GrowLemmas.{extends_more, extends_none, on_err}
use Rattle.warc_reading.proofs.OpeningLemmas.{begins_following, wants_before}
use Rattle.warc_reading.proofs.stream.take_piece.Goals as goal

-- what was taken of a piece, and what more of it
following : (text piece : List ℕ) (from took : ℕ) → (text ++ take from piece) ++ take took (take (length piece - from) (drop from piece)) ≡ text ++ take (from + took) piece
following text piece from took =
    append_assoc text (take from piece) (take took (take (length piece - from) (drop from piece))) ∙ ap (λ x. text ++ (take from piece ++ take took x)) (take_rest piece from)
    ∙ ap (λ x. text ++ x) (sym (take-add from took piece))

whole : (text piece : List ℕ) (from : ℕ) → (text ++ take from piece) ++ take (length piece - from) (drop from piece) ≡ text ++ piece
whole text piece from =
    ap (λ x. (text ++ take from piece) ++ x) (take_rest piece from) ∙ append_assoc text (take from piece) (drop from piece) ∙ ap (λ x. text ++ x) (take-append-drop from piece)

pub taking-init : goal.taking-init
taking-init g c = record {
  within = omega arith;
  is_present = λ was text is.
      let P : List ℕ → Type 0 = λ t. IsReadSoFar g.L.Block.TakeBlock.has_seen (Since g.L.Keep.keeps was) t c.args.decoder.now c.args.reading.now in
      subst P (sym (append-nil text)) is;
  begins = λ was text is. inl refl;
  rows = extends_none c.args.reading.now.rows;
  taken = λ at taken reported is.
      let P : List ℕ → Type 0 = λ t. IsAt at t reported c.args.decoder.now in
      (reported, subst P (sym (append-nil taken)) is);
}

pub returns-in_err-from-clause-history : goal.returns-in_err-from-clause-history
returns-in_err-from-clause-history g c =
    let p = err_from_is_err_and c.from_residual.result c.from_residual.ensures.1 in
    let piece : List ℕ = c.args.piece.now in
    let from : ℕ = c.taking.from in
    rw (p.1, p.2) (λ was text is.
    let P : List ℕ → Type 0 = λ t. StaysRefused t c.in_err-from.field-0.0 in
    subst P (whole text piece from) (c.in_err-from.ensures.history was (text ++ take from piece) (c.taking.invariant.is_present was text is)))

pub returns-in_err-from-clause-memory : goal.returns-in_err-from-clause-memory
returns-in_err-from-clause-memory g c =
    let p = err_from_is_err_and c.from_residual.result c.from_residual.ensures.1 in
    let piece : List ℕ = c.args.piece.now in
    let from : ℕ = c.taking.from in
    rw (p.1, p.2) (λ was text is.
    let rest : List ℕ = take (length piece - from) (drop from piece) in
    wants_before text (take from piece) rest piece _ _ c.in_err-from.field-0.0 (ap (λ x. take from piece ++ x) (take_rest piece from) ∙ take-append-drop from piece)
    (c.taking.invariant.begins was text is) (c.in_err-from.ensures.begins was (text ++ take from piece) (c.taking.invariant.is_present was text is)))

pub returns-in_err-from-clause-left : goal.returns-in_err-from-clause-left
returns-in_err-from-clause-left g c =
    λ was text is. on_err c.from_residual.result (c.in_err-from.ensures.left was (text ++ take c.taking.from c.args.piece.now) (c.taking.invariant.is_present was text is))

pub returns-in_err-from-clause-stops : goal.returns-in_err-from-clause-stops
returns-in_err-from-clause-stops g c =
    let p = err_from_is_err_and c.from_residual.result c.from_residual.ensures.1 in
    let piece : List ℕ = c.args.piece.now in
    let from : ℕ = c.taking.from in
    rw (p.1, p.2) (λ was text is.
    let P : List ℕ → Type 0 = λ t. Stops t c.take_front.new.reading.rows c.in_err-from.field-0.0 in
    subst P (whole text piece from) (c.in_err-from.ensures.stops was (text ++ take from piece) (c.taking.invariant.is_present was text is)))

pub returns-in_err-from-clause-rows : goal.returns-in_err-from-clause-rows
returns-in_err-from-clause-rows g c = extends_more _ _ _ c.taking.invariant.rows c.take_front.ensures.rows

pub returns-in_err-from-clause-taken : goal.returns-in_err-from-clause-taken
returns-in_err-from-clause-taken g c =
    let p = err_from_is_err_and c.from_residual.result c.from_residual.ensures.1 in
    rw (p.1, p.2) (λ at taken reported is.
    let (now, here) = c.taking.invariant.taken at taken reported is in
    c.in_err-from.ensures.taken at (taken ++ take c.taking.from c.args.piece.now) now here)

pub taking-preserved : goal.taking-preserved
taking-preserved g c =
    let piece : List ℕ = c.args.piece.now in
    let from : ℕ = c.taking.from in
    let took : ℕ = c.in_ok-from.field-0 in
    let rest : List ℕ = take (length piece - from) (drop from piece) in
    let size : length rest ≡ length piece - from = ap length (take_rest piece from) ∙ length-drop from piece in
    record {
      within = omega (arith, size, c.in_ok-from.ensures.within, c.taking-test.true, c.taking.invariant.within);
      is_present = λ was text is.
          let P : List ℕ → Type 0 = λ t. IsReadSoFar g.L.Block.TakeBlock.has_seen (Since g.L.Keep.keeps was) t c.take_front.new.decoder c.take_front.new.reading in
          subst P (following text piece from took) (c.in_ok-from.ensures.history was (text ++ take from piece) (c.taking.invariant.is_present was text is));
      begins = λ was text is.
          begins_following text (take from piece) _ _ _ (c.taking.invariant.begins was text is) (c.in_ok-from.ensures.begins was (text ++ take from piece) (c.taking.invariant.is_present was text is));
      rows = extends_more _ _ _ c.taking.invariant.rows c.take_front.ensures.rows;
      taken = λ at taken reported is.
          let (now, here) = c.taking.invariant.taken at taken reported is in
          let (next, there) = c.in_ok-from.ensures.taken at (taken ++ take from piece) now here in
          let P : List ℕ → Type 0 = λ t. IsAt at t next c.take_front.new.decoder in
          (next, subst P (following taken piece from took) there);
    }

pub returns-clause-history : goal.returns-clause-history
returns-clause-history g c = λ was text is.
    let P : List ℕ → Type 0 = λ t. IsReadSoFar g.L.Block.TakeBlock.has_seen (Since g.L.Keep.keeps was) t c.taking.decoder c.taking.reading in
    subst P (ap (λ x. text ++ x) (take_all c.taking.from c.args.piece.now (omega (arith, c.taking-test.false)))) (c.taking.invariant.is_present was text is)

pub returns-clause-rows : goal.returns-clause-rows
returns-clause-rows g c = c.taking.invariant.rows

pub returns-clause-taken : goal.returns-clause-taken
returns-clause-taken g c = λ at taken reported is.
    let (now, here) = c.taking.invariant.taken at taken reported is in
    let P : List ℕ → Type 0 = λ t. IsAt at t now c.taking.decoder in
    (now, subst P (ap (λ x. taken ++ x) (take_all c.taking.from c.args.piece.now (omega (arith, c.taking-test.false)))) here)
