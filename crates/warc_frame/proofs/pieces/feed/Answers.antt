use Rattle.std.proofs.Common.{◌≡◌, ℕ, ◌+◌, ◌-◌, ◌++◌, List, length, take, drop, sym, ap, ◌∙◌, subst, arith}
use Rattle.std.proofs.lemmas.List.{append_assoc, length-drop, take_rest}
use Rattle.std.proofs.lemmas.Result.{err_from_is_err_and}
use Rattle.warc_frame.specs.Reported.{report}
use Rattle.warc_frame.specs.declared.fault.Fault.{Fault}
use Rattle.warc_frame.specs.Pieces.{start_on, AreRecordsBefore, Keeping, Keeps, IsPieceFault, IsMemoryFault}
use Rattle.warc_frame.proofs.StreamPieces.{may_keep, takes_some, take_further, whole_piece, refused, refused_memory, is_present_more, keeps_on, on_ok, on_err}
use Rattle.warc_frame.proofs.pieces.feed.Goals as goal

pub returns-in_err-took-clause-kept : goal.returns-in_err-took-clause-kept
returns-in_err-took-clause-kept g c =
    let p = err_from_is_err_and c.from_residual.result c.from_residual.ensures.1 in
    let piece : List ℕ = c.args.piece.now in
    let from : ℕ = c.loop-from.from in
    let rest : List ℕ = take (length piece - from) (drop from piece) in
    rw (p.1, p.2) (λ at taken holds.
    let done : List ℕ = taken ++ take from piece in
    let stops = refused at (done ++ rest) c.loop-from.kept.reported c.in_err-took.field-0.0 (c.in_err-took.ensures.history at done c.loop-from.kept.reported (c.loop-from.invariant.holds at taken holds).is_at) in
    let P : List ℕ → Type 0 = λ x. IsPieceFault at x c.in_err-took.field-0.0 in
    subst P (whole_piece taken piece from) stops)

pub returns-in_err-took-clause-memory : goal.returns-in_err-took-clause-memory
returns-in_err-took-clause-memory g c =
    let p = err_from_is_err_and c.from_residual.result c.from_residual.ensures.1 in
    let piece : List ℕ = c.args.piece.now in
    let from : ℕ = c.loop-from.from in
    let rest : List ℕ = take (length piece - from) (drop from piece) in
    rw (p.1, p.2) (λ at taken holds.
    let done : List ℕ = taken ++ take from piece in
    let stops = refused_memory at (done ++ rest) c.loop-from.kept.reported c.in_err-took.field-0.0 (c.in_err-took.ensures.history at done c.loop-from.kept.reported (c.loop-from.invariant.holds at taken holds).is_at) in
    let P : List ℕ → Type 0 = λ x. IsMemoryFault at x c.in_err-took.field-0.0 in
    subst P (whole_piece taken piece from) stops)

pub returns-then-is_err-clause-kept : goal.returns-then-is_err-clause-kept
returns-then-is_err-clause-kept g c = λ at taken holds other. absurd (other (ap (λ (f : Fault). f.kind) c.at.ensures))

pub returns-then-is_err-clause-memory : goal.returns-then-is_err-clause-memory
returns-then-is_err-clause-memory g c = λ at taken holds is.
    let piece : List ℕ = c.args.piece.now in
    let from : ℕ = c.loop-from.from in
    let before = c.loop-from.invariant.holds at taken holds in
    let there = is_present_more at (taken ++ take from piece) (take (length piece - from) (drop from piece)) c.loop-from.kept.reported.records c.loop-from.kept.start before.start in
    let still : c.keep.new.self.start ≡ c.loop-from.kept.start = on_err c.keep.result _ (sym c.is_err.ensures.value ∙ c.if-is_err.true) c.keep.ensures.still in
    let same : c.kept.inside.start ≡ c.loop-from.kept.start = ap (λ (x : Keeping). x.start) c.kept.view_is ∙ still in
    let P : List ℕ → Type 0 = λ x. AreRecordsBefore at x c.loop-from.kept.reported.records c.loop-from.kept.start in
    let Q : ℕ → Type 0 = λ x. AreRecordsBefore at (taken ++ piece) c.loop-from.kept.reported.records x in
    let R : Fault → Type 0 = λ f. AreRecordsBefore at (taken ++ piece) c.loop-from.kept.reported.records f.offset in
    (c.loop-from.kept.reported.records, subst R (sym c.at.ensures) (subst Q (sym same) (subst P (whole_piece taken piece from) there)))

pub keep-requires : goal.keep-requires
keep-requires g c =
    let piece : List ℕ = c.args.piece.now in
    let from : ℕ = c.loop-from.from in
    let rest : List ℕ = take (length piece - from) (drop from piece) in
    let at : ℕ = c.requires.0 in
    let done : List ℕ = c.requires.1 ++ take from piece in
    let takes = c.in_ok-took.ensures.history at done c.loop-from.kept.reported (c.loop-from.invariant.holds at c.requires.1 c.requires.2).is_at in
    may_keep at done rest c.loop-from.kept.reported c.step.new.self (length rest) c.in_ok-took.took c.in_ok-took.event c.in_ok-took.ensures.within takes

pub loop-from-preserved : goal.loop-from-preserved
loop-from-preserved g c =
    let piece : List ℕ = c.args.piece.now in
    let from : ℕ = c.loop-from.from in
    let rest : List ℕ = take (length piece - from) (drop from piece) in
    let size : length rest ≡ length piece - from = ap length (take_rest piece from) ∙ length-drop from piece in
    let some = takes_some (length rest) c.in_ok-took.took c.in_ok-took.event c.in_ok-took.ensures.within (omega (arith, size, c.loop-from-test.true)) in
    let went = sym c.is_err.ensures.value ∙ c.if-is_err.false in
    let reported = on_ok c.keep.result (c.keep.new.self.reported ≡ report c.loop-from.kept.reported rest c.in_ok-took.event) went c.keep.ensures.reported in
    let start = on_ok c.keep.result (c.keep.new.self.start ≡ start_on c.loop-from.kept.start c.position.result c.in_ok-took.event) went c.keep.ensures.start in
    record {
      within = omega (arith, some.1, size, c.loop-from-test.true);
      holds = λ at taken holds.
          let done : List ℕ = taken ++ take from piece in
          let before = c.loop-from.invariant.holds at taken holds in
          let takes = c.in_ok-took.ensures.history at done c.loop-from.kept.reported before.is_at in
          let Q : List ℕ → Type 0 = λ x. Keeps at x c.keep.new.self c.step.new.self in
          let whole : done ++ take c.in_ok-took.took rest ≡ taken ++ take (from + c.in_ok-took.took) piece =
          append_assoc taken (take from piece) (take c.in_ok-took.took rest) ∙ ap (λ x. taken ++ (take from piece ++ take c.in_ok-took.took x)) (take_rest piece from)
          ∙ ap (λ x. taken ++ x) (sym (take_further from c.in_ok-took.took piece c.loop-from.invariant.within)) in
          subst Q whole (keeps_on at done rest c.loop-from.kept c.keep.new.self c.step.new.self c.in_ok-took.took c.in_ok-took.event takes before.start reported (start ∙ ap (λ k. start_on c.loop-from.kept.start k c.in_ok-took.event) c.position.ensures.value));
    }
