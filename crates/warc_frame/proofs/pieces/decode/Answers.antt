use Rattle.std.proofs.Common.{ℕ, ◌+◌, List, [], take, drop, sym, ap, subst, arith, ◌∙◌}
use Rattle.std.specs.List.{flat_map}
use Rattle.std.proofs.lemmas.Result.{err_from_is_err_and}
use Rattle.warc_frame.specs.Record.{Record}
use Rattle.warc_frame.specs.Spelling.{SpellsAll}
use Rattle.warc_frame.specs.declared.fault.Fault.{Fault}
use Rattle.warc_frame.specs.Faults.{IsFrameFault}
use Rattle.warc_frame.specs.Pieces.{Keeping, Keeps, IsPiecesFault, IsMemoryFault}
use Rattle.warc_frame.proofs.StreamPieces.{joined_more, joined_split, joined_all, stays, memory_more, cut_off}
use Rattle.warc_frame.proofs.LawLemmas.{spelling_is_unambiguous-list}
use Rattle.warc_frame.proofs.pieces.decode.Goals as goal

pub loop-piece-preserved : goal.loop-piece-preserved
loop-piece-preserved g c =
    let done : List ℕ = flat_map (λ p. p.now) (take c.loop-piece.piece-index c.args.pieces.now) in
    let after = c.in_ok-feed.ensures.kept c.args.at done c.loop-piece.invariant in
    let P : List ℕ → Type 0 = λ x. Keeps c.args.at x c.feed.new.kept c.feed.new.decoder in
    subst P (sym (joined_more (λ p. p.now) c.args.pieces.now c.loop-piece.piece-index (record { ref_ptr = (0, 0); now = [] }) c.loop-piece-test.true)) after

pub returns-in_err-feed-clause-fault : goal.returns-in_err-feed-clause-fault
returns-in_err-feed-clause-fault g c =
    let p = err_from_is_err_and c.from_residual.result c.from_residual.ensures.1 in
    let done : List ℕ = flat_map (λ p. p.now) (take c.loop-piece.piece-index c.args.pieces.now) in
    let stops = c.in_err-feed.ensures.kept c.args.at done c.loop-piece.invariant in
    let fault = c.in_err-feed.field-0.0 in
    let P : List ℕ → Type 0 = λ x. IsPiecesFault c.args.at x fault in
    rw (p.1, p.2)
    (subst P (joined_split (λ p. p.now) c.args.pieces.now c.loop-piece.piece-index (record { ref_ptr = (0, 0); now = [] }) c.loop-piece-test.true)
    (stays c.args.at _ (flat_map (λ p. p.now) (drop (c.loop-piece.piece-index + 1) c.args.pieces.now)) fault stops))

pub returns-in_err-feed-clause-memory : goal.returns-in_err-feed-clause-memory
returns-in_err-feed-clause-memory g c =
    let p = err_from_is_err_and c.from_residual.result c.from_residual.ensures.1 in
    let done : List ℕ = flat_map (λ p. p.now) (take c.loop-piece.piece-index c.args.pieces.now) in
    let stops = c.in_err-feed.ensures.memory c.args.at done c.loop-piece.invariant in
    let fault = c.in_err-feed.field-0.0 in
    let P : List ℕ → Type 0 = λ x. IsMemoryFault c.args.at x fault in
    rw (p.1, p.2)
    (subst P (joined_split (λ p. p.now) c.args.pieces.now c.loop-piece.piece-index (record { ref_ptr = (0, 0); now = [] }) c.loop-piece-test.true)
    (memory_more c.args.at _ (flat_map (λ p. p.now) (drop (c.loop-piece.piece-index + 1) c.args.pieces.now)) fault stops))

pub returns-in_err-finish-clause-fault : goal.returns-in_err-finish-clause-fault
returns-in_err-finish-clause-fault g c =
    let p = err_from_is_err_and c.from_residual-in_err-finish.result c.from_residual-in_err-finish.ensures.1 in
    let done : List ℕ = flat_map (λ p. p.now) (take c.loop-piece.piece-index c.args.pieces.now) in
    let f = c.in_err-finish.ensures.history c.args.at done c.loop-piece.kept.reported c.loop-piece.invariant.is_at in
    let P : List ℕ → Type 0 = λ x. IsFrameFault c.args.at x c.in_err-finish.field-0.0 in
    rw (p.1, p.2) (λ other. subst P (joined_all (λ p. p.now) c.args.pieces.now c.loop-piece.piece-index (omega (arith, c.loop-piece-test.false))) f.1)

pub returns-in_err-finish-clause-memory : goal.returns-in_err-finish-clause-memory
returns-in_err-finish-clause-memory g c =
    let p = err_from_is_err_and c.from_residual-in_err-finish.result c.from_residual-in_err-finish.ensures.1 in
    let done : List ℕ = flat_map (λ p. p.now) (take c.loop-piece.piece-index c.args.pieces.now) in
    let f = c.in_err-finish.ensures.history c.args.at done c.loop-piece.kept.reported c.loop-piece.invariant.is_at in
    rw (p.1, p.2) (λ is. absurd (cut_off (sym (ap (λ (x : Fault). x.kind) f.0) ∙ is)))

pub returns-clause-spelled : goal.returns-clause-spelled
returns-clause-spelled g c =
    let done : List ℕ = flat_map (λ p. p.now) (take c.loop-piece.piece-index c.args.pieces.now) in
    let f = c.in_ok-finish.ensures.history c.args.at done c.loop-piece.kept.reported c.loop-piece.invariant.is_at in
    let same = ap (λ (x : Keeping). x.reported.records) c.kept-2.view_is in
    let P : List ℕ → Type 0 = λ x. SpellsAll c.kept-2.inside.records.items x in
    let Q : List Record → Type 0 = λ x. SpellsAll x done in
    subst P (joined_all (λ p. p.now) c.args.pieces.now c.loop-piece.piece-index (omega (arith, c.loop-piece-test.false))) (subst Q (sym same) f.1)

pub returns-clause-only : goal.returns-clause-only
returns-clause-only g c =
    let done : List ℕ = flat_map (λ p. p.now) (take c.loop-piece.piece-index c.args.pieces.now) in
    let f = c.in_ok-finish.ensures.history c.args.at done c.loop-piece.kept.reported c.loop-piece.invariant.is_at in
    let same = ap (λ (x : Keeping). x.reported.records) c.kept-2.view_is in
    let P : List ℕ → Type 0 = λ x. SpellsAll c.kept-2.inside.records.items x in
    let Q : List Record → Type 0 = λ x. SpellsAll x done in
    let spelled = subst P (joined_all (λ p. p.now) c.args.pieces.now c.loop-piece.piece-index (omega (arith, c.loop-piece-test.false))) (subst Q (sym same) f.1) in
    λ others s. spelling_is_unambiguous-list c.kept-2.inside.records.items others _ spelled s
