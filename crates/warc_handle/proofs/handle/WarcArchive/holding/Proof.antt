-- The handle keeps the pointer, and owns what the box owned.
use Rattle.std.proofs.Common.{List, [], ◌∷◌, ◌++◌, refl, sym, subst, ◌≡◌}
use mathlib.Core.Bool.{true, Bool}
use mir.Syntax.{Fn}
use mir.Val.{Val, vptr}
use base.Logic.{SProp, ent, id⊢, emp}
use base.Fml.{ftrue}
use prog.Wp.{WpFn}
use types.Kit.{‵, raw, ◌⊛◌, ◌$◌, ◌∵◌, !, qed, by, move, keep, drop, split, fsplit, fjoin, fpack, suffices, use0}
use types.Run.{stop, fld, true_lit, of_opd, no_more, and_then, returns, enter}
use types.ByLocal.{alloc_all, pass_all, free_all, look_at, get, get_in, sets}
use types.Part.{agg, sub, whole}
use contract.Monad.{fact, fact_i}
use contract.Running.{tables}
use denote.RattleType.{RattleType, owns}
use denote.Signature.{types_at, plain}
use denote.RawPtr.{block_ptr}
use denote.Steps.{nothing}
use denote.Triple.Entry.{alive}
use denote.Triple.Walked.{Stays, stay_dropped, walk_of}
use Rattle.std.proofs.alloc.Calls.{Goes-blank}
use Rattle.std.proofs.raw_atomic.Walks.{proved_at, leaves}
use Rattle.std.specs.Box.Ownership.{box_owns}
use Rattle.std.specs.contracts.alloc.Global as heap
use Rattle.std.proofs.alloc.Global.TheLaws as heap_laws
use Rattle.std.specs.contracts.impls.GlobalAllocator.TheImpl as of_heap
use Rattle.warc_handle.specs.Handle.{open_row}
use Rattle.warc_handle.proofs.Values.{pair_val, Detached, detached_fits, detached_out, handle_val, handle_fields, handle_made}
use Rattle.warc_handle.specs.contracts.handle.WarcArchive.holding.{ended, clauses}
use Rattle.warc_handle.specs.contracts.handle.WarcArchive.holding.Key.{name as #self}
use Rattle.warc_handle.proofs.handle.WarcArchive.holding.Statement.{statement}
use Rattle.warc_handle.proofs.handle.WarcArchive.holding.Code as code

pub holding_spec : {M : Type 1} → statement M
holding_spec 𝓤 𝓛 𝓜 𝓡 wired =
    let H = 𝓛.H in
    let 𝓣 = tables 𝓤 H 𝓜 𝓡 𝓡.env in
    let E = ended in
    let c = clauses 𝓛 𝓜.mem 𝓡.returns in
    let fn : Fn = code.function in
    let R : RattleType = open_row in
    let Z : RattleType = heap.the_row in
    let laws = heap_laws.the_row_laws in
    let g = of_heap.ghosts in
    let P = plain (λ κs. Detached R Z laws g) in
    let stays : Stays E.signature.params E.kept = (stay_dropped P E.kept.0, tt) in
    proved_at 𝓛 E stays c 𝓜 𝓡 (Goes-blank 𝓛 0 P E.kept.0 (λ κs x f. tt), tt) #self fn (code.unfolded 𝓤 H 𝓜 𝓡 wired) (λ z are.
    let d = z.0.3.0 in
    let Post : Val → SProp 𝓤 = (walk_of 𝓛 E stays c).post z in
    let Run : List Val → SProp 𝓤 = λ ws. WpFn 𝓤 H 𝓣.C 𝓣.Λ fn ws Post in
    let tokens = raw (alive 𝓛 E.signature z.0.0 z.0.1) in
    qed 𝓛 ((tokens ⊛ ‵ (owns (types_at E.signature.params z.0.0) z.0.3 z.0.4)) ∷ ‵ ftrue ∷ []) ∵
    move ! (1 ∷ []) $ drop ! $ split ! $ move ! (1 ∷ []) $ fsplit ! $
    detached_out R Z laws g ! d z.0.4.0 (λ b o h x at words fits.
    let given : Val = pair_val (vptr b o) h in
    let made : Val = handle_val (block_ptr b o) true in
    suffices ! (Run (given ∷ []))
    (subst (λ (us : List Val). ent 𝓤 (Run (given ∷ [])) (Run us)) (sym (λ i. words i ++ [])) (id⊢ 𝓤 (Run (given ∷ [])))) $
    enter ! 𝓣.C 𝓣.Λ fn (given ∷ []) Post $ alloc_all ! (λ l. pass_all ! refl (detached_fits R Z laws g b o h fits, tt) $
    sets ! (of_opd ! (get_in ! (fld ! refl (stop !)) (sub ! 0 refl (whole !)))) refl (tt, tt) $
    sets ! (of_opd ! (get ! refl)) refl (tt, tt) $
    sets ! (agg ! (and_then ! (get ! refl) (and_then ! (true_lit !) (no_more !)))) refl (tt, (tt, (tt, tt))) $
    returns ! (look_at ! 0 refl) $ free_all ! refl $
    fpack ! (R.Denot × Z.Denot) (λ s. box_owns (g.dealloc_token s.1) R (block_ptr b o) s.0) (x, d.alloc) $
    use0 𝓛 (‵ (handle_fields (block_ptr b o) true (made ∷ []))) (handle_made 𝓛 (block_ptr b o) true) $ fjoin ! $
    nothing ! $ nothing ! $ fjoin ! $
    let Said : Type 0 = ◌≡◌ {A = Bool} true true in
    use0 𝓛 (raw (fact 𝓤 Said)) (fact_i 𝓤 Said (emp 𝓤) refl) $
    keep ! (5 ∷ 1 ∷ 2 ∷ 0 ∷ []) $
    by ! (leaves 𝓛 E stays c z made (record { at = block_ptr b o; is_open = true }) (_, tt) (tt, tt)))))
