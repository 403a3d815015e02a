-- The handle keeps the pointer of the reference, and owns what the reference owned.
use Rattle.std.proofs.Common.{List, [], ◌∷◌, ◌++◌, refl, sym, subst, ◌≡◌}
use mathlib.Core.Bool.{true, Bool}
use mir.Syntax.{Fn}
use mir.Val.{Val, vptr}
use base.Logic.{SProp, ent, id⊢, emp}
use base.Fml.{ftrue}
use prog.Wp.{WpFn}
use types.Kit.{‵, raw, ◌⊛◌, ◌$◌, ◌∵◌, !, qed, by, move, keep, drop, split, fsplit, fjoin, fpack, feq_i, feq_l, suffices, use0}
use types.Run.{stop, addr, true_lit, of_opd, no_more, and_then, returns, enter}
use types.ByLocal.{alloc_all, pass_all, free_all, look_at, get, through, sets}
use types.Part.{agg}
use contract.Monad.{fact, fact_i}
use contract.Running.{tables}
use denote.RattleType.{owns}
use denote.Ref.{mut_vals}
use denote.Signature.{types_at, plain}
use denote.RawPtr.{Ptr, block_ptr}
use denote.Steps.{nothing}
use denote.Triple.Entry.{alive}
use denote.Triple.Walked.{Stays, stay_dropped, walk_of, Goes-dropped}
use Rattle.std.proofs.raw_atomic.Walks.{proved_at, leaves}
use Rattle.warc_page.specs.Handle.{reference_row, leads_to}
use Rattle.warc_page.proofs.Values.{handle_val, handle_fields, handle_made}
use Rattle.warc_page.specs.contracts.archive.PageArchive.holding.{ended, clauses}
use Rattle.warc_page.specs.contracts.archive.PageArchive.holding.Key.{name as #self}
use Rattle.warc_page.proofs.archive.PageArchive.holding.Statement.{statement}
use Rattle.warc_page.proofs.archive.PageArchive.holding.Code as code

pub holding_spec : {M : Type 1} → statement M
holding_spec 𝓤 𝓛 𝓜 𝓡 wired =
    let H = 𝓛.H in
    let 𝓣 = tables 𝓤 H 𝓜 𝓡 𝓡.env in
    let E = ended in
    let c = clauses 𝓛 𝓜.mem 𝓡.returns in
    let fn : Fn = code.function in
    let P = plain (λ κs. reference_row) in
    let stays : Stays E.signature.params E.kept = (stay_dropped P E.kept.0, tt) in
    proved_at 𝓛 E stays c 𝓜 𝓡 (Goes-dropped 𝓛 0 P E.kept.0 (λ κs x f. refl), tt) #self fn (code.unfolded 𝓤 H 𝓜 𝓡 wired) (λ z are.
    let r = z.0.3.0 in
    let Post : Val → SProp 𝓤 = (walk_of 𝓛 E stays c).post z in
    let Run : List Val → SProp 𝓤 = λ ws. WpFn 𝓤 H 𝓣.C 𝓣.Λ fn ws Post in
    let tokens = raw (alive 𝓛 E.signature z.0.0 z.0.1) in
    let p : Ptr = block_ptr r.ref_ptr.0 r.ref_ptr.1 in
    let given : Val = vptr r.ref_ptr.0 r.ref_ptr.1 in
    let made : Val = handle_val p true in
    qed 𝓛 ((tokens ⊛ ‵ (owns (types_at E.signature.params z.0.0) z.0.3 z.0.4)) ∷ ‵ ftrue ∷ []) ∵
    move ! (1 ∷ []) $ drop ! $ split ! $ move ! (1 ∷ []) $ fsplit ! $ fsplit ! $ feq_l ! (λ words.
    suffices ! (Run (given ∷ []))
    (subst (λ (us : List Val). ent 𝓤 (Run (given ∷ [])) (Run us)) (sym (λ i. words i ++ [])) (id⊢ 𝓤 (Run (given ∷ [])))) $
    enter ! 𝓣.C 𝓣.Λ fn (given ∷ []) Post $ alloc_all ! (λ l. pass_all ! refl ((tt, tt), tt) $
    sets ! (addr ! (through ! refl (stop !))) refl (tt, tt) $
    sets ! (of_opd ! (get ! refl)) refl (tt, tt) $
    sets ! (agg ! (and_then ! (get ! refl) (and_then ! (true_lit !) (no_more !)))) refl (tt, (tt, (tt, tt))) $
    returns ! (look_at ! 0 refl) $ free_all ! refl $
    feq_i ! (List Val) (mut_vals r) (mut_vals r) refl $ fjoin ! $
    feq_i ! Ptr p p refl $ fjoin ! $
    fpack ! (reference_row).Denot (leads_to p) r $
    use0 𝓛 (‵ (handle_fields p true (made ∷ []))) (handle_made 𝓛 p true) $ fjoin ! $
    nothing ! $ nothing ! $ fjoin ! $
    let Said : Type 0 = ◌≡◌ {A = Bool} true true in
    use0 𝓛 (raw (fact 𝓤 Said)) (fact_i 𝓤 Said (emp 𝓤) refl) $
    keep ! (4 ∷ 1 ∷ 2 ∷ 0 ∷ []) $
    by ! (leaves 𝓛 E stays c z made (record { at = p; is_open = true }) (_, tt) (tt, tt)))))
