-- A handle that is open gives its box, and any other nothing.
use Rattle.std.proofs.Common.{List, [], ◌∷◌, ◌++◌, refl, lit<, ◌≡◌, sym}
use mathlib.Core.Bool.{Bool, true, false}
use mir.Syntax.{Fn, impl, tnil, dnil}
use mir.Val.{Val, vptr, vcons, vnil}
use base.Logic.{SProp, id⊢, emp}
use base.Fml.{ftrue}
use prog.Wp.{Env, WpFn}
use types.Kit.{‵, raw, ◌⊛◌, prop, at_ret, ◌$◌, ◌∵◌, !, qed, by, move, keep, drop, split, fsplit, fjoin, regoal, use0, use1}
use types.Run.{stop, fld, lit, of_opd, no_more, and_then, first, branches, exec, returns, enter}
use types.ByLocal.{alloc_all, pass_all, free_all, look_at, get, get_in, sets, sets_last, env}
use types.Match.{live}
use types.Part.{agg, sub, whole}
use contract.Monad.{fact, fact_i}
use contract.Running.{tables}
use denote.RattleType.{RattleType, owns}
use denote.Signature.{types_at, type_at, plain}
use denote.RawPtr.{Ptr, block_ptr}
use denote.Steps.{nothing}
use denote.Param.{layout}
use denote.Triple.Entry.{alive}
use denote.Triple.Walked.{Stays, stay_dropped, walk_of, Goes-dropped}
use Rattle.std.proofs.alloc.Calls.{handle_tells}
use Rattle.std.proofs.alloc.Shapes.{after}
use Rattle.std.proofs.cell.Inside.{Good}
use Rattle.std.proofs.option.Made.{Some-of, none_of}
use Rattle.std.proofs.raw_atomic.Walks.{proved_at, leaves}
use Rattle.std.proofs.ResultValues.{and_tt}
use Rattle.std.specs.Box.Ownership.{box_owns}
use Rattle.std.specs.declared.option.Option.TheVariants.{None, Some}
use Rattle.std.specs.contracts.alloc.Global as heap
use Rattle.std.proofs.alloc.Global.TheLaws as heap_laws
use Rattle.std.specs.contracts.impls.GlobalAllocator.TheImpl as of_heap
use Rattle.warc_handle.specs.Handle.{open_row}
use Rattle.warc_handle.specs.contracts.handle.WarcArchive as handle
use Rattle.warc_handle.proofs.Values.{pair_val, Detached, detached_fits, detached_in, handle_val, handle_reported, by_open, ptr_fits}
use Rattle.warc_handle.specs.contracts.handle.WarcArchive.into_detached.{ended, clauses}
use Rattle.warc_handle.specs.contracts.handle.WarcArchive.into_detached.Key.{name as #self}
use Rattle.warc_handle.proofs.handle.WarcArchive.into_detached.Statement.{statement}
use Rattle.warc_handle.proofs.handle.WarcArchive.into_detached.Code as code

pub into_detached_spec : {M : Type 1} → statement M
into_detached_spec 𝓤 𝓛 𝓜 𝓡 wired =
    let H = 𝓛.H in
    let 𝓣 = tables 𝓤 H 𝓜 𝓡 𝓡.env in
    let E = ended in
    let c = clauses 𝓛 𝓜.mem 𝓡.returns in
    let fn : Fn = code.function in
    let R : RattleType = open_row in
    let Z : RattleType = heap.the_row in
    let laws = heap_laws.the_row_laws in
    let g = of_heap.ghosts in
    let P = plain (λ κs. handle.the_row) in
    let Q = plain (λ κs. Z) in
    let stays : Stays E.signature.params E.kept = (stay_dropped P E.kept.0, (stay_dropped Q E.kept.1.0, tt)) in
    proved_at 𝓛 E stays c 𝓜 𝓡
    (Goes-dropped 𝓛 0 P E.kept.0 (λ κs x f. refl), (Goes-dropped 𝓛 0 Q E.kept.1.0 (λ κs x f. refl), tt))
    #self fn (code.unfolded 𝓤 H 𝓜 𝓡 wired) (λ z are.
    let v = z.0.3.0 in
    let a = z.0.3.1.0 in
    let Post : Val → SProp 𝓤 = (walk_of 𝓛 E stays c).post z in
    let Run : List Val → SProp 𝓤 = λ ws. WpFn 𝓤 H 𝓣.C 𝓣.Λ fn ws Post in
    let Out : RattleType = type_at E.signature.result z.0.0 in
    let tokens = raw (alive 𝓛 E.signature z.0.0 z.0.1) in
    let reported = handle_reported v.at v.is_open z.0.4.0 are.0.0 in
    qed 𝓛 ((tokens ⊛ ‵ (owns (types_at E.signature.params z.0.0) z.0.3 z.0.4)) ∷ ‵ ftrue ∷ []) ∵
    move ! (1 ∷ []) $ drop ! $ split ! $ move ! (1 ∷ []) $ fsplit ! $ fsplit ! $ drop ! $ move ! (1 ∷ []) $ fsplit ! $
    handle_tells (record { row = Z; laws = laws; g = g; d = impl [] tnil dnil; drops = impl [] tnil dnil }) ! a z.0.4.1.0
    (λ h words fits.
    move ! (2 ∷ 0 ∷ []) $ regoal ! (λ (us : List Val). prop (Run us)) (λ i. reported i ++ (words i ++ [])) refl $
    by_open ! v.at v.is_open
    (λ shut. let given : Val = handle_val v.at false in
    let made : Val = live 0 vnil in
    regoal ! (λ (t : Bool). prop (Run (handle_val v.at t ∷ h ∷ []))) shut refl $
    enter ! 𝓣.C 𝓣.Λ fn (given ∷ h ∷ []) Post $ alloc_all ! (λ l.
    pass_all ! refl ((and_tt _ ((ptr_fits v.at).0), ((ptr_fits v.at).1, (tt, tt))), (fits, tt)) $
    let Ev : Env 𝓤 H = env fn.locals l in
    sets ! (of_opd ! (get_in ! (fld ! refl (stop !)) (sub ! 0 refl (whole !)))) refl (ptr_fits v.at) $
    sets ! (of_opd ! (get_in ! (fld ! refl (stop !)) (sub ! 1 refl (whole !)))) refl (tt, tt) $
    sets ! (of_opd ! (get ! refl)) refl (tt, tt) $
    first ! $ branches ! (get ! refl) (λ wrong. absurd wrong) (λ _.
    sets_last ! (agg ! (and_then ! (lit ! tt) (no_more !))) refl (tt, (record { fits = lit< tt }, tt)) $
    exec ! 𝓣.C 𝓣.Λ Ev (after 4 fn.body) (at_ret Ev Post) $
    sets ! (of_opd ! (get ! refl)) refl (tt, (record { fits = lit< tt }, tt)) $
    returns ! (look_at ! 0 refl) $ free_all ! refl $
    use0 𝓛 (‵ (Out.own_val None (made ∷ []))) (none_of 𝓛 (Detached R Z laws g)) $
    nothing ! $ nothing ! $ fjoin ! $ nothing ! $ fjoin ! $
    let Said : Type 0 = ◌≡◌ {A = Bool} false v.is_open in
    use0 𝓛 (raw (fact 𝓤 Said)) (fact_i 𝓤 Said (emp 𝓤) (sym shut)) $
    keep ! (5 ∷ 1 ∷ 2 ∷ 0 ∷ []) $
    by ! (leaves 𝓛 E stays c z made None (_, (_, tt)) (tt, (tt, tt))))))
    (λ b o s at opened. let given : Val = handle_val (block_ptr b o) true in
    let parts : Val = pair_val (vptr b o) h in
    let made : Val = live 1 (vcons parts vnil) in
    let fine = detached_fits R Z laws g b o h fits in
    let good : Good (layout Out) made = (and_tt _ fine.0, (record { fits = lit< tt }, (fine.1, tt))) in
    let d : (Detached R Z laws g).Denot = record { at = block_ptr b o; alloc = a } in
    regoal ! (λ (t : Bool). prop (Run (handle_val v.at t ∷ h ∷ []))) opened refl $
    regoal ! (λ (p : Ptr). prop (Run (handle_val p true ∷ h ∷ []))) at refl $
    enter ! 𝓣.C 𝓣.Λ fn (given ∷ h ∷ []) Post $ alloc_all ! (λ l.
    pass_all ! refl ((tt, (tt, (tt, tt))), (fits, tt)) $
    let Ev : Env 𝓤 H = env fn.locals l in
    sets ! (of_opd ! (get_in ! (fld ! refl (stop !)) (sub ! 0 refl (whole !)))) refl (tt, tt) $
    sets ! (of_opd ! (get_in ! (fld ! refl (stop !)) (sub ! 1 refl (whole !)))) refl (tt, tt) $
    sets ! (of_opd ! (get ! refl)) refl (tt, tt) $
    first ! $ branches ! (get ! refl) (λ _.
    sets ! (of_opd ! (get ! refl)) refl (tt, tt) $
    sets ! (agg ! (and_then ! (get ! refl) (and_then ! (get ! refl) (no_more !)))) refl fine $
    sets_last ! (agg ! (and_then ! (lit ! tt) (and_then ! (get ! refl) (no_more !)))) refl good $
    exec ! 𝓣.C 𝓣.Λ Ev (after 4 fn.body) (at_ret Ev Post) $
    sets ! (of_opd ! (get ! refl)) refl good $
    returns ! (look_at ! 0 refl) $ free_all ! refl $
    use1 𝓛 (‵ (box_owns (g.dealloc_token a) R (block_ptr b o) s.0)) (id⊢ 𝓤 _) $
    detached_in R Z laws g ! b o h a s.0 $
    use1 𝓛 (‵ (Out.own_val (Some d) (made ∷ []))) (Some-of 𝓛 (Detached R Z laws g) d parts) $
    nothing ! $ nothing ! $ fjoin ! $ nothing ! $ fjoin ! $
    let Said : Type 0 = ◌≡◌ {A = Bool} true v.is_open in
    use0 𝓛 (raw (fact 𝓤 Said)) (fact_i 𝓤 Said (emp 𝓤) (sym opened)) $
    keep ! (4 ∷ 1 ∷ 2 ∷ 0 ∷ []) $
    by ! (leaves 𝓛 E stays c z made (Some d) (_, (_, tt)) (tt, (tt, tt)))) (λ wrong. absurd wrong)))))
