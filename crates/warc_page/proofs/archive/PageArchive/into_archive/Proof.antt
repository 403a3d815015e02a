-- A handle that is open gives its reference, and any other nothing.
use Rattle.std.proofs.Common.{List, [], ◌∷◌, ◌++◌, refl, lit<, ◌≡◌, sym}
use mathlib.Core.Bool.{Bool, true, false}
use mir.Syntax.{Fn}
use mir.Val.{Val, vptr, vcons, vnil}
use base.Logic.{SProp, emp}
use base.Fml.{ftrue}
use prog.Wp.{Env, Wp, WpFn, after_seq}
use types.Kit.{‵, raw, ◌⊛◌, prop, at_ret, any_q, post, ◌$◌, ◌∵◌, !, qed, by, move, keep, drop, split, fsplit, fjoin, regoal, use0, use1}
use types.Run.{stop, fld, lit, addr, of_opd, no_more, and_then, first, blocks, branches, exec, returns, enter}
use types.ByLocal.{alloc_all, pass_all, free_all, look_at, get, get_in, through, sets, sets_last, env}
use types.Match.{live}
use types.Part.{agg, sub, whole}
use contract.Monad.{fact, fact_i}
use contract.Running.{tables}
use denote.RattleType.{RattleType, owns}
use denote.Signature.{types_at, type_at, plain}
use denote.RawPtr.{Ptr, block_ptr}
use denote.Steps.{nothing}
use denote.Triple.Entry.{alive}
use denote.Triple.Walked.{Stays, stay_dropped, walk_of, Goes-dropped}
use Rattle.std.proofs.alloc.Shapes.{after, head, inside}
use Rattle.std.proofs.option.Made.{Some-of, none_of}
use Rattle.std.proofs.raw_atomic.Walks.{proved_at, leaves}
use Rattle.std.proofs.ResultValues.{and_tt}
use Rattle.std.specs.declared.option.Option.TheVariants.{None, Some}
use Rattle.warc_page.specs.Handle.{reference_row}
use Rattle.warc_page.specs.contracts.archive.PageArchive as handle
use Rattle.warc_page.proofs.Values.{handle_val, handle_reported, by_open, ptr_fits}
use Rattle.warc_page.specs.contracts.archive.PageArchive.into_archive.{ended, clauses}
use Rattle.warc_page.specs.contracts.archive.PageArchive.into_archive.Key.{name as #self}
use Rattle.warc_page.proofs.archive.PageArchive.into_archive.Statement.{statement}
use Rattle.warc_page.proofs.archive.PageArchive.into_archive.Code as code

pub into_archive_spec : {M : Type 1} → statement M
into_archive_spec 𝓤 𝓛 𝓜 𝓡 wired =
    let H = 𝓛.H in
    let 𝓣 = tables 𝓤 H 𝓜 𝓡 𝓡.env in
    let E = ended in
    let c = clauses 𝓛 𝓜.mem 𝓡.returns in
    let fn : Fn = code.function in
    let P = plain (λ κs. handle.the_row) in
    let stays : Stays E.signature.params E.kept = (stay_dropped P E.kept.0, tt) in
    proved_at 𝓛 E stays c 𝓜 𝓡 (Goes-dropped 𝓛 0 P E.kept.0 (λ κs x f. refl), tt) #self fn (code.unfolded 𝓤 H 𝓜 𝓡 wired) (λ z are.
    let v = z.0.3.0 in
    let Post : Val → SProp 𝓤 = (walk_of 𝓛 E stays c).post z in
    let Run : List Val → SProp 𝓤 = λ ws. WpFn 𝓤 H 𝓣.C 𝓣.Λ fn ws Post in
    let Out : RattleType = type_at E.signature.result z.0.0 in
    let tokens = raw (alive 𝓛 E.signature z.0.0 z.0.1) in
    let reported = handle_reported v.at v.is_open z.0.4.0 are.0.0 in
    qed 𝓛 ((tokens ⊛ ‵ (owns (types_at E.signature.params z.0.0) z.0.3 z.0.4)) ∷ ‵ ftrue ∷ []) ∵
    move ! (1 ∷ []) $ drop ! $ split ! $ move ! (1 ∷ []) $ fsplit ! $ fsplit ! $ drop ! $
    regoal ! (λ (us : List Val). prop (Run us)) (λ i. reported i ++ []) refl $
    by_open ! v.at v.is_open
    (λ shut. let given : Val = handle_val v.at false in
    let made : Val = live 0 vnil in
    regoal ! (λ (t : Bool). prop (Run (handle_val v.at t ∷ []))) shut refl $
    enter ! 𝓣.C 𝓣.Λ fn (given ∷ []) Post $ alloc_all ! (λ l.
    pass_all ! refl ((and_tt _ ((ptr_fits v.at).0), ((ptr_fits v.at).1, (tt, tt))), tt) $
    let Ev : Env 𝓤 H = env fn.locals l in
    let then = any_q (after_seq 𝓤 H (Wp 𝓤 H 𝓣.C 𝓣.Λ Ev (after 3 fn.body) (post 𝓤 H (at_ret Ev Post))) (post 𝓤 H (at_ret Ev Post))) in
    sets ! (of_opd ! (get_in ! (fld ! refl (stop !)) (sub ! 0 refl (whole !)))) refl (ptr_fits v.at) $
    sets ! (of_opd ! (get_in ! (fld ! refl (stop !)) (sub ! 1 refl (whole !)))) refl (tt, tt) $
    first ! $ blocks ! $ sets ! (of_opd ! (get ! refl)) refl (tt, tt) $
    first ! $ branches ! (get ! refl) (λ wrong. absurd wrong) (λ _.
    sets_last ! (agg ! (and_then ! (lit ! tt) (no_more !))) refl (tt, (record { fits = lit< tt }, tt)) $
    exec ! 𝓣.C 𝓣.Λ Ev (after 2 (inside (head (after 2 fn.body)))) then $
    sets_last ! (of_opd ! (get ! refl)) refl (tt, (record { fits = lit< tt }, tt)) $
    exec ! 𝓣.C 𝓣.Λ Ev (after 3 fn.body) (at_ret Ev Post) $
    sets ! (of_opd ! (get ! refl)) refl (tt, (record { fits = lit< tt }, tt)) $
    returns ! (look_at ! 0 refl) $ free_all ! refl $
    use0 𝓛 (‵ (Out.own_val None (made ∷ []))) (none_of 𝓛 reference_row) $
    nothing ! $ nothing ! $ fjoin ! $
    let Said : Type 0 = ◌≡◌ {A = Bool} false v.is_open in
    use0 𝓛 (raw (fact 𝓤 Said)) (fact_i 𝓤 Said (emp 𝓤) (sym shut)) $
    keep ! (4 ∷ 1 ∷ 2 ∷ 0 ∷ []) $
    by ! (leaves 𝓛 E stays c z made None (_, tt) (tt, tt)))))
    (λ r at opened. let p : Ptr = block_ptr r.ref_ptr.0 r.ref_ptr.1 in
    let given : Val = handle_val p true in
    let led : Val = vptr r.ref_ptr.0 r.ref_ptr.1 in
    let made : Val = live 1 (vcons led vnil) in
    regoal ! (λ (t : Bool). prop (Run (handle_val v.at t ∷ []))) opened refl $
    regoal ! (λ (q : Ptr). prop (Run (handle_val q true ∷ []))) at refl $
    enter ! 𝓣.C 𝓣.Λ fn (given ∷ []) Post $ alloc_all ! (λ l.
    pass_all ! refl ((tt, (tt, (tt, tt))), tt) $
    let Ev : Env 𝓤 H = env fn.locals l in
    let then = any_q (after_seq 𝓤 H (Wp 𝓤 H 𝓣.C 𝓣.Λ Ev (after 3 fn.body) (post 𝓤 H (at_ret Ev Post))) (post 𝓤 H (at_ret Ev Post))) in
    sets ! (of_opd ! (get_in ! (fld ! refl (stop !)) (sub ! 0 refl (whole !)))) refl (tt, tt) $
    sets ! (of_opd ! (get_in ! (fld ! refl (stop !)) (sub ! 1 refl (whole !)))) refl (tt, tt) $
    first ! $ blocks ! $ sets ! (of_opd ! (get ! refl)) refl (tt, tt) $
    first ! $ branches ! (get ! refl) (λ _.
    sets ! (of_opd ! (get ! refl)) refl (tt, tt) $
    sets ! (addr ! (through ! refl (stop !))) refl (tt, tt) $
    sets_last ! (agg ! (and_then ! (lit ! tt) (and_then ! (get ! refl) (no_more !)))) refl (tt, (record { fits = lit< tt }, (tt, tt))) $
    exec ! 𝓣.C 𝓣.Λ Ev (after 2 (inside (head (after 2 fn.body)))) then $
    sets_last ! (of_opd ! (get ! refl)) refl (tt, (record { fits = lit< tt }, (tt, tt))) $
    exec ! 𝓣.C 𝓣.Λ Ev (after 3 fn.body) (at_ret Ev Post) $
    sets ! (of_opd ! (get ! refl)) refl (tt, (record { fits = lit< tt }, (tt, tt))) $
    returns ! (look_at ! 0 refl) $ free_all ! refl $
    use1 𝓛 (‵ (Out.own_val (Some r) (made ∷ []))) (Some-of 𝓛 reference_row r led) $
    nothing ! $ nothing ! $ fjoin ! $
    let Said : Type 0 = ◌≡◌ {A = Bool} true v.is_open in
    use0 𝓛 (raw (fact 𝓤 Said)) (fact_i 𝓤 Said (emp 𝓤) (sym opened)) $
    keep ! (4 ∷ 1 ∷ 2 ∷ 0 ∷ []) $
    by ! (leaves 𝓛 E stays c z made (Some r) (_, tt) (tt, tt))) (λ wrong. absurd wrong))))
