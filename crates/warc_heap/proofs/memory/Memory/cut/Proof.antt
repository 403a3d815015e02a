-- `cut` gives the first units to one pointer, and the others to one after them. Assumes `Logic`.
use Rattle.std.proofs.Common.{◌≡◌, ◌+◌, ◌-◌, ◌*◌, ◌≤◌, List, [], ◌∷◌, ◌++◌, refl, ap, ◌∙◌, arith, w64}
use mir.Syntax.{Fn}
use mir.Val.{Val, vint, vptr}
use base.Logic.{SProp, emp, never, id⊢}
use prog.Wp.{Env, WpFn}
use contract.Monad.{fact, fact_i}
use contract.Running.{tables}
use types.Kit.{‵, raw, ◌⊛◌, prop, at_ret, ◌$◌, ◌∵◌, !, qed, by, move, drop, use0, use1, use2, split, regoal, fsplit, fjoin}
use types.Part.{whole, sub, agg}
use types.Run.{stop, fld, bin, of_opd, no_more, and_then, first, blocks, exec, returns, enter}
use types.ByLocal.{alloc_all, pass_all, free_all, look_at, get, get_in, sets, sets_last, is, env}
use denote.RattleType.{owns}
use denote.RawPtr.{Ptr, block_ptr, in_a_block}
use denote.Signature.{types_at}
use denote.Steps.{nothing, heard}
use denote.Struct.Tuple.{Tuple}
use denote.Triple.Entry.{alive}
use denote.Triple.Walked.{Stays, stay_dropped, walk_of, Goes-dropped}
use Rattle.core.proofs.alloc.Calls.{Goes-blank}
use Rattle.core.proofs.alloc.Shapes.{after}
use Rattle.std.proofs.raw_atomic.Walks.{proved_at, leaves}
use Rattle.std_alloc.proofs.Pairs.{pair_of, pair_val}
use Rattle.warc_heap.specs.Units.{room_of}
use Rattle.warc_heap.specs.contracts.memory.Memory as memory
use Rattle.warc_heap.proofs.Rooms.{cuts}
use Rattle.warc_heap.proofs.Values.{param_at, memory_val, memory_own, memory_reported, memory_made}
use Rattle.warc_heap.specs.contracts.memory.Memory.cut.{ended, clauses}
use Rattle.warc_heap.specs.contracts.memory.Memory.cut.Key.{name as #self}
use Rattle.warc_heap.proofs.memory.Memory.cut.Statement.{statement}
use Rattle.warc_heap.proofs.memory.Memory.cut.Code as code

pub cut_spec : {M : Type 1} → statement M
cut_spec 𝓤 𝓛 𝓜 𝓡 wired =
    let H = 𝓛.H in
    let T = ended in
    let c = clauses 𝓛 𝓜.mem 𝓡.returns in
    let fn : Fn = code.function in
    let stays : Stays T.signature.params T.kept = (stay_dropped (param_at 0 T.signature.params) T.kept.0, (stay_dropped (param_at 1 T.signature.params) T.kept.1.0, (stay_dropped (param_at 2 T.signature.params) T.kept.1.1.0, tt))) in
    let C = (tables 𝓤 H 𝓜 𝓡 𝓡.env).C in
    let Λ = (tables 𝓤 H 𝓜 𝓡 𝓡.env).Λ in
    proved_at 𝓛 T stays c 𝓜 𝓡 (Goes-blank 𝓛 0 (param_at 0 T.signature.params) T.kept.0 (λ κs x f. tt), (Goes-dropped 𝓛 0 (param_at 1 T.signature.params) T.kept.1.0 (λ κs x f. refl), (Goes-dropped 𝓛 0 (param_at 2 T.signature.params) T.kept.1.1.0 (λ κs x f. refl), tt))) #self fn (code.unfolded 𝓤 H 𝓜 𝓡 wired) (λ z are.
    let Post : Val → SProp 𝓤 = (walk_of 𝓛 T stays c).post z in
    let a = z.0.3 in
    let x = a.0 in
    let n = a.1.0 in
    let bytes = a.1.1.0 in
    let reported = memory_reported x.at z.0.4.0 are.0.0 in
    let Asked : Type 0 = (n ≤ x.units) × (bytes ≡ n * 16) in
    qed 𝓛 ((raw (alive 𝓛 T.signature z.0.0 z.0.1) ⊛ ‵ (owns (types_at T.signature.params z.0.0) a z.0.4)) ∷ raw (fact 𝓤 Asked) ∷ []) ∵ move ! (1 ∷ []) $ heard ! Asked (λ asked. split ! $ move ! (1 ∷ []) $
    fsplit ! $ fsplit ! $ drop ! $ move ! (1 ∷ []) $ drop ! $
    in_a_block ! x.at (λ p. room_of x.units p) (id⊢ 𝓤 (never 𝓤)) (λ b o at.
    let front : Ptr = block_ptr b o in let rest : Ptr = block_ptr b (o + n * 16) in
    use1 𝓛 (‵ (room_of n front) ⊛ ‵ (room_of (x.units - n) rest)) (cuts 𝓛 b o n x.units asked.0) $ split ! $
    regoal ! (λ (us : List Val). prop (WpFn 𝓤 H C Λ fn us Post)) (λ i. (reported ∙ ap (λ (p : Ptr). memory_val p ∷ []) at) i ++ (are.1.0.0 i ++ (are.1.1.0.0 i ++ []))) refl $
    enter ! C Λ fn (memory_val front ∷ vint w64 n ∷ vint w64 bytes ∷ []) Post $
    alloc_all ! (λ l. pass_all ! refl ((tt, (tt, tt)), ((tt, record { fits = are.1.0.1 }), ((tt, record { fits = are.1.1.0.1 }), tt))) $ let En : Env 𝓤 𝓛.H = env fn.locals l in
    sets ! (of_opd ! (get_in ! (fld ! refl (stop !)) (sub ! 0 refl (whole !)))) refl (tt, tt) $
    first ! $ blocks ! $
    sets_last ! (is ! (bin ! (get ! refl) (get ! refl) tt) (ap (vptr b) (omega (arith, asked.1)))) refl (tt, tt) $
    exec ! C Λ En (after 2 fn.body) (at_ret En Post) $
    sets ! (of_opd ! (get ! refl)) refl (tt, tt) $
    sets ! (agg ! (and_then ! (get ! refl) (no_more !))) refl (tt, (tt, tt)) $
    sets ! (agg ! (and_then ! (get ! refl) (no_more !))) refl (tt, (tt, tt)) $
    sets ! (agg ! (and_then ! (get ! refl) (and_then ! (get ! refl) (no_more !)))) refl (tt, ((tt, tt), ((tt, tt), tt))) $
    returns ! (look_at ! 0 refl) $ free_all ! refl $
    let left : (memory.the_row).Denot = record { at = front; units = n } in
    let right : (memory.the_row).Denot = record { at = rest; units = x.units - n } in
    let out : Val = pair_val (memory_val front) (memory_val rest) in
    use0 𝓛 (‵ (memory_own front (memory_val front ∷ []))) (memory_made 𝓛 front) $ fjoin ! $ move ! (1 ∷ []) $
    use0 𝓛 (‵ (memory_own rest (memory_val rest ∷ []))) (memory_made 𝓛 rest) $ fjoin ! $ move ! (1 ∷ 0 ∷ []) $
    use2 𝓛 (‵ ((Tuple (memory.the_row ∷ memory.the_row ∷ [])).own_val (left, right) (out ∷ []))) (pair_of 𝓛 memory.the_row memory.the_row left right (memory_val front) (memory_val rest)) $
    let Said : Type 0 = (n ≡ n) × (n + (x.units - n) ≡ x.units) in
    use0 𝓛 (raw (fact 𝓤 Said)) (fact_i 𝓤 Said (emp 𝓤) (refl, omega (arith, asked.0))) $ nothing ! $ nothing ! $ fjoin ! $ nothing ! $ fjoin ! $ nothing ! $ fjoin ! $ move ! (3 ∷ 0 ∷ 2 ∷ 1 ∷ []) $
    by ! (leaves 𝓛 T stays c z out (left, right) (tt, (tt, (tt, tt))) (tt, (tt, (tt, tt))))))))
