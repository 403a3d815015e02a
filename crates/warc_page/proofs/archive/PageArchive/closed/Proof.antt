-- A handle of null owns nothing.
use Rattle.std.proofs.Common.{[], ◌∷◌, refl, lit<, ◌≡◌}
use mathlib.Core.Bool.{false, Bool}
use mir.Syntax.{Fn}
use mir.Val.{Val}
use base.Logic.{SProp, emp}
use base.Fml.{ftrue}
use types.Kit.{‵, raw, ◌⊛◌, ◌$◌, ◌∵◌, !, qed, by, move, drop, split, fjoin, use0}
use types.Run.{lit, false_lit, no_more, and_then, returns, enter}
use types.ByLocal.{alloc_all, pass_all, free_all, look_at, sets}
use types.Part.{agg}
use contract.Monad.{fact, fact_i}
use contract.Running.{tables}
use denote.RattleType.{owns}
use denote.Signature.{types_at}
use denote.RawPtr.{null_ptr}
use denote.Steps.{nothing}
use denote.Triple.Entry.{alive}
use denote.Triple.Walked.{Stays, walk_of}
use Rattle.std.proofs.raw_atomic.Walks.{proved_at, leaves}
use Rattle.warc_page.proofs.Values.{handle_val, handle_fields, handle_made}
use Rattle.warc_page.specs.contracts.archive.PageArchive.closed.{ended, clauses}
use Rattle.warc_page.specs.contracts.archive.PageArchive.closed.Key.{name as #self}
use Rattle.warc_page.proofs.archive.PageArchive.closed.Statement.{statement}
use Rattle.warc_page.proofs.archive.PageArchive.closed.Code as code

pub closed_spec : {M : Type 1} → statement M
closed_spec 𝓤 𝓛 𝓜 𝓡 wired =
    let 𝓣 = tables 𝓤 𝓛.H 𝓜 𝓡 𝓡.env in
    let E = ended in
    let c = clauses 𝓛 𝓜.mem 𝓡.returns in
    let fn : Fn = code.function in
    let stays : Stays E.signature.params E.kept = tt in
    let made : Val = handle_val null_ptr false in
    proved_at 𝓛 E stays c 𝓜 𝓡 tt #self fn (code.unfolded 𝓤 𝓛.H 𝓜 𝓡 wired) (λ z are.
    let Post : Val → SProp 𝓤 = (walk_of 𝓛 E stays c).post z in
    let tokens = raw (alive 𝓛 E.signature z.0.0 z.0.1) in
    qed 𝓛 ((tokens ⊛ ‵ (owns (types_at E.signature.params z.0.0) z.0.3 z.0.4)) ∷ ‵ ftrue ∷ []) ∵
    move ! (1 ∷ []) $ drop ! $ split ! $ move ! (1 ∷ []) $ drop ! $
    enter ! 𝓣.C 𝓣.Λ fn [] Post $ alloc_all ! (λ l. pass_all ! refl tt $
    sets ! (agg ! (and_then ! (lit ! tt) (and_then ! (false_lit !) (no_more !)))) refl
    (tt, (record { fits = lit< tt }, (tt, tt))) $
    returns ! (look_at ! 0 refl) $ free_all ! refl $
    nothing ! $ use0 𝓛 (‵ (handle_fields null_ptr false (made ∷ []))) (handle_made 𝓛 null_ptr false) $ fjoin ! $
    let Said : Type 0 = ◌≡◌ {A = Bool} false false in
    use0 𝓛 (raw (fact 𝓤 Said)) (fact_i 𝓤 Said (emp 𝓤) refl) $
    nothing ! $ move ! (3 ∷ 0 ∷ 2 ∷ 1 ∷ []) $
    by ! (leaves 𝓛 E stays c z made (record { at = null_ptr; is_open = false }) tt tt)))
