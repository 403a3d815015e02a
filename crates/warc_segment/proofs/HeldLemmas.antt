-- Entries and facts side by side, and one more of them.
use Rattle.std.proofs.Common.{◌≡◌, ℕ, zero, suc, ◌+◌, ◌<◌, ◌≤◌, List, [], ◌∷◌, ◌++◌, length, get_or, Option, Some, slice_get, refl, sym, ◌∙◌, ap, subst, arith, length-append}
use Rattle.std.specs.Option.{option_to_list}
use Rattle.std.proofs.lemmas.List.Elements.{All-push, All-weaker}
use Rattle.std.proofs.lemmas.List.Quantifiers.{all_pairs_push}
use Rattle.warc_order.specs.Entries.{Entry}
use Rattle.warc_segment.specs.declared.held.TotalAndPlace.{TotalAndPlace}
use Rattle.warc_segment.specs.Kept.{KeptMember}
use Rattle.warc_segment.specs.Held.{kept_from, side_by_side, AreHeld}

pub side_more : (es : List Entry) (fs : List TotalAndPlace) (e : Entry) (f : TotalAndPlace) → length fs ≡ length es
    → side_by_side (es ++ e ∷ []) (fs ++ f ∷ []) ≡ side_by_side es fs ++ kept_from e f ∷ []
side_more [] [] e f same = refl
side_more [] (g ∷ fs) e f same = absurd (omega arith)
side_more (d ∷ es) [] e f same = absurd (omega arith)
side_more (d ∷ es) (g ∷ fs) e f same =
    ap (λ (ms : List KeptMember). kept_from d g ∷ ms) (side_more es fs e f (omega arith))

pub side_at : (es : List Entry) (fs : List TotalAndPlace) (i : ℕ) (d : Entry) (g : TotalAndPlace) → length fs ≡ length es
    → i < length es → slice_get (side_by_side es fs) i ≡ Some (kept_from (get_or es i d) (get_or fs i g))
side_at [] fs i d g same within = absurd (omega arith)
side_at (e ∷ es) [] i d g same within = absurd (omega arith)
side_at (e ∷ es) (f ∷ fs) zero d g same within = refl
side_at (e ∷ es) (f ∷ fs) (suc i) d g same within = side_at es fs i d g (omega arith) (omega arith)

pub held_more : (p : ℕ) (es : List Entry) (fs : List TotalAndPlace) (e : Entry) (f : TotalAndPlace) → AreHeld p es fs → e.position ≡ p
    → e.mark.major ≡ 0 → 2 ≤ e.mark.minor → AreHeld (p + 1) (es ++ e ∷ []) (fs ++ f ∷ [])
held_more p es fs e f held at low number = record {
  same = (let n : length fs ≡ length es = held.same in
      length-append fs (f ∷ []) ∙ (ap (λ (k : ℕ). k + 1) n ∙ sym (length-append es (e ∷ []))));
  before = All-push (λ (x : Entry). x.position < p + 1) es e
      (All-weaker (λ (x : Entry). x.position < p) (λ (x : Entry). x.position < p + 1)
      (λ x h. omega arith) es held.before)
      (omega arith);
  rising = all_pairs_push (λ (a b : Entry). a.position < b.position) es e held.rising
      (λ k d within. let less : (get_or es k d).position < p = held.before k d within in omega arith);
  numbered = All-push (λ (x : Entry). (x.mark.major ≡ 0) × (2 ≤ x.mark.minor)) es e held.numbered (low, number);
}

-- the entries and their facts after an addition to both
pub held_added : (p : ℕ) (es es' : List Entry) (fs gs fs' : List TotalAndPlace) (e : Entry) (f : TotalAndPlace) → AreHeld p es fs
    → es' ≡ es ++ e ∷ [] → fs' ≡ gs ++ f ∷ [] → gs ≡ fs → e.position ≡ p → e.mark.major ≡ 0 → 2 ≤ e.mark.minor
    → AreHeld (p + 1) es' fs'
held_added p es es' fs gs fs' e f held to_es to_fs same at low number =
    let both : AreHeld (p + 1) (es ++ e ∷ []) (fs ++ f ∷ []) = held_more p es fs e f held at low number in
    let left : AreHeld (p + 1) es' (fs ++ f ∷ []) =
    subst (λ (xs : List Entry). AreHeld (p + 1) xs (fs ++ f ∷ [])) (sym to_es) both in
    subst (AreHeld (p + 1) es') (sym (to_fs ∙ ap (λ (xs : List TotalAndPlace). xs ++ f ∷ []) same)) left

pub side_added : (es es' : List Entry) (fs gs fs' : List TotalAndPlace) (e : Entry) (f : TotalAndPlace) → length fs ≡ length es
    → es' ≡ es ++ e ∷ [] → fs' ≡ gs ++ f ∷ [] → gs ≡ fs → (o : Option KeptMember) → o ≡ Some (kept_from e f)
    → side_by_side es' fs' ≡ side_by_side es fs ++ option_to_list o
side_added es es' fs gs fs' e f long to_es to_fs same o is =
    ap (λ (xs : List Entry). side_by_side xs fs') to_es
    ∙ (ap (side_by_side (es ++ e ∷ [])) (to_fs ∙ ap (λ (xs : List TotalAndPlace). xs ++ f ∷ []) same)
    ∙ (side_more es fs e f long
    ∙ ap (λ (q : Option KeptMember). side_by_side es fs ++ option_to_list q) (sym is)))
