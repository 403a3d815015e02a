-- What is in a list, in its filter and in its image; the least of a list of numbers.
use Rattle.std.proofs.Common.{◌≡◌, ◌⊎◌, inl, inr, ℕ, zero, suc, ◌<◌, ◌≤◌, min, Bool, true, false, cond, List, [], ◌∷◌, length, get_or, map, Option, Some, None, slice_get, refl, sym, ◌∙◌, ap, subst, arith}
use Rattle.std.specs.Prelude.{filter, find, ⊤}
use Rattle.std.specs.List.{position_or_len}
use Rattle.std.proofs.lemmas.Bool.{cases_Bool, cases_lt}
use Rattle.std.proofs.lemmas.List.Folds.{find_at}
use Rattle.std.proofs.lemmas.List.Sums.{position_or_len_is}
use Rattle.std.proofs.lemmas.Option.{slice_get-get_or, slice_get_past}
use Rattle.warc_segment.specs.Gaps.{lesser, least}

-- an element is in a list
abbrev pub IsReadSoFar : {X : Type 0} → List X → X → Type 0
IsReadSoFar xs x = (i : ℕ) × (slice_get xs i ≡ Some x)

pub is_present_cases : {X : Type 0} (y : X) (xs : List X) (x : X) → IsReadSoFar (y ∷ xs) x → (x ≡ y) ⊎ IsReadSoFar xs x
is_present_cases y xs x (zero, e) = inl (cc)
is_present_cases y xs x (suc i, e) = inr (i, e)

pub is_present_nowhere : {X : Type 0} (x : X) → IsReadSoFar [] x → ⊥
is_present_nowhere x (i, e) = absurd (cc)

pub is_present_later : {X : Type 0} (y : X) (xs : List X) (x : X) → IsReadSoFar xs x → IsReadSoFar (y ∷ xs) x
is_present_later y xs x at = (suc at.0, at.1)

-- ---- filters and images

pub filter_hit : {X : Type 0} (p : X → Bool) (x : X) (xs : List X) → p x ≡ true → filter p (x ∷ xs) ≡ x ∷ filter p xs
filter_hit p x xs hit = ap (λ (b : Bool). cond b (x ∷ filter p xs) (filter p xs)) hit

pub filter_miss : {X : Type 0} (p : X → Bool) (x : X) (xs : List X) → p x ≡ false → filter p (x ∷ xs) ≡ filter p xs
filter_miss p x xs miss = ap (λ (b : Bool). cond b (x ∷ filter p xs) (filter p xs)) miss

pub filter_is_present : {X : Type 0} (p : X → Bool) (xs : List X) (x : X) → IsReadSoFar xs x → p x ≡ true
    → IsReadSoFar (filter p xs) x
filter_is_present p [] x at hit = absurd (is_present_nowhere x at)
filter_is_present {X} p (y ∷ xs) x at hit = elim (is_present_cases y xs x at) [
  | inl here ↦
      let start : IsReadSoFar (y ∷ filter p xs) x = (0, ap Some (sym here)) in
      subst (λ (zs : List X). IsReadSoFar zs x) (sym (filter_hit p y xs (ap p (sym here) ∙ hit))) start
  | inr later ↦
      let there : IsReadSoFar (filter p xs) x = filter_is_present p xs x later hit in
      elim (cases_Bool (p y)) [
        | inl on ↦ subst (λ (zs : List X). IsReadSoFar zs x) (sym (filter_hit p y xs on)) (is_present_later y
            (filter p xs) x there)
        | inr off ↦ subst (λ (zs : List X). IsReadSoFar zs x) (sym (filter_miss p y xs off)) there
      ]
]

pub is_present_filter : {X : Type 0} (p : X → Bool) (xs : List X) (x : X) → IsReadSoFar (filter p xs) x
    → IsReadSoFar xs x × (p x ≡ true)
is_present_filter p [] x at = absurd (is_present_nowhere x at)
is_present_filter {X} p (y ∷ xs) x at = elim (cases_Bool (p y)) [
  | inl on ↦
      let cut : IsReadSoFar (y ∷ filter p xs) x = subst (λ (zs : List X). IsReadSoFar zs x) (filter_hit p y xs on) at in
      elim (is_present_cases y (filter p xs) x cut) [
        | inl here ↦ ((0, ap Some (sym here)), ap p here ∙ on)
        | inr later ↦ let is = is_present_filter p xs x later in (is_present_later y xs x is.0, is.1)
      ]
  | inr off ↦
      let cut : IsReadSoFar (filter p xs) x = subst (λ (zs : List X). IsReadSoFar zs x) (filter_miss p y xs off) at in
      let is = is_present_filter p xs x cut in
      (is_present_later y xs x is.0, is.1)
]

pub map_is_present : {X Y : Type 0} (f : X → Y) (xs : List X) (x : X) → IsReadSoFar xs x → IsReadSoFar (map f xs) (f x)
map_is_present f [] x at = absurd (is_present_nowhere x at)
map_is_present f (y ∷ xs) x at = elim (is_present_cases y xs x at) [
  | inl here ↦ (0, ap (λ z. Some (f z)) (sym here))
  | inr later ↦ is_present_later (f y) (map f xs) (f x) (map_is_present f xs x later)
]

pub is_present_map : {X Y : Type 0} (f : X → Y) (xs : List X) (y : Y) → IsReadSoFar (map f xs) y
    → (x : X) × IsReadSoFar xs x × (f x ≡ y)
is_present_map f [] y at = absurd (is_present_nowhere y at)
is_present_map f (x ∷ xs) y at = elim (is_present_cases (f x) (map f xs) y at) [
  | inl here ↦ (x, (0, refl), sym here)
  | inr later ↦ let is = is_present_map f xs y later in (is.0, is_present_later x xs is.0 is.1, is.2)
]

-- ---- the least

pub record IsLeastIn (ks : List ℕ) (k : ℕ) : Type 0 where
  pub is_present : IsReadSoFar ks k
  pub least : (j : ℕ) → IsReadSoFar ks j → k ≤ j

abbrev pub LeastIn : List ℕ → Option ℕ → Type 0
LeastIn ks None = (j : ℕ) → IsReadSoFar ks j → ⊥
LeastIn ks (Some k) = IsLeastIn ks k

least_more : (k : ℕ) (ks : List ℕ) (o : Option ℕ) → LeastIn ks o → LeastIn (k ∷ ks) (lesser (Some k) o)
least_more k ks None none = record {
  is_present = (0, refl);
  least = λ j at. elim (is_present_cases k ks j at) [ inl here ↦ omega arith | inr later ↦ absurd (none j later) ];
}
least_more k ks (Some n) is = record {
  is_present = elim (cases_lt k n) [
    | inl less ↦ let e : min k n ≡ k = omega arith in (0, ap Some (sym e))
    | inr more ↦ let e : min k n ≡ n = omega arith in (suc is.is_present.0, is.is_present.1 ∙ ap Some (sym e))
  ];
  least = λ j at. elim (is_present_cases k ks j at) [
    | inl here ↦ omega arith
    | inr later ↦ let below : n ≤ j = is.least j later in omega arith
  ];
}

pub least_in : (ks : List ℕ) → LeastIn ks (least ks)
least_in [] = λ j at. is_present_nowhere j at
least_in (k ∷ ks) = least_more k ks (least ks) (least_in ks)

same_least : (ks ls : List ℕ) (o q : Option ℕ) → LeastIn ks o → LeastIn ls q → ((j : ℕ) → IsReadSoFar ks j → IsReadSoFar ls j)
    → ((j : ℕ) → IsReadSoFar ls j → IsReadSoFar ks j) → o ≡ q
same_least ks ls None None a b to back = refl
same_least ks ls None (Some n) a b to back = absurd (a n (back n b.is_present))
same_least ks ls (Some m) None a b to back = absurd (b m (to m a.is_present))
same_least ks ls (Some m) (Some n) a b to back =
    let up : m ≤ n = a.least n (back n b.is_present) in
    let down : n ≤ m = b.least m (to m a.is_present) in
    let e : m ≡ n = omega arith in
    ap Some e

-- lists of the same numbers have one least
pub least_same : (ks ls : List ℕ) → ((j : ℕ) → IsReadSoFar ks j → IsReadSoFar ls j) → ((j : ℕ) → IsReadSoFar ls j → IsReadSoFar ks j)
    → least ks ≡ least ls
least_same ks ls to back = same_least ks ls (least ks) (least ls) (least_in ks) (least_in ls) to back

-- the first is the least where none after it is less
pub least_front : (k : ℕ) (ks : List ℕ) → ((j : ℕ) → IsReadSoFar ks j → k ≤ j) → least (k ∷ ks) ≡ Some k
least_front k ks up = by_least (least (k ∷ ks)) (least_in (k ∷ ks)) refl
  where
    by_least : (o : Option ℕ) → LeastIn (k ∷ ks) o → least (k ∷ ks) ≡ o → least (k ∷ ks) ≡ Some k
    by_least None none e = absurd (none k (0, refl))
    by_least (Some n) is e =
        let low : n ≤ k = is.least k (0, refl) in
        let high : k ≤ n = elim (is_present_cases k ks n is.is_present) [ inl here ↦ omega arith | inr later ↦ up n later ] in
        let z : n ≡ k = omega arith in
        e ∙ ap Some z

-- numbers that don't fall
abbrev pub Up : List ℕ → Type 0
Up [] = ⊤
Up (k ∷ ks) = ((j : ℕ) → IsReadSoFar ks j → k ≤ j) × Up ks

-- in such a list the least that passes is the first
pub least_sorted : (test : ℕ → Bool) (ks : List ℕ) → Up ks → least (filter test ks) ≡ find test ks
least_sorted test [] up = refl
least_sorted test (k ∷ ks) up = elim (cases_Bool (test k)) [
  | inl hit ↦
      ap least (filter_hit test k ks hit)
      ∙ (least_front k (filter test ks) (λ j at. up.0 j (is_present_filter test ks j at).0)
      ∙ sym (ap (λ (b : Bool). cond b (Some k) (find test ks)) hit))
  | inr miss ↦
      ap least (filter_miss test k ks miss)
      ∙ (least_sorted test ks up.1 ∙ sym (ap (λ (b : Bool). cond b (Some k) (find test ks)) miss))
]

-- ---- the first that passes, by its place

pub first_found : {X : Type 0} (test : X → Bool) (xs : List X) (i : ℕ) (d : X) → i < length xs
    → ((k : ℕ) → k < i → test (get_or xs k d) ≡ false) → test (get_or xs i d) ≡ true
    → find test xs ≡ Some (get_or xs i d)
first_found test xs i d within before hit =
    let at : position_or_len test xs ≡ i = position_or_len_is test xs i d (omega arith) before (λ _. hit) in
    find_at test xs ∙ (ap (slice_get xs) at ∙ slice_get-get_or xs i d within)

pub none_found : {X : Type 0} (test : X → Bool) (xs : List X) (d : X)
    → ((k : ℕ) → k < length xs → test (get_or xs k d) ≡ false) → find test xs ≡ None
none_found test xs d none =
    let at : position_or_len test xs ≡ length xs =
    position_or_len_is test xs (length xs) d (omega arith) none (λ h. absurd (omega arith)) in
    find_at test xs ∙ (ap (slice_get xs) at ∙ slice_get_past xs (length xs) (omega arith))
