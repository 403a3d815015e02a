-- What is at positions and what is at all others is a whole list.
use Rattle.std.proofs.Common.{◌≡◌, ◌⊎◌, ◌↔◌, ℕ, zero, suc, ◌+◌, ◌<◌, ◌≤◌, List, [], ◌∷◌, ◌++◌, length, drop, get_or, inl, inr, Option, Some, refl, sym, ap, subst, ◌∙◌, arith}
use Rattle.std.specs.Prelude.{All, Contains}
use Rattle.std.specs.List.{cons_option}
use Rattle.std.specs.List.Sorted.{IsPermutation}
use Rattle.std.proofs.lemmas.Bool.{cases_lt}
use Rattle.std.proofs.lemmas.Grind.{get_or_default_zero}
use Rattle.std.proofs.lemmas.List.{drop_all}
use Rattle.std.proofs.lemmas.List.Elements.{All-get_or, Contains-append_right}
use Rattle.std.proofs.lemmas.List.Sorted.{IsPermutation-cons, IsPermutation-middle, IsPermutation-refl, IsPermutation-trans}
use Rattle.std.proofs.lemmas.Map.Made.{Contains-tail}
use Rattle.warc.specs.Laws.{OthersAreTheRest}
use Rattle.warc_rewrite.specs.Selecting.{at_positions}
use Rattle.warc_rewrite.proofs.SelectionLaws.{AscendFrom, ascends, one_left}

-- positions from n on, and all others from n on below a count
record IsRest (count n : ℕ) (ps os : List ℕ) : Type 0 where
  chosen : AscendFrom n ps
  others : AscendFrom n os
  below : (p : ℕ) → Contains ps p → p < count
  each : (p : ℕ) → n ≤ p → Contains os p ↔ ((p < count) × (Contains ps p → ⊥))

lows : (n : ℕ) (ps : List ℕ) → AscendFrom n ps → (k : ℕ) → k < length ps → n ≤ get_or ps k 0
lows n [] ascend k lt = absurd (omega (arith, lt))
lows n (p ∷ ps) (le, ascend) zero lt = le
lows n (p ∷ ps) (le, ascend) (suc k) lt = let more = lows (p + 1) ps ascend k (omega (arith, lt)) in omega (arith, le, more)

off_by : (n : ℕ) (ps : List ℕ) → AscendFrom (n + 1) ps → Contains ps n → ⊥
off_by n ps ascend (k, lt, at) =
    let here : get_or ps k 0 ≡ n = sym (get_or_default_zero ps k n lt) ∙ at in
    omega (arith, here, lows (n + 1) ps ascend k lt)

first_by : (n p : ℕ) (ps : List ℕ) → n ≤ p → AscendFrom (p + 1) ps → (n < p) ⊎ (p ≤ n)
    → ((more : List ℕ) × (p ∷ ps ≡ n ∷ more)) ⊎ AscendFrom (n + 1) (p ∷ ps)
first_by n p ps le ascend (inl lt) = inr (omega (arith, lt), ascend)
first_by n p ps le ascend (inr ge) = let same : p ≡ n = omega (arith, le, ge) in inl (ps, ap (λ q. q ∷ ps) same)

-- a number is the first of positions from it on, or they are all after it
first_is : (n : ℕ) (ps : List ℕ) → AscendFrom n ps → ((more : List ℕ) × (ps ≡ n ∷ more)) ⊎ AscendFrom (n + 1) ps
first_is n [] ascend = inr tt
first_is n (p ∷ ps) (le, ascend) = first_by n p ps le ascend (cases_lt n p)

first_has : (n : ℕ) (ps : List ℕ) → Contains (n ∷ ps) n
first_has n ps = (0, omega arith, refl)

more_has : (n : ℕ) (ps : List ℕ) (p : ℕ) → Contains ps p → Contains (n ∷ ps) p
more_has n ps p has = Contains-append_right (n ∷ []) ps p has

rest_has : (n : ℕ) (ps : List ℕ) (p : ℕ) → n + 1 ≤ p → Contains (n ∷ ps) p → Contains ps p
rest_has n ps p le has = Contains-tail n ps p (λ same. absurd (omega (arith, same, le))) has

hit_rest : (count n : ℕ) (ps os : List ℕ) → IsRest count n (n ∷ ps) os → AscendFrom (n + 1) os → IsRest count (n + 1) ps os
hit_rest count n ps os rest up = record {
  chosen = rest.chosen.1;
  others = up;
  below = λ p has. rest.below p (more_has n ps p has);
  each = λ p le. (
    λ has. let (lt, off) = (rest.each p (omega (arith, le))).0 has in (lt, λ in_. off (more_has n ps p in_)),
    λ (lt, off). (rest.each p (omega (arith, le))).1 (lt, λ in_. off (rest_has n ps p le in_)),
  );
}

miss_rest : (count n : ℕ) (ps os : List ℕ) → IsRest count n ps (n ∷ os) → AscendFrom (n + 1) ps → IsRest count (n + 1) ps os
miss_rest count n ps os rest up = record {
  chosen = up;
  others = rest.others.1;
  below = rest.below;
  each = λ p le. (
    λ has. (rest.each p (omega (arith, le))).0 (more_has n os p has),
    λ it. rest_has n os p le ((rest.each p (omega (arith, le))).1 it),
  );
}

none_left : (count n : ℕ) (ps : List ℕ) → AscendFrom n ps → ((p : ℕ) → n ≤ p → Contains ps p → p < count) → count ≤ n → ps ≡ []
none_left count n [] ascend below past = refl
none_left count n (p ∷ ps) (le, ascend) below past = absurd (omega (arith, le, past, below p le (first_has p ps)))

module _ {X : Type 0} (xs : List X) where
  abbrev Parts : ℕ → List ℕ → List ℕ → Type 0
  Parts n ps os = IsPermutation (at_positions xs ps ++ at_positions xs os) (drop n xs)

  parts_hit : (n : ℕ) (ps os : List ℕ) → n < length xs → Parts (n + 1) ps os → Parts n (n ∷ ps) os
  parts_hit n ps os within perm =
      let (x, at, left) = one_left xs n within in
      let H : Option X → List X → Type 0 = λ o t. IsPermutation (cons_option o (at_positions xs ps) ++ at_positions xs os) t in
      let whole = IsPermutation-cons x (at_positions xs ps ++ at_positions xs os) (drop (n + 1) xs) perm in
      subst (λ o. H o (drop n xs)) (sym at) (subst (λ t. H (Some x) t) (sym left) whole)

  parts_miss : (n : ℕ) (ps os : List ℕ) → n < length xs → Parts (n + 1) ps os → Parts n ps (n ∷ os)
  parts_miss n ps os within perm =
      let (x, at, left) = one_left xs n within in
      let H : Option X → List X → Type 0 = λ o t. IsPermutation (at_positions xs ps ++ cons_option o (at_positions xs os)) t in
      let a = at_positions xs ps in
      let b = at_positions xs os in
      let whole = IsPermutation-trans (a ++ x ∷ b) (x ∷ (a ++ b)) (x ∷ drop (n + 1) xs) (IsPermutation-middle a x b)
      (IsPermutation-cons x (a ++ b) (drop (n + 1) xs) perm) in
      subst (λ o. H o (drop n xs)) (sym at) (subst (λ t. H (Some x) t) (sym left) whole)

  parts_by : (n : ℕ) (ps os : List ℕ) → n < length xs → IsRest (length xs) n ps os
      → ((qs rs : List ℕ) → IsRest (length xs) (n + 1) qs rs → Parts (n + 1) qs rs)
      → ((more : List ℕ) × (ps ≡ n ∷ more)) ⊎ AscendFrom (n + 1) ps
      → ((more : List ℕ) × (os ≡ n ∷ more)) ⊎ AscendFrom (n + 1) os → Parts n ps os
  parts_by n ps os within rest later (inl (qs, same)) (inl (rs, also)) =
      let one : Contains ps n = subst (λ l. Contains l n) (sym same) (first_has n qs) in
      let two : Contains os n = subst (λ l. Contains l n) (sym also) (first_has n rs) in
      absurd (((rest.each n (omega arith)).0 two).1 one)
  parts_by n ps os within rest later (inl (qs, same)) (inr up) =
      let here = subst (λ l. IsRest (length xs) n l os) same rest in
      subst (λ l. Parts n l os) (sym same) (parts_hit n qs os within (later qs os (hit_rest (length xs) n qs os here up)))
  parts_by n ps os within rest later (inr up) (inl (rs, also)) =
      let here = subst (λ l. IsRest (length xs) n ps l) also rest in
      subst (λ l. Parts n ps l) (sym also) (parts_miss n ps rs within (later ps rs (miss_rest (length xs) n ps rs here up)))
  parts_by n ps os within rest later (inr up) (inr also) =
      absurd (off_by n os also ((rest.each n (omega arith)).1 (within, off_by n ps up)))

  parts : (k n : ℕ) (ps os : List ℕ) → n + k ≡ length xs → IsRest (length xs) n ps os → Parts n ps os
  parts zero n ps os is rest =
      let past : length xs ≤ n = omega (arith, is) in
      let one : ps ≡ [] = none_left (length xs) n ps rest.chosen (λ p le has. rest.below p has) past in
      let two : os ≡ [] = none_left (length xs) n os rest.others (λ p le has. ((rest.each p le).0 has).0) past in
      let none : IsPermutation {X = X} [] (drop n xs) = subst (λ l. IsPermutation {X = X} [] l) (sym (drop_all n xs past)) (IsPermutation-refl []) in
      subst (λ l. Parts n l os) (sym one) (subst (λ l. Parts n [] l) (sym two) none)
  parts (suc k) n ps os is rest =
      parts_by n ps os (omega (arith, is)) rest (λ qs rs left. parts k (n + 1) qs rs (omega (arith, is)) left)
      (first_is n ps rest.chosen) (first_is n os rest.others)

found_below : (count : ℕ) (ps : List ℕ) → All (λ p. p < count) ps → (p : ℕ) → Contains ps p → p < count
found_below count ps all p (k, lt, at) = let here = All-get_or (λ q. q < count) ps k p lt all in subst (λ q. q < count) at here

pub others_are_the_rest : OthersAreTheRest
others_are_the_rest records ps os positions others =
    parts records (length records) 0 ps os (omega arith)
    (record {
      chosen = ascends 0 ps positions.ascending (λ k lt. omega arith);
      others = ascends 0 os others.are.ascending (λ k lt. omega arith);
      below = found_below (length records) ps positions.below;
      each = λ p le. others.each p;
    })
