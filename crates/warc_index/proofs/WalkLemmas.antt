-- A walk among n positions that goes on for n steps comes back, and one that comes back never ends.
use Rattle.std.proofs.Common.{◌≡◌, ◌≢◌, ◌⊎◌, inl, inr, ℕ, zero, suc, ◌+◌, ◌*◌, ◌-◌, ◌<◌, ◌≤◌, false, cond, eqb, Option, Some, None, unwrap_or, is_some, refl, sym, ◌∙◌, ap, arith, IsSome, add-suc, add-zero}
use Rattle.std.proofs.lemmas.Bool.{cases_eq, cases_lt}
use Rattle.std.proofs.lemmas.Bool.Decides.{nat_tests}
use Rattle.std.proofs.lemmas.Option.{option_and_then_some}
use Rattle.std.proofs.Math.Nat.{mul-le-mul_left}
use Rattle.std.specs.Option.{option_and_then}
use Rattle.warc_index.specs.Walks.{walk, StaysBelow, ComesBack, LoopsWhereUnfinished}

-- two places up to n hold the same
record Repeats (f : ℕ → ℕ) (n : ℕ) : Type 0 where
  early : ℕ
  late : ℕ
  order : early < late
  within : late ≤ n
  same : f early ≡ f late

-- some place below m holds v, or none does
found_or_not : (f : ℕ → ℕ) (v m : ℕ) → ((k : ℕ) × (k < m) × (f k ≡ v)) ⊎ ((k : ℕ) → k < m → f k ≢ v)
found_or_not f v zero = inr (λ k h. absurd (omega arith))
found_or_not f v (suc m) = elim (cases_eq (f m) v) [
  | inl e ↦ inl (m, omega arith, e)
  | inr differs ↦ elim (found_or_not f v m) [
    | inl w ↦ inl (w.0, omega arith, w.2)
    | inr none ↦ inr (λ k h e. elim (cases_lt k m) [
      | inl below ↦ none k below e
      | inr above ↦ let here : k ≡ m = omega arith in differs (sym (ap f here) ∙ e)
    ])
  ]
]

-- f with the value m replaced by that at the last place
squeezed : (ℕ → ℕ) → ℕ → ℕ → ℕ
squeezed f m k = cond (eqb (f k) m) (f (suc m)) (f k)

squeezed-below : (f : ℕ → ℕ) (m k : ℕ) → f k < suc m → f (suc m) < suc m → f k ≢ f (suc m) → squeezed f m k < m
unfolding squeezed
squeezed-below f m k a b c = grind (arith, nat_tests)

squeezed-same : (f : ℕ → ℕ) (m i j : ℕ) → f i ≢ f (suc m) → f j ≢ f (suc m) → squeezed f m i ≡ squeezed f m j
    → f i ≡ f j
unfolding squeezed
squeezed-same f m i j a b e = grind (arith, nat_tests)

-- n + 1 places with values below n hold one value twice
pigeonhole : (n : ℕ) (f : ℕ → ℕ) → ((k : ℕ) → k ≤ n → f k < n) → Repeats f n
pigeonhole zero f low = let h : f 0 < 0 = low 0 (omega arith) in absurd (omega arith)
pigeonhole (suc m) f low = elim (found_or_not f (f (suc m)) (suc m)) [
  | inl w ↦ record { early = w.0; late = suc m; order = w.1; within = omega arith; same = w.2 }
  | inr none ↦
      let r : Repeats (squeezed f m) m =
      pigeonhole m (squeezed f m) (λ k h. squeezed-below f m k (low k (omega arith)) (low (suc m)
      (omega arith)) (none k (omega arith))) in
      record {
        early = r.early;
        late = r.late;
        order = r.order;
        within = let h : r.late ≤ m = r.within in omega arith;
        same = let h : r.late ≤ m = r.within in let o : r.early < r.late = r.order in
            squeezed-same f m r.early r.late (none r.early (omega arith)) (none r.late (omega arith)) r.same;
      }
]

-- a walk that has ended stays ended
ended : (next : ℕ → Option ℕ) (p k m : ℕ) → k ≤ m → walk next p k ≡ None → walk next p m ≡ None
ended next p k zero le e = let z : k ≡ 0 = omega arith in ap (walk next p) (sym z) ∙ e
ended next p k (suc m) le e = elim (cases_lt m k) [
  | inl last ↦ let z : k ≡ suc m = omega arith in ap (walk next p) (sym z) ∙ e
  | inr early ↦ ap (option_and_then next) (ended next p k m early e)
]

-- where it is is below n
below : (next : ℕ → Option ℕ) (n p k q : ℕ) → p < n → StaysBelow n next → walk next p k ≡ Some q → q < n
below next n p zero q h stays e = let z : p ≡ q = (cc) in omega arith
below next n p (suc k) q h stays e =
    option_and_then_some next (walk next p k) q e (λ x was goes. stays x q (below next n p k x h stays was) goes)

-- before it ends it is somewhere
is_present : (next : ℕ → Option ℕ) (p k m : ℕ) → k ≤ m → IsSome (walk next p m)
    → walk next p k ≡ Some (unwrap_or (walk next p k) 0)
is_present next p k m le on = by_case (walk next p k) refl
  where
    by_case : (o : Option ℕ) → walk next p k ≡ o → walk next p k ≡ Some (unwrap_or (walk next p k) 0)
    by_case None e = let gone : walk next p m ≡ None = ended next p k m le e in
        let w : is_some (walk next p m) ≡ false = ap is_some gone in cc
    by_case (Some q) e = e ∙ ap (λ o. Some (unwrap_or o 0)) (sym e)

pub comes_back : (n p : ℕ) (next : ℕ → Option ℕ) → p < n → StaysBelow n next → IsSome (walk next p n)
    → ComesBack next p
comes_back n p next h stays on =
    let place : ℕ → ℕ = λ k. unwrap_or (walk next p k) 0 in
    let r : Repeats place n = pigeonhole n place (λ k le. below next n p k (place k) h stays
    (is_present next p k n le on)) in
    let o : r.early < r.late = r.order in
    let w : r.late ≤ n = r.within in
    record {
      early = r.early;
      late = r.late;
      place = place r.early;
      order = r.order;
      before = is_present next p r.early n (omega arith) on;
      again = is_present next p r.late n (omega arith) on ∙ ap Some (sym r.same);
    }

-- what two walks at one place do next is the same
shifted : (next : ℕ → Option ℕ) (p i j d : ℕ) → walk next p i ≡ walk next p j
    → walk next p (i + d) ≡ walk next p (j + d)
shifted next p i j zero e = rw (add-zero, add-zero) e
shifted next p i j (suc d) e = simp add-suc (ap (option_and_then next) (shifted next p i j d e))

-- after any number of rounds the walk is at that place
rounds : (next : ℕ → Option ℕ) (p i d m : ℕ) → walk next p i ≡ walk next p (i + d)
    → walk next p i ≡ walk next p (i + m * d)
rounds next p i d zero e = let z : i ≡ i + 0 * d = omega arith in ap (walk next p) z
rounds next p i d (suc m) e =
    let z : (i + d) + m * d ≡ i + suc m * d = omega arith in
    rounds next p i d m e ∙ (shifted next p i (i + d) (m * d) e ∙ ap (walk next p) z)

pub goes_on : (n p : ℕ) (next : ℕ → Option ℕ) → ComesBack next p → IsSome (walk next p n)
goes_on n p next back = by_case (walk next p n) refl
  where
    by_case : (o : Option ℕ) → walk next p n ≡ o → IsSome (walk next p n)
    by_case (Some q) e = ap is_some e
    by_case None e =
        let o : back.early < back.late = back.order in
        let i : ℕ = back.early in
        let d : ℕ = back.late - back.early in
        let one : 1 ≤ d = omega arith in
        let far : n ≤ i + n * d = omega (arith, mul-le-mul_left n one) in
        let z : back.late ≡ i + d = omega arith in
        let same : walk next p i ≡ walk next p (i + d) = back.before ∙ (sym back.again ∙ ap (walk next p) z) in
        let gone : walk next p (i + n * d) ≡ None = ended next p n (i + n * d) far e in
        let there : walk next p (i + n * d) ≡ Some back.place = sym (rounds next p i d n same) ∙ back.before in
        cc

pub loops_where_unfinished : LoopsWhereUnfinished
loops_where_unfinished n p next h stays = (comes_back n p next h stays, goes_on n p next)
