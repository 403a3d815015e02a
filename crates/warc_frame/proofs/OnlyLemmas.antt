-- A search for the only field of a name, field by field.
use Rattle.std.proofs.Common.{◌≡◌, ℕ, ◌+◌, ◌<◌, ◌≤◌, Bool, true, false, cond, List, [], ◌∷◌, Option, Some, None, Result, length, take, get_or, refl, sym, ap, ◌∙◌, arith, inl, ⊎_elim, ◌⊎◌}
use Rattle.std.specs.Prelude.{option_map, count_by, find, MatchResult}
use Rattle.std.specs.Option.{is_some, ok_or, option_or}
use Rattle.std.specs.Borrow.{Bor}
use Rattle.std.proofs.lemmas.List.{take_all, take_more}
use Rattle.std.proofs.lemmas.List.Folds.{find-append}
use Rattle.std.proofs.lemmas.List.Sums.{count_by_more_yes, count_by_more_no, sum_by-cons, sum_by-take-le}
use Rattle.warc_field.specs.Area.{Pair, count_of, first_value}
use Rattle.warc_field.specs.Text.{same}
use Rattle.warc_frame.specs.declared.framed.FramedFault.{FramedFault}
use Rattle.warc_frame.specs.declared.framed.FramedFault.TheVariants.{Missing, Repeated}
use Rattle.warc_frame.proofs.EmptyLineLemmas.{true_or_false}

-- the fields that were seen have the name nowhere, or once, with this value
abbrev pub IsFound : List ℕ → List Pair → Option (Bor (List ℕ)) → Type 0
IsFound name seen None = count_of name seen ≡ 0
IsFound name seen (Some value) = (count_of name seen ≡ 1) × (first_value name seen ≡ Some value.now)

find_none : (p : Pair → Bool) (xs : List Pair) → count_by p xs ≡ 0 → find p xs ≡ None
find_none p [] none = refl
find_none p (x ∷ xs) none = ⊎_elim
    (λ (is : p x ≡ true). absurd (omega (arith, sum_by-cons (λ y. cond (p y) 1 0) x xs, ap {B = ℕ} (λ b. cond b 1 0) is, none)))
    (λ (no : p x ≡ false). rw no (find_none p xs (omega (arith, sum_by-cons (λ y. cond (p y) 1 0) x xs, ap {B = ℕ} (λ b. cond b 1 0) no, none))))
    (true_or_false (p x))

or_none : {A : Type 0} (o : Option A) → option_or o None ≡ o
or_none None = refl
or_none (Some x) = refl

module _ (name : List ℕ) (xs : List Pair) (i : ℕ) (field : Pair) (inside : i < length xs) (is : field ≡ get_or xs i field) where
  find_more : find (λ (f : Pair). same f.0 name) (take (i + 1) xs) ≡ option_or (find (λ (f : Pair). same f.0 name) (take i xs)) (cond (same field.0 name) (Some field) None)
  find_more = ap (find (λ (f : Pair). same f.0 name)) (take_more xs i field inside) ∙ find-append (λ (f : Pair). same f.0 name) (take i xs) (get_or xs i field ∷ []) ∙ ap (λ (x : Pair). option_or (find (λ (f : Pair). same f.0 name) (take i xs)) (cond (same x.0 name) (Some x) None)) (sym is)

  count_other : same field.0 name ≡ false → count_of name (take (i + 1) xs) ≡ count_of name (take i xs)
  count_other other = count_by_more_no (λ (f : Pair). same f.0 name) xs i field inside (ap (λ (x : Pair). same x.0 name) (sym is) ∙ other)

  count_same : same field.0 name ≡ true → count_of name (take (i + 1) xs) ≡ count_of name (take i xs) + 1
  count_same so = count_by_more_yes (λ (f : Pair). same f.0 name) xs i field inside (ap (λ (x : Pair). same x.0 name) (sym is) ∙ so)

  -- a field of another name
  still : (found : Option (Bor (List ℕ))) → IsFound name (take i xs) found → same field.0 name ≡ false → IsFound name (take (i + 1) xs) found
  still None so other = count_other other ∙ so
  still (Some value) so other =
      let kept : find (λ (f : Pair). same f.0 name) (take (i + 1) xs) ≡ find (λ (f : Pair). same f.0 name) (take i xs) = find_more ∙ rw other (or_none (find (λ (f : Pair). same f.0 name) (take i xs))) in
      (count_other other ∙ so.0, ap (option_map (λ (f : Pair). f.1)) kept ∙ so.1)

  pub found_still : (found new : Option (Bor (List ℕ))) → IsFound name (take i xs) found → same field.0 name ≡ false → new ≡ found → IsFound name (take (i + 1) xs) new
  found_still found new so other e = rw e (still found so other)

  -- the first of the name
  pub found_first : (found new : Option (Bor (List ℕ))) (value : Bor (List ℕ)) → IsFound name (take i xs) found → is_some found ≡ false → same field.0 name ≡ true → new ≡ Some value → value.now ≡ field.1 → IsFound name (take (i + 1) xs) new
  found_first (Some other) new value so some here e same_value = absurd cc
  found_first None new value none some here e same_value =
      let before : find (λ (f : Pair). same f.0 name) (take i xs) ≡ None = find_none (λ (f : Pair). same f.0 name) (take i xs) none in
      let found : find (λ (f : Pair). same f.0 name) (take (i + 1) xs) ≡ Some field = find_more ∙ rw (before, here) in
      rw e (omega (arith, count_same here, none), ap (option_map (λ (f : Pair). f.1)) found ∙ ap Some (sym same_value))

  -- the second of the name
  pub found_second : (found : Option (Bor (List ℕ))) → IsFound name (take i xs) found → is_some found ≡ true → same field.0 name ≡ true → 2 ≤ count_of name xs
  found_second None so some here = absurd cc
  found_second (Some value) so some here =
      omega (arith, count_same here, so.0, sum_by-take-le (λ (f : Pair). cond (same f.0 name) 1 0) xs (i + 1))

-- after the last field
pub found_end : (name : List ℕ) (fields : List Pair) (i : ℕ) (found : Option (Bor (List ℕ))) (result : Result (Bor (List ℕ)) FramedFault) → IsFound name (take i fields) found → length fields ≤ i → result ≡ ok_or found Missing → MatchResult result (λ value. (count_of name fields ≡ 1) × (first_value name fields ≡ Some value.now)) (λ fault. ((count_of name fields ≡ 0) × (fault ≡ Missing)) ⊎ ((2 ≤ count_of name fields) × (fault ≡ Repeated)))
found_end name fields i None result so past e = rw e (inl (rw (take_all i fields past) at so, refl))
found_end name fields i (Some value) result so past e = rw e (rw (take_all i fields past) at so)
