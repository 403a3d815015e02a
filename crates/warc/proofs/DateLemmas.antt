-- A date in full is of the same instant: what is added says what a shorter form leaves out.
use Rattle.std.proofs.Common.{◌≡◌, ℕ, zero, suc, ◌+◌, ◌-◌, ◌<◌, ◌≤◌, ◌==◌, Bool, true, false, ◌&&◌, not, ◌⊎◌, inl, inr, nat_eq, nat_le, get_or, take, drop, length, List, [], ◌∷◌, ◌++◌, Some, None, refl, drop-cons, add-one, arith, sym, ◌∙◌, ap, subst, if◌then◌else◌, codes}
use Rattle.std.proofs.lemmas.Grind.{common_steps}
use Rattle.std.proofs.lemmas.List.{drop_all, length-take-le, take_all, take_more}
use Rattle.std.proofs.lemmas.Bool.{cases_lt, leb-true, eqb-true}
use Rattle.std.specs.List.{list_all, prefix_len, zip}
use Rattle.std.specs.Prelude.{IsSome, is_some, option_and_then}
use Rattle.warc_value.specs.Dates.{date_of, fits_place, instant_if_valid, instant_of}
use Rattle.warc_value.proofs.Alphabet.{both-left, both-right}
use Rattle.warc_value.proofs.DateLemmas.{by_place, date_of-fits, date_of-is, fits_from, fits_from-zip, has_length, long-fits, places, places-fit, reads}
use Rattle.warc_replay.specs.Captures.{date_front, full_date}

-- what is added for what is left out
abbrev first : List ℕ
first = codes "0000-01-01T00:00:00.000000000Z"

abbrev no_z : ℕ → Bool
no_z b = not (b == 90)

take_next : (k b : ℕ) (t : List ℕ) → take (1 + k) (b ∷ t) ≡ b ∷ take k t
take_next k b t = let next : 1 + k ≡ suc k = omega arith in ap (λ (n : ℕ). take n (b ∷ t)) next

front_next : (b : ℕ) (t : List ℕ) → no_z b ≡ true → date_front (b ∷ t) ≡ b ∷ date_front t
front_next b t other =
    let counted : prefix_len no_z (b ∷ t) ≡ 1 + prefix_len no_z t = rw other refl in
    ap (λ (n : ℕ). take n (b ∷ t)) counted ∙ take_next (prefix_len no_z t) b t

front_whole : (t : List ℕ) → list_all no_z t ≡ true → date_front t ≡ t
front_whole [] all = refl
front_whole (b ∷ t) all =
    front_next b t (both-left (no_z b) (list_all no_z t) all)
    ∙ ap (λ (r : List ℕ). b ∷ r) (front_whole t (both-right (no_z b) (list_all no_z t) all))

front_before : (t : List ℕ) → list_all no_z t ≡ true → date_front (t ++ 90 ∷ []) ≡ t
front_before [] all = refl
front_before (b ∷ t) all =
    front_next b (t ++ 90 ∷ []) (both-left (no_z b) (list_all no_z t) all)
    ∙ ap (λ (r : List ℕ). b ∷ r) (front_before t (both-right (no_z b) (list_all no_z t) all))

-- what fits a place other than Z is no Z
place_no_z : (place b : ℕ) → no_z place ≡ true → fits_place place b ≡ true → no_z b ≡ true
place_no_z place b other fits = elim (cases_lt b 58) [
  | inl low ↦ grind (arith, common_steps)
  | inr high ↦ grind (arith, common_steps)
]

zip_no_z : (ps t : List ℕ) → list_all no_z ps ≡ true → length t ≤ length ps → list_all (λ (pair : ℕ × ℕ). fits_place pair.0 pair.1) (zip ps t) ≡ true → list_all no_z t ≡ true
zip_no_z ps [] other few fits = refl
zip_no_z [] (b ∷ t) other few fits = absurd (omega arith)
zip_no_z (p ∷ ps) (b ∷ t) other few fits =
    let one = place_no_z p b (both-left _ _ other) (both-left _ _ fits) in
    rw one (zip_no_z ps t (both-right _ _ other) (omega arith) (both-right _ _ fits))

chosen : {A : Type 0} (b : Bool) (x y : A) → b ≡ true → (if b then x else y) ≡ x
chosen b x y is = rw is refl

reads-drop : (xs : List ℕ) (n at : ℕ) → length xs ≡ at + n → drop at xs ≡ reads (λ i. get_or xs i 0) at n
reads-drop xs zero at e = drop_all at xs (omega arith)
reads-drop xs (suc n) at e = rw (drop-cons xs at 0 (omega arith)) (ap (λ (ys : List ℕ). get_or xs at 0 ∷ ys) (subst (λ (k : ℕ). drop k xs ≡ reads (λ i. get_or xs i 0) (at + 1) n) (add-one at) (reads-drop xs n (at + 1) (omega arith))))

items : (xs : List ℕ) (n : ℕ) → length xs ≡ n → xs ≡ reads (λ i. get_or xs i 0) 0 n
items xs n e = reads-drop xs n 0 (omega arith)

-- a text of one of the short forms, and of the long ones without its Z, is completed
abbrev Completes : ℕ → List ℕ → List ℕ → Type 0
Completes n t text = fits_from n 0 text ≡ true → date_of (t ++ drop (length t) first) ≡ Some (by_place text)

full-4 : (f : ℕ → ℕ) → Completes 4 (reads f 0 4) (reads f 0 4)
unfolding fits_from by_place has_length
full-4 f fit = date_of-is (reads f 0 4 ++ drop 4 first) ∙ chosen (fits_from 30 0 (reads f 0 4 ++ drop 4 first)) (Some (by_place (reads f 0 4 ++ drop 4 first))) None fit

full-7 : (f : ℕ → ℕ) → Completes 7 (reads f 0 7) (reads f 0 7)
unfolding fits_from by_place has_length
full-7 f fit = date_of-is (reads f 0 7 ++ drop 7 first) ∙ chosen (fits_from 30 0 (reads f 0 7 ++ drop 7 first)) (Some (by_place (reads f 0 7 ++ drop 7 first))) None fit

full-10 : (f : ℕ → ℕ) → Completes 10 (reads f 0 10) (reads f 0 10)
unfolding fits_from by_place has_length
full-10 f fit = date_of-is (reads f 0 10 ++ drop 10 first) ∙ chosen (fits_from 30 0 (reads f 0 10 ++ drop 10 first)) (Some (by_place (reads f 0 10 ++ drop 10 first))) None fit

full-17 : (f : ℕ → ℕ) → Completes 17 (reads f 0 16) (reads f 0 16 ++ 90 ∷ [])
unfolding fits_from by_place has_length
full-17 f fit = date_of-is (reads f 0 16 ++ drop 16 first) ∙ chosen (fits_from 30 0 (reads f 0 16 ++ drop 16 first)) (Some (by_place (reads f 0 16 ++ drop 16 first))) None fit

full-20 : (f : ℕ → ℕ) → Completes 20 (reads f 0 19) (reads f 0 19 ++ 90 ∷ [])
unfolding fits_from by_place has_length
full-20 f fit = date_of-is (reads f 0 19 ++ drop 19 first) ∙ chosen (fits_from 30 0 (reads f 0 19 ++ drop 19 first)) (Some (by_place (reads f 0 19 ++ drop 19 first))) None fit

full-22 : (f : ℕ → ℕ) → Completes 22 (reads f 0 21) (reads f 0 21 ++ 90 ∷ [])
unfolding fits_from by_place has_length
full-22 f fit =
    let same : (by_place (reads f 0 21 ++ drop 21 first)).nanosecond ≡ (by_place (reads f 0 21 ++ 90 ∷ [])).nanosecond = omega arith in
    date_of-is (reads f 0 21 ++ drop 21 first) ∙ chosen (fits_from 30 0 (reads f 0 21 ++ drop 21 first)) (Some (by_place (reads f 0 21 ++ drop 21 first))) None fit
    ∙ ap (λ (n : ℕ). Some (record (by_place (reads f 0 21 ++ 90 ∷ [])) { nanosecond = n })) same

full-23 : (f : ℕ → ℕ) → Completes 23 (reads f 0 22) (reads f 0 22 ++ 90 ∷ [])
unfolding fits_from by_place has_length
full-23 f fit =
    let same : (by_place (reads f 0 22 ++ drop 22 first)).nanosecond ≡ (by_place (reads f 0 22 ++ 90 ∷ [])).nanosecond = omega arith in
    date_of-is (reads f 0 22 ++ drop 22 first) ∙ chosen (fits_from 30 0 (reads f 0 22 ++ drop 22 first)) (Some (by_place (reads f 0 22 ++ drop 22 first))) None fit
    ∙ ap (λ (n : ℕ). Some (record (by_place (reads f 0 22 ++ 90 ∷ [])) { nanosecond = n })) same

full-24 : (f : ℕ → ℕ) → Completes 24 (reads f 0 23) (reads f 0 23 ++ 90 ∷ [])
unfolding fits_from by_place has_length
full-24 f fit =
    let same : (by_place (reads f 0 23 ++ drop 23 first)).nanosecond ≡ (by_place (reads f 0 23 ++ 90 ∷ [])).nanosecond = omega arith in
    date_of-is (reads f 0 23 ++ drop 23 first) ∙ chosen (fits_from 30 0 (reads f 0 23 ++ drop 23 first)) (Some (by_place (reads f 0 23 ++ drop 23 first))) None fit
    ∙ ap (λ (n : ℕ). Some (record (by_place (reads f 0 23 ++ 90 ∷ [])) { nanosecond = n })) same

full-25 : (f : ℕ → ℕ) → Completes 25 (reads f 0 24) (reads f 0 24 ++ 90 ∷ [])
unfolding fits_from by_place has_length
full-25 f fit =
    let same : (by_place (reads f 0 24 ++ drop 24 first)).nanosecond ≡ (by_place (reads f 0 24 ++ 90 ∷ [])).nanosecond = omega arith in
    date_of-is (reads f 0 24 ++ drop 24 first) ∙ chosen (fits_from 30 0 (reads f 0 24 ++ drop 24 first)) (Some (by_place (reads f 0 24 ++ drop 24 first))) None fit
    ∙ ap (λ (n : ℕ). Some (record (by_place (reads f 0 24 ++ 90 ∷ [])) { nanosecond = n })) same

full-26 : (f : ℕ → ℕ) → Completes 26 (reads f 0 25) (reads f 0 25 ++ 90 ∷ [])
unfolding fits_from by_place has_length
full-26 f fit =
    let same : (by_place (reads f 0 25 ++ drop 25 first)).nanosecond ≡ (by_place (reads f 0 25 ++ 90 ∷ [])).nanosecond = omega arith in
    date_of-is (reads f 0 25 ++ drop 25 first) ∙ chosen (fits_from 30 0 (reads f 0 25 ++ drop 25 first)) (Some (by_place (reads f 0 25 ++ drop 25 first))) None fit
    ∙ ap (λ (n : ℕ). Some (record (by_place (reads f 0 25 ++ 90 ∷ [])) { nanosecond = n })) same

full-27 : (f : ℕ → ℕ) → Completes 27 (reads f 0 26) (reads f 0 26 ++ 90 ∷ [])
unfolding fits_from by_place has_length
full-27 f fit =
    let same : (by_place (reads f 0 26 ++ drop 26 first)).nanosecond ≡ (by_place (reads f 0 26 ++ 90 ∷ [])).nanosecond = omega arith in
    date_of-is (reads f 0 26 ++ drop 26 first) ∙ chosen (fits_from 30 0 (reads f 0 26 ++ drop 26 first)) (Some (by_place (reads f 0 26 ++ drop 26 first))) None fit
    ∙ ap (λ (n : ℕ). Some (record (by_place (reads f 0 26 ++ 90 ∷ [])) { nanosecond = n })) same

full-28 : (f : ℕ → ℕ) → Completes 28 (reads f 0 27) (reads f 0 27 ++ 90 ∷ [])
unfolding fits_from by_place has_length
full-28 f fit =
    let same : (by_place (reads f 0 27 ++ drop 27 first)).nanosecond ≡ (by_place (reads f 0 27 ++ 90 ∷ [])).nanosecond = omega arith in
    date_of-is (reads f 0 27 ++ drop 27 first) ∙ chosen (fits_from 30 0 (reads f 0 27 ++ drop 27 first)) (Some (by_place (reads f 0 27 ++ drop 27 first))) None fit
    ∙ ap (λ (n : ℕ). Some (record (by_place (reads f 0 27 ++ 90 ∷ [])) { nanosecond = n })) same

full-29 : (f : ℕ → ℕ) → Completes 29 (reads f 0 28) (reads f 0 28 ++ 90 ∷ [])
unfolding fits_from by_place has_length
full-29 f fit =
    let same : (by_place (reads f 0 28 ++ drop 28 first)).nanosecond ≡ (by_place (reads f 0 28 ++ 90 ∷ [])).nanosecond = omega arith in
    date_of-is (reads f 0 28 ++ drop 28 first) ∙ chosen (fits_from 30 0 (reads f 0 28 ++ drop 28 first)) (Some (by_place (reads f 0 28 ++ drop 28 first))) None fit
    ∙ ap (λ (n : ℕ). Some (record (by_place (reads f 0 28 ++ 90 ∷ [])) { nanosecond = n })) same

full-30 : (f : ℕ → ℕ) → Completes 30 (reads f 0 29) (reads f 0 29 ++ 90 ∷ [])
unfolding fits_from by_place has_length
full-30 f fit =
    let same : (by_place (reads f 0 29 ++ drop 29 first)).nanosecond ≡ (by_place (reads f 0 29 ++ 90 ∷ [])).nanosecond = omega arith in
    date_of-is (reads f 0 29 ++ drop 29 first) ∙ chosen (fits_from 30 0 (reads f 0 29 ++ drop 29 first)) (Some (by_place (reads f 0 29 ++ drop 29 first))) None fit
    ∙ ap (λ (n : ℕ). Some (record (by_place (reads f 0 29 ++ 90 ∷ [])) { nanosecond = n })) same

-- a text of a short form is its own front
short_front : (text : List ℕ) → has_length (length text) ≡ true → fits_from (length text) 0 text ≡ true → length text ≤ 10 → date_front text ≡ text
short_front text has fit short =
    front_whole text (zip_no_z places text refl (omega arith) (sym (fits_from-zip (length text) 0 text (omega arith) (inl short)) ∙ fit))

-- one of a long form is its front and a Z
long_front : (text : List ℕ) → has_length (length text) ≡ true → true ≡ is_some (date_of text) → 10 < length text → length text ≤ 30
    → (date_front text ≡ take (length text - 1) text) × (text ≡ take (length text - 1) text ++ 90 ∷ [])
long_front text has there long few =
    let n = length text in
    let front : List ℕ = take (n - 1) text in
    let both = long-fits text has long ∙ sym there in
    let z : get_or text (n - 1) 0 ≡ 90 = eqb-true _ _ (both-right _ _ both) in
    let size : length front ≡ n - 1 = length-take-le (n - 1) text (omega arith) in
    let whole : text ≡ front ++ get_or text (n - 1) 0 ∷ [] = sym (take_all (n - 1 + 1) text (omega arith)) ∙ take_more text (n - 1) 0 (omega arith) in
    let ends : text ≡ front ++ 90 ∷ [] = whole ∙ ap (λ (b : ℕ). front ++ b ∷ []) z in
    let plain = zip_no_z places front refl (omega arith) (both-left _ _ both) in
    (ap (λ (t : List ℕ). date_front t) ends ∙ front_before front plain, ends)

full_as : (text t : List ℕ) → date_front text ≡ t → full_date text ≡ t ++ drop (length t) first
unfolding full_date
full_as text t is = ap (λ (u : List ℕ). u ++ drop (length u) first) is

by_short : (n : ℕ) (text : List ℕ) → length text ≡ n → n ≤ 10 → has_length (length text) ≡ true → fits_from (length text) 0 text ≡ true
    → ((f : ℕ → ℕ) → Completes n (reads f 0 n) (reads f 0 n)) → date_of (full_date text) ≡ Some (by_place text)
by_short n text size short has fit full =
    let f : ℕ → ℕ = λ i. get_or text i 0 in
    let is : text ≡ reads f 0 n = items text n size in
    let done : Completes n text text = subst (λ (t : List ℕ). Completes n t t) (sym is) (full f) in
    ap date_of (full_as text text (short_front text has fit (omega (arith, size, short)))) ∙ done (subst (λ (m : ℕ). fits_from m 0 text ≡ true) size fit)

by_long : (k : ℕ) (text : List ℕ) → length text ≡ suc k → 10 ≤ k → k ≤ 29 → has_length (length text) ≡ true → fits_from (length text) 0 text ≡ true → true ≡ is_some (date_of text)
    → ((f : ℕ → ℕ) → Completes (suc k) (reads f 0 k) (reads f 0 k ++ 90 ∷ [])) → date_of (full_date text) ≡ Some (by_place text)
by_long k text size long few has fit there full =
    let front : List ℕ = take (length text - 1) text in
    let parts = long_front text has there (omega (arith, size, long)) (omega (arith, size, few)) in
    let length_is : length front ≡ k = length-take-le (length text - 1) text (omega arith) ∙ omega (arith, size) in
    let f : ℕ → ℕ = λ i. get_or front i 0 in
    let is : front ≡ reads f 0 k = items front k length_is in
    let done : Completes (suc k) front (front ++ 90 ∷ []) = subst (λ (t : List ℕ). Completes (suc k) t (t ++ 90 ∷ [])) (sym is) (full f) in
    let here : Completes (suc k) front text = subst (λ (t : List ℕ). Completes (suc k) front t) (sym parts.1) done in
    ap date_of (full_as text front parts.0) ∙ here (subst (λ (m : ℕ). fits_from m 0 text ≡ true) size fit)

equal_or : (n k : ℕ) → (n ≡ k) ⊎ (nat_eq n k ≡ false)
equal_or n k = elim (cases_lt n k) [ inl a ↦ inr (grind (arith, common_steps)) | inr a ↦ elim (cases_lt k n) [ inl b ↦ inr (grind (arith, common_steps)) | inr b ↦ inl (omega arith) ] ]

with_fraction : (n : ℕ) → has_length n ≡ true → nat_eq n 4 ≡ false → nat_eq n 7 ≡ false → nat_eq n 10 ≡ false → nat_eq n 17 ≡ false → nat_eq n 20 ≡ false → (22 ≤ n) × (n ≤ 30)
unfolding has_length
with_fraction n has n4 n7 n10 n17 n20 =
    let both : (nat_le 22 n && nat_le n 30) ≡ true = rw (n4, n7, n10, n17, n20) at has in
    (leb-true _ _ (both-left _ _ both), leb-true _ _ (both-right _ _ both))

fraction : (text : List ℕ) → has_length (length text) ≡ true → fits_from (length text) 0 text ≡ true → true ≡ is_some (date_of text) → 22 ≤ length text → length text ≤ 30 → date_of (full_date text) ≡ Some (by_place text)
fraction text has fit there least most =
    elim (cases_lt (length text) 23) [
      | inl is ↦ by_long 21 text (omega arith) (omega arith) (omega arith) has fit there full-22
      | inr not_22 ↦ elim (cases_lt (length text) 24) [
        | inl is ↦ by_long 22 text (omega arith) (omega arith) (omega arith) has fit there full-23
        | inr not_23 ↦ elim (cases_lt (length text) 25) [
          | inl is ↦ by_long 23 text (omega arith) (omega arith) (omega arith) has fit there full-24
          | inr not_24 ↦ elim (cases_lt (length text) 26) [
            | inl is ↦ by_long 24 text (omega arith) (omega arith) (omega arith) has fit there full-25
            | inr not_25 ↦ elim (cases_lt (length text) 27) [
              | inl is ↦ by_long 25 text (omega arith) (omega arith) (omega arith) has fit there full-26
              | inr not_26 ↦ elim (cases_lt (length text) 28) [
                | inl is ↦ by_long 26 text (omega arith) (omega arith) (omega arith) has fit there full-27
                | inr not_27 ↦ elim (cases_lt (length text) 29) [
                  | inl is ↦ by_long 27 text (omega arith) (omega arith) (omega arith) has fit there full-28
                  | inr not_28 ↦ elim (cases_lt (length text) 30) [
                    | inl is ↦ by_long 28 text (omega arith) (omega arith) (omega arith) has fit there full-29
                    | inr not_29 ↦ by_long 29 text (omega arith) (omega arith) (omega arith) has fit there full-30
                  ]
                ]
              ]
            ]
          ]
        ]
      ]
    ]

completed : (text : List ℕ) → true ≡ is_some (date_of text) → date_of (full_date text) ≡ Some (by_place text)
completed text there =
    let fits_it = places-fit text there in
    let has = fits_it.0 in
    let fit = fits_it.1 in
    elim (equal_or (length text) 4) [
      | inl is ↦ by_short 4 text is (omega arith) has fit full-4
      | inr n4 ↦ elim (equal_or (length text) 7) [
        | inl is ↦ by_short 7 text is (omega arith) has fit full-7
        | inr n7 ↦ elim (equal_or (length text) 10) [
          | inl is ↦ by_short 10 text is (omega arith) has fit full-10
          | inr n10 ↦ elim (equal_or (length text) 17) [
            | inl is ↦ by_long 16 text is (omega arith) (omega arith) has fit there full-17
            | inr n17 ↦ elim (equal_or (length text) 20) [
              | inl is ↦ by_long 19 text is (omega arith) (omega arith) has fit there full-20
              | inr n20 ↦ let range = with_fraction (length text) has n4 n7 n10 n17 n20 in fraction text has fit there range.0 range.1
            ]
          ]
        ]
      ]
    ]

has_date : (text : List ℕ) → IsSome (instant_of text) → true ≡ is_some (date_of text)
unfolding instant_of
has_date text some = grind (arith, common_steps)

pub full_instant : (date : List ℕ) → IsSome (instant_of date) → instant_of (full_date date) ≡ instant_of date
unfolding instant_of
full_instant date some =
    let there = has_date date some in
    ap (λ d. option_and_then instant_if_valid d) (completed date there ∙ sym (date_of-fits date there))
