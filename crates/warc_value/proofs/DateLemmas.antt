-- Digits, and the forms of dates by their lengths.
use Rattle.std.proofs.Common.{◌≡◌, ℕ, zero, suc, ◌+◌, ◌-◌, ◌*◌, ◌^◌, ◌<◌, ◌≤◌, ◌==◌, Bool, true, false, ◌&&◌, ◌||◌, not, ◌⊎◌, inl, inr, nat_eq, nat_le, nat_lt, get_or, take, drop, length, List, [], ◌∷◌, ◌++◌, Option, Some, None, refl, drop-cons, add-one, add-zero, zero-add, arith, sym, ◌∙◌, ap, subst, if◌then◌else◌, codes, lit<, pow-add, mul-le-mul_right, le_of_lt}
use Rattle.std.proofs.lemmas.Grind.{common_steps, pow_more}
use Rattle.std.proofs.lemmas.List.{drop_all, length-take, length-take-le, length-drop, take_all, take_more, get_or-take, get_or-drop}
use Rattle.std.proofs.lemmas.List.Folds.{list_all-append}
use Rattle.std.proofs.Math.Seq.{take-add}
use Rattle.std.proofs.lemmas.Bool.{cases_lt, leb-true, lt-ltb, eqb-true}
use Rattle.std.proofs.Math.Bool.{and_assoc}
use Rattle.std.proofs.Math.Nat.{pow-le-pow_right}
use Rattle.std.proofs.lemmas.Int.Digits.{digits_value_more}
use Rattle.std.specs.List.{list_all, list_any, zip}
use Rattle.std.specs.Char.{is_ascii_digit, digit_value}
use Rattle.std.specs.Str.Parse.{digits_value}
use Rattle.std.specs.Prelude.{is_some, option_map}
use Rattle.warc_value.specs.declared.date.Date.{Date}
use Rattle.warc_value.specs.declared.date.TheConstants.{LEAST, GREATEST}
use Rattle.warc_value.proofs.Alphabet.{all_below, passes_below, both-left, both-right}
use Rattle.warc_value.specs.Dates.{fits_place, is_form_length, forms, fits, date_in, date_of, number_or}

pub list_all-get_or : (p : ℕ → Bool) (xs : List ℕ) (i : ℕ) → list_all p xs ≡ true → i < length xs → p (get_or xs i 0) ≡ true
list_all-get_or p [] i all below = absurd (omega arith)
list_all-get_or p (x ∷ xs) zero all below = grind (arith, common_steps)
list_all-get_or p (x ∷ xs) (suc i) all below = list_all-get_or p xs i (grind (arith, common_steps)) (omega arith)

pub digit-range : (b : ℕ) → is_ascii_digit b ≡ true → (48 ≤ b) × (b ≤ 57)
digit-range b e = grind (arith, common_steps)

-- one more digit of at most nine
pub number-more : (ds : List ℕ) (i n : ℕ) → length ds ≤ 9 → list_all is_ascii_digit ds ≡ true → i < length ds
    → n ≡ digits_value 10 (take i ds) → n < 10 ^ i
    → (n * 10 + (get_or ds i 0 - 48) ≡ digits_value 10 (take (i + 1) ds)) × (n * 10 + (get_or ds i 0 - 48) < 10 ^ (i + 1)) × (n * 10 + (get_or ds i 0 - 48) < 2 ^ 32)
number-more ds i n few all below is small =
    let range : (48 ≤ get_or ds i 0) × (get_or ds i 0 ≤ 57) = digit-range _ (list_all-get_or is_ascii_digit ds i all below) in
    let step : digits_value 10 (take (i + 1) ds) ≡ digits_value 10 (take i ds) * 10 + digit_value (get_or ds i 0) = digits_value_more 10 ds i below in
    let value : digit_value (get_or ds i 0) ≡ get_or ds i 0 - 48 = grind (arith, common_steps) in
    let more : 10 ^ (i + 1) ≡ 10 ^ i * 10 = pow_more 10 i in
    let nine : i + 1 ≤ 9 = omega arith in
    let most : 10 ^ (i + 1) ≤ 10 ^ 9 = pow-le-pow_right (lit< tt) nine in
    (grind (arith, common_steps), omega arith, omega arith)

-- the longest form without its Z
abbrev pub places : List ℕ
places = codes "YYYY-MM-DDThh:mm:ss.fffffffff"

-- what a form of n characters has at a place
abbrev pub place_of : ℕ → ℕ → ℕ
place_of n at = if nat_lt 10 n && nat_eq (at + 1) n then 90 else get_or places at 0

-- whether bytes may stand where the form of n characters has those from a place on
unfoldable pub fits_from : ℕ → ℕ → List ℕ → Bool
fits_from n at [] = true
fits_from n at (b ∷ bs) = fits_place (place_of n at) b && fits_from n (at + 1) bs

-- the number of two digits at a place, or the first one of its kind where the text ends before
abbrev pub number_in : List ℕ → ℕ → ℕ → ℕ
number_in text from first = if nat_lt from (length text) then digits_value 10 (take 2 (drop from text)) else first

-- the digits of a fraction
abbrev pub fraction_of : List ℕ → List ℕ
fraction_of text = take (length text - 1 - 20) (drop 20 text)

-- what a text says by the places of its digits
unfoldable pub by_place : List ℕ → Date
by_place text = record {
  year = digits_value 10 (take 4 text);
  month = number_in text 5 1;
  day = number_in text 8 1;
  hour = number_in text 11 0;
  minute = number_in text 14 0;
  second = number_in text 17 0;
  nanosecond = number_or 0 (fraction_of text) * 10 ^ (9 - length (fraction_of text));
}

abbrev pub date_by_place : ℕ → List ℕ → Option Date
date_by_place n text = if fits_from n 0 text then Some (by_place text) else None

-- the items of a list, read one by one from an index on
abbrev pub reads : (ℕ → ℕ) → ℕ → ℕ → List ℕ
reads f at zero = []
reads f at (suc n) = f at ∷ reads f (at + 1) n

reads-drop : (xs : List ℕ) (n at : ℕ) → length xs ≡ at + n → drop at xs ≡ reads (λ i. get_or xs i 0) at n
reads-drop xs zero at e = drop_all at xs (omega arith)
reads-drop xs (suc n) at e = rw (drop-cons xs at 0 (omega arith)) (ap (λ (ys : List ℕ). get_or xs at 0 ∷ ys) (subst (λ (k : ℕ). drop k xs ≡ reads (λ i. get_or xs i 0) (at + 1) n) (add-one at) (reads-drop xs n (at + 1) (omega arith))))

items : (xs : List ℕ) (n : ℕ) → length xs ≡ n → xs ≡ reads (λ i. get_or xs i 0) 0 n
items xs n e = reads-drop xs n 0 (omega arith)

option_map-if : {A B : Type 0} (b : Bool) (f : A → B) (x : A) → option_map f (if b then Some x else None) ≡ (if b then Some (f x) else None)
option_map-if true f x = refl
option_map-if false f x = refl

-- for each length that a form has
same-4 : (f : ℕ → ℕ) → date_of (reads f 0 4) ≡ date_by_place 4 (reads f 0 4)
unfolding date_of forms fits date_in fits_from by_place
same-4 f = option_map-if _ (date_in (reads f 0 4)) (codes "YYYY")

same-7 : (f : ℕ → ℕ) → date_of (reads f 0 7) ≡ date_by_place 7 (reads f 0 7)
unfolding date_of forms fits date_in fits_from by_place
same-7 f = option_map-if _ (date_in (reads f 0 7)) (codes "YYYY-MM")

same-10 : (f : ℕ → ℕ) → date_of (reads f 0 10) ≡ date_by_place 10 (reads f 0 10)
unfolding date_of forms fits date_in fits_from by_place
same-10 f = option_map-if _ (date_in (reads f 0 10)) (codes "YYYY-MM-DD")

same-17 : (f : ℕ → ℕ) → date_of (reads f 0 17) ≡ date_by_place 17 (reads f 0 17)
unfolding date_of forms fits date_in fits_from by_place
same-17 f = option_map-if _ (date_in (reads f 0 17)) (codes "YYYY-MM-DDThh:mmZ")

same-20 : (f : ℕ → ℕ) → date_of (reads f 0 20) ≡ date_by_place 20 (reads f 0 20)
unfolding date_of forms fits date_in fits_from by_place
same-20 f = option_map-if _ (date_in (reads f 0 20)) (codes "YYYY-MM-DDThh:mm:ssZ")

same-22 : (f : ℕ → ℕ) → date_of (reads f 0 22) ≡ date_by_place 22 (reads f 0 22)
unfolding date_of forms fits date_in fits_from by_place
same-22 f = option_map-if _ (date_in (reads f 0 22)) (codes "YYYY-MM-DDThh:mm:ss.fZ")

same-23 : (f : ℕ → ℕ) → date_of (reads f 0 23) ≡ date_by_place 23 (reads f 0 23)
unfolding date_of forms fits date_in fits_from by_place
same-23 f = option_map-if _ (date_in (reads f 0 23)) (codes "YYYY-MM-DDThh:mm:ss.ffZ")

same-24 : (f : ℕ → ℕ) → date_of (reads f 0 24) ≡ date_by_place 24 (reads f 0 24)
unfolding date_of forms fits date_in fits_from by_place
same-24 f = option_map-if _ (date_in (reads f 0 24)) (codes "YYYY-MM-DDThh:mm:ss.fffZ")

same-25 : (f : ℕ → ℕ) → date_of (reads f 0 25) ≡ date_by_place 25 (reads f 0 25)
unfolding date_of forms fits date_in fits_from by_place
same-25 f = option_map-if _ (date_in (reads f 0 25)) (codes "YYYY-MM-DDThh:mm:ss.ffffZ")

same-26 : (f : ℕ → ℕ) → date_of (reads f 0 26) ≡ date_by_place 26 (reads f 0 26)
unfolding date_of forms fits date_in fits_from by_place
same-26 f = option_map-if _ (date_in (reads f 0 26)) (codes "YYYY-MM-DDThh:mm:ss.fffffZ")

same-27 : (f : ℕ → ℕ) → date_of (reads f 0 27) ≡ date_by_place 27 (reads f 0 27)
unfolding date_of forms fits date_in fits_from by_place
same-27 f = option_map-if _ (date_in (reads f 0 27)) (codes "YYYY-MM-DDThh:mm:ss.ffffffZ")

same-28 : (f : ℕ → ℕ) → date_of (reads f 0 28) ≡ date_by_place 28 (reads f 0 28)
unfolding date_of forms fits date_in fits_from by_place
same-28 f = option_map-if _ (date_in (reads f 0 28)) (codes "YYYY-MM-DDThh:mm:ss.fffffffZ")

same-29 : (f : ℕ → ℕ) → date_of (reads f 0 29) ≡ date_by_place 29 (reads f 0 29)
unfolding date_of forms fits date_in fits_from by_place
same-29 f = option_map-if _ (date_in (reads f 0 29)) (codes "YYYY-MM-DDThh:mm:ss.ffffffffZ")

same-30 : (f : ℕ → ℕ) → date_of (reads f 0 30) ≡ date_by_place 30 (reads f 0 30)
unfolding date_of forms fits date_in fits_from by_place
same-30 f = option_map-if _ (date_in (reads f 0 30)) (codes "YYYY-MM-DDThh:mm:ss.fffffffffZ")

abbrev pub same_bool : Bool → Bool → Bool
same_bool true b = b
same_bool false b = not b

same_test : (a b : Bool) → same_bool a b ≡ true → a ≡ b
same_test true b e = sym e
same_test false true e = e
same_test false false e = refl

-- the lengths that forms have
unfoldable pub has_length : ℕ → Bool
has_length n = nat_eq n 4 || nat_eq n 7 || nat_eq n 10 || nat_eq n 17 || nat_eq n 20 || (nat_le 22 n && nat_le n 30)

equal_or : (n k : ℕ) → (n ≡ k) ⊎ (nat_eq n k ≡ false)
equal_or n k = elim (cases_lt n k) [ inl a ↦ inr (grind (arith, common_steps)) | inr a ↦ elim (cases_lt k n) [ inl b ↦ inr (grind (arith, common_steps)) | inr b ↦ inl (omega arith) ] ]

abbrev pub between : ℕ → Bool
between n = not (nat_le 22 n && nat_le n 30) || nat_eq n 22 || nat_eq n 23 || nat_eq n 24 || nat_eq n 25 || nat_eq n 26 || nat_eq n 27 || nat_eq n 28 || nat_eq n 29 || nat_eq n 30

no_fraction : (n : ℕ) → nat_eq n 22 ≡ false → nat_eq n 23 ≡ false → nat_eq n 24 ≡ false → nat_eq n 25 ≡ false → nat_eq n 26 ≡ false → nat_eq n 27 ≡ false → nat_eq n 28 ≡ false → nat_eq n 29 ≡ false → nat_eq n 30 ≡ false → (nat_le 22 n && nat_le n 30) ≡ false
no_fraction n n22 n23 n24 n25 n26 n27 n28 n29 n30 = elim (cases_lt n 31) [
  | inl a ↦ let p : between n ≡ true = passes_below between 31 refl n a in
      let q = rw (n22, n23, n24, n25, n26, n27, n28, n29, n30) at p in grind (arith, common_steps)
  | inr b ↦ grind (arith, common_steps)
]

at-length : (text : List ℕ) (n : ℕ) → has_length n ≡ true → ((f : ℕ → ℕ) → date_of (reads f 0 n) ≡ date_by_place n (reads f 0 n)) → length text ≡ n
    → date_of text ≡ (if has_length (length text) then date_by_place (length text) text else None)
at-length text n has same e = rw (e, has) (subst (λ (xs : List ℕ). date_of xs ≡ date_by_place n xs) (sym (items text n e)) (same _))

no-length : (text : List ℕ) → nat_eq (length text) 4 ≡ false → nat_eq (length text) 7 ≡ false → nat_eq (length text) 10 ≡ false → nat_eq (length text) 17 ≡ false → nat_eq (length text) 20 ≡ false → nat_eq (length text) 22 ≡ false → nat_eq (length text) 23 ≡ false → nat_eq (length text) 24 ≡ false → nat_eq (length text) 25 ≡ false → nat_eq (length text) 26 ≡ false → nat_eq (length text) 27 ≡ false → nat_eq (length text) 28 ≡ false → nat_eq (length text) 29 ≡ false → nat_eq (length text) 30 ≡ false → (if has_length (length text) then date_by_place (length text) text else None) ≡ date_of text
unfolding date_of forms fits has_length
no-length text n4 n7 n10 n17 n20 n22 n23 n24 n25 n26 n27 n28 n29 n30 =
    let no = no_fraction (length text) n22 n23 n24 n25 n26 n27 n28 n29 n30 in
    rw (no, n4, n7, n10, n17, n20, n22, n23, n24, n25, n26, n27, n28, n29, n30) refl

-- what a text states, by its length and by place
pub date_of-is : (text : List ℕ) → date_of text ≡ (if has_length (length text) then date_by_place (length text) text else None)
unfolding has_length
date_of-is text =
    elim (equal_or (length text) 4) [
      | inl e ↦ at-length text 4 refl same-4 e
      | inr n4 ↦
          elim (equal_or (length text) 7) [
            | inl e ↦ at-length text 7 refl same-7 e
            | inr n7 ↦
                elim (equal_or (length text) 10) [
                  | inl e ↦ at-length text 10 refl same-10 e
                  | inr n10 ↦
                      elim (equal_or (length text) 17) [
                        | inl e ↦ at-length text 17 refl same-17 e
                        | inr n17 ↦
                            elim (equal_or (length text) 20) [
                              | inl e ↦ at-length text 20 refl same-20 e
                              | inr n20 ↦
                                  elim (equal_or (length text) 22) [
                                    | inl e ↦ at-length text 22 refl same-22 e
                                    | inr n22 ↦
                                        elim (equal_or (length text) 23) [
                                          | inl e ↦ at-length text 23 refl same-23 e
                                          | inr n23 ↦
                                              elim (equal_or (length text) 24) [
                                                | inl e ↦ at-length text 24 refl same-24 e
                                                | inr n24 ↦
                                                    elim (equal_or (length text) 25) [
                                                      | inl e ↦ at-length text 25 refl same-25 e
                                                      | inr n25 ↦
                                                          elim (equal_or (length text) 26) [
                                                            | inl e ↦ at-length text 26 refl same-26 e
                                                            | inr n26 ↦
                                                                elim (equal_or (length text) 27) [
                                                                  | inl e ↦ at-length text 27 refl same-27 e
                                                                  | inr n27 ↦
                                                                      elim (equal_or (length text) 28) [
                                                                        | inl e ↦ at-length text 28 refl same-28 e
                                                                        | inr n28 ↦
                                                                            elim (equal_or (length text) 29) [
                                                                              | inl e ↦ at-length text 29 refl same-29 e
                                                                              | inr n29 ↦
                                                                                  elim (equal_or (length text) 30) [
                                                                                    | inl e ↦ at-length text 30 refl same-30 e
                                                                                    | inr n30 ↦
                                                                                        sym (no-length text n4 n7 n10 n17 n20 n22 n23 n24 n25 n26 n27 n28 n29 n30)
                                                                                  ]
                                                                            ]
                                                                      ]
                                                                ]
                                                          ]
                                                    ]
                                              ]
                                        ]
                                  ]
                            ]
                      ]
                ]
          ]
    ]

-- a text of this length has one of the forms where its bytes may stand at their places
pub has_form-length : (text : List ℕ) → has_length (length text) ≡ false → false ≡ is_some (date_of text)
has_form-length text wrong = rw (date_of-is text, wrong) refl

pub has_form-fits : (text : List ℕ) → has_length (length text) ≡ true → fits_from (length text) 0 text ≡ is_some (date_of text)
has_form-fits text has = let is = date_of-is text in grind (arith, common_steps)

and_true : (a : Bool) → (a && true) ≡ a
and_true true = refl
and_true false = refl

-- one byte more
pub fits_from-more : (n at : ℕ) (bs : List ℕ) (b : ℕ) → fits_from n at (bs ++ (b ∷ [])) ≡ (fits_from n at bs && fits_place (place_of n (at + length bs)) b)
unfolding fits_from
fits_from-more n at [] b = rw add-zero (and_true (fits_place (place_of n at) b))
fits_from-more n at (x ∷ bs) b =
    let e : at + 1 + length bs ≡ at + suc (length bs) = omega arith in
    rw (← e, fits_from-more n (at + 1) bs b) (sym (and_assoc (fits_place (place_of n at) x) (fits_from n (at + 1) bs) (fits_place (place_of n (at + 1 + length bs)) b)))

zip-none : (xs : List ℕ) → zip {K = ℕ} {X = ℕ} xs [] ≡ []
zip-none [] = refl
zip-none (x ∷ xs) = refl

-- before its last place, a form has the longest one's
place-in_front : (n at k : ℕ) → (n ≤ 10) ⊎ (at + suc k < n) → place_of n at ≡ get_or places at 0
place-in_front n at k front = elim front [ inl short ↦ grind (arith, common_steps) | inr early ↦ grind (arith, common_steps) ]

pub fits_from-zip : (n at : ℕ) (bs : List ℕ) → at + length bs ≤ 29 → (n ≤ 10) ⊎ (at + length bs < n) → fits_from n at bs ≡ list_all (λ (pair : ℕ × ℕ). fits_place pair.0 pair.1) (zip (drop at places) bs)
unfolding fits_from
fits_from-zip n at [] few front = rw (zip-none (drop at places)) refl
fits_from-zip n at (b ∷ bs) few front =
    let inside : at < 29 = omega arith in
    let later : (n ≤ 10) ⊎ (at + 1 + length bs < n) = elim front [ inl short ↦ inl short | inr early ↦ inr (omega arith) ] in
    let rest = subst (λ (k : ℕ). fits_from n (at + 1) bs ≡ list_all (λ (pair : ℕ × ℕ). fits_place pair.0 pair.1) (zip (drop k places) bs)) (add-one at) (fits_from-zip n (at + 1) bs (omega arith) later) in
    rw (drop-cons places at 0 inside, place-in_front n at (length bs) front) (ap (λ (fit : Bool). fits_place (get_or places at 0) b && fit) rest)

-- a digit is there
abbrev pub is_letter : ℕ → Bool
is_letter place = list_any (λ letter. letter == place) (codes "YMDhmsf")

between_same : (place b : ℕ) → (nat_le place b && nat_le b place) ≡ nat_eq b place
between_same place b = elim (equal_or b place) [ inl e ↦ grind (arith, common_steps) | inr e ↦ grind (arith, common_steps) ]

-- the least and the greatest byte of a place
in_range : (letter : Bool) (place least greatest b : ℕ) → is_letter place ≡ letter
    → (if letter then nat_eq least 48 && nat_eq greatest 57 else nat_eq least place && nat_eq greatest place) ≡ true
    → (nat_le least b && nat_le b greatest) ≡ fits_place place b
in_range true place least greatest b e bounds =
    let l : least ≡ 48 = eqb-true _ _ (both-left _ _ bounds) in
    let g : greatest ≡ 57 = eqb-true _ _ (both-right _ _ bounds) in
    rw (l, g, e) refl
in_range false place least greatest b e bounds =
    let l : least ≡ place = eqb-true _ _ (both-left _ _ bounds) in
    let g : greatest ≡ place = eqb-true _ _ (both-right _ _ bounds) in
    rw (l, g, e) (between_same place b)

abbrev pub has_bounds : ℕ → ℕ → ℕ → Bool
has_bounds place least greatest = if is_letter place then nat_eq least 48 && nat_eq greatest 57 else nat_eq least place && nat_eq greatest place

pub place-range : (at b : ℕ) → at < 29 → (nat_le (get_or LEAST at 0) b && nat_le b (get_or GREATEST at 0)) ≡ fits_place (get_or places at 0) b
place-range at b inside =
    in_range _ (get_or places at 0) (get_or LEAST at 0) (get_or GREATEST at 0) b refl
    (passes_below (λ at. has_bounds (get_or places at 0) (get_or LEAST at 0) (get_or GREATEST at 0)) 29 refl at inside)

-- a byte more in the first places
pub fit-more : (bs : List ℕ) (at : ℕ) (fit : Bool) → length bs ≤ 29 → at < length bs → fit ≡ fits_from 0 0 (take at bs)
    → (fit && (nat_le (get_or LEAST at 0) (get_or bs at 0) && nat_le (get_or bs at 0) (get_or GREATEST at 0))) ≡ fits_from 0 0 (take (at + 1) bs)
fit-more bs at fit few below so_far =
    let e : length (take at bs) ≡ at = length-take-le at bs (omega arith) in
    let more = fits_from-more 0 0 (take at bs) (get_or bs at 0) in
    rw (take_more bs at 0 below, more, e, zero-add, ← so_far, place-range at (get_or bs at 0) (omega arith)) refl

pub fit-whole : (bs : List ℕ) (at : ℕ) → length bs ≤ 29 → length bs ≤ at → fits_from 0 0 (take at bs) ≡ list_all (λ (pair : ℕ × ℕ). fits_place pair.0 pair.1) (zip places bs)
fit-whole bs at few past = rw (take_all at bs past) (fits_from-zip 0 0 bs (omega arith) (inl (omega arith)))

-- a length is that of a form by the forms themselves
pub length-matches : (n : ℕ) → is_form_length n ≡ has_length n
unfolding forms has_length
length-matches n = elim (cases_lt n 31) [
  | inl a ↦ same_test _ _ (passes_below (λ n. same_bool (is_form_length n) (has_length n)) 31 refl n a)
  | inr b ↦ grind (arith, common_steps)
]

abbrev pub implies : Bool → Bool → Bool
implies a b = not a || b

holds : (a b : Bool) → implies a b ≡ true → a ≡ true → b ≡ true
holds a b e h = rw h at e

letter-digit : (place b : ℕ) → is_letter place ≡ true → fits_place place b ≡ true → is_ascii_digit b ≡ true
letter-digit place b letter fit = rw letter at fit

-- what has a form fits its places
pub places-fit : (text : List ℕ) → true ≡ is_some (date_of text) → (has_length (length text) ≡ true) × (fits_from (length text) 0 text ≡ true)
places-fit text some = let is = date_of-is text in (grind (arith, common_steps), grind (arith, common_steps))

pub date_of-fits : (text : List ℕ) → true ≡ is_some (date_of text) → date_of text ≡ Some (by_place text)
date_of-fits text some = let fit = places-fit text some in rw (date_of-is text, fit.0, fit.1) refl

fits_from-at : (n at : ℕ) (xs : List ℕ) (k : ℕ) → fits_from n at xs ≡ true → k < length xs → fits_place (place_of n (at + k)) (get_or xs k 0) ≡ true
unfolding fits_from
fits_from-at n at [] k fit below = absurd (omega arith)
fits_from-at n at (x ∷ xs) zero fit below = rw add-zero (both-left _ _ fit)
fits_from-at n at (x ∷ xs) (suc k) fit below =
    let e : at + 1 + k ≡ at + suc k = omega arith in
    subst (λ (place : ℕ). fits_place (place_of n place) (get_or xs k 0) ≡ true) e (fits_from-at n (at + 1) xs k (both-right _ _ fit) (omega arith))

-- two letters side by side of the longest form, in every form that reaches the first
abbrev pub two_letters : ℕ → ℕ → Bool
two_letters n at =
    implies (has_length n) (implies (nat_lt at n) (implies (is_letter (get_or places at 0) && is_letter (get_or places (at + 1) 0))
    (nat_le (at + 2) n && (is_letter (place_of n at) && is_letter (place_of n (at + 1))))))

all-two_letters : all_below (λ n. all_below (λ at. two_letters n at) 19) 31 ≡ true
unfolding has_length
all-two_letters = refl

has_length-few : (n : ℕ) → has_length n ≡ true → n < 31
unfolding has_length
has_length-few n has = elim (cases_lt n 31) [ inl a ↦ a | inr b ↦ grind (arith, common_steps) ]

-- a text of a form without a time, and of a form with one
pub short-fits : (text : List ℕ) → has_length (length text) ≡ true → length text ≤ 10
    → list_all (λ (pair : ℕ × ℕ). fits_place pair.0 pair.1) (zip places text) ≡ is_some (date_of text)
short-fits text has short = sym (fits_from-zip (length text) 0 text (omega arith) (inl short)) ∙ has_form-fits text has

pub long-fits : (text : List ℕ) → has_length (length text) ≡ true → 10 < length text
    → (list_all (λ (pair : ℕ × ℕ). fits_place pair.0 pair.1) (zip places (take (length text - 1) text)) && nat_eq (get_or text (length text - 1) 0) 90) ≡ is_some (date_of text)
long-fits text has long =
    let n = length text in
    let few : n < 31 = has_length-few n has in
    let front : List ℕ = take (n - 1) text in
    let e : length front ≡ n - 1 = length-take-le (n - 1) text (omega arith) in
    let whole : text ≡ front ++ get_or text (n - 1) 0 ∷ [] = sym (take_all (n - 1 + 1) text (omega arith)) ∙ take_more text (n - 1) 0 (omega arith) in
    let fits_front = fits_from-zip n 0 front (omega arith) (inr (omega arith)) in
    let last : place_of n (0 + length front) ≡ 90 = grind (arith, common_steps) in
    let parts : fits_from n 0 (front ++ get_or text (n - 1) 0 ∷ []) ≡ (fits_from n 0 front && fits_place (place_of n (0 + length front)) (get_or text (n - 1) 0)) = fits_from-more n 0 front (get_or text (n - 1) 0) in
    rw (← fits_front) (sym (ap (λ (bs : List ℕ). fits_from n 0 bs) whole ∙ parts ∙ rw last refl) ∙ has_form-fits text has)

letters-at : (n at : ℕ) → has_length n ≡ true → at < n → at < 19 → (is_letter (get_or places at 0) && is_letter (get_or places (at + 1) 0)) ≡ true
    → (nat_le (at + 2) n && (is_letter (place_of n at) && is_letter (place_of n (at + 1)))) ≡ true
letters-at n at has below early letters =
    let row : all_below (λ at. two_letters n at) 19 ≡ true = passes_below (λ n. all_below (λ at. two_letters n at) 19) 31 all-two_letters n (has_length-few n has) in
    let cell : two_letters n at ≡ true = passes_below (λ at. two_letters n at) 19 row at early in
    let inside : nat_lt at n ≡ true = grind (arith, common_steps) in
    holds _ _ (holds _ _ (holds _ _ cell has) inside) letters

-- two digits stand where the forms have two letters
pub two-digits : (text : List ℕ) (at : ℕ) → has_length (length text) ≡ true → fits_from (length text) 0 text ≡ true → at < length text → at < 19
    → (is_letter (get_or places at 0) && is_letter (get_or places (at + 1) 0)) ≡ true
    → (at + 2 ≤ length text) × (list_all is_ascii_digit (take 2 (drop at text)) ≡ true)
two-digits text at has fit below early letters =
    let n = length text in
    let all = letters-at n at has below early letters in
    let inside : at + 2 ≤ n = leb-true _ _ (both-left _ _ all) in
    let one : is_ascii_digit (get_or text at 0) ≡ true =
    letter-digit (place_of n at) (get_or text at 0) (both-left _ _ (both-right _ _ all)) (subst (λ (place : ℕ). fits_place (place_of n place) (get_or text at 0) ≡ true) (zero-add at) (fits_from-at n 0 text at fit below)) in
    let two : is_ascii_digit (get_or text (at + 1) 0) ≡ true =
    letter-digit (place_of n (at + 1)) (get_or text (at + 1) 0) (both-right _ _ (both-right _ _ all)) (subst (λ (place : ℕ). fits_place (place_of n place) (get_or text (at + 1) 0) ≡ true) (zero-add (at + 1)) (fits_from-at n 0 text (at + 1) fit (omega arith))) in
    let e : drop at text ≡ get_or text at 0 ∷ drop (suc at) text = drop-cons text at 0 below in
    let f : drop (suc at) text ≡ get_or text (suc at) 0 ∷ drop (suc (suc at)) text = drop-cons text (suc at) 0 (omega arith) in
    let g : get_or text (suc at) 0 ≡ get_or text (at + 1) 0 = ap (λ (k : ℕ). get_or text k 0) (sym (add-one at)) in
    (inside, rw (e, f, g, one, two) refl)

has_length-four : (n : ℕ) → has_length n ≡ true → 4 ≤ n
unfolding has_length
has_length-four n has = elim (cases_lt n 4) [ inl a ↦ grind (arith, common_steps) | inr b ↦ b ]

-- four digits are in front
pub four-digits : (text : List ℕ) → has_length (length text) ≡ true → fits_from (length text) 0 text ≡ true → (4 ≤ length text) × (list_all is_ascii_digit (take 4 text) ≡ true)
four-digits text has fit =
    let four : 4 ≤ length text = has_length-four (length text) has in
    let front = two-digits text 0 has fit (omega arith) (lit< tt) refl in
    let back = two-digits text 2 has fit (omega arith) (lit< tt) refl in
    let e : take (2 + 2) text ≡ take 2 text ++ take 2 (drop 2 text) = take-add 2 2 text in
    let f : list_all is_ascii_digit (take 2 text ++ take 2 (drop 2 text)) ≡ (list_all is_ascii_digit (take 2 text) && list_all is_ascii_digit (take 2 (drop 2 text))) = list_all-append is_ascii_digit (take 2 text) (take 2 (drop 2 text)) in
    (four, subst (λ (xs : List ℕ). list_all is_ascii_digit xs ≡ true) (sym e) (rw (f, front.1, back.1) refl))

list_all-from_get_or : (p : ℕ → Bool) (xs : List ℕ) → ((i : ℕ) → i < length xs → p (get_or xs i 0) ≡ true) → list_all p xs ≡ true
list_all-from_get_or p [] each = refl
list_all-from_get_or p (x ∷ xs) each =
    let head : p x ≡ true = each 0 (omega arith) in
    rw head (list_all-from_get_or p xs (λ i below. each (suc i) (omega arith)))

abbrev pub fraction_letter : ℕ → ℕ → Bool
fraction_letter n i = implies (nat_lt (20 + i + 1) n) (is_letter (place_of n (20 + i)))

all-fraction_letters : all_below (λ n. all_below (λ i. fraction_letter n i) 9) 31 ≡ true
all-fraction_letters = refl

fraction-at : (text : List ℕ) (m i : ℕ) → i < m → get_or (take m (drop 20 text)) i 0 ≡ get_or text (20 + i) 0
fraction-at text m i below = get_or-take m (drop 20 text) i 0 below ∙ get_or-drop 20 text i 0

-- the digits of a fraction
pub fraction-digits : (text : List ℕ) → has_length (length text) ≡ true → fits_from (length text) 0 text ≡ true → list_all is_ascii_digit (fraction_of text) ≡ true
fraction-digits text has fit = list_all-from_get_or is_ascii_digit (fraction_of text) (λ i below.
    let n = length text in
    let few : n < 31 = has_length-few n has in
    let short : length (fraction_of text) ≤ n - 21 = simp (length-take, length-drop) (omega arith) in
    let nine : i < 9 = omega arith in
    let row : all_below (λ i. fraction_letter n i) 9 ≡ true = passes_below (λ n. all_below (λ i. fraction_letter n i) 9) 31 all-fraction_letters n few in
    let cell : fraction_letter n i ≡ true = passes_below (λ i. fraction_letter n i) 9 row i nine in
    let early : nat_lt (20 + i + 1) n ≡ true = lt-ltb _ _ (omega arith) in
    let letter : is_letter (place_of n (20 + i)) ≡ true = holds _ _ cell early in
    let fits_there : fits_place (place_of n (20 + i)) (get_or text (20 + i) 0) ≡ true =
    subst (λ (place : ℕ). fits_place (place_of n place) (get_or text (20 + i) 0) ≡ true) (zero-add (20 + i)) (fits_from-at n 0 text (20 + i) fit (omega arith)) in
    let e : get_or (fraction_of text) i 0 ≡ get_or text (20 + i) 0 = fraction-at text (n - 1 - 20) i (omega arith) in
    rw e (letter-digit (place_of n (20 + i)) (get_or text (20 + i) 0) letter fits_there))

-- the places of the numbers in a text of one of the forms
pub record HasPlaces (text : List ℕ) : Type 0 where
  pub four : 4 ≤ length text
  pub few : length text ≤ 30
  pub year : list_all is_ascii_digit (take 4 text) ≡ true
  pub two : (at : ℕ) → (is_letter (get_or places at 0) && is_letter (get_or places (at + 1) 0)) ≡ true → at < 19 → at < length text
      → (at + 2 ≤ length text) × (list_all is_ascii_digit (take 2 (drop at text)) ≡ true)
  pub fraction : list_all is_ascii_digit (fraction_of text) ≡ true
  pub date : date_of text ≡ Some (by_place text)

pub has_places : (text : List ℕ) → true ≡ is_some (date_of text) → HasPlaces text
has_places text some =
    let fit = places-fit text some in
    let year = four-digits text fit.0 fit.1 in
    let few = has_length-few _ fit.0 in
    record {
      four = year.0;
      few = omega arith;
      year = year.1;
      two = λ at letters early below. two-digits text at fit.0 fit.1 below early letters;
      fraction = fraction-digits text fit.0 fit.1;
      date = date_of-fits text some;
    }

pub scaled-below : (n k : ℕ) → k ≤ 9 → n < 10 ^ k → n * 10 ^ (9 - k) < 2 ^ 32
scaled-below n k few below =
    let e : 10 ^ (k + (9 - k)) ≡ 10 ^ k * 10 ^ (9 - k) = pow-add 10 k (9 - k) in
    let nine : k + (9 - k) ≡ 9 = omega arith in
    let f : 10 ^ k * 10 ^ (9 - k) ≡ 10 ^ 9 = sym e ∙ ap (λ (i : ℕ). 10 ^ i) nine in
    let most : n * 10 ^ (9 - k) ≤ 10 ^ k * 10 ^ (9 - k) = mul-le-mul_right (10 ^ (9 - k)) (le_of_lt below) in
    omega (arith, f, most)
