-- Written digests and dates are values.
use Rattle.std.proofs.Common.{◌≡◌, inl, inr, ℕ, ◌<◌, ◌&&◌, ◌==◌, nat_lt, Bool, true, false, cond, List, [], ◌∷◌, ◌++◌, length, codes, All, find, Option, Some, None, IsSome, option_map, refl, sym, ap, ◌∙◌, arith, true≢false, if◌then◌else◌}
use Rattle.std.specs.Prelude.{option_and_then}
use Rattle.std.specs.List.{list_all, list_any, zip}
use Rattle.std.specs.Char.{is_ascii_digit}
use Rattle.std.proofs.lemmas.Bool.{and_parts, and_from, cases_Bool, eqb-true}
use Rattle.std.proofs.lemmas.Grind.{common_steps}
use Rattle.std.proofs.lemmas.List.Folds.{list_all-append}
use Rattle.warc_field.specs.Text.{is_value}
use Rattle.warc_field.proofs.VisibleLemmas.{visible_text_is_value}
use Rattle.warc_value.specs.Base32.{is_symbol, base32_of}
use Rattle.warc_value.specs.Dates.{fits_place, fits, forms, date_of, date_in, instant_of, instant_if_valid}
use Rattle.warc_value.proofs.LawLemmas.{base32_symbols, symbol_is_visible}

abbrev is_visible : ℕ → Bool
is_visible b = nat_lt 32 b && nat_lt b 127

-- ---- dates

digit_is_visible : (b : ℕ) → is_ascii_digit b ≡ true → is_visible b ≡ true
digit_is_visible b e = grind (arith, common_steps)

by_letter : (letter : Bool) (place b : ℕ) → is_visible place ≡ true → (if letter then is_ascii_digit b else b == place) ≡ true → is_visible b ≡ true
by_letter true place b seen e = digit_is_visible b e
by_letter false place b seen e = ap is_visible (eqb-true b place e) ∙ seen

abbrev fits_pair : ℕ × ℕ → Bool
fits_pair pair = fits_place pair.0 pair.1

all_visible : (form text : List ℕ) → length text ≡ length form → list_all is_visible form ≡ true → list_all fits_pair (zip form text) ≡ true → list_all is_visible text ≡ true
all_visible [] [] len seen fit = refl
all_visible [] (b ∷ text) len seen fit = absurd (omega arith)
all_visible (place ∷ form) [] len seen fit = refl
all_visible (place ∷ form) (b ∷ text) len seen fit =
    let seens = and_parts _ _ seen in
    let parts = and_parts _ _ fit in
    and_from _ _ (by_letter (list_any (λ letter. letter == place) (codes "YMDhmsf")) place b seens.0 parts.0)
    (all_visible form text (omega arith) seens.1 parts.1)

-- what is found among visible forms fits and is visible
found : (p : List ℕ → Bool) (forms : List (List ℕ)) (form : List ℕ) → list_all (list_all is_visible) forms ≡ true → find p forms ≡ Some form
    → (p form ≡ true) × (list_all is_visible form ≡ true)
found p [] form seen e = absurd (cc)
found p (first ∷ forms) form seen e = elim (cases_Bool (p first)) [
  | inl hit ↦
      let here : Some first ≡ Some form = sym (ap (λ (b : Bool). cond b (Some first) (find p forms)) hit) ∙ e in
      let is : first ≡ form = (cc) in
      (ap p (sym is) ∙ hit, ap (list_all is_visible) (sym is) ∙ (and_parts _ _ seen).0)
  | inr miss ↦ found p forms form (and_parts _ _ seen).1 (sym (ap (λ (b : Bool). cond b (Some first) (find p forms)) miss) ∙ e)
]

forms_are_visible : list_all (list_all is_visible) forms ≡ true
unfolding forms
forms_are_visible = refl

fits_visible : (form text : List ℕ) → fits form text ≡ true → list_all is_visible form ≡ true → list_all is_visible text ≡ true
unfolding fits
fits_visible form text fit seen = let parts = and_parts _ _ fit in all_visible form text (eqb-true _ _ parts.0) seen parts.1

by_form : (text : List ℕ) (o : Option (List ℕ)) → find (λ form. fits form text) forms ≡ o
    → IsSome (option_and_then instant_if_valid (option_map (date_in text) o)) → list_all is_visible text ≡ true
by_form text None e some = absurd (true≢false (sym some))
by_form text (Some form) e some = let is = found (λ f. fits f text) forms form forms_are_visible e in fits_visible form text is.0 is.1

pub date_is_value : (text : List ℕ) → IsSome (instant_of text) → is_value text ≡ true
unfolding instant_of date_of
date_is_value text some = visible_text_is_value text (by_form text (find (λ form. fits form text) forms) refl some)

-- ---- digests

symbols_are_visible : (text : List ℕ) → list_all is_symbol text ≡ true → list_all is_visible text ≡ true
symbols_are_visible [] all = refl
symbols_are_visible (c ∷ text) all = let both = and_parts _ _ all in and_from _ _ (symbol_is_visible c both.0) (symbols_are_visible text both.1)

pub written_digest_is_value : (digest : List ℕ) → length digest ≡ 20 → All (λ b. b < 256) digest → is_value (codes "sha1:" ++ base32_of digest) ≡ true
written_digest_is_value digest len small =
    visible_text_is_value (codes "sha1:" ++ base32_of digest)
    (list_all-append is_visible (codes "sha1:") (base32_of digest) ∙ symbols_are_visible (base32_of digest) (base32_symbols digest len small))
