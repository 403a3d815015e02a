-- A text of the form of a day and a time to the second is a date, if its numbers are small enough.
use Rattle.std.proofs.Common.{◌≡◌, ℕ, suc, ◌+◌, ◌-◌, ◌*◌, ◌<◌, ◌≤◌, Bool, true, false, ◌||◌, not, cond, nat_le, get_or, take, drop, length, List, [], ◌∷◌, Some, None, if◌then◌else◌, refl, sym, ap, ◌∙◌, arith, lit<, lit≤, le_trans, get_or-drop}
use Rattle.std.proofs.lemmas.Bool.{and_from, and_parts, leb-true, le-leb, lt-ltb}
use Rattle.std.proofs.lemmas.Grind.{common_steps}
use Rattle.std.proofs.lemmas.Int.Digits.{digits_value_more}
use Rattle.std.proofs.lemmas.List.{length-drop}
use Rattle.std.specs.Char.{digit_value, is_ascii_digit}
use Rattle.std.specs.Str.Parse.{digits_value}
use Rattle.std.specs.Prelude.{is_some, option_and_then}
use Rattle.warc_value.specs.Dates.{date_of, day_number, fits_place, instant_if_valid, instant_of, is_day, is_time, nanosecond_of_day}
use Rattle.warc_value.proofs.Alphabet.{all_below, passes_below}
use Rattle.warc_value.proofs.DateLemmas.{by_place, date_of-fits, digit-range, fits_from, has_form-fits, has_length, number_in, place_of}
use Rattle.warc_record.specs.Heads.{is_date}
use Rattle.warc_quick.specs.Places.{fits_form}

implies_it : (a b : Bool) → (not a || b) ≡ true → a ≡ true → b ≡ true
implies_it true b all hit = all
implies_it false b all hit = absurd (cc)

-- a byte that is between the two at a place fits the form there
place_fits : (k b : ℕ) → k < 20 → b < 256 → fits_form k b ≡ true → fits_place (place_of 20 k) b ≡ true
place_fits k b inside byte hit =
    let row = passes_below (λ k. all_below (λ b. not (fits_form k b) || fits_place (place_of 20 k) b) 256) 20 refl k inside in
    implies_it (fits_form k b) (fits_place (place_of 20 k) b) (passes_below (λ b. not (fits_form k b) || fits_place (place_of 20 k) b) 256 row b byte) hit

all_fit : (bs : List ℕ) (at : ℕ) → ((k : ℕ) → k < length bs → fits_place (place_of 20 (at + k)) (get_or bs k 0) ≡ true) → fits_from 20 at bs ≡ true
unfolding fits_from
all_fit [] at each = refl
all_fit (b ∷ bs) at each =
    and_from _ _ (let e : at ≡ at + 0 = omega arith in ap (λ i. fits_place (place_of 20 i) b) e ∙ each 0 (omega arith))
    (all_fit bs (at + 1) (λ k inside. let e : at + 1 + k ≡ at + suc k = omega arith in ap (λ i. fits_place (place_of 20 i) (get_or bs k 0)) e ∙ each (suc k) (omega arith)))

-- the number of two digits
pair_value : (text : List ℕ) (at : ℕ) → at + 2 ≤ length text → is_ascii_digit (get_or text at 0) ≡ true → is_ascii_digit (get_or text (at + 1) 0) ≡ true
    → digits_value 10 (take 2 (drop at text)) + 528 ≡ get_or text at 0 * 10 + get_or text (at + 1) 0
pair_value text at room tens ones =
    let ds = drop at text in
    let size = length-drop at text in
    let first : digits_value 10 (take 1 ds) ≡ 0 * 10 + digit_value (get_or ds 0 0) = digits_value_more 10 ds 0 (omega (arith, size)) in
    let second : digits_value 10 (take 2 ds) ≡ digits_value 10 (take 1 ds) * 10 + digit_value (get_or ds 1 0) = digits_value_more 10 ds 1 (omega (arith, size)) in
    let at_first : get_or ds 0 0 ≡ get_or text at 0 = get_or-drop at text 0 0 ∙ ap (λ i. get_or text i 0) (omega arith) in
    let at_second : get_or ds 1 0 ≡ get_or text (at + 1) 0 = get_or-drop at text 1 0 in
    let low = digit-range (get_or text at 0) tens in
    let high = digit-range (get_or text (at + 1) 0) ones in
    let one : digit_value (get_or text at 0) ≡ get_or text at 0 - 48 = grind (arith, common_steps) in
    let other : digit_value (get_or text (at + 1) 0) ≡ get_or text (at + 1) 0 - 48 = grind (arith, common_steps) in
    omega (arith, first, second, ap digit_value at_first, ap digit_value at_second, one, other, low.0, high.0)

least : (a b c : Bool) → 28 ≤ cond a (cond b 29 28) (cond c 30 31)
least true true c = omega arith
least true false c = omega arith
least false b true = omega arith
least false b false = omega arith

-- an early day has each month, and a time of two digits each is one
valid : (text : List ℕ) → 1 ≤ (by_place text).month → (by_place text).month ≤ 12 → 1 ≤ (by_place text).day → (by_place text).day ≤ 28
    → (by_place text).hour ≤ 23 → (by_place text).minute ≤ 59 → (by_place text).second ≤ 59
    → is_some (instant_if_valid (by_place text)) ≡ true
valid text month_low month_high day_low day_high hour minute second =
    let day : is_day (by_place text) ≡ true =
    and_from _ _ (and_from _ _ (and_from _ _ (le-leb _ _ month_low) (le-leb _ _ month_high)) (le-leb _ _ day_low)) (le-leb _ _ (le_trans day_high (least _ _ _))) in
    let time : is_time (by_place text) ≡ true = and_from _ _ (and_from _ _ (le-leb _ _ hour) (le-leb _ _ minute)) (le-leb _ _ second) in
    ap (λ b. is_some {T = ℕ × ℕ} (if b then Some (day_number (by_place text), nanosecond_of_day (by_place text)) else None)) (and_from _ _ day time)

-- the number at a place of a text that is long enough
number_there : (text : List ℕ) (at first : ℕ) → at < length text → number_in text at first ≡ digits_value 10 (take 2 (drop at text))
number_there text at first inside = rw (lt-ltb at (length text) inside) refl

module _ (text : List ℕ) (size : length text ≡ 20) (bytes : (k : ℕ) → get_or text k 0 < 256)
    (fit : (k : ℕ) → k < 20 → fits_form k (get_or text k 0) ≡ true) where
  fits_there : (k : ℕ) → k < 20 → fits_place (place_of 20 k) (get_or text k 0) ≡ true
  fits_there k inside = place_fits k (get_or text k 0) inside (bytes k) (fit k inside)

  stated : date_of text ≡ Some (by_place text)
  unfolding has_length
  stated =
      let long : has_length (length text) ≡ true = ap has_length size in
      let whole = all_fit text 0 (λ k inside. let e : 0 + k ≡ k = omega arith in ap (λ i. fits_place (place_of 20 i) (get_or text k 0)) e ∙ fits_there k (omega (arith, inside, size))) in
      date_of-fits text (sym (ap (λ n. fits_from n 0 text) size ∙ whole) ∙ has_form-fits text long)

  number_at : (at first : ℕ) → at + 2 ≤ 20 → is_ascii_digit (get_or text at 0) ≡ true → is_ascii_digit (get_or text (at + 1) 0) ≡ true
      → number_in text at first + 528 ≡ get_or text at 0 * 10 + get_or text (at + 1) 0
  number_at at first room tens ones =
      ap (λ n. n + 528) (number_there text at first (omega (arith, size))) ∙ pair_value text at (omega (arith, size)) tens ones

  small : (at : ℕ) → at + 2 ≤ 20 → nat_le (get_or text at 0) 53 ≡ true → is_ascii_digit (get_or text at 0) ≡ true → is_ascii_digit (get_or text (at + 1) 0) ≡ true
      → number_in text at 0 ≤ 59
  small at room most tens ones =
      omega (arith, number_at at 0 room tens ones, leb-true (get_or text at 0) 53 most, (digit-range (get_or text (at + 1) 0) ones).1)

  pub plain_date : 528 < get_or text 5 0 * 10 + get_or text 6 0 → get_or text 5 0 * 10 + get_or text 6 0 ≤ 540
      → 528 < get_or text 8 0 * 10 + get_or text 9 0 → get_or text 8 0 * 10 + get_or text 9 0 ≤ 556
      → get_or text 11 0 * 10 + get_or text 12 0 ≤ 551 → is_date text ≡ true
  unfolding instant_of by_place
  plain_date month_low month_high day_low day_high hour_high =
      let month = number_at 5 1 (lit≤ tt) (fits_there 5 (lit< tt)) (fits_there 6 (lit< tt)) in
      let day = number_at 8 1 (lit≤ tt) (fits_there 8 (lit< tt)) (fits_there 9 (lit< tt)) in
      let hour = number_at 11 0 (lit≤ tt) (fits_there 11 (lit< tt)) (fits_there 12 (lit< tt)) in
      let minute = small 14 (lit≤ tt) (and_parts _ _ (fit 14 (lit< tt))).1 (fits_there 14 (lit< tt)) (fits_there 15 (lit< tt)) in
      let second = small 17 (lit≤ tt) (and_parts _ _ (fit 17 (lit< tt))).1 (fits_there 17 (lit< tt)) (fits_there 18 (lit< tt)) in
      ap (λ date. is_some (option_and_then instant_if_valid date)) stated
      ∙ valid text (omega (arith, month)) (omega (arith, month)) (omega (arith, day)) (omega (arith, day)) (omega (arith, hour)) minute second
