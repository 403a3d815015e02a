-- Dates (ISO 28500:2017, 5.4, by the W3C note on date and time formats): six forms, always UTC. The calendar, Gregorian
-- throughout, is this project's own choice, and so are days without an hour 24 and minutes without a leap second.
use Rattle.std.specs.Prelude.{ℕ, ◌+◌, ◌-◌, ◌*◌, ◌^◌, Bool, ◌&&◌, ◌||◌, ◌==◌, nat_le, nat_lt, List, [], ◌∷◌, length, map, filter, find, codes, Option, Some, None, option_map, option_and_then, if◌then◌else◌, pos, ◌-ℤ◌, unsigned_abs}
use Rattle.std.specs.declared.cmp.Ordering.{Ordering}
use Rattle.std.specs.Ordering.{nat_cmp, ordering_then}
use Rattle.std.specs.List.{zip, list_all, list_any}
use Rattle.std.specs.Char.{is_ascii_digit}
use Rattle.std.specs.Str.Parse.{digits_value}
use Rattle.warc_value.specs.declared.date.Date.{Date}
use Rattle.jiff_core.specs.Calendar.{days_in_month, days_from_civil}

-- a day number, from 1 January of the year 0 on, and a nanosecond of that day
abbrev pub Instant : Type 0
Instant = ℕ × ℕ

-- the order of instants: by day, then by nanosecond
abbrev pub instant_cmp : Instant → Instant → Ordering
instant_cmp a b = ordering_then (nat_cmp a.0 b.0) (nat_cmp a.1 b.1)

-- the first instant comes before the second one: by day, then by nanosecond
abbrev pub is_before : Instant → Instant → Bool
is_before a b = nat_lt a.0 b.0 || (a.0 == b.0 && nat_lt a.1 b.1)

-- the forms: each of the letters YMDhmsf means one decimal digit, any other character itself; a fraction of a
-- second has one to nine digits
unfoldable pub forms : List (List ℕ)
forms =
    codes "YYYY"
    ∷ codes "YYYY-MM"
    ∷ codes "YYYY-MM-DD"
    ∷ codes "YYYY-MM-DDThh:mmZ"
    ∷ codes "YYYY-MM-DDThh:mm:ssZ"
    ∷ codes "YYYY-MM-DDThh:mm:ss.fZ"
    ∷ codes "YYYY-MM-DDThh:mm:ss.ffZ"
    ∷ codes "YYYY-MM-DDThh:mm:ss.fffZ"
    ∷ codes "YYYY-MM-DDThh:mm:ss.ffffZ"
    ∷ codes "YYYY-MM-DDThh:mm:ss.fffffZ"
    ∷ codes "YYYY-MM-DDThh:mm:ss.ffffffZ"
    ∷ codes "YYYY-MM-DDThh:mm:ss.fffffffZ"
    ∷ codes "YYYY-MM-DDThh:mm:ss.ffffffffZ"
    ∷ codes "YYYY-MM-DDThh:mm:ss.fffffffffZ"
    ∷ []

-- whether a byte may be where a form has this character
abbrev pub fits_place : ℕ → ℕ → Bool
fits_place place byte =
    if list_any (λ letter. letter == place) (codes "YMDhmsf") then is_ascii_digit byte else byte == place

-- whether a text has a form
unfoldable pub fits : List ℕ → List ℕ → Bool
fits form text = (length text == length form) && list_all (λ (pair : ℕ × ℕ). fits_place pair.0 pair.1) (zip form text)

-- whether some form has n characters
abbrev pub is_form_length : ℕ → Bool
is_form_length n = list_any (λ form. length form == n) forms

-- the digits of a text that are where its form has a letter
abbrev pub digits_at : ℕ → List ℕ → List ℕ → List ℕ
digits_at letter form text =
    map (λ (pair : ℕ × ℕ). pair.1) (filter (λ (pair : ℕ × ℕ). pair.0 == letter) (zip form text))

-- the number that they write, or the first one of its kind where the form has no such letter
abbrev pub number_or : ℕ → List ℕ → ℕ
number_or first digits = if length digits == 0 then first else digits_value 10 digits

-- what a text of this form says: a shorter form names its first instant, and n digits of a fraction are units of
-- 10 ^ (9 - n) nanoseconds
unfoldable pub date_in : List ℕ → List ℕ → Date
date_in text form = record {
  year = number_or 0 (digits_at 89 form text);
  month = number_or 1 (digits_at 77 form text);
  day = number_or 1 (digits_at 68 form text);
  hour = number_or 0 (digits_at 104 form text);
  minute = number_or 0 (digits_at 109 form text);
  second = number_or 0 (digits_at 115 form text);
  nanosecond = let fraction = digits_at 102 form text in number_or 0 fraction * 10 ^ (9 - length fraction);
}

-- the calendar has this day, and the day this time: no hour 24, no leap second
abbrev pub is_day : Date → Bool
is_day date = nat_le 1 date.month && nat_le date.month 12 && nat_le 1 date.day
    && nat_le date.day (days_in_month (pos date.year) date.month)

abbrev pub is_time : Date → Bool
is_time date = nat_le date.hour 23 && nat_le date.minute 59 && nat_le date.second 59

-- the days from 1 January of the year 0
abbrev pub day_number : Date → ℕ
day_number date = unsigned_abs (days_from_civil (pos date.year) date.month date.day -ℤ days_from_civil (pos 0) 1 1)

abbrev pub nanosecond_of_day : Date → ℕ
nanosecond_of_day date = ((date.hour * 60 + date.minute) * 60 + date.second) * 1_000_000_000 + date.nanosecond

abbrev pub instant_if_valid : Date → Option Instant
instant_if_valid date = if is_day date && is_time date then Some (day_number date, nanosecond_of_day date) else None

-- the date that a text states by one of the forms
unfoldable pub date_of : List ℕ → Option Date
date_of text = option_map (date_in text) (find (λ form. fits form text) forms)

-- the instant of a date; none if the text has none of the forms or the calendar no such day or time
unfoldable pub instant_of : List ℕ → Option Instant
instant_of text = option_and_then instant_if_valid (date_of text)
