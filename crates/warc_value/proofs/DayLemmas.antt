-- Day numbers from 1 January of the year 0, against those of the calendar of `jiff`.
use Rattle.std.proofs.Common.{◌≡◌, ℕ, zero, suc, ◌+◌, ◌-◌, ◌≤◌, true, Some, None, refl, sym, arith, pos, ◌+ℤ◌, ◌-ℤ◌, unsigned_abs, if◌then◌else◌}
use Rattle.std.proofs.lemmas.Grind.{common_steps}
use Rattle.jiff_core.specs.Calendar.{day_of_year, day_count, days_from_civil, days_of_months, IsCivilDate}
use Rattle.jiff_core.proofs.SignedLemmas.{signed_arith}
use Rattle.jiff_core.proofs.MarchLemmas.{day_count-early}
use Rattle.jiff_core.proofs.CalendarLemmas.{days_from_civil-day_count, day_count-day_of_year, day_count-later_year}
use Rattle.warc_value.specs.declared.date.Date.{Date}
use Rattle.warc_value.specs.Dates.{is_day, day_number}

day_count-year_0 : day_count (pos 0) 1 1 ≡ 3_652_425
day_count-year_0 = day_count-early (pos 0) 9999 1 1 refl (omega arith) (omega arith) (omega arith)

day_count-new_year : (y : ℕ) → 3_652_425 ≤ day_count (pos y) 1 1
day_count-new_year zero = omega (arith, day_count-year_0)
day_count-new_year (suc y) =
    let later = day_count-later_year (pos 0) (pos (suc y)) (omega (arith, signed_arith)) (omega (arith, signed_arith)) in
    omega (arith, later, day_count-year_0)

day_count-from_year_0 : (y m d : ℕ) → 1 ≤ d → 3_652_425 ≤ day_count (pos y) m d
day_count-from_year_0 y m d one =
    let e : day_count (pos y) m d + 1 ≡ day_count (pos y) 1 1 + day_of_year (pos y) m d = day_count-day_of_year (pos y) m d one in
    let f : day_of_year (pos y) m d ≡ days_of_months (pos y) (m - 1) + d = refl in
    omega (arith, day_count-new_year y)

-- a day number from the year 0 on, by the days since the year -9999
pub days-since : (y m d r : ℕ) → 1 ≤ d → days_from_civil (pos y) m d +ℤ pos 4_371_587 ≡ pos r
    → (3_652_059 ≤ r) × (unsigned_abs (days_from_civil (pos y) m d -ℤ days_from_civil (pos 0) 1 1) ≡ r - 3_652_059)
days-since y m d r one e =
    let a = days_from_civil-day_count (pos y) m d in
    let b = days_from_civil-day_count (pos 0) 1 1 in
    let c = day_count-from_year_0 y m d one in
    let f : days_from_civil (pos y) m d -ℤ days_from_civil (pos 0) 1 1 ≡ pos (r - 3_652_059) = omega (arith, signed_arith, a, b, c, e, day_count-year_0) in
    (omega (arith, signed_arith, a, c, e), rw f refl)

-- the days since the year 0 of a date that the calendar has
pub day_of-some : (date : Date) (r : ℕ) → date.year ≤ 9999 → IsCivilDate (pos date.year) date.month date.day → pos r ≡ days_from_civil (pos date.year) date.month date.day +ℤ pos 4_371_587
    → (3_652_059 ≤ r) × (Some (r - 3_652_059) ≡ (if is_day date then Some (day_number date) else None))
day_of-some date r early civil e =
    let is : is_day date ≡ true = grind (arith, common_steps) in
    let since = days-since date.year date.month date.day r (grind (arith, common_steps)) (sym e) in
    (since.0, rw (is, since.1) refl)
