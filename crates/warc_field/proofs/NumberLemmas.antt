use Rattle.std.proofs.Common.{◌≡◌, ℕ, suc, ◌+◌, ◌-◌, ◌*◌, ◌^◌, ◌<◌, Bool, cond, ◌&&◌, List, Option, Some, None, length, drop, map, get_or, arith, drop-cons, nat_lt, nat_le}
use Rattle.std.specs.Int.Digits.{number_from_digits_after}
use Rattle.std.specs.Str.{all_ascii_digits}
use Rattle.std.proofs.lemmas.Int.Digits.{number_after_ge}
use Rattle.std.proofs.lemmas.Grind.{common_steps}
use Rattle.warc_field.specs.Decimal.{number_of, decimal_of}

large_none : (v w : Bool) (n : ℕ) (x : Option ℕ) → 2 ^ 48 < n → cond (v && w && nat_le n (2 ^ 48)) x None ≡ None
large_none v w n x h = grind (arith, common_steps)

pub too_large : (bs : List ℕ) (n i : ℕ) → number_from_digits_after 10 n (map (λ c. c - 48) (drop i bs)) ≡ number_of bs → i < length bs → 2 ^ 48 < n * 10 + (get_or bs i 0 - 48) → decimal_of bs ≡ None
unfolding decimal_of
too_large bs n i e l h =
    let step : number_from_digits_after 10 n (map (λ c. c - 48) (drop i bs)) ≡ number_from_digits_after 10 (n * 10 + (get_or bs i 0 - 48)) (map (λ c. c - 48) (drop (suc i) bs)) = rw (drop-cons bs i 0) in
    let above = number_after_ge 10 (n * 10 + (get_or bs i 0 - 48)) (map (λ c. c - 48) (drop (suc i) bs)) (omega arith) in
    let large : 2 ^ 48 < number_of bs = omega (arith, step, e, above) in
    large_none (nat_lt 0 (length bs)) (all_ascii_digits bs) _ (Some (number_of bs)) large
