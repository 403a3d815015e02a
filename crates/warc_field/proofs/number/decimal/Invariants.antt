use Rattle.std.proofs.Common.{◌≡◌, ◌-◌, ◌≤◌, ◌^◌, drop, map}
use Rattle.std.specs.Str.{all_ascii_digits}
use Rattle.std.specs.Int.Digits.{number_from_digits_after}
use Rattle.warc_field.specs.Decimal.{number_of}
use Rattle.warc_field.proofs.number.decimal.Given as goal

abbrev pub invariant-loop-b : goal.invariant-loop-b
invariant-loop-b l = record {
  digits : all_ascii_digits (drop l.b-index l.text) ≡ all_ascii_digits l.text;
  number : number_from_digits_after 10 l.number (map (λ c. c - 48) (drop l.b-index l.text)) ≡ number_of l.text;
  small : l.number ≤ 2 ^ 48;
}
