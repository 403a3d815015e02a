-- How large a framed record is.
use Rattle.std.proofs.Common.{◌≡◌, ℕ, ◌+◌, ◌≤◌, true, false, cond, nat_le, ◌==◌, List, Option, Some, None, Result, Ok, Err, length, arith, ⊎_elim}
use Rattle.std.specs.Prelude.{option_and_then}
use Rattle.std.proofs.lemmas.Bool.{leb-true}
use Rattle.warc_field.specs.Area.{Pair, first_value, count_of, canonical_fields}
use Rattle.warc_field.specs.Decimal.{decimal_of}
use Rattle.warc_frame.specs.declared.fault.FaultKind.{FaultKind}
use Rattle.warc_frame.specs.declared.fault.FaultKind.TheVariants.{Missing, Repeated, Length}
use Rattle.warc_frame.specs.declared.fault.Mandatory.TheVariants.{ContentLength}
use Rattle.warc_frame.specs.Names.{content_length}
use Rattle.warc_frame.specs.Record.{Record, IsFramed, block_len, block_number, or_length, max_head, max_block}
use Rattle.warc_frame.proofs.EmptyLineLemmas.{true_or_false}
use Rattle.warc_frame.proofs.CanonicalLemmas.{canonical_size}

number_fits : (o : Option ℕ) (n : ℕ) → or_length (option_and_then (λ k. cond (nat_le k max_block) (Some k) None) o) ≡ Ok n → n ≤ max_block
number_fits None n h = absurd cc
number_fits (Some k) n h = ⊎_elim
    (λ small. let e : ◌≡◌ {A = Result ℕ FaultKind} (Ok k) (Ok n) = rw small at h in let same : k ≡ n = cc in omega (arith, same, leb-true _ _ small))
    (λ large. let e : ◌≡◌ {A = Result ℕ FaultKind} (Err Length) (Ok n) = rw large at h in absurd cc)
    (true_or_false (nat_le k max_block))

-- the number of a Content-Length is that of a block
pub number_small : (fields : List Pair) (n : ℕ) → block_len fields ≡ Ok n → n ≤ max_block
unfolding block_len
number_small fields n h = ⊎_elim
    (λ (none : (count_of content_length fields == 0) ≡ true). absurd (let e : ◌≡◌ {A = Result ℕ FaultKind} (Err (Missing ContentLength)) (Ok n) = rw none at h in cc))
    (λ (some : (count_of content_length fields == 0) ≡ false). ⊎_elim
    (λ (many : nat_le 2 (count_of content_length fields) ≡ true). absurd (let e : ◌≡◌ {A = Result ℕ FaultKind} (Err (Repeated ContentLength)) (Ok n) = rw (some, many) at h in cc))
    (λ (one : nat_le 2 (count_of content_length fields) ≡ false).
    let e : or_length (block_number (first_value content_length fields)) ≡ Ok n = rw (some, one) at h in
    number_fits (option_and_then decimal_of (first_value content_length fields)) n e)
    (true_or_false (nat_le 2 (count_of content_length fields))))
    (true_or_false (count_of content_length fields == 0))

pub framed_block : (r : Record) → IsFramed r → length r.block ≤ max_block
framed_block r framed = number_small r.fields (length r.block) framed.number

pub framed_fields : (r : Record) → IsFramed r → length (canonical_fields r.fields) + 12 ≤ max_head
framed_fields r framed = omega (arith, framed.head, canonical_size r.version r.fields)
