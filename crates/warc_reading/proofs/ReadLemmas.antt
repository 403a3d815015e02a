-- Which offsets are asked for, and how often.
use Rattle.std.proofs.Common.{◌≡◌, ℕ, ◌+◌, ◌-◌, ◌≤◌, zero, suc, List, [], ◌∷◌, take, Some, refl, ap, ◌∙◌, arith}
use Rattle.std.proofs.lemmas.List.Sums.{sum_by-take-le, sum_by-cons, sum_by_push}
use Rattle.std.specs.List.{slice_get, sum_by}
use Rattle.warc_reading.specs.Placing.{IsInAnyRow, IsInRow}
use Rattle.warc_reading.specs.Rereading.{ReadsHeads, heads_len}
use Rattle.warc_reading.specs.Row.{Row}
use Rattle.warc_frame.specs.Effects.{ReadsOnly, ReadsRange}
use Rattle.warc_frame.specs.Seen.{IsInRange, SeenSource}
use Rattle.warc_frame.proofs.EffectLemmas.{reads_both, reads_within}
use Rattle.warc_reading.proofs.PlacedLemmas.{take_one}

-- a head is read
pub reads_one : (row : Row) (len : ℕ) (old new : SeenSource) → row.offset + len ≡ row.block_start
    → ReadsRange row.offset len old new → ReadsHeads (row ∷ []) old new
reads_one row len old new is has =
    let one : heads_len (row ∷ []) ≡ row.block_start - row.offset + 0 =
    sum_by-cons (λ (r : Row). r.block_start - r.offset) row [] in
    reads_within
    (λ q in_. record { place = 0; row = row; is = refl; from = in_.0; to = omega (arith, in_.1, is) })
    (omega (arith, is, one)) has

pub one_row : (row other : Row) (i : ℕ) → slice_get (row ∷ []) i ≡ Some other → row ≡ other
one_row row other zero is = cc is
one_row row other (suc i) is = absurd (cc is)

-- ---- what is read of rows

-- a head of a row
pub reads_head_of : (row : Row) {old new : SeenSource} → ReadsHeads (row ∷ []) old new
    → ReadsOnly (IsInRow row) (row.block_start - row.offset) old new
reads_head_of row {old} {new} has =
    reads_within
    (λ at in_.
    let same = one_row row in_.row in_.place in_.is in
    (omega (arith, in_.from, ap (λ (r : Row). r.offset) same), omega (arith, in_.to, ap (λ (r : Row). r.block_start) same)))
    (omega (arith, sum_by-cons (λ (r : Row). r.block_start - r.offset) row [])) has

-- the block of a row's record
pub reads_block_of : (row : Row) (most : ℕ) {old new : SeenSource} → row.offset ≤ row.block_start
    → ReadsOnly (IsInRange row.block_start row.block_len) most old new → ReadsOnly (IsInRow row) most old new
reads_block_of row most {old} {new} order reads = reads_within (λ at in_. (omega (arith, in_.0, order), in_.1)) (omega arith) reads

-- the records of the first rows, and of one more
pub reads_row : (len_of : Row → ℕ) (rows : List Row) (i : ℕ) (row : Row) {old mid new : SeenSource} → slice_get rows i ≡ Some row
    → ReadsOnly (IsInAnyRow rows) (sum_by len_of (take i rows)) old mid → ReadsOnly (IsInRow row) (len_of row) mid new
    → ReadsOnly (IsInAnyRow rows) (sum_by len_of (take (i + 1) rows)) old new
reads_row len_of rows i row {old} {mid} {new} is first one =
    let whole : sum_by len_of (take (i + 1) rows) ≡ sum_by len_of (take i rows) + len_of row =
    ap (sum_by len_of) (take_one rows i row is) ∙ sum_by_push len_of (take i rows) row in
    let last : ReadsOnly (IsInAnyRow rows) (len_of row) mid new =
    reads_within (λ at in_. record { place = i; row = row; is = is; inside = in_ }) (omega arith) one in
    reads_within (λ at in_. in_) (omega (arith, whole)) (reads_both first last)

pub reads_rows : (len_of : Row → ℕ) (rows : List Row) (n : ℕ) {old new : SeenSource} → ReadsOnly (IsInAnyRow rows) (sum_by len_of (take n rows)) old new
    → ReadsOnly (IsInAnyRow rows) (sum_by len_of rows) old new
reads_rows len_of rows n {old} {new} reads = reads_within (λ at in_. in_) (sum_by-take-le len_of rows n) reads
