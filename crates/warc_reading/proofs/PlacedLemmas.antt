-- The record of a row, and the first records with one more.
use Rattle.std.proofs.Common.{◌≡◌, ℕ, zero, suc, ◌+◌, ◌<◌, List, [], ◌∷◌, ◌++◌, length, map, take, Some, refl, sym, ap, ◌∙◌, arith}
use Rattle.std.specs.List.{slice_get}
use Rattle.warc_reading.specs.Archive.{contents}
use Rattle.warc_reading.specs.Rereading.{AreCheckable, HasHead, HasRecordsOf, HasTextOf}
use Rattle.warc_reading.specs.Row.{Placed, Row, row_of}

-- the record of a row
pub placed : (records : List Placed) (i : ℕ) (row : Row) → slice_get (map row_of records) i ≡ Some row → (p : Placed) × (slice_get records i ≡ Some p) × (row ≡ row_of p)
placed [] i row is = absurd (cc is)
placed (x ∷ xs) zero row is = (x, refl, cc is)
placed (x ∷ xs) (suc i) row is = placed xs i row is

pub record_at : (bytes : List ℕ) (records : List Placed) (rows : List Row) (i : ℕ) (row : Row) → AreCheckable bytes records rows → slice_get rows i ≡ Some row
    → (p : Placed) × (slice_get records i ≡ Some p) × (row ≡ row_of p) × HasHead bytes p
record_at bytes records rows i row can is =
    let found = placed records i row (sym (ap (λ l. slice_get l i) can.rows_are) ∙ is) in
    (found.0, found.1, found.2, can.heads i found.0 found.1)

-- the record of a row is in the bytes where those of all rows are
pub row_has : (bytes : List ℕ) {rows : List Row} → (are : HasRecordsOf rows bytes) → (i : ℕ) (row : Row)
    → slice_get rows i ≡ Some row → HasTextOf row bytes
row_has bytes {rows} are i row is =
    let at = record_at bytes are.records rows i row are.can is in
    record { placed = at.0; short = are.can.placed.short; has = at.3; written = are.can.placed.each i at.0 at.1; row_is = at.2 }

pub content_at : (records : List Placed) (i : ℕ) (p : Placed) → slice_get records i ≡ Some p → slice_get (contents records) i ≡ Some p.content
content_at [] i p is = absurd (cc is)
content_at (x ∷ xs) zero p is = let same : x ≡ p = cc is in ap (λ (q : Placed). Some q.content) same
content_at (x ∷ xs) (suc i) p is = content_at xs i p is

pub below : {X : Type 0} (xs : List X) (i : ℕ) (x : X) → slice_get xs i ≡ Some x → i < length xs
below [] i x is = absurd (cc is)
below (y ∷ ys) zero x is = omega arith
below (y ∷ ys) (suc i) x is = let lt = below ys i x is in omega (arith, lt)

take_suc : {X : Type 0} (xs : List X) (i : ℕ) (x : X) → slice_get xs i ≡ Some x → take (suc i) xs ≡ take i xs ++ x ∷ []
take_suc [] i x is = absurd (cc is)
take_suc (y ∷ ys) zero x is = let same : y ≡ x = cc is in ap (λ z. z ∷ []) same
take_suc (y ∷ ys) (suc i) x is = ap (λ l. y ∷ l) (take_suc ys i x is)

pub take_one : {X : Type 0} (xs : List X) (i : ℕ) (x : X) → slice_get xs i ≡ Some x → take (i + 1) xs ≡ take i xs ++ x ∷ []
take_one xs i x is = let e : i + 1 ≡ suc i = omega arith in ap (λ n. take n xs) e ∙ take_suc xs i x is
