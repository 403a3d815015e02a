-- The segments of marked records.
use Rattle.std.proofs.Common.{◌≡◌, ◌≢◌, inl, inr, ℕ, zero, suc, ◌+◌, ◌-◌, ◌<◌, ◌≤◌, List, [], ◌∷◌, length, map, take, Some, slice_get, refl, sym, ◌∙◌, ap, subst, arith, true≢false, take-take}
use Rattle.std.proofs.lemmas.Bool.{cases_lt}
use Rattle.std.proofs.lemmas.List.{length-map}
use Rattle.warc_record.specs.Readings.{reading_of}
use Rattle.warc_record.specs.declared.readings.SegmentNumber.TheVariants.{Number}
use Rattle.warc_segment.specs.Joined.{piece_placed}
use Rattle.std.specs.List.{sum_by}
use Rattle.std.proofs.lemmas.List.Sums.{sum_by-take-le, sum_by-cons, sum_by_push}
use Rattle.warc_frame.specs.Effects.{ReadsOnly}
use Rattle.warc_frame.specs.Seen.{SeenSource}
use Rattle.warc_frame.proofs.EffectLemmas.{reads_both, reads_within}
use Rattle.warc_reading.specs.Archive.{IsArchiveOf}
use Rattle.warc_lookup.specs.Indexed.{placed_record}
use Rattle.warc_frame.specs.Send.{ended_by}
use Rattle.warc_reading.specs.Rereading.{HasHeadOf, IsInHead, ReadsHeads, heads_len}
use Rattle.warc_reading.specs.Row.{Placed, Row, row_of}
use Rattle.warc_frame.specs.declared.fault.EarlyFault.{EarlyFault}
use Rattle.warc_frame.specs.declared.fault.EarlyFault.TheVariants.{Read, Memory}
use Rattle.warc_reading.proofs.PlaceLemmas.{HeadsAreRead, checkable_archive}
use Rattle.warc_reading.proofs.PlacedLemmas.{placed, take_one}
use Rattle.warc_reading.proofs.ReadLemmas.{one_row}
use Rattle.warc_answer.specs.Seen.{IsEarly}
use Rattle.warc_answer.specs.declared.answer.ReplayFault.TheVariants.{Out}
use Rattle.warc_rewrite.specs.declared.needs.Mark.{Mark}
use Rattle.warc_rewrite.specs.declared.needs.Mark.TheVariants.{Free}
use Rattle.warc_rewrite.specs.Marks.{mark_in, marks_needed, IsMarked, AreTakenOf, HasNoSegment, IsSegmentAt, IsSegmentBy, TakesSeries, pieces_of}
use Rattle.warc_rewrite.proofs.MarkLemmas.{member_not_first}

piece_at : (records : List Placed) (i : ℕ) (p : Placed) → slice_get records i ≡ Some p
    → slice_get (pieces_of records) i ≡ Some (piece_placed (placed_record p))
piece_at [] i p is = absurd (cc)
piece_at (x ∷ xs) zero p is = let same : x ≡ p = cc in ap (λ (q : Placed). Some (piece_placed (placed_record q))) same
piece_at (x ∷ xs) (suc i) p is = piece_at xs i p is

-- a segment isn't a first one
pub segment_not_first : (records : List Placed) (p q : ℕ) (at : Placed) → IsSegmentAt records p q → slice_get records q ≡ Some at
    → (reading_of at.content.fields).segment.number ≢ Number 1
segment_not_first records p q at is there =
    member_not_first (pieces_of records) (reading_of is.first.content.fields).id q (piece_placed (placed_record at)) is.is.1
    (piece_at records q at there)

pub none_taken : (records : List Placed) (marks : List Mark) → HasNoSegment marks → AreTakenOf records 0 marks marks
none_taken records marks none = record {
  kept = λ q is. is;
  only = λ q is. inl is;
  done = λ p q less. absurd (omega arith);
  taken = λ s q id is. absurd (none s is);
}

pub same_first : (records : List Placed) (i q : ℕ) (p : Placed) → slice_get records i ≡ Some p → IsSegmentAt records i q
    → IsSegmentBy (pieces_of records) (reading_of p.content.fields) q
same_first records i q p there is =
    let z : Some is.first ≡ Some p = sym is.there ∙ there in
    let y : is.first ≡ p = cc in
    subst (λ (f : Placed). IsSegmentBy (pieces_of records) (reading_of f.content.fields) q) y is.is

pub taken_next : (records : List Placed) (i : ℕ) (p : Placed) (base marks new : List Mark) → AreTakenOf records i base marks
    → slice_get records i ≡ Some p → IsMarked marks i
    → TakesSeries (pieces_of records) (reading_of p.content.fields) marks new → AreTakenOf records (i + 1) base new
taken_next records i p base marks new before there marked takes = record {
  kept = λ q is. takes.kept q (before.kept q is);
  only = λ q is. elim (takes.only q is) [
    | inl earlier ↦ before.only q earlier
    | inr segment ↦ elim (before.only i marked) [
      | inl from ↦ inr (i, from, record { first = p; there = there; is = segment })
      | inr from ↦ absurd (segment_not_first records from.0 i p from.2 there segment.0)
    ]
  ];
  done = λ r q less is segment. elim (cases_lt r i) [
    | inl earlier ↦ takes.kept q (before.done r q earlier is segment)
    | inr late ↦
        let same : r ≡ i = omega arith in
        takes.all q (same_first records i q p there (subst (λ (k : ℕ). IsSegmentAt records k q) same segment))
  ];
  taken = takes.taken;
}

free_apart : (marks : List Mark) (i : ℕ) → mark_in marks i ≡ Free → IsMarked marks i → ⊥
free_apart marks i free is = true≢false (sym is ∙ ap marks_needed free)

pub taken_past : (records : List Placed) (i : ℕ) (base marks : List Mark) → AreTakenOf records i base marks → mark_in marks i ≡ Free
    → AreTakenOf records (i + 1) base marks
taken_past records i base marks before free = record {
  kept = before.kept;
  only = before.only;
  done = λ r q less is segment. elim (cases_lt r i) [
    | inl earlier ↦ before.done r q earlier is segment
    | inr late ↦
        let same : r ≡ i = omega arith in
        absurd (free_apart marks i free (before.kept i (subst (IsMarked base) same is)))
  ];
  taken = before.taken;
}

-- ---- heads that are read again

pub row_at : (records : List Placed) (rows : List Row) (i : ℕ) (row : Row) (p : Placed) → rows ≡ map row_of records
    → slice_get rows i ≡ Some row → slice_get records i ≡ Some p → row ≡ row_of p
row_at records rows i row p are at there =
    let (found, here, same) = placed records i row (sym (ap (λ l. slice_get l i) are) ∙ at) in
    let z : Some found ≡ Some p = sym here ∙ there in
    let y : found ≡ p = cc in
    same ∙ ap row_of y

-- the head of a row's record is in the bytes of an archive
abbrev pub head_has : HeadsAreRead → (bytes : List ℕ) (rows : List Row) (i : ℕ) (row : Row) (is : IsArchiveOf bytes rows) (p : Placed)
    → slice_get rows i ≡ Some row → slice_get is.are.records i ≡ Some p → HasHeadOf row bytes
head_has law bytes rows i row is p at there =
    let can = checkable_archive law bytes rows is rows refl in
    record { placed = p; has = can.heads i p there; row_is = row_at is.are.records rows i row p is.are.rows_are at there }

pub head_is_present : HeadsAreRead → (bytes : List ℕ) (rows : List Row) (i : ℕ) (row : Row) → IsArchiveOf bytes rows
    → slice_get rows i ≡ Some row → HasHeadOf row bytes
head_is_present law bytes rows i row is at =
    let (p, there, same) = placed is.are.records i row (sym (ap (λ l. slice_get l i) is.are.rows_are) ∙ at) in
    head_has law bytes rows i row is p at there

pub ended_early : (fault : EarlyFault) → IsEarly (Out (ended_by fault 0))
ended_early Read = refl
ended_early Memory = refl

-- of the first heads, and of one more
pub heads_more : (rows : List Row) (i : ℕ) (row : Row) {old mid new : SeenSource} → slice_get rows i ≡ Some row
    → ReadsOnly (IsInHead rows) (heads_len (take i rows)) old mid → ReadsHeads (row ∷ []) mid new
    → ReadsOnly (IsInHead rows) (heads_len (take (i + 1) rows)) old new
heads_more rows i row {old} {mid} {new} at first one =
    let len_of : Row → ℕ = λ r. r.block_start - r.offset in
    let whole : heads_len (take (i + 1) rows) ≡ heads_len (take i rows) + len_of row =
    ap (λ l. heads_len l) (take_one rows i row at) ∙ sum_by_push len_of (take i rows) row in
    let single : heads_len (row ∷ []) ≡ len_of row + 0 = sum_by-cons len_of row [] in
    let last : ReadsOnly (IsInHead rows) (len_of row) mid new =
    reads_within (λ q in_.
    let same : row ≡ in_.row = one_row row in_.row in_.place in_.is in
    record {
      place = i;
      row = in_.row;
      is = at ∙ ap Some same;
      from = in_.from;
      to = in_.to;
    }) (omega (arith, single)) one in
    reads_within (λ q in_. in_) (omega (arith, whole)) (reads_both first last)

pub heads_all : (rows : List Row) (n : ℕ) {old new : SeenSource} → ReadsOnly (IsInHead rows) (heads_len (take n rows)) old new
    → ReadsHeads rows old new
heads_all rows n {old} {new} reads =
    reads_within (λ q in_. in_) (sum_by-take-le (λ (r : Row). r.block_start - r.offset) rows n) reads

pub heads_past : (rows : List Row) (i : ℕ) {old new : SeenSource} → ReadsOnly (IsInHead rows) (heads_len (take i rows)) old new
    → ReadsOnly (IsInHead rows) (heads_len (take (i + 1) rows)) old new
heads_past rows i {old} {new} reads =
    reads_within (λ q in_. in_) (take_le (λ (r : Row). r.block_start - r.offset) rows i) reads
  where
    take_le : (f : Row → ℕ) (xs : List Row) (n : ℕ) → sum_by f (take n xs) ≤ sum_by f (take (n + 1) xs)
    take_le f xs n =
        let z : take n (take (n + 1) xs) ≡ take n xs = take-take n (n + 1) xs (omega arith) in
        let le : sum_by f (take n (take (n + 1) xs)) ≤ sum_by f (take (n + 1) xs) = sum_by-take-le f (take (n + 1) xs) n in
        subst (λ (l : List Row). sum_by f l ≤ sum_by f (take (n + 1) xs)) z le

pub same_row : (rows : List Row) (i : ℕ) (row other : Row) {old new : SeenSource} → slice_get rows i ≡ Some row
    → slice_get rows i ≡ Some other → ReadsHeads (row ∷ []) old new → ReadsHeads (other ∷ []) old new
same_row rows i row other {old} {new} at here reads =
    let z : Some row ≡ Some other = sym at ∙ here in
    let y : row ≡ other = cc in
    subst (λ (r : Row). ReadsHeads (r ∷ []) old new) y reads

pub some_at : {X : Type 0} (xs : List X) (i : ℕ) → i < length xs → (x : X) × (slice_get xs i ≡ Some x)
some_at [] i within = absurd (omega arith)
some_at (x ∷ xs) zero within = (x, refl)
some_at (x ∷ xs) (suc i) within = some_at xs i (omega arith)

pub as_many : (bytes : List ℕ) (rows : List Row) (is : IsArchiveOf bytes rows) → length rows ≡ length is.are.records
as_many bytes rows is = ap length is.are.rows_are ∙ length-map is.are.records row_of

pub record_there : (bytes : List ℕ) (rows : List Row) (i : ℕ) (is : IsArchiveOf bytes rows) → i < length rows
    → (p : Placed) × (slice_get is.are.records i ≡ Some p)
record_there bytes rows i is within =
    let many : length rows ≡ length is.are.records = as_many bytes rows is in some_at is.are.records i (omega arith)

pub taken_fewer : (records : List Placed) (n i : ℕ) (base marks : List Mark) → n ≤ i → AreTakenOf records i base marks
    → AreTakenOf records n base marks
taken_fewer records n i base marks le all = record {
  kept = all.kept;
  only = all.only;
  done = λ p q less. all.done p q (omega arith);
  taken = all.taken;
}
