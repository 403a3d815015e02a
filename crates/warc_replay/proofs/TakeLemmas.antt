-- A record that is read again is the one that is there.
use Rattle.std.proofs.Common.{◌≡◌, ◌≢◌, ℕ, zero, suc, ◌+◌, ◌<◌, ◌≤◌, ◌^◌, inl, List, [], ◌∷◌, length, map, take, drop, Option, Some, None, Result, Ok, Err, IfOk, IfErr, MatchResult, refl, sym, ap, subst, ◌∙◌, arith}
use Rattle.std.specs.List.{slice_get}
use Rattle.warc_frame.specs.Failing.{HasFailedBy, MayHaveFailedBy}
use Rattle.warc_frame.specs.Effects.{FailsBy, ReadsRange}
use Rattle.warc_frame.proofs.EffectLemmas.{fails_more, reads_none, reads_within}
use Rattle.warc_frame.specs.Reading.{OrMemory}
use Rattle.warc_frame.specs.Record.{Record, max_archive}
use Rattle.warc_frame.specs.Seen.{SeenSource}
use Rattle.warc_frame.specs.Spelling.{Spells}
use Rattle.warc_frame.specs.declared.fault.Fault.{Fault}
use Rattle.warc_frame.specs.declared.fault.FaultKind.{FaultKind}
use Rattle.warc_frame.specs.declared.fault.FaultKind.TheVariants.{Memory as NoMemory}
use Rattle.warc_reading.specs.Row.{Placed, Row, row_of}
use Rattle.warc_replay.specs.Status.{HasRecordOf, IsUntaken}
use Rattle.warc_reading.specs.Placing.{IsPlacedIn}
use Rattle.warc_replay.specs.Taking.{IsSpelledIn, IsTaken, ReadsRecord, GivesRecord, take_result}
use Rattle.warc_lookup.specs.RecordBytes.{record_len}
use Rattle.warc_replay.specs.declared.fault.TakeFault.{TakeFault}
use Rattle.warc_replay.specs.declared.fault.TakeFault.TheVariants.{NoRecord, Read, Memory}
use Rattle.warc_reading.proofs.PlacedLemmas.{placed}
use Rattle.warc_reading.proofs.RemainLemmas.{written}

-- the text that is read where the row says spells the record
pub spells_there : (bytes text : List ℕ) (p : Placed) (row : Row) (len : ℕ) → IsPlacedIn bytes p → row ≡ row_of p → row.offset + len ≡ row.block_start + row.block_len + 4
    → text ≡ take len (drop row.offset bytes) → Spells p.content text
spells_there bytes text p row len has same end text_is =
    let at : row.offset ≡ p.offset = ap (λ (r : Row). r.offset) same in
    let start : row.block_start ≡ p.block_start = ap (λ (r : Row). r.block_start) same in
    let size : row.block_len ≡ length p.content.block = ap (λ (r : Row). r.block_len) same in
    let n : len ≡ has.len = omega (arith, at, start, size, end, has.end) in
    let is : text ≡ take has.len (drop p.offset bytes) = text_is ∙ ap (λ q. take len (drop q bytes)) at ∙ ap (λ k. take k (drop p.offset bytes)) n in
    subst (λ t. Spells p.content t) (sym is) has.spells

-- where a record is read, only a failed allocation is a fault
pub memory_reported : (kind : FaultKind) (offset : ℕ) (P : Type 0) → (P → ⊥) → OrMemory kind offset P → kind ≡ NoMemory
memory_reported NoMemory offset P never is = refl
memory_reported kind offset P never is = absurd (never is)

-- where it is, and that it ends before offset 2^64
pub end_by_row : (bytes : List ℕ) (p : Placed) (row : Row) (has : IsPlacedIn bytes p) → row ≡ row_of p → row.offset + has.len ≡ row.block_start + row.block_len + 4
end_by_row bytes p row has same = omega (arith, ap (λ (r : Row). r.offset) same, ap (λ (r : Row). r.block_start) same, ap (λ (r : Row). r.block_len) same, has.end)

pub end_below : (bytes : List ℕ) (p : Placed) (row : Row) (has : IsPlacedIn bytes p) → row ≡ row_of p → length bytes ≤ max_archive → row.offset + has.len < 2 ^ 64
end_below bytes p row has same short = omega (arith, ap (λ (r : Row). r.offset) same, has.within, short)

-- what reading it asks of the source
pub reads_record : (row : Row) (len : ℕ) (old new : SeenSource) → row.offset + len ≡ row.block_start + row.block_len + 4 → ReadsRange row.offset len old new → ReadsRecord (Some row) old new
reads_record row len old new end has =
    reads_within (λ q in_. (in_.0, omega (arith, in_.1, end))) (omega (arith, end)) has

pub taken_by : (r : Result Record TakeFault) (p : Placed) → IfOk r (λ x. x ≡ p.content) → IfErr r IsUntaken → IsTaken (Some p) r
taken_by (Ok x) p is end = (p, refl, is)
taken_by (Err NoRecord) p is end = absurd end
taken_by (Err Read) p is end = refl
taken_by (Err Memory) p is end = refl

-- a failed allocation isn't a failure of the source
pub read_is : (r : Result Record TakeFault) (wanted : Record) → MatchResult r (λ x. x ≡ wanted) (λ e. e ≡ Memory) → IfOk r (λ x. x ≡ wanted)
read_is (Ok x) wanted is = is
read_is (Err e) wanted is = tt

pub failed_by_none : (r : Result Record TakeFault) (wanted : Record) (old new : ℕ) → MatchResult r (λ x. x ≡ wanted) (λ e. e ≡ Memory) → new ≡ old → HasFailedBy (take_result r) old new
failed_by_none (Ok x) wanted old new is same = same
failed_by_none (Err NoRecord) wanted old new is same = same
failed_by_none (Err Read) wanted old new is same = cc is
failed_by_none (Err Memory) wanted old new is same = same

pub may_take : (r : Result Record TakeFault) (old new : ℕ) → IfErr r IsUntaken → new ≡ old → MayHaveFailedBy (take_result r) old new
may_take (Ok x) old new is same = same
may_take (Err NoRecord) old new is same = same
may_take (Err Read) old new is same = inl same
may_take (Err Memory) old new is same = same

-- where there is no row there is no record
pub absent : (records : List Placed) (i : ℕ) → slice_get (map row_of records) i ≡ None → slice_get records i ≡ None
absent [] i is = refl
absent (x ∷ xs) zero is = absurd (cc is)
absent (x ∷ xs) (suc i) is = absent xs i is

pub takes_none : (rows : List Row) (i : ℕ) (s : SeenSource) → slice_get rows i ≡ None → GivesRecord rows i s s (Err NoRecord)
takes_none rows i s none = record {
  taken = λ bytes held is. absent is.are.records i (ap (λ l. slice_get l i) (sym is.are.rows_are) ∙ none);
  whole = tt;
  absent = (λ is. none, λ is. refl);
  reads = reads_within (λ at in_. in_) (omega arith) reads_none;
  fails = record { may = refl; failed = λ bytes held is. refl };
}

is_end : (r : Result Record TakeFault) → IfErr r IsUntaken → r ≢ Err NoRecord
is_end (Ok x) is e = cc e
is_end (Err NoRecord) is e = is
is_end (Err Read) is e = cc e
is_end (Err Memory) is e = cc e

taken_at : (o : Option Placed) (p : Placed) (r : Result Record TakeFault) → o ≡ Some p → IsTaken (Some p) r → IsTaken o r
taken_at o p r is taken = subst (λ x. IsTaken x r) (sym is) taken

-- what giving the record of a row promises
pub takes_row : (rows : List Row) (i : ℕ) (row : Row) (old new : SeenSource) (r : Result Record TakeFault) → slice_get rows i ≡ Some row
    → ((bytes : List ℕ) → old.holds ≡ Some bytes → (is : HasRecordOf row bytes) → IsTaken (Some is.placed) r)
    → IfErr r IsUntaken → IfOk r (IsSpelledIn (record_len (Some row))) → ReadsRecord (Some row) old new
    → FailsBy (HasRecordOf row) (take_result r) old new → GivesRecord rows i old new r
takes_row rows i row old new r at given end whole reads fails = record {
  taken = λ bytes held is.
      let (p, there, same) = placed is.are.records i row (sym (ap (λ l. slice_get l i) is.are.rows_are) ∙ at) in
      taken_at (slice_get is.are.records i) p r there
      (given bytes held (record { placed = p; short = is.short; written = written bytes is.are.records is.are.spelled i p there; row_is = same }));
  whole = subst (λ o. IfOk r (IsSpelledIn (record_len o))) (sym at) whole;
  absent = (λ e. absurd (is_end r end e), λ none. let no : Some row ≡ None = sym at ∙ none in absurd (cc no));
  reads = subst (λ o. ReadsRecord o old new) (sym at) reads;
  fails = fails_more (λ bytes held is.
      let (p, there, same) = placed is.are.records i row (sym (ap (λ l. slice_get l i) is.are.rows_are) ∙ at) in
      record { placed = p; short = is.short; written = written bytes is.are.records is.are.spelled i p there; row_is = same }) fails;
}

-- what was found is this
pub same_found : (r : Record) (n : ℕ) (found : Record × ℕ) → ◌≡◌ {A = Result (Record × ℕ) Fault} (Ok (r, n)) (Ok found) → (found.0 ≡ r) × (found.1 ≡ n)
same_found r n (x, m) e =
    let same : ◌≡◌ {A = Record × ℕ} (r, n) (x, m) = cc e in
    (sym (ap (λ (y : Record × ℕ). y.0) same), sym (ap (λ (y : Record × ℕ). y.1) same))
