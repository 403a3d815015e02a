-- A block that is judged again is that of the record there.
use Rattle.std.proofs.Common.{◌≡◌, ◌≢◌, ℕ, List, [], ◌∷◌, Some, None, Result, Ok, Err, IfErr, refl, sym, ap, subst, ◌∙◌, arith}
use Rattle.std.specs.List.{slice_get}
use Rattle.std.specs.Option.{option_to_list}
use Rattle.std.proofs.lemmas.List.Sums.{sum_by-cons}
use Rattle.warc_value.specs.declared.hash.Verdict.{Verdict}
use Rattle.warc_frame.specs.Effects.{FailsBy, ReadsOnly}
use Rattle.warc_frame.specs.Seen.{SeenSource}
use Rattle.warc_frame.proofs.EffectLemmas.{fails_more, fails_never, reads_none, reads_within}
use Rattle.warc_reading.specs.Placing.{IsInRow}
use Rattle.warc_reading.specs.Rereading.{HasTextOf, ReadsRows, row_len}
use Rattle.warc_reading.specs.Row.{Placed, Row}
use Rattle.warc_replay.specs.Judged.{GivesVerdictBy, IsVerdictBy}
use Rattle.warc_replay.specs.Status.{IsUntaken}
use Rattle.warc_replay.specs.Taking.{take_result}
use Rattle.warc_replay.specs.declared.fault.TakeFault.{TakeFault}
use Rattle.warc_replay.specs.declared.fault.TakeFault.TheVariants.{NoRecord, Read, Memory}
use Rattle.warc_reading.proofs.PlaceLemmas.{HeadsAreRead, checkable_archive}
use Rattle.warc_reading.proofs.PlacedLemmas.{placed, row_has}
use Rattle.warc_replay.proofs.TakeLemmas.{absent}

-- one row
pub reads_one_row : (row : Row) {old new : SeenSource} → ReadsOnly (IsInRow row) (row_len row) old new
    → ReadsRows (row ∷ []) old new
reads_one_row row has =
    reads_within (λ at in_. record { place = 0; row = row; is = refl; inside = in_ }) (omega (arith, sum_by-cons row_len row [])) has

-- where there is no row there is no record, and nothing is read
pub takes_no_verdict : (on : Placed → Verdict) (rows : List Row) (i : ℕ) (s : SeenSource) → slice_get rows i ≡ None → GivesVerdictBy on rows i s s (Err NoRecord)
takes_no_verdict on rows i s none = record {
  taken = λ bytes held is. absent is.are.records i (ap (λ l. slice_get l i) (sym is.are.rows_are) ∙ none);
  absent = (λ is. none, λ is. refl);
  reads = reads_within (λ at in_. in_) (omega arith) reads_none;
  fails = fails_never refl;
}

is_end : (r : Result Verdict TakeFault) → IfErr r IsUntaken → r ≢ Err NoRecord
is_end (Ok x) is e = cc e
is_end (Err NoRecord) is e = is
is_end (Err Read) is e = cc e
is_end (Err Memory) is e = cc e

-- what giving the verdict on a row's record promises
pub takes_verdict : (on : Placed → Verdict) → HeadsAreRead → (rows : List Row) (i : ℕ) (row : Row) (old new : SeenSource) (r : Result Verdict TakeFault) → slice_get rows i ≡ Some row
    → ((bytes : List ℕ) → old.holds ≡ Some bytes → (is : HasTextOf row bytes) → IsVerdictBy on (Some is.placed) r)
    → IfErr r IsUntaken → ReadsRows (row ∷ []) old new → FailsBy (HasTextOf row) (take_result r) old new
    → GivesVerdictBy on rows i old new r
takes_verdict on law rows i row old new r at given end reads fails = record {
  taken = λ bytes held is.
      let (p, there, same) = placed is.are.records i row (sym (ap (λ l. slice_get l i) is.are.rows_are) ∙ at) in
      let can = checkable_archive law bytes rows is rows refl in
      subst (λ o. IsVerdictBy on o r) (sym there)
      (given bytes held (record { placed = p; short = is.short; has = can.heads i p there; written = can.placed.each i p there; row_is = same }));
  absent = (λ e. absurd (is_end r end e), λ none. let no : Some row ≡ None = sym at ∙ none in absurd (cc no));
  reads = subst (λ o. ReadsRows (option_to_list o) old new) (sym at) reads;
  fails = fails_more (λ bytes held is. row_has bytes (record { records = is.are.records; can = checkable_archive law bytes rows is rows refl }) i row at) fails;
}
