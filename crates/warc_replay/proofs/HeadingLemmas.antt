-- A head that is read again is that of the record there.
use Rattle.std.proofs.Common.{◌≡◌, ◌≢◌, ℕ, List, [], ◌∷◌, Some, None, Result, Ok, Err, IfErr, refl, sym, ap, subst, ◌∙◌, arith}
use Rattle.std.specs.List.{slice_get}
use Rattle.std.specs.Option.{option_to_list}
use Rattle.warc_frame.specs.Seen.{SeenSource}
use Rattle.warc_frame.specs.declared.front.Head.{Head}
use Rattle.warc_frame.specs.Effects.{FailsBy}
use Rattle.warc_frame.proofs.EffectLemmas.{fails_more, fails_never}
use Rattle.warc_reading.specs.Rereading.{HasHeadOf, ReadsHeads}
use Rattle.warc_reading.specs.Row.{Row}
use Rattle.warc_replay.specs.Heading.{IsHeadTaken, GivesHead}
use Rattle.warc_replay.specs.Status.{IsUntaken}
use Rattle.warc_replay.specs.Taking.{take_result}
use Rattle.warc_replay.specs.declared.fault.TakeFault.{TakeFault}
use Rattle.warc_replay.specs.declared.fault.TakeFault.TheVariants.{NoRecord, Read, Memory}
use Rattle.warc_reading.proofs.PlaceLemmas.{HeadsAreRead, checkable_archive}
use Rattle.warc_reading.proofs.PlacedLemmas.{placed}
use Rattle.warc_replay.proofs.TakeLemmas.{absent}

-- where there is no row there is no record, and nothing is read
pub takes_no_head : {A : Type 0} (rows : List Row) (i : ℕ) (s : SeenSource) → slice_get rows i ≡ None → GivesHead {A = A} rows i s s (Err NoRecord)
takes_no_head rows i s none = record {
  taken = λ bytes held is. absent is.are.records i (ap (λ l. slice_get l i) (sym is.are.rows_are) ∙ none);
  absent = (λ is. none, λ is. refl);
  reads = record { kept = refl; watched = refl; near = λ off. refl; bound = omega arith };
  fails = fails_never refl;
}

is_end : {A : Type 0} (r : Result (Head A) TakeFault) → IfErr r IsUntaken → r ≢ Err NoRecord
is_end (Ok x) is e = cc e
is_end (Err NoRecord) is e = is
is_end (Err Read) is e = cc e
is_end (Err Memory) is e = cc e

-- what giving the head of a row's record promises
pub takes_head : {A : Type 0} → HeadsAreRead → (rows : List Row) (i : ℕ) (row : Row) (old new : SeenSource) (r : Result (Head A) TakeFault) → slice_get rows i ≡ Some row
    → ((bytes : List ℕ) → old.holds ≡ Some bytes → (is : HasHeadOf row bytes) → IsHeadTaken (Some is.placed) r)
    → IfErr r IsUntaken → ReadsHeads (row ∷ []) old new → FailsBy (HasHeadOf row) (take_result r) old new
    → GivesHead rows i old new r
takes_head law rows i row old new r at given end reads fails = record {
  taken = λ bytes held is.
      let (p, there, same) = placed is.are.records i row (sym (ap (λ l. slice_get l i) is.are.rows_are) ∙ at) in
      let has = (checkable_archive law bytes rows is rows refl).heads i p there in
      subst (λ o. IsHeadTaken o r) (sym there) (given bytes held (record { placed = p; has = has; row_is = same }));
  absent = (λ e. absurd (is_end r end e), λ none. let no : Some row ≡ None = sym at ∙ none in absurd (cc no));
  reads = subst (λ o. ReadsHeads (option_to_list o) old new) (sym at) reads;
  fails = fails_more (λ bytes held is.
      let (p, there, same) = placed is.are.records i row (sym (ap (λ l. slice_get l i) is.are.rows_are) ∙ at) in
      record { placed = p; has = (checkable_archive law bytes rows is rows refl).heads i p there; row_is = same }) fails;
}
