-- The good front of a source.
use Rattle.std.proofs.Common.{◌≡◌, ℕ, ◌^◌, ◌<◌, ◌≤◌, List, [], ◌++◌, length, take, drop, Option, Some, None, Ok, Err, refl, sym, ap, subst, ◌∙◌, arith, length-append}
use Rattle.std.specs.Prelude.{Result}
use Rattle.std.specs.Result.{result_err}
use Rattle.std.proofs.Math.Seq.{take-append_seam}
use Rattle.std.proofs.lemmas.List.{append_assoc, append-nil, take-append-drop}
use Rattle.std.specs.Io.KnownBytes.{append_known}
use Rattle.warc_frame.specs.Effects.{HasRange, IsOfDevice, IsRange, ReadsRange, Sends}
use Rattle.warc_frame.proofs.EffectLemmas.{reads_within}
use Rattle.warc_frame.specs.Failing.{HasFailedBy, MayHaveFailedBy}
use Rattle.warc_frame.specs.Record.{max_archive}
use Rattle.warc_frame.specs.Seen.{Seen, SeenSource}
use Rattle.warc_frame.specs.Send.{WentOut, sent_of}
use Rattle.warc_frame.specs.declared.fault.Fault.{Fault}
use Rattle.warc_frame.specs.declared.fault.OutFault.{OutFault}
use Rattle.warc_frame.specs.declared.fault.OutFault.TheVariants.{Memory, Read, Write}
use Rattle.warc_reading.specs.Archive.{IsArchiveOf}
use Rattle.warc_reading.specs.Fronts.{AreFrontRows, reach_of}
use Rattle.warc_reading.specs.Growing.{grown}
use Rattle.warc_reading.specs.Opening.{Opens}
use Rattle.warc_reading.specs.Row.{Row}
use Rattle.warc.specs.Front.{CopiesFront, AreRowsOfFront, OpensFront}

-- ---- what was opened

pub front_opened : (rows : List Row) (old new : SeenSource) (answer : Result (Unit {0}) Fault) (fault : Option Fault) → fault ≡ result_err answer
    → Opens IsArchiveOf old new (grown answer rows) → ((bytes : List ℕ) → old.holds ≡ Some bytes → AreFrontRows bytes answer rows) → OpensFront old new rows fault
front_opened rows old new (Ok u) fault is opens fronts = rw is (record { opens = opens; rows_are = fronts })
front_opened rows old new (Err e) fault is opens fronts = rw is (record { opens = opens; rows_are = fronts })

-- the bytes begin with those of the records
pub front_begins : (bytes : List ℕ) (found : Option Fault) (rows : List Row) → AreRowsOfFront bytes found rows → (text more : List ℕ) × (bytes ≡ text ++ more) × IsArchiveOf text rows
front_begins bytes None rows is = (bytes, [], sym (append-nil bytes), is)
front_begins bytes (Some f) rows is =
    let reach : ℕ = reach_of f in (
      is.front,
      is.rest ++ drop reach bytes,
      sym (take-append-drop reach bytes) ∙ ap (λ t. t ++ drop reach bytes) is.bytes_are ∙ append_assoc is.front is.rest (drop reach bytes),
      is.are,
    )

-- ---- the bytes of its records

failed_as_count : (e : OutFault) (n m : ℕ) → HasFailedBy {X = Unit {0}} (Err e) n m → HasFailedBy {X = ℕ} (Err e) n m
failed_as_count (Read s) n m is = is
failed_as_count (Write s) n m is = is
failed_as_count (Memory s) n m is = is

may_as_count : (e : OutFault) (n m : ℕ) → MayHaveFailedBy {X = Unit {0}} (Err e) n m → MayHaveFailedBy {X = ℕ} (Err e) n m
may_as_count (Read s) n m is = is
may_as_count (Write s) n m is = is
may_as_count (Memory s) n m is = is

module _ (rows : List Row) (end : ℕ) (old new : SeenSource) (before after : Seen) (short : end ≤ max_archive)
    (at : (text : List ℕ) → IsArchiveOf text rows → end ≡ length text) (filled : ReadsRange 0 end old new) where
  there : (text more : List ℕ) → length (text ++ more) < 2 ^ 64 → IsArchiveOf text rows → HasRange 0 end (text ++ more)
  there text more few is = (omega (arith, at text is, length-append text more), few)

  front_bytes : (text more : List ℕ) → IsArchiveOf text rows → take end (drop 0 (text ++ more)) ≡ text
  front_bytes text more is = ap (λ n. take n (text ++ more)) (at text is) ∙ take-append_seam text more

  reads : (text : List ℕ) → IsArchiveOf text rows → ReadsRange 0 (length text) old new
  reads text is = let P : ℕ → Type 0 = λ n. ReadsRange 0 n old new in subst P (at text is) filled

  near : ReadsRange 0 max_archive old new
  near = reads_within (λ q in_. (in_.0, omega (arith, in_.1, short))) short filled

  pub copies_all : Sends {X = Unit {0}} (IsRange 0 end) old new before after (Ok tt)
      → CopiesFront rows old new before after (Ok end)
  copies_all sends = record {
    reported = λ text more held few is.
        let reported = sends.out (text ++ more) _ held (there text more few is, refl) in
        (reported ∙ ap (append_known before.reports) (front_bytes text more is), at text is);
    cut = λ text more held few is. tt;
    failed = λ text more held few is. sends.fails.may;
    reads = reads;
    near = near;
    device = tt;
    may = sends.fails.may;
    cause = sends.cause;
  }

  pub copies_cut : (e : OutFault) → IsOfDevice e → Sends {X = Unit {0}} (IsRange 0 end) old new before after (Err e)
      → CopiesFront rows old new before after (Err e)
  copies_cut e device sends = record {
    reported = λ text more held few is. (tt, tt);
    cut = λ text more held few is.
        let P : List ℕ → Type 0 = λ t. WentOut before.reports t after.reports (sent_of e) in
        subst P (front_bytes text more is) (sends.cut (text ++ more) _ held (there text more few is, refl));
    failed = λ text more held few is.
        failed_as_count e old.faults new.faults (sends.fails.failed (text ++ more) held (_, (there text more few is, refl)));
    reads = reads;
    near = near;
    device = device;
    may = may_as_count e old.faults new.faults sends.fails.may;
    cause = sends.cause;
  }
