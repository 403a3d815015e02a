-- How a run ends, from what its calls answered.
use Rattle.std.proofs.Common.{◌≡◌, ℕ, List, Ok, Err, refl, sym, subst, ◌∙◌}
use Rattle.std.specs.List.{flat_map}
use Rattle.warc_frame.specs.FaultText.{out_fault_text}
use Rattle.warc_frame.specs.Record.{Record}
use Rattle.warc_rewrite.specs.Forms.{WritesEach}
use Rattle.std.specs.Prelude.{Result}
use Rattle.warc_frame.specs.declared.fault.Fault.{Fault}
use Rattle.warc_frame.specs.declared.fault.OutFault.{OutFault}
use Rattle.warc_reading.specs.Archive.{IsArchiveOf, contents}
use Rattle.warc_frame.specs.Failing.{HasFailedBy, MayHaveFailedBy}
use Rattle.warc_arguments.specs.declared.status.Status.{Status}
use Rattle.warc_arguments.specs.declared.status.Status.TheVariants.{Done, Failed}
use Rattle.warc_commands.specs.Devices.{devices}
use Rattle.warc_reading.specs.Opening.{Opens}
use Rattle.warc_commands.specs.Program.{AreGoodRecordsOf, IsCutOff, IsNotOpened, IsWritten, Reports, fault_line, status_of_kind, reported_line}
use Rattle.warc_reading.specs.Row.{Row}
use Rattle.warc_frame.specs.Seen.{Seen, SeenSource}
use Rattle.warc_reading.proofs.StreamLemmas.{spells_all}

-- the records of an archive
pub good_records_of : {bytes : List ℕ} {rows : List Row} (is : IsArchiveOf bytes rows) → AreGoodRecordsOf bytes (contents is.are.records)
good_records_of {bytes} is = record { short = is.short; spelled = spells_all 0 is.are.records bytes is.are.spelled; good = is.are.good }

-- an archive that isn't opened
pub not_opened : {X : Type 0} (Is : List ℕ → X → Type 0) (old new : SeenSource) (out err reported : Seen) (fault : Fault) (status : Status) → Opens Is old new (Err fault) → Reports (fault_line fault) err reported
    → status ≡ status_of_kind fault.kind → IsNotOpened (devices old out err) (devices new out reported) status
not_opened Is old new out err reported fault status opens reports is = record {
  fault = fault;
  is = opens.refused;
  failed = opens.reads.cause;
  asked = opens.reads.asked;
  untouched = refl;
  reported = reports;
  status_is = is;
}

-- how often a source has failed by an answer, by equal counts
pub failed_as : {X : Type 0} (r : Result X OutFault) (old new other now : ℕ) → old ≡ other → new ≡ now → HasFailedBy r old new → HasFailedBy r other now
failed_as r old new other now a b is =
    let P : ℕ → Type 0 = λ n. HasFailedBy r n now in
    let Q : ℕ → Type 0 = λ n. HasFailedBy r old n in
    subst P a (subst Q b is)

pub may_have_failed_as : {X : Type 0} (r : Result X OutFault) (old new other now : ℕ) → old ≡ other → new ≡ now → MayHaveFailedBy r old new → MayHaveFailedBy r other now
may_have_failed_as r old new other now a b is =
    let P : ℕ → Type 0 = λ n. MayHaveFailedBy r n now in
    let Q : ℕ → Type 0 = λ n. MayHaveFailedBy r old n in
    subst P a (subst Q b is)

-- how often a source has failed, by equal counts
pub has_failed : (f : OutFault) (old new other now : ℕ) → old ≡ other → new ≡ now → HasFailedBy {X = ℕ} (Err f) old new → HasFailedBy {X = ℕ} (Err f) other now
has_failed f old new other now a b is =
    let P : ℕ → Type 0 = λ n. HasFailedBy {X = ℕ} (Err f) n now in
    let Q : ℕ → Type 0 = λ n. HasFailedBy {X = ℕ} (Err f) old n in
    subst P a (subst Q b is)

pub may_have_failed : (f : OutFault) (old new other now : ℕ) → old ≡ other → new ≡ now → MayHaveFailedBy {X = ℕ} (Err f) old new → MayHaveFailedBy {X = ℕ} (Err f) other now
may_have_failed f old new other now a b is =
    let P : ℕ → Type 0 = λ n. MayHaveFailedBy {X = ℕ} (Err f) n now in
    let Q : ℕ → Type 0 = λ n. MayHaveFailedBy {X = ℕ} (Err f) old n in
    subst P a (subst Q b is)

-- an archive of which a text was written
pub all_written : {text_of : Record → List ℕ} {len_of : Row → ℕ} {rows : List Row} {old mid last new : SeenSource} {before after err : Seen} {u : Unit {0}}
    → Opens IsArchiveOf old mid (Ok rows) → WritesEach text_of len_of rows mid last before after (Ok u) → new.faults ≡ last.faults
    → IsWritten (flat_map text_of) (devices old before err) (devices new after err) Done
all_written opened writes same = record {
  is = λ bytes held.
      let archive = opened.accepted bytes held in
      record {
        records = contents archive.are.records;
        are = good_records_of archive;
        reported = writes.sends.out bytes _ (opened.reads.kept ∙ held) (record { is = archive; text_is = refl });
      };
  unfailed = writes.sends.cause;
  sound = same ∙ writes.sends.fails.may ∙ opened.reads.cause;
  silent = refl;
  status_is = refl;
}

-- an archive of which a front of a text was written
pub part_written : {text_of : Record → List ℕ} {len_of : Row → ℕ} {rows : List Row} {old mid last new : SeenSource} {before after err reported : Seen} {status : Status} (e : OutFault)
    → Opens IsArchiveOf old mid (Ok rows) → WritesEach text_of len_of rows mid last before after (Err e) → new.faults ≡ last.faults
    → Reports (reported_line (out_fault_text e)) err reported → status ≡ Failed → IsCutOff (flat_map text_of) (devices old before err) (devices new after reported) status
part_written e opened writes same reports is = record {
  fault = e;
  is = λ bytes held.
      let archive = opened.accepted bytes held in
      record {
        records = contents archive.are.records;
        are = good_records_of archive;
        front = writes.sends.cut bytes _ (opened.reads.kept ∙ held) (record { is = archive; text_is = refl });
        source = has_failed e _ _ _ _ opened.reads.cause (sym same) (writes.sends.fails.failed bytes (opened.reads.kept ∙ held) (_, record { is = archive; text_is = refl }));
      };
  source = may_have_failed e _ _ _ _ opened.reads.cause (sym same) writes.sends.fails.may;
  failed = writes.sends.cause;
  reported = reports;
  status_is = is;
}

-- a line that was reported is reported as an equal one
pub reported_as : {line other : List ℕ} {old new : Seen} → line ≡ other → Reports line old new → Reports other old new
reported_as {line} {other} {old} {new} same reported = let P : List ℕ → Type 0 = λ l. Reports l old new in subst P same reported
