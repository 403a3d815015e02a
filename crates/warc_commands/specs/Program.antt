-- How a run of the program ends: what went to its two sinks, and its exit status.
use Rattle.std.specs.Prelude.{◌≡◌, ℕ, ◌+◌, ◌^◌, ◌<◌, ◌≤◌, Bool, List, ◌++◌, length, take, codes, decimal, Option, Some, None, Result, Ok, Err, ◌⊎◌, true, false, nat_lt, if◌then◌else◌, string_bytes}
use Rattle.std.specs.Io.KnownBytes.{append_known}
use Rattle.warc_answer.specs.ReasonText.{replay_fault_text}
use Rattle.warc_answer.specs.Replays.{IsReplay, IsSilent, out_result}
use Rattle.warc_answer.specs.declared.answer.Answer.{Answer}
use Rattle.warc_answer.specs.declared.answer.ReplayFault.{ReplayFault}
use Rattle.warc_answer.specs.declared.answer.ReplayFault.TheVariants.{Reason, Out as ReplayOut}
use Rattle.warc_frame.specs.Count.{raised}
use Rattle.warc_frame.specs.FaultText.{fault_text, out_fault_text}
use Rattle.warc_frame.specs.Record.{Record, max_archive, max_block}
use Rattle.warc_frame.specs.Send.{WentOut, sent_of}
use Rattle.warc_frame.specs.Spelling.{SpellsAll, canonical}
use Rattle.warc_frame.specs.declared.fault.Fault.{Fault}
use Rattle.warc_frame.specs.declared.fault.FaultKind.{FaultKind}
use Rattle.warc_frame.specs.declared.fault.FaultKind.TheVariants.{Read, Memory}
use Rattle.warc_frame.specs.declared.fault.OutFault.{OutFault}
use Rattle.warc_frame.specs.declared.fault.OutFault.TheVariants.{Read as NoRead, Write, Memory as NoMemory}
use Rattle.warc_value.specs.Dates.{Instant}
use Rattle.warc_replay.specs.Extracting.{IsExtract, extracted}
use Rattle.warc_replay.specs.Parts.{extract_result}
use Rattle.warc_record.specs.Kinds.{kind_named}
use Rattle.warc_write.specs.Making.{Makes, Plan, made, make_fault_text}
use Rattle.warc_write.specs.declared.made.MakeFault.{MakeFault}
use Rattle.warc_rewrite.specs.Forms.{split_texts}
use Rattle.warc_replay.specs.TakeText.{extract_fault_text}
use Rattle.warc_replay.specs.declared.fault.ExtractFault.{ExtractFault}
use Rattle.warc_replay.specs.declared.fault.ExtractFault.TheVariants.{NoRecord, Out as ExtractOut}
use Rattle.warc_arguments.specs.declared.command.Draft.{Draft}
use Rattle.warc_arguments.specs.declared.parser.CommandFault.{CommandFault}
use Rattle.warc_arguments.specs.declared.parser.CommandFault.TheVariants.{Usage, Memory as OutOfMemory}
use Rattle.warc_reading.specs.Opening.{IsRefusalOf, faults_after}
use Rattle.warc_reading.specs.Archive.{AreGood, IsArchiveOf}
use Rattle.warc_checking.specs.Checking.{check_text, findings_of_archive}
use Rattle.warc_frame.specs.Failing.{HasFailedBy, MayHaveFailedBy, failed_by, failed_with, is_read}
use Rattle.warc_json.specs.Rows.{json_listing}
use Rattle.warc_judged.specs.Listing.{listing}
use Rattle.warc_reading.specs.Row.{Row}
use Rattle.warc_arguments.specs.declared.status.Status.{Status}
use Rattle.warc_arguments.specs.declared.status.Status.TheVariants.{Done, Found, Refused, Failed}
use Rattle.warc_commands.specs.Devices.{Devices}
use Rattle.warc_frame.specs.Seen.{IfHeld, Seen}

-- a text as a line of the program
abbrev pub reported_line : List ℕ → List ℕ
reported_line text = codes "warc: " ++ text ++ codes "\n"

abbrev pub fault_line : Fault → List ℕ
fault_line f = reported_line (fault_text f)

-- the status where an archive isn't opened: by whether a read or an allocation failed
abbrev pub status_of_kind : FaultKind → Status
status_of_kind Read = Failed
status_of_kind Memory = Failed
status_of_kind kind = Refused

-- a line was written: all of it, unless a write failed, and then a front of it
pub record Reports (line : List ℕ) (old new : Seen) : Type 0 where
  pub count : ℕ
  pub front : new.reports ≡ append_known old.reports (take count line)
  pub whole : new.faults ≡ old.faults → old.faults + 1 < 2 ^ 64 → count ≡ length line

-- a command ends early, before it writes: the bytes were refused for their first fault, or a read or an allocation
-- failed. A read fault is reported only where the source has failed once more, at the offset asked last
pub record IsNotOpened (old new : Devices) (status : Status) : Type 0 where
  pub fault : Fault
  pub is : IfHeld old.source.holds (λ bytes. IsRefusalOf bytes old.source new.source fault)
  pub failed : new.source.faults ≡ faults_after fault.kind old.source.faults
  pub asked : fault.kind ≡ Read → fault.offset ≡ new.source.asked
  pub untouched : new.out ≡ old.out
  pub reported : Reports (fault_line fault) old.err new.err
  pub status_is : status ≡ status_of_kind fault.kind

-- the lines of `list`: columns, or with `--json` an object each
abbrev pub listed_as : Bool → List Row → List ℕ
listed_as json rows = if json then json_listing rows else listing rows

-- all lines of `list` went out
pub record IsListed (json : Bool) (old new : Devices) (status : Status) : Type 0 where
  pub rows : List Row
  pub are : IfHeld old.source.holds (λ bytes. IsArchiveOf bytes rows)
  pub reported : new.out.reports ≡ append_known old.out.reports (listed_as json rows)
  pub unfailed : new.out.faults ≡ old.out.faults
  pub sound : new.source.faults ≡ old.source.faults
  pub silent : new.err ≡ old.err
  pub status_is : status ≡ Done

-- a write failed: a front of the lines of `list` went out
pub record IsListCutOff (json : Bool) (old new : Devices) (status : Status) : Type 0 where
  pub rows : List Row
  pub are : IfHeld old.source.holds (λ bytes. IsArchiveOf bytes rows)
  pub sent : ℕ
  pub front : WentOut old.out.reports (listed_as json rows) new.out.reports sent
  pub failed : new.out.faults ≡ raised old.out.faults
  pub sound : new.source.faults ≡ old.source.faults
  pub reported : Reports (reported_line (out_fault_text (Write sent))) old.err new.err
  pub status_is : status ≡ Failed

-- how `list` ends
abbrev pub ListEnds : Bool → Devices → Devices → Status → Type 0
ListEnds json old new status =
    IsListed json old new status ⊎ (IsNotOpened old new status ⊎ IsListCutOff json old new status)

-- the status where an archive was checked, by how many things were found
abbrev pub status_of_count : ℕ → Status
status_of_count n = if nat_lt 0 n then Found else Done

-- the good records that bytes spell
pub record AreGoodRecordsOf (bytes : List ℕ) (records : List Record) : Type 0 where
  pub short : length bytes ≤ max_archive
  pub spelled : SpellsAll records bytes
  pub good : AreGood records

-- a line went out for each finding of the good records that the bytes spell
pub record IsCheckOf (bytes : List ℕ) (old new : Seen) (status : Status) : Type 0 where
  pub records : List Record
  pub are : AreGoodRecordsOf bytes records
  pub reported : new.reports ≡ append_known old.reports (check_text records)
  pub status_is : status ≡ status_of_count (length (findings_of_archive records))

-- all lines of `check` went out
pub record IsChecked (old new : Devices) (status : Status) : Type 0 where
  pub is : IfHeld old.source.holds (λ bytes. IsCheckOf bytes old.out new.out status)
  pub unfailed : new.out.faults ≡ old.out.faults
  pub sound : new.source.faults ≡ old.source.faults
  pub silent : new.err ≡ old.err
  pub status_in : (status ≡ Done) ⊎ (status ≡ Found)

-- a front of the text of the good records that the bytes spell went out, and the source has failed once more exactly
-- where a read is reported
pub record IsFrontOf (text : List Record → List ℕ) (bytes : List ℕ) (fault : OutFault) (old new : Devices)
    : Type 0 where
  pub records : List Record
  pub are : AreGoodRecordsOf bytes records
  pub front : WentOut old.out.reports (text records) new.out.reports (sent_of fault)
  pub source : HasFailedBy {X = ℕ} (Err fault) old.source.faults new.source.faults

-- a read, a write or an allocation failed while a text of the records was written
pub record IsCutOff (text : List Record → List ℕ) (old new : Devices) (status : Status) : Type 0 where
  pub fault : OutFault
  pub is : IfHeld old.source.holds (λ bytes. IsFrontOf text bytes fault old new)
  pub source : MayHaveFailedBy {X = ℕ} (Err fault) old.source.faults new.source.faults
  pub failed : new.out.faults ≡ failed_with fault old.out.faults
  pub reported : Reports (reported_line (out_fault_text fault)) old.err new.err
  pub status_is : status ≡ Failed

-- a write or an allocation failed after an archive was opened for `check`. All was read before that, so no read failed,
-- and the source has failed as often as before
pub record IsCheckCutOff (old new : Devices) (status : Status) : Type 0 where
  pub cut : IsCutOff check_text old new status
  pub unread : is_read cut.fault ≡ false
  pub sound : new.source.faults ≡ old.source.faults

-- how `check` ends
abbrev pub CheckEnds : Devices → Devices → Status → Type 0
CheckEnds old new status =
    IsChecked old new status ⊎ (IsNotOpened old new status ⊎ IsCheckCutOff old new status)

-- a line was written, or none
abbrev pub ReportsIf : Option (List ℕ) → Seen → Seen → Type 0
ReportsIf None old new = new ≡ old
ReportsIf (Some line) old new = Reports line old new

-- the line that `extract` writes by what was answered, none where the whole block was written; and its status
abbrev pub extract_line : Result ℕ ExtractFault → Option (List ℕ)
extract_line (Ok n) = None
extract_line (Err fault) = Some (reported_line (extract_fault_text fault))

abbrev pub extract_status : Result ℕ ExtractFault → Status
extract_status (Ok n) = Done
extract_status (Err NoRecord) = Found
extract_status (Err (ExtractOut e)) = Failed

-- the block of the first record with the id, of those that the bytes spell, went out as was answered
pub record IsExtractOf (id : List ℕ) (answer : Result ℕ ExtractFault) (bytes : List ℕ) (old new : Devices)
    : Type 0 where
  pub rows : List Row
  pub is : IsArchiveOf bytes rows
  pub reported : IsExtract (extracted is.are.records id) answer old.out.reports new.out.reports
  pub source : HasFailedBy (extract_result answer) old.source.faults new.source.faults

-- the archive was opened, and a block was asked for
pub record IsExtracted (id : List ℕ) (old new : Devices) (status : Status) : Type 0 where
  pub answer : Result ℕ ExtractFault
  pub is : IfHeld old.source.holds (λ bytes. IsExtractOf id answer bytes old new)
  pub silent : answer ≡ Err NoRecord → new.out.reports ≡ old.out.reports
  pub source : MayHaveFailedBy (extract_result answer) old.source.faults new.source.faults
  pub failed : new.out.faults ≡ failed_by (extract_result answer) old.out.faults
  pub reported : ReportsIf (extract_line answer) old.err new.err
  pub status_is : status ≡ extract_status answer

-- how `extract` ends
abbrev pub ExtractEnds : List ℕ → Devices → Devices → Status → Type 0
ExtractEnds id old new status = IsExtracted id old new status ⊎ IsNotOpened old new status

-- a number in decimal digits, or a dash where there is none
abbrev pub number_or_dash : Option ℕ → List ℕ
number_or_dash None = codes "-"
number_or_dash (Some number) = decimal number

abbrev pub yes_or_no : Bool → List ℕ
yes_or_no true = codes "yes"
yes_or_no false = codes "no"

-- what is said of a body that was given
abbrev pub answer_text : Answer → List ℕ
answer_text answer =
    codes "chosen " ++ decimal answer.chosen ++ codes " given " ++ decimal answer.given
    ++ codes " status " ++ number_or_dash answer.status
    ++ codes " truncated " ++ yes_or_no answer.truncated ++ codes " length " ++ decimal answer.length

-- the line that `replay` writes by what was answered, and its status
abbrev pub replay_line : Result Answer ReplayFault → List ℕ
replay_line (Ok answer) = answer_text answer ++ codes "\n"
replay_line (Err fault) = reported_line (replay_fault_text fault)

abbrev pub replay_status : Result Answer ReplayFault → Status
replay_status (Ok answer) = Done
replay_status (Err (Reason why)) = Found
replay_status (Err (ReplayOut e)) = Failed

-- the body that the records give which the bytes spell went out as was answered
pub record IsReplayOf (uri : List ℕ) (moment : Instant) (answer : Result Answer ReplayFault) (bytes : List ℕ)
    (old new : Devices) : Type 0 where
  pub records : List Record
  pub are : AreGoodRecordsOf bytes records
  pub reported : IsReplay records uri moment answer old.out.reports new.out.reports
  pub source : HasFailedBy (out_result answer) old.source.faults new.source.faults

-- the archive was opened, and a body was asked for
pub record IsReplayed (uri : List ℕ) (moment : Instant) (old new : Devices) (status : Status) : Type 0 where
  pub answer : Result Answer ReplayFault
  pub is : IfHeld old.source.holds (λ bytes. IsReplayOf uri moment answer bytes old new)
  pub silent : IsSilent answer old.out.reports new.out.reports
  pub source : MayHaveFailedBy (out_result answer) old.source.faults new.source.faults
  pub failed : new.out.faults ≡ failed_by (out_result answer) old.out.faults
  pub reported : Reports (replay_line answer) old.err new.err
  pub status_is : status ≡ replay_status answer

-- how `replay` ends, as of an instant
abbrev pub ReplayEnds : List ℕ → Instant → Devices → Devices → Status → Type 0
ReplayEnds uri moment old new status = IsReplayed uri moment old new status ⊎ IsNotOpened old new status

-- a text of the good records that the bytes spell was written
pub record IsWrittenOf (text : List Record → List ℕ) (bytes : List ℕ) (old new : Seen) : Type 0 where
  pub records : List Record
  pub are : AreGoodRecordsOf bytes records
  pub reported : new.reports ≡ append_known old.reports (text records)

-- all of it was written
pub record IsWritten (text : List Record → List ℕ) (old new : Devices) (status : Status) : Type 0 where
  pub is : IfHeld old.source.holds (λ bytes. IsWrittenOf text bytes old.out new.out)
  pub unfailed : new.out.faults ≡ old.out.faults
  pub sound : new.source.faults ≡ old.source.faults
  pub silent : new.err ≡ old.err
  pub status_is : status ≡ Done

-- how writing a text of the records of an archive ends
abbrev pub WriteEnds : (List Record → List ℕ) → Devices → Devices → Status → Type 0
WriteEnds text old new status =
    IsWritten text old new status ⊎ (IsNotOpened old new status ⊎ IsCutOff text old new status)

-- how `split` ends, by how many bytes a segment is to have
abbrev pub SplitEnds : ℕ → Devices → Devices → Status → Type 0
SplitEnds size = WriteEnds (split_texts size)

-- what `write` makes a record of, by its words and the bytes of its file: all of them, or one more than a block may
-- have
abbrev pub plan_of : Draft → List ℕ → Plan
plan_of d bytes = record {
  kind = kind_named d.kind.now;
  uri = d.uri.now;
  date = d.date.now;
  uuid = d.uuid.now;
  content_type = d.content_type.now;
  block = take (max_block + 1) bytes;
}

-- the record that is made was written
pub record IsMadeOf (d : Draft) (bytes : List ℕ) (old new : Seen) : Type 0 where
  pub content : Record
  pub is : made (plan_of d bytes) ≡ Ok content
  pub reported : new.reports ≡ append_known old.reports (canonical content)

pub record IsMade (d : Draft) (old new : Devices) (status : Status) : Type 0 where
  pub is : IfHeld old.source.holds (λ bytes. IsMadeOf d bytes old.out new.out)
  pub unfailed : new.out.faults ≡ old.out.faults
  pub sound : new.source.faults ≡ old.source.faults
  pub silent : new.err ≡ old.err
  pub status_is : status ≡ Done

-- no record is made, for the first reason
pub record IsNotMade (d : Draft) (old new : Devices) (status : Status) : Type 0 where
  pub fault : MakeFault
  pub is : IfHeld old.source.holds (λ bytes. Makes (Err fault) (made (plan_of d bytes)))
  pub sound : new.source.faults ≡ old.source.faults
  pub untouched : new.out ≡ old.out
  pub reported : Reports (reported_line (make_fault_text fault)) old.err new.err
  pub status_is : status ≡ Failed

-- a read or an allocation failed, and no write: nothing went out
abbrev pub IsUnsent : OutFault → Type 0
IsUnsent (NoRead sent) = sent ≡ 0
IsUnsent (Write sent) = ⊥
IsUnsent (NoMemory sent) = sent ≡ 0

-- the file wasn't read: a read or an allocation failed
pub record IsNotRead (old new : Devices) (status : Status) : Type 0 where
  pub fault : OutFault
  pub source : HasFailedBy {X = ℕ} (Err fault) old.source.faults new.source.faults
  pub unsent : IsUnsent fault
  pub untouched : new.out ≡ old.out
  pub reported : Reports (reported_line (out_fault_text fault)) old.err new.err
  pub status_is : status ≡ Failed

-- a write failed: a front of the record went out
pub record IsMadeFront (d : Draft) (bytes : List ℕ) (sent : ℕ) (old new : Seen) : Type 0 where
  pub content : Record
  pub is : made (plan_of d bytes) ≡ Ok content
  pub front : WentOut old.reports (canonical content) new.reports sent

pub record IsMadeCutOff (d : Draft) (old new : Devices) (status : Status) : Type 0 where
  pub sent : ℕ
  pub is : IfHeld old.source.holds (λ bytes. IsMadeFront d bytes sent old.out new.out)
  pub failed : new.out.faults ≡ raised old.out.faults
  pub sound : new.source.faults ≡ old.source.faults
  pub reported : Reports (reported_line (out_fault_text (Write sent))) old.err new.err
  pub status_is : status ≡ Failed

-- how `write` ends
abbrev pub MakeEnds : Draft → Devices → Devices → Status → Type 0
MakeEnds d old new status =
    IsMade d old new status
    ⊎ (IsNotMade d old new status ⊎ (IsNotRead old new status ⊎ IsMadeCutOff d old new status))

-- a text that was asked for went out, or a write failed and a front of it did
abbrev pub IsShown : List ℕ → Seen → Seen → Seen → Seen → Status → Type 0
IsShown text out out' err err' status =
    ((status ≡ Done) × (out'.reports ≡ append_known out.reports text) × (out'.faults ≡ out.faults) × (err' ≡ err))
    ⊎ ((status ≡ Failed) × (sent : ℕ) × (out'.reports ≡ append_known out.reports (take sent text))
    × (out'.faults ≡ raised out.faults)
    × Reports (reported_line (out_fault_text (Write sent))) err err')

-- how a run ends where the words name no command
abbrev pub FaultEnds : CommandFault → Seen → Seen → Seen → Seen → Status → Type 0
FaultEnds (Usage text true) out out' err err' status = IsShown (string_bytes text) out out' err err' status
FaultEnds (Usage text false) out out' err err' status =
    (out' ≡ out) × Reports (string_bytes text) err err' × (status ≡ Failed)
FaultEnds OutOfMemory out out' err err' status =
    (out' ≡ out) × Reports (reported_line (out_fault_text (NoMemory 0))) err err' × (status ≡ Failed)
