-- How `fixity --payload` ends.
use Rattle.std.specs.Prelude.{◌≡◌, ℕ, ◌⊎◌, List, length, Result, Ok, Err, nat_lt, if◌then◌else◌, ⊤}
use Rattle.std.specs.Io.KnownBytes.{append_known}
use Rattle.warc_frame.specs.Count.{raised}
use Rattle.warc_frame.specs.Effects.{FailsBy}
use Rattle.warc_frame.specs.FaultText.{out_fault_text}
use Rattle.warc_frame.specs.Seen.{IfHeld, Seen}
use Rattle.warc_frame.specs.Send.{WentOut}
use Rattle.warc_frame.specs.declared.fault.OutFault.{OutFault}
use Rattle.warc_frame.specs.declared.fault.OutFault.TheVariants.{Write}
use Rattle.warc_answer.specs.Seen.{IsEarly}
use Rattle.warc_answer.specs.declared.answer.ReplayFault.TheVariants.{Out}
use Rattle.warc_reading.specs.Archive.{IsArchiveOf, contents}
use Rattle.warc_reading.specs.Row.{Row}
use Rattle.warc_replay.specs.PayloadText.{are_verified, payload_counts, payloads_text}
use Rattle.warc_replay.specs.PayloadVerdicts.{AreJudgedPayloads, PayloadJudgements}
use Rattle.warc_arguments.specs.declared.status.Status.{Status}
use Rattle.warc_arguments.specs.declared.status.Status.TheVariants.{Done, Found, Failed, Unchecked}
use Rattle.warc_commands.specs.Devices.{Devices}
use Rattle.warc_commands.specs.Program.{IsNotOpened, Reports, reported_line}

-- the status where all was written: by whether a payload is bad, and whether all of them are verified
abbrev pub payload_status : PayloadJudgements → Status
payload_status judged =
    if nat_lt 0 (payload_counts judged.verdicts).bad then Found
    else if are_verified judged.verdicts then Done else Unchecked

-- these are the verdicts on the payloads of the archive that the bytes are
pub record ArePayloadsIn (bytes : List ℕ) (rows : List Row) (judged : PayloadJudgements) : Type 0 where
  pub is : IsArchiveOf bytes rows
  pub each : AreJudgedPayloads (contents is.are.records) (length rows) judged

-- how writing the lines of verdicts ends: all of them went out, or a write failed and a front of them did
abbrev pub PayloadLinesEnd : List Row → PayloadJudgements → Seen → Seen → Seen → Seen → Status → Type 0
PayloadLinesEnd rows judged out out' err err' status =
    ((out'.reports ≡ append_known out.reports (payloads_text rows judged)) × (out'.faults ≡ out.faults) × (err' ≡ err)
    × (status ≡ payload_status judged) × ((status ≡ Done) ⊎ ((status ≡ Found) ⊎ (status ≡ Unchecked))))
    ⊎ ((sent : ℕ) × WentOut out.reports (payloads_text rows judged) out'.reports sent
    × (out'.faults ≡ raised out.faults) × Reports (reported_line (out_fault_text (Write sent))) err err'
    × (status ≡ Failed))

-- how writing the lines of verdicts ends; or nothing was written since the payloads couldn't be judged
abbrev pub PayloadsListed : List Row → Result PayloadJudgements OutFault → Seen → Seen → Seen → Seen → Status → Type 0
PayloadsListed rows (Ok judged) out out' err err' status = PayloadLinesEnd rows judged out out' err err' status
PayloadsListed rows (Err fault) out out' err err' status =
    (out' ≡ out) × Reports (reported_line (out_fault_text fault)) err err' × (status ≡ Failed)

-- all lines of `fixity --payload` went out
pub record IsPayloadsReported (old new : Devices) (status : Status) : Type 0 where
  pub rows : List Row
  pub judged : PayloadJudgements
  pub are : IfHeld old.source.holds (λ bytes. ArePayloadsIn bytes rows judged)
  pub reported : new.out.reports ≡ append_known old.out.reports (payloads_text rows judged)
  pub unfailed : new.out.faults ≡ old.out.faults
  pub sound : new.source.faults ≡ old.source.faults
  pub silent : new.err ≡ old.err
  pub status_is : status ≡ payload_status judged
  pub status_in : (status ≡ Done) ⊎ ((status ≡ Found) ⊎ (status ≡ Unchecked))

-- a write failed: a front of the lines went out
pub record IsPayloadsCutOff (old new : Devices) (status : Status) : Type 0 where
  pub rows : List Row
  pub judged : PayloadJudgements
  pub are : IfHeld old.source.holds (λ bytes. ArePayloadsIn bytes rows judged)
  pub sent : ℕ
  pub front : WentOut old.out.reports (payloads_text rows judged) new.out.reports sent
  pub failed : new.out.faults ≡ raised old.out.faults
  pub sound : new.source.faults ≡ old.source.faults
  pub reported : Reports (reported_line (out_fault_text (Write sent))) old.err new.err
  pub status_is : status ≡ Failed

-- a read or an allocation failed before anything was written
pub record IsUnjudged (old new : Devices) (status : Status) : Type 0 where
  pub fault : OutFault
  pub early : IsEarly (Out fault)
  pub fails : FailsBy {X = ℕ} (λ bytes. ⊤) (Err fault) old.source new.source
  pub untouched : new.out ≡ old.out
  pub reported : Reports (reported_line (out_fault_text fault)) old.err new.err
  pub status_is : status ≡ Failed

-- how `fixity --payload` ends
abbrev pub PayloadsEnd : Devices → Devices → Status → Type 0
PayloadsEnd old new status = IsPayloadsReported old new status
    ⊎ (IsNotOpened old new status ⊎ (IsPayloadsCutOff old new status ⊎ IsUnjudged old new status))
