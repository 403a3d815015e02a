-- What a replay of records gives, and what went out. This project's own notion.
use Rattle.std.specs.Prelude.{◌≡◌, ℕ, List, [], Option, Result, Ok, Err, ⊤}
use Rattle.std.specs.Io.KnownBytes.{append_known}
use Rattle.warc_value.specs.Dates.{Instant}
use Rattle.warc_frame.specs.Effects.{IsOfDevice}
use Rattle.warc_frame.specs.Failing.{failed_by}
use Rattle.warc_frame.specs.Record.{Record}
use Rattle.warc_frame.specs.Seen.{Seen}
use Rattle.warc_frame.specs.Send.{WentOut, sent_of}
use Rattle.warc_frame.specs.declared.fault.OutFault.{OutFault}
use Rattle.warc_frame.specs.declared.fault.OutFault.TheVariants as outs
use Rattle.warc_index.specs.declared.unfound.Unfound.{Unfound}
use Rattle.warc_answer.specs.Answers.{Given, IsAnswerOn, path_for}
use Rattle.warc_answer.specs.declared.answer.Answer.{Answer}
use Rattle.warc_answer.specs.declared.answer.Path.{Path}
use Rattle.warc_answer.specs.declared.answer.Reason.{Reason as Why}
use Rattle.warc_answer.specs.declared.answer.ReplayFault.{ReplayFault}
use Rattle.warc_answer.specs.declared.answer.ReplayFault.TheVariants.{Reason, Out}

-- a body, with what is said of it
abbrev pub given : Answer → List ℕ → Result Given Why
given answer body = Ok (record { answer = answer; body = body })

-- the body that an outcome has, none for a reason
abbrev pub body_of : Result Given Why → List ℕ
body_of (Ok it) = it.body
body_of (Err why) = []

-- What a sink reports after a replay on a path: exactly the body of the answer; for a reason, what it reported before;
-- after a failed read or write, a front of the body that there is, as long as the fault says.
abbrev pub IsReplayOn : List Record → Result Path Unfound → Result Answer ReplayFault → Option (List ℕ)
    → Option (List ℕ) → Type 0
IsReplayOn records found (Ok answer) old new =
    (body : List ℕ) × IsAnswerOn records found (given answer body) × (new ≡ append_known old body)
IsReplayOn records found (Err (Reason why)) old new = IsAnswerOn records found (Err why) × (new ≡ old)
IsReplayOn records found (Err (Out e)) old new =
    (outcome : Result Given Why) × IsAnswerOn records found outcome × WentOut old (body_of outcome) new (sent_of e)

-- what a sink reports after a replay for a URI as of an instant
abbrev pub IsReplay : List Record → List ℕ → Instant → Result Answer ReplayFault → Option (List ℕ) → Option (List ℕ)
    → Type 0
IsReplay records uri moment answer old new = IsReplayOn records (path_for records uri moment) answer old new

-- nothing goes out before a reason, or before an allocation fails, whatever the source holds
abbrev pub IsSilent : {X : Type 0} → Result X ReplayFault → Option (List ℕ) → Option (List ℕ) → Type 0
IsSilent (Ok x) old new = ⊤
IsSilent (Err (Reason why)) old new = new ≡ old
IsSilent (Err (Out (outs.Read n))) old new = ⊤
IsSilent (Err (Out (outs.Write n))) old new = ⊤
IsSilent (Err (Out (outs.Memory n))) old new = (n ≡ 0) × (new ≡ old)

-- what the failures of source and sink go by: a reason is none
abbrev pub out_result : {X : Type 0} → Result X ReplayFault → Result (Unit {0}) OutFault
out_result (Ok x) = Ok tt
out_result (Err (Reason why)) = Ok tt
out_result (Err (Out e)) = Err e

-- whatever the source holds, nothing goes out before a reason or before an allocation fails, and the sink has failed
-- once more exactly by a failed write
pub record WritesLate {X : Type 0} (answer : Result X ReplayFault) (before after : Seen) : Type 0 where
  pub silent : IsSilent answer before.reports after.reports
  pub cause : after.faults ≡ failed_by (out_result answer) before.faults

-- a reason, or a failed read or write
abbrev pub WantsNoMemory : ReplayFault → Type 0
WantsNoMemory (Reason why) = ⊤
WantsNoMemory (Out e) = IsOfDevice e
