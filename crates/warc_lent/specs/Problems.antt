-- What goes wrong, as numbers and as a text. This project's own notion.
use Rattle.std.specs.Prelude.{◌≡◌, ℕ, List, codes, Result, Ok, Err}
use Rattle.warc_frame.specs.FaultText.{fault_text}
use Rattle.warc_frame.specs.declared.fault.Fault.{Fault}
use Rattle.warc_frame.specs.declared.fault.FaultKind.{FaultKind}
use Rattle.warc_frame.specs.declared.fault.FaultKind.TheVariants as kinds
use Rattle.warc_frame.specs.declared.fault.Mandatory.{Mandatory}
use Rattle.warc_frame.specs.declared.fault.Mandatory.TheVariants as fields
use Rattle.warc_frame.specs.declared.fault.OutFault.{OutFault}
use Rattle.warc_frame.specs.declared.fault.OutFault.TheVariants as outs
use Rattle.warc_index.specs.declared.unfound.Unfound.{Unfound}
use Rattle.warc_index.specs.declared.unfound.Unfound.TheVariants.{NoCapture, NotYet, UnknownProfile, NoReference, Unresolved, Loop}
use Rattle.warc_segment.specs.declared.gap.Gap.{Gap}
use Rattle.warc_segment.specs.declared.gap.Gap.TheVariants as gaps
use Rattle.warc_answer.specs.ReasonText.{reason_text}
use Rattle.warc_answer.specs.declared.answer.Reason.{Reason}
use Rattle.warc_answer.specs.declared.answer.Reason.TheVariants.{NotFound, Segments, BadDigest, BadHead, Coded}
use Rattle.warc_answer.specs.declared.answer.ReplayFault.{ReplayFault}
use Rattle.warc_answer.specs.declared.answer.ReplayFault.TheVariants as replays
use Rattle.warc_write.specs.Making.{make_fault_text}
use Rattle.warc_write.specs.declared.made.MakeFault.{MakeFault}
use Rattle.warc_write.specs.declared.made.MakeFault.TheVariants as makes
use Rattle.warc_replay.specs.declared.fault.BodyFault.{BodyFault}
use Rattle.warc_replay.specs.declared.fault.BodyFault.TheVariants as bodies
use Rattle.warc_replay.specs.declared.fault.TakeFault.{TakeFault}
use Rattle.warc_replay.specs.declared.fault.TakeFault.TheVariants as takes
use Rattle.warc_lent.specs.declared.problem.Numbers.{Numbers}
use Rattle.warc_lent.specs.declared.problem.Problem.{Problem}
use Rattle.warc_lent.specs.declared.problem.Problem.TheVariants as problems

-- its text: for a fault, a reason and a record that isn't made the program's text
abbrev pub problem_text : Problem → List ℕ
problem_text (problems.Fault fault) = fault_text fault
problem_text (problems.Reason reason) = reason_text reason
problem_text problems.NoRecord = codes "E1 NoRecord"
problem_text problems.NoCapture = codes "E2 NoCapture"
problem_text problems.Changed = codes "bytes changed"
problem_text problems.Memory = codes "out of memory"
problem_text problems.BadDate = codes "bad date"
problem_text problems.NotOpen = codes "not open"
problem_text problems.BadArgument = codes "bad argument"
problem_text problems.Write = codes "write failed"
problem_text (problems.Made fault) = make_fault_text fault

abbrev pub field_number : Mandatory → ℕ
field_number fields.ContentLength = 1
field_number fields.Type = 2
field_number fields.RecordId = 3
field_number fields.Date = 4

abbrev pub kind_numbers : FaultKind → ℕ × ℕ
kind_numbers kinds.Version = (1, 0)
kind_numbers kinds.HeadTooLong = (2, 0)
kind_numbers kinds.Field = (3, 0)
kind_numbers (kinds.Missing field) = (4, field_number field)
kind_numbers (kinds.Repeated field) = (5, field_number field)
kind_numbers kinds.Length = (6, 0)
kind_numbers kinds.BadType = (7, 0)
kind_numbers kinds.Id = (8, 0)
kind_numbers kinds.Date = (9, 0)
kind_numbers kinds.End = (10, 0)
kind_numbers kinds.Truncated = (11, 0)
kind_numbers kinds.TooLong = (12, 0)
kind_numbers kinds.Read = (13, 0)
kind_numbers kinds.Memory = (14, 0)

abbrev pub gap_numbers : Gap → ℕ × ℕ
gap_numbers (gaps.Repeated segment) = (1, segment)
gap_numbers gaps.Unfinished = (2, 0)
gap_numbers (gaps.AfterEnd segment) = (3, segment)
gap_numbers (gaps.Absent segment) = (4, segment)
gap_numbers gaps.Total = (5, 0)
gap_numbers gaps.Number = (6, 0)

abbrev pub unfound_code : Unfound → ℕ
unfound_code NoCapture = 101
unfound_code NotYet = 102
unfound_code UnknownProfile = 103
unfound_code NoReference = 104
unfound_code Unresolved = 105
unfound_code Loop = 106

abbrev pub made_code : MakeFault → ℕ
made_code makes.Date = 301
made_code makes.Text = 302
made_code makes.TooLong = 303
made_code makes.Memory = 304
made_code makes.Kind = 305

abbrev code_alone : ℕ → Numbers
code_alone n = record { code = n; detail = 0; number = 0 }

abbrev pub fault_numbers : Fault → Numbers
fault_numbers f = record { code = (kind_numbers f.kind).0; detail = (kind_numbers f.kind).1; number = f.offset }

abbrev pub reason_numbers : Reason → Numbers
reason_numbers (NotFound unfound) = code_alone (unfound_code unfound)
reason_numbers (Segments gap) = record { code = 107; detail = (gap_numbers gap).0; number = (gap_numbers gap).1 }
reason_numbers BadDigest = code_alone 108
reason_numbers BadHead = code_alone 109
reason_numbers Coded = code_alone 110

-- its numbers, of which the first is never 0
abbrev pub problem_numbers : Problem → Numbers
problem_numbers (problems.Fault fault) = fault_numbers fault
problem_numbers (problems.Reason reason) = reason_numbers reason
problem_numbers problems.NoRecord = code_alone 201
problem_numbers problems.NoCapture = code_alone 202
problem_numbers problems.Changed = code_alone 203
problem_numbers problems.Memory = code_alone 204
problem_numbers problems.BadDate = code_alone 205
problem_numbers problems.NotOpen = code_alone 206
problem_numbers problems.BadArgument = code_alone 207
problem_numbers problems.Write = code_alone 208
problem_numbers (problems.Made fault) = code_alone (made_code fault)

-- memory takes an output whole, unless more of it is refused
abbrev pub problem_of_out : OutFault → Problem
problem_of_out (outs.Read sent) = problems.Changed
problem_of_out (outs.Write sent) = problems.Memory
problem_of_out (outs.Memory sent) = problems.Memory

abbrev pub problem_of_replay : ReplayFault → Problem
problem_of_replay (replays.Reason reason) = problems.Reason reason
problem_of_replay (replays.Out fault) = problem_of_out fault

abbrev pub problem_of_body : BodyFault → Problem
problem_of_body bodies.NoRecord = problems.NoRecord
problem_of_body bodies.NoCapture = problems.NoCapture
problem_of_body (bodies.Replay fault) = problem_of_replay fault

abbrev pub problem_of_take : TakeFault → Problem
problem_of_take takes.NoRecord = problems.NoRecord
problem_of_take takes.Read = problems.Changed
problem_of_take takes.Memory = problems.Memory

-- the problem says that memory ran out
abbrev pub IsMemory : Problem → Type 0
IsMemory problem = problem ≡ problems.Memory

-- there is no record
abbrev pub IsNoRecord : Problem → Type 0
IsNoRecord problem = problem ≡ problems.NoRecord

-- a record isn't given: there is none, or its bytes changed, or memory ran out
abbrev pub IsNotGiven : Problem → Type 0
IsNotGiven problem = (fault : TakeFault) × (problem ≡ problem_of_take fault)

-- what a source's failures go by: bytes that changed are a failed read, and no other problem is one
abbrev pub read_failure_of : Problem → Result (Unit {0}) OutFault
read_failure_of problems.Changed = Err (outs.Read 0)
read_failure_of problem = Ok tt

abbrev pub problem_result : {X : Type 0} → Result X Problem → Result (Unit {0}) OutFault
problem_result (Ok x) = Ok tt
problem_result (Err problem) = read_failure_of problem
