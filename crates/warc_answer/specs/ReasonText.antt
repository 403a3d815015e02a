-- The text of a reason, by which the program reports it: this project's own notion.
use Rattle.std.specs.Prelude.{ℕ, List, ◌++◌, codes}
use Rattle.warc_frame.specs.FaultText.{out_fault_text}
use Rattle.warc_index.specs.UnfoundText.{unfound_text}
use Rattle.warc_segment.specs.GapText.{gap_text}
use Rattle.warc_answer.specs.declared.answer.Reason.{Reason}
use Rattle.warc_answer.specs.declared.answer.Reason.TheVariants.{NotFound, Segments, BadDigest, BadHead, Coded}
use Rattle.warc_answer.specs.declared.answer.ReplayFault.{ReplayFault}
use Rattle.warc_answer.specs.declared.answer.ReplayFault.TheVariants as faults

-- its number and name, and the gap where it is about one
abbrev pub reason_text : Reason → List ℕ
reason_text (NotFound unfound) = unfound_text unfound
reason_text (Segments gap) = codes "P7 Segment " ++ gap_text gap
reason_text BadDigest = codes "P8 BadDigest"
reason_text BadHead = codes "P9 BadHead"
reason_text Coded = codes "P10 Coded"

-- a reason, or why an output ends early
abbrev pub replay_fault_text : ReplayFault → List ℕ
replay_fault_text (faults.Reason reason) = reason_text reason
replay_fault_text (faults.Out fault) = out_fault_text fault
