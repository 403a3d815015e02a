-- Verdicts on the digests that heads state, as numbers for callers in other languages. This project's own notion.
use Rattle.std.specs.Prelude.{ℕ, Option, Some, None, Result, Ok, Err}
use Rattle.warc_replay.specs.declared.fault.TakeFault.{TakeFault}
use Rattle.warc_replay.specs.declared.record.payload.PayloadVerdict.{PayloadVerdict}
use Rattle.warc_replay.specs.declared.record.payload.PayloadVerdict.TheVariants.{Good, Bad, Unchecked}
use Rattle.warc_replay.specs.declared.record.payload.Unjudged.{Unjudged}
use Rattle.warc_replay.specs.declared.record.payload.Unjudged.TheVariants.{Revisit, Request, Segment, Algorithm, Head, Coded}
use Rattle.warc_lent.specs.Problems.{problem_of_take}
use Rattle.warc_lent.specs.declared.problem.Problem.{Problem}

-- the number of a reason why a payload is unchecked
abbrev pub unjudged_number : Unjudged → ℕ
unjudged_number Revisit = 3
unjudged_number Request = 4
unjudged_number Segment = 5
unjudged_number Algorithm = 6
unjudged_number Head = 7
unjudged_number Coded = 8

-- the number of the verdict on a payload, or of a record that states no digest of one
abbrev pub payload_number : Option PayloadVerdict → ℕ
payload_number (Some Good) = 0
payload_number (Some Bad) = 1
payload_number None = 2
payload_number (Some (Unchecked reason)) = unjudged_number reason

-- the number of the verdict that is given, or the problem
abbrev pub payload_answer : Result (Option PayloadVerdict) TakeFault → Result ℕ Problem
payload_answer (Ok verdict) = Ok (payload_number verdict)
payload_answer (Err fault) = Err (problem_of_take fault)
