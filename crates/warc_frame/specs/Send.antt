-- What went out of an output, to a sink that reported some bytes at the start. This project's own notion.
use Rattle.std.specs.Prelude.{◌≡◌, ℕ, ◌≤◌, List, ◌++◌, length, take, Option}
use Rattle.std.specs.Prelude.{Result, Ok, Err}
use Rattle.std.specs.Io.KnownBytes.{append_known}
use Rattle.warc_frame.specs.Count.{capped}
use Rattle.warc_frame.specs.Device.{Staged}
use Rattle.warc_frame.specs.declared.fault.EarlyFault.{EarlyFault}
use Rattle.warc_frame.specs.declared.fault.EarlyFault.TheVariants.{Read as NotRead, Memory as NoMemory}
use Rattle.warc_frame.specs.declared.fault.OutFault.{OutFault}
use Rattle.warc_frame.specs.declared.fault.OutFault.TheVariants.{Read, Write, Memory}
use Rattle.warc_frame.specs.declared.send.SendFault.{SendFault}

-- how many bytes of a piece went out
abbrev pub count_sent : Result (Unit {0}) SendFault → List ℕ → ℕ
count_sent (Ok u) piece = length piece
count_sent (Err e) piece = e.sent

-- the number of bytes that a fault states
abbrev pub sent_of : OutFault → ℕ
sent_of (Read sent) = sent
sent_of (Write sent) = sent
sent_of (Memory sent) = sent

-- a fault of a call that writes nothing, as the end of an output of which some bytes went out
abbrev pub ended_by : EarlyFault → ℕ → OutFault
ended_by NotRead sent = Read sent
ended_by NoMemory sent = Memory sent

-- the result of a call that writes nothing, as the end of an output of which nothing went out
abbrev pub early_result : {X : Type 0} → Result X EarlyFault → Result (Unit {0}) OutFault
early_result (Ok x) = Ok tt
early_result (Err e) = Err (ended_by e 0)

-- of the output a front went out, as many bytes as `sent` says
pub record WentOut (start : Option (List ℕ)) (output : List ℕ) (now : Option (List ℕ)) (sent : ℕ) : Type 0 where
  pub count : ℕ
  pub within : count ≤ length output
  pub reported : now ≡ append_known start (take count output)
  pub number : sent ≡ capped count

-- the output so far: what went out, and then what waits in the buffer
pub record IsStaged (start : Option (List ℕ)) (output : List ℕ) (now : Option (List ℕ)) (buffer : Staged) : Type 0 where
  pub gone : List ℕ
  pub whole : output ≡ gone ++ buffer.bytes
  pub reported : now ≡ append_known start gone
  pub number : buffer.sent ≡ capped (length gone)
