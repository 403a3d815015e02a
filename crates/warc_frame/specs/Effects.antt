-- What a call does to a source and to an output: which bytes it asks for, who has failed, and what goes out. This
-- project's own notion.
use Rattle.std.specs.Prelude.{◌≡◌, ℕ, ◌+◌, ◌^◌, ◌<◌, ◌≤◌, List, [], ◌++◌, length, take, drop, Option, Some, Result, Ok, Err, IfErr, OnOk, is_err, if◌then◌else◌, ⊤}
use Rattle.std.specs.Io.KnownBytes.{append_known}
use Rattle.warc_frame.specs.Count.{raised}
use Rattle.warc_frame.specs.Device.{Staged}
use Rattle.warc_frame.specs.Failing.{HasFailedBy, MayHaveFailedBy, failed_by}
use Rattle.warc_frame.specs.Seen.{AsksOnly, IfHeld, IsInRange, Seen, SeenSource}
use Rattle.warc_frame.specs.Send.{IsStaged, WentOut, sent_of}
use Rattle.warc_frame.specs.declared.fault.OutFault.{OutFault}
use Rattle.warc_frame.specs.declared.fault.OutFault.TheVariants.{Read, Write, Memory}
use Rattle.warc_frame.specs.declared.send.SendFault.{SendFault}

-- a source still holds and watches what it did
pub record Preserves (old new : SeenSource) : Type 0 where
  pub kept : new.holds ≡ old.holds
  pub watched : new.watches ≡ old.watches

-- a source was read: no byte but these was asked for, in at most `most` reads. It holds and watches what it did
pub record ReadsOnly (These : ℕ → Type 0) (most : ℕ) (old new : SeenSource) : Type 0 where
  pub kept : new.holds ≡ old.holds
  pub watched : new.watches ≡ old.watches
  pub near : AsksOnly These old new
  pub bound : new.reads ≤ old.reads + most

-- at most one read for each of `len` bytes from offset `at` on, and no other byte
abbrev pub ReadsRange : ℕ → ℕ → SeenSource → SeenSource → Type 0
ReadsRange at len old new = ReadsOnly (IsInRange at len) len old new

-- a source has failed once more exactly by a failed read, if its bytes are as the call expects them; of another one
-- a read fault may also say that it gives too little, or something else
pub record FailsBy {X : Type 0} (Expected : List ℕ → Type 0) (answer : Result X OutFault) (old new : SeenSource)
    : Type 0 where
  pub may : MayHaveFailedBy answer old.faults new.faults
  pub failed : IfHeld old.holds (λ bytes. Expected bytes → HasFailedBy answer old.faults new.faults)

-- the bytes, which are fewer than 2^64, have `len` of them from offset `at` on
abbrev pub HasRange : ℕ → ℕ → List ℕ → Type 0
HasRange at len bytes = (at + len ≤ length bytes) × (length bytes < 2 ^ 64)

-- the text is what a function makes of bytes that are as expected
abbrev pub IsTakenFrom : (List ℕ → List ℕ) → (List ℕ → Type 0) → List ℕ → List ℕ → Type 0
IsTakenFrom text_in Expected bytes text = Expected bytes × (text ≡ text_in bytes)

-- the text is `len` bytes from offset `at` on
abbrev pub IsRange : ℕ → ℕ → List ℕ → List ℕ → Type 0
IsRange at len bytes text = IsTakenFrom (λ bytes. take len (drop at bytes)) (HasRange at len) bytes text

-- a read or a write failed: it isn't a failed allocation
abbrev pub IsOfDevice : OutFault → Type 0
IsOfDevice (Read sent) = ⊤
IsOfDevice (Write sent) = ⊤
IsOfDevice (Memory sent) = ⊥

-- The text that a source's bytes say was added to the output, by way of a buffer: it is staged, or a front of it went
-- out and nothing more will. The source has failed exactly by a failed read, where its bytes say the text, and the sink
-- exactly by a failed write.
pub record Emits {X : Type 0} (Says : List ℕ → List ℕ → Type 0) (from from_new : SeenSource) (to to_new : Seen)
    (waits waiting : Staged) (answer : Result X OutFault) : Type 0 where
  pub out : (bytes text : List ℕ) → from.holds ≡ Some bytes → Says bytes text → (start : Option (List ℕ))
      (output : List ℕ) → IsStaged start output to.reports waits
      → OnOk answer (IsStaged start (output ++ text) to_new.reports waiting)
  pub cut : (bytes text : List ℕ) → from.holds ≡ Some bytes → Says bytes text → (start : Option (List ℕ))
      (output : List ℕ) → IsStaged start output to.reports waits
      → IfErr answer (λ e. WentOut start (output ++ text) to_new.reports (sent_of e))
  pub kept : from_new.holds ≡ from.holds
  pub cause : to_new.faults ≡ failed_by answer to.faults
  pub fails : FailsBy (λ bytes. (text : List ℕ) × Says bytes text) answer from from_new

-- The text that a source's bytes say went out, or a front of it did, as long as the fault says. Who has failed is as in
-- `Emits`.
pub record Sends {X : Type 0} (Says : List ℕ → List ℕ → Type 0) (from from_new : SeenSource) (to to_new : Seen)
    (answer : Result X OutFault) : Type 0 where
  pub out : (bytes text : List ℕ) → from.holds ≡ Some bytes → Says bytes text
      → OnOk answer (to_new.reports ≡ append_known to.reports text)
  pub cut : (bytes text : List ℕ) → from.holds ≡ Some bytes → Says bytes text
      → IfErr answer (λ e. WentOut to.reports text to_new.reports (sent_of e))
  pub cause : to_new.faults ≡ failed_by answer to.faults
  pub fails : FailsBy (λ bytes. (text : List ℕ) × Says bytes text) answer from from_new

-- a text went out, or after a failed write a front of it did, as long as the fault says; nothing else failed
pub record SendsText {X : Type 0} (old new : Seen) (answer : Result X OutFault) (text : List ℕ) : Type 0 where
  pub reported : OnOk answer (new.reports ≡ append_known old.reports text)
  pub cut : IfErr answer (λ e. WentOut old.reports text new.reports (sent_of e))
  pub write : IfErr answer (λ e. e ≡ Write (sent_of e))
  pub cause : new.faults ≡ (if is_err answer then raised old.faults else old.faults)

-- a text was added to an output by way of a buffer: it is staged, or a write failed and a front of it went out. After
-- a failed write the buffer is empty, and its count of the bytes that went out is the fault's
pub record Puts {X : Type 0} (old new : Seen) (waits waiting : Staged) (answer : Result X SendFault) (text : List ℕ)
    : Type 0 where
  pub out : (start : Option (List ℕ)) (output : List ℕ) → IsStaged start output old.reports waits
      → OnOk answer (IsStaged start (output ++ text) new.reports waiting)
  pub cut : (start : Option (List ℕ)) (output : List ℕ) → IsStaged start output old.reports waits
      → IfErr answer (λ e. WentOut start (output ++ text) new.reports e.sent)
  pub cause : new.faults ≡ (if is_err answer then raised old.faults else old.faults)
  pub left : IfErr answer (λ e. waiting ≡ record { bytes = []; sent = e.sent })

-- what waited in a buffer went out, or a front of it did; the buffer is empty, and counts what went out
pub record Flushes {X : Type 0} (old new : Seen) (waits waiting : Staged) (answer : Result X SendFault) : Type 0 where
  pub out : (start : Option (List ℕ)) (output : List ℕ) → IsStaged start output old.reports waits
      → OnOk answer (IsStaged start output new.reports waiting)
  pub reported : (start : Option (List ℕ)) (output : List ℕ) → IsStaged start output old.reports waits
      → OnOk answer (new.reports ≡ append_known start output)
  pub cut : (start : Option (List ℕ)) (output : List ℕ) → IsStaged start output old.reports waits
      → IfErr answer (λ e. WentOut start output new.reports e.sent)
  pub cause : new.faults ≡ (if is_err answer then raised old.faults else old.faults)
  pub empty : waiting.bytes ≡ []
  pub left : IfErr answer (λ e. waiting ≡ record { bytes = []; sent = e.sent })

-- a failed read as the fault of an output of which nothing went out
abbrev pub read_result : {X E : Type 0} → Result X E → Result (Unit {0}) OutFault
read_result (Ok x) = Ok tt
read_result (Err e) = Err (Read 0)
