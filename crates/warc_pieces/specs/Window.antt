-- What is kept of a source while its pieces are found, and what is read for it. A state of the code.
use Rattle.std.specs.Prelude.{◌≡◌, ℕ, ◌+◌, ◌<◌, ◌≤◌, Bool, true, List, length, take, drop, Result, Ok, Err}
use Rattle.warc_frame.specs.Count.{raised}
use Rattle.warc_frame.specs.Record.{max_archive}
use Rattle.warc_frame.specs.Seen.{AsksOnly, SeenSource}
use Rattle.warc_frame.specs.declared.fault.Fault.{Fault}
use Rattle.warc_frame.specs.declared.fault.FaultKind.{FaultKind}
use Rattle.warc_frame.specs.declared.fault.FaultKind.TheVariants.{Read}
use Rattle.warc_pieces.specs.Pieces.{near}

-- a window onto a source: the bytes that it shows, the offset of the first one, and whether the source ends with them
pub record Shown : Type 0 where
  pub bytes : List ℕ
  pub begin : ℕ
  pub is_last : Bool

-- the offset after the bytes that a window shows
abbrev pub reached : Shown → ℕ
reached w = w.begin + length w.bytes

-- a window shows bytes of a source as they are
pub record Shows (bytes : List ℕ) (w : Shown) : Type 0 where
  pub same : w.bytes ≡ take (length w.bytes) (drop w.begin (near bytes))
  pub within : reached w ≤ length (near bytes)
  pub last : w.is_last ≡ true → reached w ≡ length (near bytes)

-- how often a source has failed after an answer: once more exactly if the answer is that a read failed
abbrev pub faults_by : FaultKind → ℕ → ℕ
faults_by Read n = raised n
faults_by kind n = n

abbrev pub failures_after : {X : Type 0} → Result X Fault → ℕ → ℕ
failures_after (Ok x) n = n
failures_after (Err f) n = faults_by f.kind n

-- A source was read by way of a window: it holds and watches what it did, has failed once more exactly by a failed
-- read, and was asked for no byte from offset 2^48 on. It was read at most once for each byte that the window has gone
-- on, and `more` times besides.
pub record ReadsBy {X : Type 0} (more : ℕ) (answer : Result X Fault) (w now : Shown) (old new : SeenSource)
    : Type 0 where
  pub kept : new.holds ≡ old.holds
  pub watched : new.watches ≡ old.watches
  pub cause : new.faults ≡ failures_after answer old.faults
  pub near : AsksOnly (λ q. q < max_archive) old new
  pub bound : new.reads + reached w ≤ old.reads + reached now + more
  pub forward : w.begin ≤ now.begin

-- the most reads for one record besides those by which a window goes on: one that finds the end of the source, four of
-- what closes the record, and 48 that find how long the source is
abbrev pub own_reads : ℕ
own_reads = 53
