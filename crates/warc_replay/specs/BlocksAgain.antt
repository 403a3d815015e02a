-- The verdicts on the blocks of some records, which are read again. States of the code.
use Rattle.std.specs.Prelude.{◌≡◌, ℕ, ◌<◌, ◌++◌, List, [], ◌∷◌, length, slice_get, Some, Result, IfErr, IfOk, OnOk}
use Rattle.warc_value.specs.declared.hash.Verdict.{Verdict}
use Rattle.warc_frame.specs.Effects.{FailsBy, Preserves}
use Rattle.warc_frame.specs.Record.{Record}
use Rattle.warc_frame.specs.Seen.{AsksOnly, IfHeld, SeenSource}
use Rattle.warc_frame.specs.declared.fault.OutFault.{OutFault}
use Rattle.warc_answer.specs.Seen.{IsEarly}
use Rattle.warc_answer.specs.declared.answer.ReplayFault.TheVariants.{Out}
use Rattle.warc_reading.specs.Archive.{IsArchiveOf, contents}
use Rattle.warc_reading.specs.Row.{Row}
use Rattle.warc_judged.specs.Counting.{verdict_at}
use Rattle.warc_replay.specs.Capturing.{AreKnownBlocks, IsBlockVerdict}

-- what is known of the block of the record at each of these positions is right
abbrev pub AreBlocksAt : List Record → List ℕ → List Verdict → Type 0
AreBlocksAt records positions verdicts = (i position : ℕ) → slice_get positions i ≡ Some position
    → IsBlockVerdict records position (verdict_at verdicts i)

-- it asks for no byte after those of an archive of these rows
abbrev pub AsksInArchive : List Row → SeenSource → SeenSource → Type 0
AsksInArchive rows old new = (bytes : List ℕ) → IsArchiveOf bytes rows → AsksOnly (λ at. at < length bytes) old new

-- one more verdict, that on the block of the record at a position
pub record AddsBlock (rows : List Row) (position : ℕ) (blocks adds : List Verdict) (old new : SeenSource)
    (answer : Result (Unit {0}) OutFault) : Type 0 where
  pub reported : IfHeld old.holds (λ bytes. (is : IsArchiveOf bytes rows) → OnOk answer ((v : Verdict)
      × (adds ≡ blocks ++ v ∷ []) × IsBlockVerdict (contents is.are.records) position v))
  pub early : IfErr answer (λ e. IsEarly (Out e))
  pub inside : AsksInArchive rows old new
  pub keeps : Preserves old new
  pub fails : FailsBy (λ bytes. IsArchiveOf bytes rows) answer old new

-- the verdicts on the blocks of the records at these positions
pub record JudgesEachAt (rows : List Row) (positions : List ℕ) (old new : SeenSource)
    (answer : Result (List Verdict) OutFault) : Type 0 where
  pub reported : IfHeld old.holds (λ bytes. (is : IsArchiveOf bytes rows)
      → IfOk answer (AreBlocksAt (contents is.are.records) positions))
  pub early : IfErr answer (λ e. IsEarly (Out e))
  pub inside : AsksInArchive rows old new
  pub keeps : Preserves old new
  pub fails : FailsBy (λ bytes. IsArchiveOf bytes rows) answer old new

-- what is known then of the block of each record: where the archive's source holds its bytes, it is right
pub record JudgesBlocks (rows : List Row) (old new : SeenSource) (answer : Result (List Verdict) OutFault)
    : Type 0 where
  pub reported : IfHeld old.holds (λ bytes. (is : IsArchiveOf bytes rows)
      → IfOk answer (λ blocks. AreKnownBlocks blocks is.are.records))
  pub early : IfErr answer (λ e. IsEarly (Out e))
  pub inside : AsksInArchive rows old new
  pub keeps : Preserves old new
  pub fails : FailsBy (λ bytes. IsArchiveOf bytes rows) answer old new
