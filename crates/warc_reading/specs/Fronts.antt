-- The good records that bytes begin with: all that can be read of a damaged archive. This project's own notion.
use Rattle.std.specs.Prelude.{◌≡◌, ℕ, List, ◌++◌, take, Result, Ok, Err}
use Rattle.warc_frame.specs.Record.{Record, max_archive}
use Rattle.warc_frame.specs.Spelling.{Spells}
use Rattle.warc_frame.specs.declared.fault.Fault.{Fault}
use Rattle.warc_frame.specs.declared.fault.FaultKind.{FaultKind}
use Rattle.warc_frame.specs.declared.fault.FaultKind.TheVariants.{Memory, Read}
use Rattle.warc_record.specs.Good.{IsGood}
use Rattle.warc_reading.specs.Archive.{IsArchiveOf}
use Rattle.warc_reading.specs.Row.{Row}

-- no good record is at the front of these bytes
abbrev pub BeginsWithNone : List ℕ → Type 0
BeginsWithNone bytes = (r : Record) (text more : List ℕ) → bytes ≡ text ++ more → Spells r text → IsGood r → ⊥

-- the longest list of good records that bytes begin with: these are their rows
pub record IsLongestFront (bytes : List ℕ) (rows : List Row) : Type 0 where
  pub front : List ℕ
  pub rest : List ℕ
  pub bytes_are : bytes ≡ front ++ rest
  pub are : IsArchiveOf front rows
  pub longest : BeginsWithNone rest

-- how far bytes are read that are refused: to where a read failed, to the record for which memory ran out, and else
-- as far as an archive may go
abbrev pub reach_by : FaultKind → ℕ → ℕ
reach_by Read offset = offset
reach_by Memory offset = offset
reach_by kind offset = max_archive

abbrev pub reach_of : Fault → ℕ
reach_of f = reach_by f.kind f.offset

-- the rows of an archive of these bytes, or the rows of the longest front of what was read of them
abbrev pub AreFrontRows : List ℕ → Result (Unit {0}) Fault → List Row → Type 0
AreFrontRows bytes (Ok u) rows = IsArchiveOf bytes rows
AreFrontRows bytes (Err f) rows = IsLongestFront (take (reach_of f) bytes) rows
