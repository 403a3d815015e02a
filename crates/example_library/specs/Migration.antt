-- What moving an archive to WARC 1.1 gives.
use Rattle.std.specs.Prelude.{◌≡◌, ◌↔◌, ◌⊎◌, ◌≤◌, ℕ, List, length, Result}
use Rattle.warc_value.specs.Dates.{Instant}
use Rattle.warc_frame.specs.Device.{Stored}
use Rattle.warc_frame.specs.Record.{max_archive}
use Rattle.warc_frame.specs.declared.fault.Fault.{Fault}
use Rattle.warc_frame.specs.declared.fault.FaultKind.TheVariants.{Memory, Read}
use Rattle.warc_answer.specs.Answers.{Given, IsAnswer}
use Rattle.warc_answer.specs.declared.answer.Reason.{Reason}
use Rattle.warc_reading.specs.Archive.{IsArchiveOf, contents}
use Rattle.warc_rewrite.specs.Forms.{texts_as}
use Rattle.warc_lookup.specs.Indexed.{Archived, IsIndexed}
use Rattle.warc_reading.specs.Row.{Row}
use Rattle.warc_rewrite.specs.declared.forms.Form.TheVariants.{Converted}
use Rattle.example_library.specs.Opened.{IsRefused}
use Rattle.example_library.specs.declared.migration.MoveFault.{MoveFault}
use Rattle.example_library.specs.declared.migration.MoveFault.TheVariants.{Refused, Unwritten, Unopened}

-- the archive of what is written of these bytes' good records as records of WARC 1.1, from which each replay gives what
-- it gives of those
pub record IsMigrationOf (bytes : List ℕ) (moved : Archived Stored) : Type 0 where
  pub rows : List Row
  pub first : IsArchiveOf bytes rows
  pub written : moved.listing.source.bytes ≡ texts_as Converted (contents first.are.records)
  pub opened : IsIndexed moved.listing.source.bytes moved
  pub answers : (uri : List ℕ) (moment : Instant) (outcome : Result Given Reason)
      → IsAnswer (contents opened.listed.are.records) uri moment outcome
      ↔ IsAnswer (contents first.are.records) uri moment outcome

-- an archive of these bytes, whose records' texts of WARC 1.1 don't open: where they aren't too long, because an
-- allocation failed
pub record IsUnopened (bytes : List ℕ) (fault : Fault) : Type 0 where
  pub rows : List Row
  pub first : IsArchiveOf bytes rows
  pub why : length (texts_as Converted (contents first.are.records)) ≤ max_archive → fault.kind ≡ Memory

-- why none is given: a read failed, memory was wanted, or this is the bytes' first fault; or the archive opened, and
-- wasn't written, or what was written doesn't open
abbrev pub IsNotMoved : List ℕ → MoveFault → Type 0
IsNotMoved bytes (Refused fault) = (fault.kind ≡ Read) ⊎ IsRefused bytes fault
IsNotMoved bytes (Unwritten fault) = (rows : List Row) × IsArchiveOf bytes rows
IsNotMoved bytes (Unopened fault) = IsUnopened bytes fault
