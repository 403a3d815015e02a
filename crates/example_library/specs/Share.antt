-- What an archive of some records gives, which are written with all that they need and opened.
use Rattle.std.specs.Prelude.{◌≡◌, ℕ, List}
use Rattle.warc_frame.specs.Device.{Stored}
use Rattle.warc_frame.specs.Effects.{IsOfDevice}
use Rattle.warc_frame.specs.Record.{Record}
use Rattle.warc_frame.specs.declared.fault.FaultKind.TheVariants.{Memory}
use Rattle.warc_answer.specs.Seen.{IsEarly}
use Rattle.warc_answer.specs.declared.answer.ReplayFault.TheVariants.{Out}
use Rattle.warc_reading.specs.Archive.{IsArchiveOf, contents}
use Rattle.warc_reading.specs.Row.{Row}
use Rattle.warc.specs.ClosedLaws.{GivesTheSame, IsAnswerAt, IsOutcomeOf, IsSameGiven, IsSameOutcome, IsSameRecord}
use Rattle.warc_rewrite.specs.Closing.{AreWithNeeded}
use Rattle.warc_rewrite.specs.Closure.{records_read}
use Rattle.warc_lookup.specs.Indexed.{Archived, IsIndexed}
use Rattle.warc_rewrite.specs.Selecting.{selected_text}
use Rattle.example_library.specs.declared.share.ShareFault.{ShareFault}
use Rattle.example_library.specs.declared.share.ShareFault.TheVariants.{Unclosed, Unwritten, Unopened}

-- each record of a part of some records, which is at a place of these positions, gives there what it gives among all,
-- positions aside: its outcome, and its body or the reason why it has none
pub record GivesAsBefore (part whole : List Record) (positions : List ℕ) : Type 0 where
  pub outcomes : (place position : ℕ) → IsSameRecord positions place position
      → GivesTheSame (IsSameOutcome positions) (IsOutcomeOf part place) (IsOutcomeOf whole position)
  pub answers : (place position : ℕ) → IsSameRecord positions place position
      → GivesTheSame (IsSameGiven positions) (IsAnswerAt part place) (IsAnswerAt whole position)

-- the archive of the records at positions and of all that they need, from which each gives what it gives in the whole
pub record IsShareOf (bytes : List ℕ) (rows : List Row) (first : IsArchiveOf bytes rows) (positions : List ℕ)
    (shared : Archived Stored) : Type 0 where
  pub closed : List ℕ
  pub needed : AreWithNeeded (records_read first.are.records) positions closed
  pub written : shared.listing.source.bytes ≡ selected_text rows closed bytes
  pub opened : IsIndexed shared.listing.source.bytes shared
  pub kept : GivesAsBefore (contents opened.listed.are.records) (contents first.are.records) closed

-- why none is given: a read failed or memory was wanted before anything was written, a read or a write failed, or
-- memory was wanted to open what was written
abbrev pub IsNotShared : ShareFault → Type 0
IsNotShared (Unclosed fault) = IsEarly (Out fault)
IsNotShared (Unwritten fault) = IsOfDevice fault
IsNotShared (Unopened fault) = fault.kind ≡ Memory
