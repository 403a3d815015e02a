-- The laws of archives.
use Rattle.std.specs.Prelude.{◌≡◌, ◌≢◌, ◌⊎◌, ◌↔◌, ℕ, ◌^◌, ◌<◌, ◌≤◌, List, ◌++◌, length, map, Option, Some, Result, IsSome}
use Rattle.std.specs.List.Sorted.{IsPermutation}
use Rattle.warc_value.specs.Dates.{Instant, instant_of}
use Rattle.warc_frame.specs.Record.{Record, max_archive}
use Rattle.warc_frame.specs.Spelling.{SpellsAll}
use Rattle.warc_frame.specs.declared.fault.Fault.{Fault}
use Rattle.warc_frame.specs.Seen.{SeenSource}
use Rattle.warc_frame.specs.declared.fault.FaultKind.TheVariants.{Memory, Truncated}
use Rattle.warc_answer.specs.Answers.{Given, IsAnswer}
use Rattle.warc_answer.specs.Replays.{IsReplay}
use Rattle.warc_answer.specs.declared.answer.Answer.{Answer}
use Rattle.warc_answer.specs.declared.answer.Reason.{Reason}
use Rattle.warc_answer.specs.declared.answer.ReplayFault.{ReplayFault}
use Rattle.warc_reading.specs.Archive.{AreGood, IsArchiveOf, IsFaultOf, contents}
use Rattle.warc_reading.specs.Opening.{IsRefusalOf, faults_after}
use Rattle.warc_checking.specs.Checking.{check_text}
use Rattle.warc_write.specs.Conversion.{converted}
use Rattle.warc_write.specs.Rendering.{AllGood}
use Rattle.warc_replay.specs.Captures.{full_date}
use Rattle.warc_rewrite.specs.Forms.{record_as, texts_as}
use Rattle.warc_judged.specs.Listing.{listing}
use Rattle.warc_rewrite.specs.Selecting.{AreOthers, ArePositions, at_positions}
use Rattle.warc_reading.specs.Row.{Placed, Row, row_of}
use Rattle.warc_rewrite.specs.declared.forms.Form.{Form}
use Rattle.warc_rewrite.specs.declared.forms.Form.TheVariants.{Canonical, Converted}

-- these good records are spelled by the bytes
pub record AreSpelledBy (bytes : List ℕ) (records : List Record) : Type 0 where
  pub spelled : SpellsAll records bytes
  pub good : AreGood records

-- an archive's rows are those of the good records that its bytes spell, in their order
abbrev pub ArchivesSpell : Type 0
ArchivesSpell = (bytes : List ℕ) (rows : List Row) → IsArchiveOf bytes rows
    → (placed : List Placed) × AreSpelledBy bytes (contents placed) × (rows ≡ map row_of placed)

-- the records that it speaks of are those that the bytes spell
abbrev pub RecordsAreSpelled : Type 0
RecordsAreSpelled = (bytes : List ℕ) (rows : List Row) (is : IsArchiveOf bytes rows)
    → AreSpelledBy bytes (contents is.are.records)

-- two listings of the same bytes speak of the same records
abbrev pub RecordsAreTheSame : Type 0
RecordsAreTheSame = (bytes : List ℕ) (rows others : List Row) (is : IsArchiveOf bytes rows)
    (other : IsArchiveOf bytes others) → contents is.are.records ≡ contents other.are.records

-- a source that holds its bytes and never fails is refused because an allocation failed, or for the first fault of its
-- bytes
abbrev pub RefusedForFault : Type 0
RefusedForFault = (bytes : List ℕ) (old new : SeenSource) (f : Fault) → old.holds ≡ Some bytes → old.faults ≡ 0
    → new.faults ≡ 0 → new.faults ≡ faults_after f.kind old.faults → IsRefusalOf bytes old new f
    → (f.kind ≡ Memory) ⊎ IsFaultOf bytes f

-- where good records are spelled there is no fault
abbrev pub NoFaultWhereSpelled : Type 0
NoFaultWhereSpelled = (bytes : List ℕ) (records : List Record) (fault : Fault) → length bytes ≤ max_archive
    → AreSpelledBy bytes records → IsFaultOf bytes fault → ⊥

-- and where none are there is one
abbrev pub SomeFaultElse : Type 0
SomeFaultElse = (bytes : List ℕ) → length bytes ≤ max_archive
    → ((records : List Record) × AreSpelledBy bytes records) ⊎ ((fault : Fault) × IsFaultOf bytes fault)

-- a fault other than truncation stays when bytes are appended
abbrev pub FaultsAreStable : Type 0
FaultsAreStable = (bytes more : List ℕ) (fault : Fault) → IsFaultOf bytes fault → fault.kind ≢ Truncated
    → IsFaultOf (bytes ++ more) fault

abbrev pub OneFault : Type 0
OneFault = (bytes : List ℕ) (one other : Fault) → IsFaultOf bytes one → IsFaultOf bytes other → one ≡ other

-- what is written of an archive, in each form, has fewer bytes than 2^64: a fault says exactly how many went out
abbrev pub OutputsAreCounted : Type 0
OutputsAreCounted = (bytes : List ℕ) (rows : List Row) (is : IsArchiveOf bytes rows)
    → (length (listing rows) < 2 ^ 64) × (length (check_text (contents is.are.records)) < 2 ^ 64)
    × (length (texts_as Canonical (contents is.are.records)) < 2 ^ 64)
    × (length (texts_as Converted (contents is.are.records)) < 2 ^ 64)

-- what is written of good records in a form spells the records in that form
abbrev pub WrittenSpells : Type 0
WrittenSpells = (form : Form) (records : List Record) → AreGood records
    → AreSpelledBy (texts_as form records) (map (record_as form) records)

-- so an archive that is written in a form, and opened, has its records in that form, and no others
abbrev pub WrittenOpensAsSame : Type 0
WrittenOpensAsSame = (form : Form) (records : List Record) → AreGood records
    → (rows : List Row) (is : IsArchiveOf (texts_as form records) rows)
    → contents is.are.records ≡ map (record_as form) records

-- converting good records changes no answer
abbrev pub ConversionKeepsAnswers : Type 0
ConversionKeepsAnswers =
    (records : List Record) (uri : List ℕ) (moment : Instant) (outcome : Result Given Reason) → AllGood records
    → IsAnswer (map converted records) uri moment outcome ↔ IsAnswer records uri moment outcome

-- an archive of what is written of good records as records of WARC 1.1
abbrev pub IsMigrated : List Record → List Row → Type 0
IsMigrated records rows = IsArchiveOf (texts_as Converted records) rows

-- it answers as the records do, for each URI and moment
abbrev pub MigrationKeepsAnswers : Type 0
MigrationKeepsAnswers = (records : List Record) → AreGood records → (rows : List Row) (is : IsMigrated records rows)
    → (uri : List ℕ) (moment : Instant) (outcome : Result Given Reason)
    → IsAnswer (contents is.are.records) uri moment outcome ↔ IsAnswer records uri moment outcome

-- and what a replay of it reports, and what goes out, one of the records may
abbrev pub MigrationKeepsReplays : Type 0
MigrationKeepsReplays = (records : List Record) → AreGood records → (rows : List Row) (is : IsMigrated records rows)
    → (uri : List ℕ) (moment : Instant) (answer : Result Answer ReplayFault) (old new : Option (List ℕ))
    → IsReplay (contents is.are.records) uri moment answer old new ↔ IsReplay records uri moment answer old new

-- the records at positions and those at all others are all records, each once
abbrev pub OthersAreTheRest : Type 0
OthersAreTheRest = (records : List Record) (positions others : List ℕ) → ArePositions (length records) positions
    → AreOthers (length records) positions others
    → IsPermutation (at_positions records positions ++ at_positions records others) records

-- a date in full is of the same instant
abbrev pub FullDatesAreInstants : Type 0
FullDatesAreInstants = (date : List ℕ) → IsSome (instant_of date) → instant_of (full_date date) ≡ instant_of date
