-- What extracting a block answers, what goes out, and what is read of the source. That the first record with an id
-- counts, whatever its kind, is this project's own notion.
use Rattle.std.specs.Prelude.{◌≡◌, ℕ, List, [], map, slice_get, Option, option_and_then, option_map, Result, Err, IfErr}
use Rattle.warc_frame.specs.Effects.{FailsBy, IsOfDevice}
use Rattle.warc_frame.specs.Failing.{failed_by}
use Rattle.warc_frame.specs.Seen.{IfHeld, Seen, SeenSource}
use Rattle.warc_record.specs.Ids.{id_key}
use Rattle.warc_index.specs.Referents.{first_with}
use Rattle.warc_lookup.specs.Indexed.{Archived, IsIndexed, indexed_record}
use Rattle.warc_reading.specs.Row.{Placed, row_of}
use Rattle.warc_replay.specs.Parts.{IsGiven, ReadsPart, extract_result, part_text}
use Rattle.warc_replay.specs.declared.fault.ExtractFault.{ExtractFault}
use Rattle.warc_replay.specs.declared.fault.ExtractFault.TheVariants.{NoRecord}
use Rattle.warc_replay.specs.declared.record.part.Part.TheVariants.{Block}

-- the position of the first record of any kind with the id that a text holds
abbrev pub position_with : List Placed → List ℕ → Option ℕ
position_with all id = option_and_then (first_with (map indexed_record all)) (id_key id)

-- that record, if there is one
abbrev pub extracted : List Placed → List ℕ → Option Placed
extracted all id = option_and_then (slice_get all) (position_with all id)

-- the record's block went out, or a front of it, and none where there is no record
abbrev pub IsExtract : Option Placed → Result ℕ ExtractFault → Option (List ℕ) → Option (List ℕ) → Type 0
IsExtract found answer old new = IsGiven (option_map (λ p. part_text Block [] p) found) answer old new

-- Extracting from an archive. Where its source holds the archive's bytes, the block of the first record with the id
-- goes out, and that block alone is read. Of any source at most one block is read; where there is no record nothing
-- goes out. A failed read or write is the only fault
pub record Extracts {S : Type 0} (archive : Archived S) (id : List ℕ) (old new : SeenSource) (before after : Seen)
    (answer : Result ℕ ExtractFault) : Type 0 where
  pub reported : IfHeld old.holds (λ bytes. (is : IsIndexed bytes archive)
      → IsExtract (extracted is.listed.are.records id) answer before.reports after.reports)
  pub reads : IfHeld old.holds (λ bytes. (is : IsIndexed bytes archive)
      → ReadsPart Block (option_map row_of (extracted is.listed.are.records id)) old new)
  pub silent : answer ≡ Err NoRecord → after.reports ≡ before.reports
  pub near : (place : ℕ) × ReadsPart Block (slice_get archive.listing.rows place) old new
  pub device : IfErr (extract_result answer) IsOfDevice
  pub fails : FailsBy (λ bytes. IsIndexed bytes archive) (extract_result answer) old new
  pub cause : after.faults ≡ failed_by (extract_result answer) before.faults
