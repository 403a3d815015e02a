-- What an archive keeps of its records besides their rows: what finds them by target, instant and id, and what joins
-- segmented ones.
use Rattle.std.specs.Prelude.{◌≡◌, ℕ, List, length, map}
use Rattle.warc_record.specs.Readings.{Reading, reading_of}
use Rattle.warc_index.specs.Captures.{Indexed, indexed_of}
use Rattle.warc_index.specs.Orders.{IsIndexOf, Indexes}
use Rattle.warc_segment.specs.Joined.{PlacedRecord}
use Rattle.warc_segment.specs.Kept.{Kept as Parts, kept_in}
use Rattle.warc_segment.specs.declared.place.Place.{Place}
use Rattle.warc_reading.specs.Archive.{Contents, IsArchiveOf}
use Rattle.warc_reading.specs.Row.{Placed, Row}

-- where the block of a record is whose head says this, and the digest that the head asks for
abbrev pub place_with : Placed → Reading → Place
place_with p head = record {
  start = p.block_start;
  len = length p.content.block;
  wanted = head.wanted;
  truncated = head.truncated;
}

abbrev pub place_of : Placed → Place
place_of p = place_with p (reading_of p.content.fields)

-- a record by what its head says, and the place of its block
abbrev pub placed_record : Placed → PlacedRecord
placed_record p = record { head = reading_of p.content.fields; place = place_of p }

-- what an index keeps of a record
abbrev pub indexed_record : Placed → Indexed
indexed_record p = indexed_of (reading_of p.content.fields)

-- the index and the parts are what is kept of these records
pub record AreOf (records : List Placed) (index : Indexes) (parts : Parts) : Type 0 where
  pub index_is : IsIndexOf (map indexed_record records) index
  pub parts_are : parts ≡ kept_in (map placed_record records)

-- a listing with an index and parts
pub record Archived (S : Type 0) : Type 0 where
  pub listing : Contents S
  pub index : Indexes
  pub parts : Parts

-- an archive of these bytes: its rows, its index and its parts are made of the good records that they spell
pub record IsIndexed {S : Type 0} (bytes : List ℕ) (archive : Archived S) : Type 0 where
  pub listed : IsArchiveOf bytes archive.listing.rows
  pub kept : AreOf listed.are.records archive.index archive.parts

-- nothing of it but its source may have changed
abbrev pub IsUnchanged : {S : Type 0} → Archived S → Archived S → Type 0
IsUnchanged old new =
    (new.listing.rows ≡ old.listing.rows) × (new.index ≡ old.index) × (new.parts ≡ old.parts)

-- the parts are those of these records
abbrev pub ArePartsOf : List Placed → Parts → Type 0
ArePartsOf records parts = parts ≡ kept_in (map placed_record records)

-- the rows, the index and the parts are those of an archive of these bytes
abbrev pub IsIndexedBy : List Row → Indexes → Parts → List ℕ → Type 0
IsIndexedBy rows index parts bytes = (is : IsArchiveOf bytes rows) × AreOf is.are.records index parts
