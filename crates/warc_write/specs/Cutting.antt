-- Records that are split by their heads, without a block in memory. This project's own notion.
use Rattle.std.specs.Prelude.{◌≡◌, ℕ, ◌+◌, Bool, List, [], ◌∷◌, length, Option, Some, None, Result, Ok, Err}
use Rattle.warc_field.specs.Area.{Pair}
use Rattle.warc_frame.specs.Record.{Record}
use Rattle.warc_frame.specs.declared.version.Version.{Version}
use Rattle.warc_record.specs.Blocks.{has_bad_digest}
use Rattle.warc_write.specs.Splitting.{segments_of, split_of, total_at}
use Rattle.warc_write.specs.declared.segments.SegmentPart.{SegmentPart}
use Rattle.warc_write.specs.declared.segments.SplitFault.{SplitFault}

-- a record of this version and these fields, with a block of this length, and a bad digest or not
pub record HasParts (version : Version) (fields : List Pair) (len : ℕ) (is_bad : Bool) (r : Record) : Type 0 where
  pub version_is : r.version ≡ version
  pub fields_are : r.fields ≡ fields
  pub len_is : length r.block ≡ len
  pub digest_is : has_bad_digest r ≡ is_bad

-- what the head of the segment at a place is to say of its piece, which has this digest
abbrev pub part_with : ℕ → ℕ → List ℕ → ℕ → List ℕ → SegmentPart
part_with n len piece at digest =
    record { number = at + 1; total = total_at n len at; len = length piece; digest = digest }

-- the segments of a record by its UUID, or the record alone
abbrev pub records_by : Record → ℕ → Option (List ℕ) → List Record
records_by r n None = r ∷ []
records_by r n (Some uuid) = segments_of r uuid n

-- the records that are written in the place of one: those that it is split into, or the record if it isn't split
abbrev pub or_whole : Record → Result (List Record) SplitFault → List Record
or_whole r (Ok records) = records
or_whole r (Err fault) = r ∷ []

abbrev pub split_or_whole : ℕ → Record → List Record
split_or_whole n r = or_whole r (split_of r n)
