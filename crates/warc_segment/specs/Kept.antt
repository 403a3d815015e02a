-- What is kept of the records of an archive for joining them: the continuations that are in a series, in the order of
-- the archive. This project's own notion.
use Rattle.std.specs.Prelude.{ℕ, nat_le, List, length, Option, Some, None, if◌then◌else◌}
use Rattle.std.specs.List.{filter_map, enumerate_from}
use Rattle.warc_record.specs.declared.readings.SegmentNumber.{SegmentNumber}
use Rattle.warc_record.specs.declared.readings.SegmentNumber.TheVariants.{Absent, Number, Bad}
use Rattle.warc_record.specs.Kinds.{is_continuation}
use Rattle.warc_segment.specs.declared.place.Place.{Place}
use Rattle.warc_segment.specs.Joined.{PlacedRecord}

-- a continuation that is in a series: the key of its origin, its position, its number, total and place
pub record KeptMember : Type 0 where
  pub origin : List ℕ
  pub position : ℕ
  pub number : ℕ
  pub total : Option ℕ
  pub place : Place

abbrev pub kept_by : ℕ → PlacedRecord → Option (List ℕ) → SegmentNumber → Option KeptMember
kept_by p r None number = None
kept_by p r (Some origin) Absent = None
kept_by p r (Some origin) Bad = None
kept_by p r (Some origin) (Number k) =
    if nat_le 2 k
    then Some (record { origin = origin; position = p; number = k; total = r.head.segment.total; place = r.place })
    else None

-- what is kept of the record at a position
abbrev pub kept_of : ℕ × PlacedRecord → Option KeptMember
kept_of at =
    if is_continuation at.1.head.kind then kept_by at.0 at.1 at.1.head.segment.origin at.1.head.segment.number else None

-- the number of records, and what is kept of them
pub record Kept : Type 0 where
  pub count : ℕ
  pub members : List KeptMember

abbrev pub kept_in : List PlacedRecord → Kept
kept_in all = record { count = length all; members = filter_map kept_of (enumerate_from 0 all) }
