-- The series of a segmented record: the continuations that name its id (ISO 28500:2017, 7, 6.9, and 5.20 to 5.22).
-- That a continuation without a number, or with a number below 2, is in no series is this project's own reading.
use Rattle.std.specs.Prelude.{◌≡◌, ◌≢◌, ◌↔◌, ℕ, ◌&&◌, ◌-◌, ◌==◌, nat_le, List, map, find, count_by, AllPairs, Contains, Option, Some, None, if◌then◌else◌}
use Rattle.std.specs.List.{filter_map, enumerate_from, range_with_len}
use Rattle.warc_record.specs.declared.types.Kind.{Kind}
use Rattle.warc_record.specs.declared.readings.SegmentNumber.{SegmentNumber}
use Rattle.warc_record.specs.declared.readings.SegmentNumber.TheVariants.{Absent, Number, Bad}
use Rattle.warc_record.specs.Kinds.{is_continuation}
use Rattle.warc_record.specs.Readings.{SegmentReading, Reading}
use Rattle.warc_record.specs.Texts.{is_same_text}

-- what joins a record, and the length of its block
pub record Piece : Type 0 where
  pub kind : Kind
  pub segment : SegmentReading
  pub size : ℕ

abbrev pub piece_of : Reading → ℕ → Piece
piece_of head size = record { kind = head.kind; segment = head.segment; size = size }

-- a continuation in its series: its position, its number, the total if it states one, and the length of its block
pub record Member : Type 0 where
  pub position : ℕ
  pub number : ℕ
  pub total : Option ℕ
  pub size : ℕ

-- continuations are numbered from 2 on
abbrev pub numbered : ℕ → Piece → SegmentNumber → Option Member
numbered p piece Absent = None
numbered p piece Bad = None
numbered p piece (Number k) =
    if nat_le 2 k
    then Some (record { position = p; number = k; total = piece.segment.total; size = piece.size })
    else None

-- the record at a position as a member of the series of the record with the id: a continuation that names that origin
abbrev pub member_of : Option (List ℕ) → ℕ × Piece → Option Member
member_of id at =
    if is_continuation at.1.kind && is_same_text id at.1.segment.origin
    then numbered at.0 at.1 at.1.segment.number
    else None

-- the series of the record with the id, among all records, in any order
abbrev pub series_of : Option (List ℕ) → List Piece → List Member
series_of id pieces = filter_map (member_of id) (enumerate_from 0 pieces)

abbrev pub numbers_of : List Member → List ℕ
numbers_of members = map (λ m. m.number) members

-- how many members have a number
abbrev pub count_numbered : ℕ → List Member → ℕ
count_numbered k members = count_by (λ m. m.number == k) members

-- the member with a number, and the members numbered 2 to n in the order of their numbers
abbrev pub member_numbered : List Member → ℕ → Option Member
member_numbered members k = find (λ m. m.number == k) members

abbrev pub in_order : ℕ → List Member → List Member
in_order n members = filter_map (member_numbered members) (range_with_len 2 (n - 1))

-- a member is at the position
pub record IsMemberAt (members : List Member) (p : ℕ) : Type 0 where
  pub it : Member
  pub listed : Contains members it
  pub position : it.position ≡ p

-- the positions of all members, each once
pub record AreMembersAt (members : List Member) (positions : List ℕ) : Type 0 where
  pub each : (p : ℕ) → Contains positions p ↔ IsMemberAt members p
  pub once : AllPairs ◌≢◌ positions
