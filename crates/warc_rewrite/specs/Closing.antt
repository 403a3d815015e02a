-- What must be written beside a record, so that what is answered of it stays when others are left out. This project's
-- own notion, over what a revisit refers to and the segments of a record.
use Rattle.std.specs.Prelude.{◌≡◌, ◌⊎◌, ◌↔◌, ℕ, ◌<◌, List, length, map, slice_get, Some, Contains}
use Rattle.warc_record.specs.declared.readings.SegmentNumber.TheVariants.{Number}
use Rattle.warc_index.specs.Referents.{next_of}
use Rattle.warc_index.specs.Walks.{walk}
use Rattle.warc_segment.specs.Joined.{ReadRecord, piece_read}
use Rattle.warc_segment.specs.Series.{Member, series_of}
use Rattle.warc_answer.specs.Answers.{index_of}
use Rattle.warc_rewrite.specs.Selecting.{ArePositions}

-- the record at p is a first segment, and the one at q a member of its series
pub record IsSegmentOf (all : List ReadRecord) (p q : ℕ) : Type 0 where
  pub first : ReadRecord
  pub there : slice_get all p ≡ Some first
  pub number : first.head.segment.number ≡ Number 1
  pub member : Member
  pub listed : Contains (series_of first.head.id (map piece_read all)) member
  pub position : member.position ≡ q

-- from referent to referent the way from the record at p comes to the one at q
pub record ComesTo (all : List ReadRecord) (p q : ℕ) : Type 0 where
  pub steps : ℕ
  pub reached : walk (next_of (index_of all)) p steps ≡ Some q

-- the way comes to a first segment, to whose series the record at q belongs
pub record ComesToSegment (all : List ReadRecord) (p q : ℕ) : Type 0 where
  pub first : ℕ
  pub way : ComesTo all p first
  pub segment : IsSegmentOf all first q

-- the record at p needs the one at q: it is on the way, or is a segment of a record on the way
abbrev pub Needs : List ReadRecord → ℕ → ℕ → Type 0
Needs all p q = ComesTo all p q ⊎ ComesToSegment all p q

-- some record at these positions needs the one at q
pub record IsNeeded (all : List ReadRecord) (positions : List ℕ) (q : ℕ) : Type 0 where
  pub by : ℕ
  pub named : Contains positions by
  pub needs : Needs all by q

-- the record at p needs one at these positions
pub record NeedsOneOf (all : List ReadRecord) (positions : List ℕ) (p : ℕ) : Type 0 where
  pub named : ℕ
  pub is : Contains positions named
  pub needs : Needs all p named

-- positions, and those of all that their records need
pub record AreWithNeeded (all : List ReadRecord) (positions closed : List ℕ) : Type 0 where
  pub are : ArePositions (length all) closed
  pub each : (q : ℕ) → Contains closed q ↔ IsNeeded all positions q

-- the positions of the records that need none of those at these positions
pub record AreWithout (all : List ReadRecord) (positions kept : List ℕ) : Type 0 where
  pub are : ArePositions (length all) kept
  pub each : (p : ℕ) → Contains kept p ↔ ((p < length all) × ¬ NeedsOneOf all positions p)

-- whatever the records at these positions need is at these positions
abbrev pub NeedsNoOther : List ReadRecord → List ℕ → Type 0
NeedsNoOther all positions = (p q : ℕ) → Contains positions p → Needs all p q → Contains positions q
