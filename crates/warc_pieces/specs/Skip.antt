-- How far no good record begins after a place at which none begins.
use Rattle.std.specs.Prelude.{◌≡◌, ℕ, ◌+◌, ◌-◌, ◌<◌, ◌≤◌, true, List, length, drop, slice_range, is_some, Ok}
use Rattle.warc_field.specs.Area.{Pair, area_of, canonical_fields, count_of}
use Rattle.warc_frame.specs.FaultText.{name_of}
use Rattle.warc_frame.specs.Reading.{version_of}
use Rattle.warc_frame.specs.Record.{max_head}
use Rattle.warc_frame.specs.declared.fault.FaultKind.{FaultKind}
use Rattle.warc_frame.specs.declared.fault.FaultKind.TheVariants.{Missing, Repeated, HeadTooLong, Length, BadType, Id, Date, End, Truncated}
use Rattle.warc_reading.specs.Fronts.{BeginsWithNone}

-- no good record begins at the places of a text from one on, before another
abbrev pub NoneFrom : List ℕ → ℕ → ℕ → Type 0
NoneFrom text from to = (k : ℕ) → from ≤ k → k < to → BeginsWithNone (drop k text)

-- nor before place n, but perhaps at its front
abbrev pub NoneWithin : List ℕ → ℕ → Type 0
NoneWithin text n = NoneFrom text 1 n

-- The kinds of fault that a record shares with each one that begins within its head. The fields of such a record are
-- the last ones of that head: so each of the four mandatory fields is missing there too, or has the same value if that
-- head has it once, and the block ends at the same place.
abbrev pub IsShared : FaultKind → Type 0
IsShared (Missing field) = Unit {0}
IsShared Length = Unit {0}
IsShared BadType = Unit {0}
IsShared Id = Unit {0}
IsShared Date = Unit {0}
IsShared End = Unit {0}
IsShared Truncated = Unit {0}
IsShared kind = ⊥

-- what is wrong with fields, whatever fields come before them: one of the four occurs more than once, or the head that
-- they make is too long
abbrev pub AreTooMany : FaultKind → List Pair → Type 0
AreTooMany (Repeated field) fields = 1 < count_of (name_of field) fields
AreTooMany HeadTooLong fields = max_head < length (canonical_fields fields) + 12
AreTooMany kind fields = ⊥

-- a head with a version line, whose lines are all fields, and too many
pub record HasTooMany (kind : FaultKind) (head : List ℕ) : Type 0 where
  pub version : is_some (version_of head) ≡ true
  pub fields : List Pair
  pub reads : area_of (slice_range head 10 (length head - 2)) ≡ Ok fields
  pub many : AreTooMany kind fields
