-- What the code keeps of a series whose members are in the order of their numbers: a state of the code.
use Rattle.std.specs.Prelude.{◌≡◌, ◌≢◌, ℕ, ◌+◌, ◌<◌, ◌≤◌, List, length, map, slice_index, Some, None, slice_get}
use Rattle.warc_segment.specs.declared.series.Continuation.{Continuation}
use Rattle.warc_segment.specs.Series.{Member, numbers_of}

abbrev pub member_at : Continuation → Member
member_at c = record { position = c.position; number = c.number; total = c.total; size = c.place.len }

abbrev pub members_of : List Continuation → List Member
members_of series = map member_at series

abbrev pub numbers_in : List Continuation → List ℕ
numbers_in series = numbers_of (members_of series)

-- the numbers don't fall, and are at least 2
pub record AreOrdered (ks : List ℕ) : Type 0 where
  pub up : (i j : ℕ) → i ≤ j → j < length ks → slice_index ks i ≤ slice_index ks j
  pub from_two : (i : ℕ) → i < length ks → 2 ≤ slice_index ks i

-- of the first i numbers, no two neighbours are equal
pub record Rises (ks : List ℕ) (i : ℕ) : Type 0 where
  pub apart : (k : ℕ) → k + 1 < i → slice_index ks k ≢ slice_index ks (k + 1)

-- the first i are the numbers from 2 to i + 1
pub record CountsUp (ks : List ℕ) (i : ℕ) : Type 0 where
  pub next : (k : ℕ) → k < i → slice_index ks k ≡ k + 2

-- of the first i members, none states a total
pub record NoTotal (members : List Member) (i : ℕ) : Type 0 where
  pub none : (k : ℕ) (m : Member) → k < i → slice_get members k ≡ Some m → m.total ≡ None

-- the member at i is the first that states a total
pub record IsEnd (members : List Member) (i total : ℕ) : Type 0 where
  pub it : Member
  pub is_present : slice_get members i ≡ Some it
  pub states : it.total ≡ Some total
  pub first : NoTotal members i
