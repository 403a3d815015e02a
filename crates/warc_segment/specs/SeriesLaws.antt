-- Laws of the definitions.
use Rattle.std.specs.Prelude.{◌≡◌, ◌↔◌, ℕ, ◌+◌, ◌-◌, ◌<◌, List, length, slice_get, Some, None, IsTrue, IsFalse}
use Rattle.warc_segment.specs.Series.{Member, member_numbered, in_order}
use Rattle.warc_segment.specs.Gaps.{is_absent, least_absent}

-- k is the least of 2 to n that no member has
pub record IsLeastAbsent (n : ℕ) (members : List Member) (k : ℕ) : Type 0 where
  pub absent : IsTrue (is_absent n members k)
  pub first : (j : ℕ) → j < k → IsFalse (is_absent n members j)

-- the least absent number is that one; if there is none, each of 2 to n is there
abbrev pub LeastAbsentIsFirst : Type 0
LeastAbsentIsFirst =
    (n : ℕ) (members : List Member)
    → ((k : ℕ) → (least_absent n members ≡ Some k) ↔ IsLeastAbsent n members k)
    × ((least_absent n members ≡ None) ↔ ((k : ℕ) → IsFalse (is_absent n members k)))

-- these are n - 1 members, the one at place i being the first with the number i + 2
pub record AreInOrder (n : ℕ) (members followers : List Member) : Type 0 where
  pub count : length followers ≡ n - 1
  pub each : (i : ℕ) (m : Member) → slice_get followers i ≡ Some m → member_numbered members (i + 2) ≡ Some m

-- if no number is absent, the members in order are those, and the only ones that are
abbrev pub InOrderIsEach : Type 0
InOrderIsEach =
    (n : ℕ) (members : List Member)
    → (least_absent n members ≡ None → AreInOrder n members (in_order n members))
    × ((others : List Member) → AreInOrder n members others → in_order n members ≡ others)
