-- What the code keeps, and how: slots in an order that a test on slots gives. Callers need none of it.
use Rattle.std.specs.Prelude.{◌≡◌, ℕ, ◌<◌, ◌≤◌, Bool, true, false, if◌then◌else◌, List, [], ◌∷◌, ◌++◌, length, map, take, slice_get, zero, suc, Option, Some, None}
use Rattle.std.specs.List.{AllPairs, Contains}
use Rattle.std.specs.Ordering.{is_lt, is_gt}
use Rattle.std.specs.declared.cmp.Ordering.{Ordering}
use Rattle.warc_order.specs.declared.slot.Slot.{Slot}
use Rattle.warc_order.specs.declared.ranked.PlacedSlot.{PlacedSlot}

-- the slot past the end of a list
abbrev pub blank : Slot
blank = record { hash = 0; index = 0 }

-- a list of indices, and whether it takes one more without a growth
pub record Ranking : Type 0 where
  pub list : List Slot
  pub ready : Bool

-- none compares greater than one after it
abbrev pub IsRanked : (Slot → Slot → Ordering) → List Slot → Type 0
IsRanked compare xs = AllPairs (λ a b. is_gt (compare a b) ≡ false) xs

-- with one more, after all that compare less
abbrev pub placed : (Slot → Slot → Ordering) → List Slot → Slot → List Slot
placed compare [] p = p ∷ []
placed compare (x ∷ xs) p = if is_lt (compare x p) then x ∷ placed compare xs p else p ∷ x ∷ xs

-- the last that passes, or what was found before
abbrev pub last_from : (Slot → Bool) → Option Slot → List Slot → Option Slot
last_from test found [] = found
last_from test found (x ∷ xs) = last_from test (if test x then Some x else found) xs

-- the last that passes
abbrev pub find_last : (Slot → Bool) → List Slot → Option Slot
find_last test xs = last_from test None xs

-- each compares less than those after it
abbrev pub IsStrict : (Slot → Slot → Ordering) → List Slot → Type 0
IsStrict compare xs = AllPairs (λ a b. is_lt (compare a b) ≡ true) xs

-- the one before the c-th
abbrev pub before_in : List Slot → ℕ → Option Slot
before_in xs zero = None
before_in xs (suc c) = slice_get xs c

-- the slot at a place
abbrev pub slot_in : Option PlacedSlot → Option Slot
slot_in None = None
slot_in (Some held) = Some held.slot

-- p fails a test, and none that fails compares less
pub record IsFirstOf (compare : Slot → Slot → Ordering) (test : Slot → Bool) (xs : List Slot) (p : Slot) : Type 0 where
  pub is_present : Contains xs p
  pub fails : test p ≡ false
  pub first : (q : Slot) → Contains xs q → test q ≡ false → is_gt (compare p q) ≡ false

-- p passes a test, and none that passes compares greater
pub record IsLastOf (compare : Slot → Slot → Ordering) (test : Slot → Bool) (xs : List Slot) (p : Slot) : Type 0 where
  pub is_present : Contains xs p
  pub passes : test p ≡ true
  pub last : (q : Slot) → Contains xs q → test q ≡ true → is_gt (compare q p) ≡ false

-- lists one after another
abbrev pub flattened : {X : Type 0} → List (List X) → List X
flattened [] = []
flattened (l ∷ ls) = l ++ flattened ls

-- what a block holds, and how many slots it takes without a growth
pub record Held : Type 0 where
  pub list : List Slot
  pub room : ℕ

-- the slots of each block
abbrev pub lists_of : List Held → List (List Slot)
lists_of blocks = map (λ b. b.list) blocks

-- how many slots are before the b-th list
abbrev pub start_of : List (List Slot) → ℕ → ℕ
start_of lists b = length (flattened (take b lists))

-- a block holds some indices
abbrev pub HoldsSome : Held → Type 0
HoldsSome b = 0 < length b.list

-- a block holds some indices, fewer than `limit`, and has room for `limit`
pub record IsBlock (limit : ℕ) (b : Held) : Type 0 where
  pub some : 0 < length b.list
  pub few : length b.list < limit
  pub room : limit ≤ b.room

-- a block that may hold none
pub record IsNarrow (limit : ℕ) (b : Held) : Type 0 where
  pub few : length b.list < limit
  pub room : limit ≤ b.room
