-- Columns: values by index, of which the blank ones at the beginning are not kept.
use Rattle.std.specs.Prelude.{◌≡◌, ℕ, Bool, true, ◌&&◌, ◌||◌, nat_lt, ◌==◌, List, [], ◌∷◌, ◌++◌, length, map, take, slice_index_or}
use Rattle.std.specs.List.{range_with_len}

-- how many values are blank, the values after them, and how many more of these take no growth
pub record Sparse (A : Type 0) : Type 0 where
  pub blanks : ℕ
  pub items : List A
  pub free : ℕ

-- the values of a column whose i-th blank means `blank i`
abbrev pub values : {A : Type 0} → (ℕ → A) → Sparse A → List A
values blank column = map blank (range_with_len 0 column.blanks) ++ column.items

-- whether one more value, blank or not, takes no memory
abbrev pub is_skipped : {A : Type 0} → Bool → Sparse A → Bool
is_skipped blank column = (blank && length column.items == 0) && nat_lt column.blanks 18_446_744_073_709_551_615

-- whether one more value, blank or not, needs no growth
abbrev pub needs_no_growth : {A : Type 0} → Bool → Sparse A → Bool
needs_no_growth blank column = is_skipped blank column || nat_lt 0 column.free

-- ---- what holds whatever the blanks mean

-- no values
abbrev pub IsEmpty : {A : Type 0} → Sparse A → Type 0
IsEmpty {A} column = (blank : ℕ → A) → values blank column ≡ []

-- both columns have the same values
abbrev pub IsSame : {A : Type 0} → Sparse A → Sparse A → Type 0
IsSame {A} old new = (blank : ℕ → A) → values blank new ≡ values blank old

-- one more value, which is what its blank means if it is said to be blank
abbrev pub IsPushed : {A : Type 0} → Sparse A → Sparse A → A → Bool → Type 0
IsPushed {A} old new value is_blank = (blank : ℕ → A) →
    (is_blank ≡ true → value ≡ blank (length (values blank old))) → values blank new ≡ values blank old ++ value ∷ []

-- the first n values
abbrev pub IsCutTo : {A : Type 0} → Sparse A → Sparse A → ℕ → Type 0
IsCutTo {A} old new n = (blank : ℕ → A) → values blank new ≡ take n (values blank old)

-- the i-th value is this one, and past the end what a blank means
abbrev pub HoldsAt : {A : Type 0} → Sparse A → ℕ → A → Type 0
HoldsAt {A} column i value = (blank : ℕ → A) → slice_index_or (values blank column) i (blank i) ≡ value

-- the i-th value is what its blank means
abbrev pub IsBlankAt : {A : Type 0} → Sparse A → ℕ → Type 0
IsBlankAt {A} column i = (blank : ℕ → A) → slice_index_or (values blank column) i (blank i) ≡ blank i
