-- What the rest of a line means, where it isn't copied yet, and fields that are written over others: states of
-- the code.
use Rattle.std.specs.Prelude.{◌≡◌, ℕ, ◌+◌, ◌<◌, Bool, true, false, List, [], ◌∷◌, ◌++◌, length, take, Option, Some, None}
use Rattle.std.specs.Borrow.{Bor}
use Rattle.warc_field.specs.Area.{Pair}
use Rattle.warc_field.specs.declared.area.Meaning.{Meaning}
use Rattle.warc_field.specs.declared.area.Meaning.TheVariants.{Plain, Folded}

abbrev pub meant : {A : Type 0} → Meaning A → List ℕ
meant (Plain text) = text.now
meant (Folded value) = value

-- a name and what its line's rest means
abbrev pub field_meant : {A : Type 0} → Bor (List ℕ) × Meaning A → Pair
field_meant field = (field.0.now, meant field.1)

-- a field, if there is one, comes after the first ones
abbrev pub IsPut : Option Pair → ℕ → List Pair → List Pair → Bool → Type 0
IsPut None place old new is = is ≡ false
IsPut (Some field) place old new is =
    (is ≡ true) × (take (place + 1) new ≡ take place old ++ field ∷ []) × (place < length new)
