-- The places of the fields of a head: a state of the code.
use Rattle.std.specs.Prelude.{◌≡◌, ℕ, Bool, ◌<◌, nat_lt, true, false, List, length, get_or, slice_get, Option, Some, None, option_and_then, option_map, ⊤}
use Rattle.warc_field.specs.Area.{Pair, count_of, first_value}
use Rattle.warc_record.specs.declared.known.Spot.{Spot}
use Rattle.warc_record.specs.declared.known.Spot.TheVariants.{Absent, Once, Repeated}
use Rattle.warc_frame.specs.declared.field_name.FieldName.{FieldName}
use Rattle.warc_frame.specs.FieldNames.{name_place, name_text}

-- the place of the first field of a spot
abbrev pub spot_place : Spot → Option ℕ
spot_place Absent = None
spot_place (Once place) = Some place
spot_place (Repeated place) = Some place

-- its value, and whether there is another
abbrev pub spot_value : Spot → List Pair → Option (List ℕ)
spot_value spot fields = option_map (λ (field : Pair). field.1) (option_and_then (slice_get fields) (spot_place spot))

abbrev pub spot_repeats : Spot → Bool
spot_repeats Absent = false
spot_repeats (Once place) = false
spot_repeats (Repeated place) = true

abbrev pub IsWithin : Spot → ℕ → Type 0
IsWithin Absent len = ⊤
IsWithin (Once place) len = place < len
IsWithin (Repeated place) len = place < len

-- the spot of a name: the place of the first of its fields, and whether there is another
pub record IsSpotOf (name : List ℕ) (fields : List Pair) (spot : Spot) : Type 0 where
  pub within : IsWithin spot (length fields)
  pub first : spot_value spot fields ≡ first_value name fields
  pub again : spot_repeats spot ≡ nat_lt 1 (count_of name fields)

-- each name has its spot at its place
abbrev pub AreSpots : List Pair → List Spot → Type 0
AreSpots fields spots =
    (name : FieldName) → IsSpotOf (name_text name) fields (get_or spots (name_place name) Absent)

-- the spot of a name after another field of it, which is at this place
abbrev pub next_spot : Spot → ℕ → Spot
next_spot Absent place = Once place
next_spot (Once first) place = Repeated first
next_spot (Repeated first) place = Repeated first
