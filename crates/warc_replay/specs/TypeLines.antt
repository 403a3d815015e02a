-- The `Content-Type` of a head that has no segment number, as its lines are read. States of the code: no public clause
-- cites them.
use Rattle.std.specs.Prelude.{◌≡◌, ℕ, List, ◌∷◌, Option, Some, None, Ok, option_map}
use Rattle.std.specs.Borrow.{Bor}
use Rattle.std.specs.Option.{option_or}
use Rattle.warc_field.specs.Area.{Pair, field_of, fields_of, first_value, value_or_empty}
use Rattle.warc_field.specs.Lines.{lines}
use Rattle.warc_frame.specs.Names.{content_type, warc_segment_number}

abbrev pub found_text : Option (Bor (List ℕ)) → Option (List ℕ)
found_text found = option_map (λ (text : Bor (List ℕ)). text.now) found

-- fields without a segment number have this `Content-Type`, empty if they have none
pub record IsUnsegmentedType (fields : List Pair) (value : List ℕ) : Type 0 where
  pub type_is : value_or_empty content_type fields ≡ value
  pub unsegmented : first_value warc_segment_number fields ≡ None

-- a line adds this to what was found: what is found of its field and later ones is what is found after it of the later
-- ones
pub record KeepsType (line : List ℕ) (before after : Option (Bor (List ℕ))) : Type 0 where
  pub type_is : (field : Pair) (later : List Pair) → field_of line ≡ Some field
      → option_or (found_text before) (first_value content_type (field ∷ later))
      ≡ option_or (found_text after) (first_value content_type later)
  pub segment_is : (field : Pair) (later : List Pair) → field_of line ≡ Some field
      → first_value warc_segment_number (field ∷ later) ≡ first_value warc_segment_number later

-- the lines that are left are these fields, and what is found of them and of the lines before is what all fields have
pub record LeavesType (fields : List Pair) (rest : List ℕ) (found : Option (Bor (List ℕ))) : Type 0 where
  pub at : ℕ
  pub later : List Pair
  pub reads : fields_of at (lines rest) ≡ Ok later
  pub type_is : first_value content_type fields ≡ option_or (found_text found) (first_value content_type later)
  pub segment_is : first_value warc_segment_number fields ≡ first_value warc_segment_number later
