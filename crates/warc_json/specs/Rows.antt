-- What `list --json` writes.
use Rattle.std.specs.Prelude.{ℕ, List, [], ◌∷◌, codes}
use Rattle.std.specs.List.{enumerate_from, flat_map}
use Rattle.warc_reading.specs.Row.{Row}
use Rattle.warc_json.specs.Objects.{SeenValue, Null, Number, Text, object_line}

-- an absent target is null
abbrev pub target_value : List ℕ → SeenValue
target_value [] = Null
target_value (b ∷ bs) = Text (b ∷ bs)

-- what is listed of a record, by its position
unfoldable pub json_line : ℕ → Row → List ℕ
json_line position row = object_line (
    (codes "position", Number position) ∷ (codes "offset", Number row.offset) ∷ (codes "length", Number row.block_len)
    ∷ (codes "type", Text row.kind) ∷ (codes "date", Text row.date) ∷ (codes "id", Text row.id)
    ∷ (codes "target", target_value row.target) ∷ [])

-- a line for each record, with positions from 0
unfoldable pub json_listing : List Row → List ℕ
json_listing rows = flat_map (λ p. json_line p.0 p.1) (enumerate_from 0 rows)
