-- The lines that `list` writes.
use Rattle.std.specs.Prelude.{ℕ, List, [], ◌∷◌, ◌++◌, codes, decimal}
use Rattle.std.specs.List.{enumerate_from, flat_map, join_with_byte}
use Rattle.warc_reading.specs.Row.{Row}

-- a text, or `-` for an empty one
abbrev pub shown : List ℕ → List ℕ
shown [] = codes "-"
shown (b ∷ bs) = b ∷ bs

-- a record's columns, with a tab between two, ended by LF
unfoldable pub line_of : ℕ → Row → List ℕ
line_of position row =
    join_with_byte 9 (decimal position ∷ decimal row.offset ∷ decimal row.block_len
    ∷ row.kind ∷ row.date ∷ row.id ∷ shown row.target ∷ [])
    ++ codes "\n"

-- a line for each record, with positions from 0
unfoldable pub listing : List Row → List ℕ
listing rows = flat_map (λ p. line_of p.0 p.1) (enumerate_from 0 rows)
