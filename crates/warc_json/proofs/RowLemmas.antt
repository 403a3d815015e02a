-- The lines of rows.
use Rattle.std.proofs.Common.{◌≡◌, ℕ, ◌+◌, List, [], ◌∷◌, ◌++◌, length, take, drop, get_or, codes, append_assoc, Some, refl, sym, ap, ◌∙◌}
use Rattle.std.proofs.lemmas.Option.{get_or_from_slice_get, slice_get_within}
use Rattle.std.specs.List.{slice_get}
use Rattle.warc_json.specs.Objects.{SeenValue, Number, Text, object_line}
use Rattle.warc_json.specs.Rows.{json_line, json_listing, target_value}
use Rattle.warc_json.proofs.EachLemmas.{each, each_more, each_rest}
use Rattle.warc_reading.specs.Row.{Row}

-- the members that a line is put together from
pub line_from : (position : ℕ) (row : Row) (b c : ℕ) (d e f : List ℕ) (g : SeenValue) → b ≡ row.offset → c ≡ row.block_len
    → d ≡ row.kind → e ≡ row.date → f ≡ row.id → g ≡ target_value row.target
    → object_line ((codes "position", Number position) ∷ (codes "offset", Number b)
    ∷ (codes "length", Number c) ∷ (codes "type", Text d) ∷ (codes "date", Text e) ∷ (codes "id", Text f)
    ∷ (codes "target", g) ∷ []) ≡ json_line position row
unfolding json_line
line_from position row b c d e f g is_b is_c is_d is_e is_f is_g = rw (is_b, is_c, is_d, is_e, is_f, is_g) refl

pub listing_next : (rows : List Row) (i : ℕ) (row : Row) → slice_get rows i ≡ Some row → json_listing (take i rows) ++ json_line i row ≡ json_listing (take (i + 1) rows)
unfolding json_listing
listing_next rows i row is =
    ap (λ r. each json_line 0 (take i rows) ++ json_line i r) (sym (get_or_from_slice_get rows i row row is))
    ∙ each_more json_line [] rows i row (slice_get_within rows i row is)

pub listing_front : (rows : List Row) (i : ℕ) → json_listing rows ≡ json_listing (take i rows) ++ each json_line (0 + length (take i rows)) (drop i rows)
unfolding json_listing
listing_front rows i = sym (each_rest json_line [] rows i)
