-- The canonical head of the fields that a head spells has at most twice as many bytes as that head.
use Rattle.std.proofs.Common.{◌≡◌, ℕ, ◌+◌, ◌-◌, ◌*◌, ◌≤◌, List, [], ◌∷◌, ◌++◌, length, take, drop, Ok, length-append, length-take, ◌∙◌, ap, arith}
use Rattle.warc_field.specs.Area.{Pair, IsFieldLine, SpellsFields, area_of, canonical_line, canonical_fields}
use Rattle.warc_field.specs.Lines.{crlf, unfolded}
use Rattle.warc_field.specs.Text.{trimmed}
use Rattle.warc_field.proofs.LengthLemmas.{trimmed_len, unfolded_len}
use Rattle.warc_field.proofs.SpellLemmas.{area-spells}
use Rattle.warc_frame.specs.declared.version.Version.{Version}
use Rattle.warc_frame.specs.Record.{canonical_len}
use Rattle.warc_frame.proofs.CanonicalLemmas.{canonical_size}

-- a field's line is at most one byte longer when it is written canonically: by the space after its colon
line_len : (f : Pair) (line : List ℕ) → IsFieldLine f line → length (canonical_line f) ≤ length line + 1
line_len f line is =
    let rest = is.rest in
    let spelled : length (f.0 ++ 58 ∷ rest ++ crlf) ≡ length f.0 + length rest + 3 = simp length-append (omega arith) in
    let written : length (canonical_line f) ≡ length f.0 + length f.1 + 4 = simp length-append (omega arith) in
    let value : length (trimmed (unfolded rest)) ≡ length f.1 = ap length is.value.text in
    omega (arith, value, written, trimmed_len (unfolded rest), unfolded_len rest, ap length is.text ∙ spelled)

some_len : (f : Pair) (line : List ℕ) → IsFieldLine f line → 1 ≤ length line
some_len f line is =
    let spelled : length (f.0 ++ 58 ∷ is.rest ++ crlf) ≡ length f.0 + length is.rest + 3 = simp length-append (omega arith) in
    omega (arith, ap length is.text ∙ spelled)

area_len : (fields : List Pair) (area : List ℕ) → SpellsFields fields area → length (canonical_fields fields) ≤ 2 * length area
area_len [] area is = omega arith
area_len (f ∷ fs) area (line, more, one, whole, rest) =
    omega (arith, line_len f line one, some_len f line one, area_len fs more rest, ap length whole, length-append line more, length-append (canonical_line f) (canonical_fields fs))

-- a head of n bytes has its area between the version line and the empty line
pub spelled_head : (version : Version) (fields : List Pair) (text : List ℕ) (n : ℕ) → area_of (take (n - 2 - 10) (drop 10 text)) ≡ Ok fields → 12 ≤ n → canonical_len version fields ≤ 2 * n
spelled_head version fields text n read room =
    let area = take (n - 2 - 10) (drop 10 text) in
    omega (arith, canonical_size version fields, area_len fields area (area-spells area fields read), length-take (n - 2 - 10) (drop 10 text), room)
