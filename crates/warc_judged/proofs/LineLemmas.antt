-- Lines and the columns that they are put together from.
use Rattle.std.proofs.Common.{◌≡◌, ℕ, ◌+◌, List, [], ◌∷◌, ◌++◌, length, take, drop, get_or, append_assoc, decimal, refl, sym, ap, ◌∙◌, arith, Some}
use Rattle.std.proofs.lemmas.Grind.{flat_map-append}
use Rattle.std.proofs.lemmas.List.{append-nil, take_more, length-take-le, take-append-drop}
use Rattle.std.proofs.lemmas.Option.{get_or_from_slice_get, slice_get_within}
use Rattle.std.specs.List.{concat, enumerate_from, flat_map, join_with_byte, slice_get}
use Rattle.warc_judged.specs.Listing.{line_of, listing, shown}
use Rattle.warc_reading.specs.Row.{Row}

seven : (a b c d e f g : List ℕ) → concat ((a ++ 9 ∷ []) ∷ (b ++ 9 ∷ []) ∷ (c ++ 9 ∷ []) ∷ (d ++ 9 ∷ []) ∷ (e ++ 9 ∷ []) ∷ (f ++ 9 ∷ []) ∷ (g ++ 10 ∷ []) ∷ [])
    ≡ join_with_byte 9 (a ∷ b ∷ c ∷ d ∷ e ∷ f ∷ g ∷ []) ++ 10 ∷ []
seven a b c d e f g = simp append_assoc

-- the columns that a line is put together from
pub line_from : (position : ℕ) (row : Row) (a b c d e f g : List ℕ) → a ≡ decimal position → b ≡ decimal row.offset → c ≡ decimal row.block_len
    → d ≡ row.kind → e ≡ row.date → f ≡ row.id → g ≡ shown row.target
    → concat ((a ++ 9 ∷ []) ∷ (b ++ 9 ∷ []) ∷ (c ++ 9 ∷ []) ∷ (d ++ 9 ∷ []) ∷ (e ++ 9 ∷ []) ∷ (f ++ 9 ∷ []) ∷ (g ++ 10 ∷ []) ∷ []) ≡ line_of position row
unfolding line_of
line_from position row a b c d e f g is_a is_b is_c is_d is_e is_f is_g =
    seven a b c d e f g ∙ rw (is_a, is_b, is_c, is_d, is_e, is_f, is_g) refl

enumerate_from-append : (n : ℕ) (xs ys : List Row) → enumerate_from n (xs ++ ys) ≡ enumerate_from n xs ++ enumerate_from (n + length xs) ys
enumerate_from-append n [] ys = ap (λ k. enumerate_from k ys) (omega arith)
enumerate_from-append n (x ∷ xs) ys =
    let e : n + 1 + length xs ≡ n + length (x ∷ xs) = omega arith in
    ap (λ l. (n, x) ∷ l) (enumerate_from-append (n + 1) xs ys ∙ ap (λ k. enumerate_from (n + 1) xs ++ enumerate_from k ys) e)

-- lines of rows, by their positions
abbrev pub lines : (ℕ → Row → List ℕ) → List Row → List ℕ
lines line rows = flat_map (λ p. line p.0 p.1) (enumerate_from 0 rows)

lines-append : (line : ℕ → Row → List ℕ) (xs ys : List Row) → lines line (xs ++ ys) ≡ lines line xs ++ flat_map (λ p. line p.0 p.1) (enumerate_from (length xs) ys)
lines-append line xs ys =
    ap (flat_map (λ p. line p.0 p.1)) (enumerate_from-append 0 xs ys ∙ ap (λ k. enumerate_from 0 xs ++ enumerate_from k ys) (omega arith))
    ∙ flat_map-append (λ p. line p.0 p.1) (enumerate_from 0 xs) (enumerate_from (length xs) ys)

-- the line of the row at a place
pub lines_next : (line : ℕ → Row → List ℕ) (rows : List Row) (i : ℕ) (row : Row) → slice_get rows i ≡ Some row → lines line (take i rows) ++ line i row ≡ lines line (take (i + 1) rows)
lines_next line rows i row is =
    let within = slice_get_within rows i row is in
    let more = ap (lines line) (take_more rows i row within) ∙ lines-append line (take i rows) (get_or rows i row ∷ []) in
    let size : length (take i rows) ≡ i = length-take-le i rows (omega (arith, within)) in
    sym (more ∙ ap (λ k. lines line (take i rows) ++ flat_map (λ p. line p.0 p.1) (enumerate_from k (get_or rows i row ∷ []))) size
    ∙ ap (λ l. lines line (take i rows) ++ l) (append-nil (line i (get_or rows i row)))
    ∙ ap (λ r. lines line (take i rows) ++ line i r) (get_or_from_slice_get rows i row row is))

-- the lines of the first rows, and the others
pub lines_front : (line : ℕ → Row → List ℕ) (rows : List Row) (i : ℕ) → lines line rows ≡ lines line (take i rows) ++ flat_map (λ p. line p.0 p.1) (enumerate_from (length (take i rows)) (drop i rows))
lines_front line rows i = ap (lines line) (sym (take-append-drop i rows)) ∙ lines-append line (take i rows) (drop i rows)

pub listing_next : (rows : List Row) (i : ℕ) (row : Row) → slice_get rows i ≡ Some row → listing (take i rows) ++ line_of i row ≡ listing (take (i + 1) rows)
unfolding listing
listing_next rows i row is = lines_next line_of rows i row is

pub listing_front : (rows : List Row) (i : ℕ) → listing rows ≡ listing (take i rows) ++ flat_map (λ p. line_of p.0 p.1) (enumerate_from (length (take i rows)) (drop i rows))
unfolding listing
listing_front rows i = lines_front line_of rows i
