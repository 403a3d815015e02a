use Rattle.std.proofs.Common.{◌≡◌, ℕ, ◌+◌, ◌-◌, ◌<◌, ◌≤◌, List, [], ◌∷◌, ◌++◌, Some, None, Result, Ok, Err, length, refl, sym, ap, ◌∙◌, arith, append_assoc}
use Rattle.warc_field.specs.Lines.{lines}
use Rattle.warc_field.specs.Area.{Pair, field_of, fields_of, field_then, with_front}
use Rattle.warc_field.proofs.LineLemmas.{lines-cons}

-- a line that is ended, and what comes of the text after it
pub fields_of-line : (at : ℕ) (line more : List ℕ) → fields_of at (line ∷ lines more) ≡ field_then at (field_of line) (fields_of (at + length line + 2) (lines more))
unfolding fields_of
fields_of-line at line more = let e = lines-cons more in rw e.2

-- the last line, which has no end
pub fields_of-last : (at : ℕ) (line : List ℕ) → 0 < length line → fields_of at (line ∷ []) ≡ Err at
unfolding fields_of
fields_of-last at [] h = elim h [ ]
fields_of-last at (b ∷ bs) h = refl

pub fields_of-end : (at : ℕ) → fields_of at ([] ∷ []) ≡ Ok []
unfolding fields_of
fields_of-end at = refl

pub with_front-with_front : (a b : List Pair) (r : Result (List Pair) ℕ) → with_front a (with_front b r) ≡ with_front (a ++ b) r
with_front-with_front a b (Ok fields) = ap (λ xs. Ok xs) (sym (append_assoc a b fields))
with_front-with_front a b (Err at) = refl

nil : (t : List ℕ) → length t ≡ 0 → t ≡ []
nil [] h = refl
nil (b ∷ bs) h = absurd (omega arith)

append_nil : (xs : List Pair) → xs ++ [] ≡ xs
append_nil [] = refl
append_nil (x ∷ xs) = ap (λ ys. x ∷ ys) (append_nil xs)

-- one turn over the lines: `front` is read, `rest` is left, and `read` is what the whole area gives
module _ (front : List Pair) (size : ℕ) (rest : List ℕ) (read : Result (List Pair) ℕ) (so_far : with_front front (fields_of (size - length rest) (lines rest)) ≡ read) where
  pub read-field : (line more : List ℕ) (field : Pair) → lines rest ≡ line ∷ lines more → length rest ≡ length line + 2 + length more → length rest ≤ size → field_of line ≡ Some field → with_front (front ++ field ∷ []) (fields_of (size - length more) (lines more)) ≡ read
  read-field line more field cut whole within is =
      let at : size - length rest + length line + 2 ≡ size - length more = omega arith in
      sym (with_front-with_front front (field ∷ []) (fields_of (size - length more) (lines more)))
      ∙ ap (λ n. with_front front (with_front (field ∷ []) (fields_of n (lines more)))) (sym at)
      ∙ ap (λ f. with_front front (field_then (size - length rest) f (fields_of (size - length rest + length line + 2) (lines more)))) (sym is)
      ∙ ap (with_front front) (sym (fields_of-line (size - length rest) line more))
      ∙ ap (λ ls. with_front front (fields_of (size - length rest) ls)) (sym cut)
      ∙ so_far

  pub read-bad : (line more : List ℕ) → lines rest ≡ line ∷ lines more → field_of line ≡ None → read ≡ Err (size - length rest)
  read-bad line more cut is =
      sym so_far
      ∙ ap (λ ls. with_front front (fields_of (size - length rest) ls)) cut
      ∙ ap (with_front front) (fields_of-line (size - length rest) line more)
      ∙ ap (λ f. with_front front (field_then (size - length rest) f (fields_of (size - length rest + length line + 2) (lines more)))) is

  pub read-end : lines rest ≡ rest ∷ [] → length rest ≡ 0 → read ≡ Ok front
  read-end cut none =
      sym so_far ∙ ap (λ ls. with_front front (fields_of (size - length rest) ls)) (cut ∙ ap (λ t. t ∷ []) (nil rest none))
      ∙ ap (with_front front) (fields_of-end (size - length rest)) ∙ ap (λ xs. Ok xs) (append_nil front)

  pub read-unended : lines rest ≡ rest ∷ [] → 0 < length rest → read ≡ Err (size - length rest)
  read-unended cut some =
      sym so_far ∙ ap (λ ls. with_front front (fields_of (size - length rest) ls)) cut
      ∙ ap (with_front front) (fields_of-last (size - length rest) rest some)
