-- The values of an area that is ASCII are UTF-8.
use Rattle.std.proofs.Common.{◌≡◌, ℕ, ◌<◌, Bool, true, false, List, [], ◌∷◌, ◌++◌, length, drop, cond, subst, arith}
use Rattle.std.specs.List.{All, flat_map, prefix_len}
use Rattle.std.specs.Str.{IsAscii, is_utf8}
use Rattle.std.proofs.Math.Seq.{take-append_seam, drop-append_seam}
use Rattle.std.proofs.lemmas.List.Elements.{All-nil, All-cons}
use Rattle.std.proofs.lemmas.Str.{IsAscii-append, IsAscii-drop, IsAscii-take, IsUtf8-from_ascii, is_utf8-from_IsUtf8}
use Rattle.std.proofs.lemmas.Str.Ascii.{IsAscii-cons, IsAscii-nil}
use Rattle.warc_field.specs.Area.{Pair, IsFieldLine, SpellsFields}
use Rattle.warc_field.specs.Lines.{begins_blank, continued, crlf, in_front, is_crlf, joined_parts, parts, unfolded}
use Rattle.warc_field.specs.Text.{is_blank, trimmed}

tail_ascii : (b : ℕ) (bs : List ℕ) → IsAscii (b ∷ bs) → IsAscii bs
tail_ascii b bs is = IsAscii-drop (b ∷ bs) 1 is

pub left_ascii : (xs ys : List ℕ) → IsAscii (xs ++ ys) → IsAscii xs
left_ascii xs ys is = subst IsAscii (take-append_seam xs ys) (IsAscii-take (xs ++ ys) (length xs) is)

pub right_ascii : (xs ys : List ℕ) → IsAscii (xs ++ ys) → IsAscii ys
right_ascii xs ys is = subst IsAscii (drop-append_seam xs ys) (IsAscii-drop (xs ++ ys) (length xs) is)

crlf_ascii : IsAscii crlf
crlf_ascii = IsAscii-cons 13 (10 ∷ []) (omega arith) (IsAscii-cons 10 [] (omega arith) IsAscii-nil)

-- each of the parts is ASCII
abbrev AreAscii : List (List ℕ) → Type 0
AreAscii [] = Unit {0}
AreAscii (p ∷ ps) = IsAscii p × AreAscii ps

in_front_ascii : (b : ℕ) (ps : List (List ℕ)) → b < 128 → AreAscii ps → AreAscii (in_front b ps)
in_front_ascii b [] small are = tt
in_front_ascii b (p ∷ ps) small are = (IsAscii-cons b p small are.0, are.1)

parts_ascii : (text : List ℕ) → IsAscii text → AreAscii (parts text)
unfolding parts
parts_ascii [] is = (is, tt)
parts_ascii (b ∷ []) is = (is, tt)
parts_ascii (b ∷ c ∷ bs) is =
    let after = tail_ascii b (c ∷ bs) is in
    by (is_crlf b c) (parts_ascii bs (tail_ascii c bs after)) (in_front_ascii b (parts (c ∷ bs)) (is 0) (parts_ascii (c ∷ bs) after))
  where
    by : (k : Bool) → AreAscii (parts bs) → AreAscii (in_front b (parts (c ∷ bs)))
        → AreAscii (elim k [ true ↦ [] ∷ parts bs | false ↦ in_front b (parts (c ∷ bs)) ])
    by true cut on = (IsAscii-nil, cut)
    by false cut on = on

continued_ascii : (part : List ℕ) → IsAscii part → IsAscii (continued part)
continued_ascii part is =
    let after = drop (prefix_len is_blank part) part in
    by (begins_blank part) (32 ∷ after) (crlf ++ part)
    (IsAscii-cons 32 after (omega arith) (IsAscii-drop part (prefix_len is_blank part) is)) (IsAscii-append crlf part crlf_ascii is)
  where
    by : (k : Bool) (x y : List ℕ) → IsAscii x → IsAscii y → IsAscii (cond k x y)
    by true x y left right = left
    by false x y left right = right

all_continued_ascii : (ps : List (List ℕ)) → AreAscii ps → IsAscii (flat_map continued ps)
all_continued_ascii [] are = IsAscii-nil
all_continued_ascii (p ∷ ps) are =
    IsAscii-append (continued p) (flat_map continued ps) (continued_ascii p are.0) (all_continued_ascii ps are.1)

joined_ascii : (ps : List (List ℕ)) → AreAscii ps → IsAscii (joined_parts ps)
joined_ascii [] are = IsAscii-nil
joined_ascii (p ∷ ps) are = IsAscii-append p (flat_map continued ps) are.0 (all_continued_ascii ps are.1)

value_ascii : (rest : List ℕ) → IsAscii rest → IsAscii (trimmed (unfolded rest))
unfolding trimmed unfolded
value_ascii rest is = IsAscii-take _ _ (IsAscii-drop _ _ (joined_ascii (parts rest) (parts_ascii rest is)))

-- the value of a field whose line is ASCII
line_utf8 : (field : Pair) (line : List ℕ) → IsFieldLine field line → IsAscii line → is_utf8 field.1 ≡ true
line_utf8 field line of is =
    let before = left_ascii (field.0 ++ 58 ∷ of.rest) crlf (subst IsAscii of.text is) in
    let rest = tail_ascii 58 of.rest (right_ascii field.0 (58 ∷ of.rest) before) in
    is_utf8-from_IsUtf8 field.1 (IsUtf8-from_ascii field.1 (subst IsAscii of.value.text (value_ascii of.rest rest)))

pub values_utf8 : (fields : List Pair) (area : List ℕ) → SpellsFields fields area → IsAscii area
    → All (λ (field : Pair). is_utf8 field.1 ≡ true) fields
values_utf8 [] area spelled is = All-nil (λ (field : Pair). is_utf8 field.1 ≡ true)
values_utf8 (f ∷ fs) area (line, more, of, whole, spelled) is =
    let both = subst IsAscii whole is in
    All-cons (λ (field : Pair). is_utf8 field.1 ≡ true) f fs (line_utf8 f line of (left_ascii line more both))
    (values_utf8 fs more spelled (right_ascii line more both))
