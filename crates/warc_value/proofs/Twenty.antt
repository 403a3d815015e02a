-- Four characters of base32 as a number of twenty bits.
use Rattle.std.proofs.Common.{◌≡◌, ℕ, ◌+◌, ◌-◌, ◌*◌, ◌/◌, ◌%◌, ◌<◌, ◌≤◌, true, ◌&&◌, get_or, slice_set, take, drop, length, List, [], ◌∷◌, ◌++◌, Option, Some, None, refl, ap, arith, sym, ◌∙◌, if◌then◌else◌}
use Rattle.std.specs.Prelude.{is_some, unwrap_or}
use Rattle.std.specs.List.{list_all, flat_map}
use Rattle.std.proofs.lemmas.Slice.Eq.{text_from_reads}
use Rattle.std.proofs.lemmas.List.{take_all, length-drop}
use Rattle.warc_value.specs.Base32.{bits_of, number_of_bits, symbol_value, is_symbol, decoded_of}
use Rattle.warc_value.proofs.Bits.{same-five, five_items, eight_items, decoded_of-eight}
use Rattle.warc_value.proofs.LawLemmas.{symbol_of-symbol_value}

-- what four characters write
abbrev pub twenty_of : List ℕ → Option ℕ
twenty_of xs = if list_all is_symbol xs then Some (number_of_bits (flat_map (λ c. bits_of 5 (unwrap_or (symbol_value c) 0)) xs)) else None

-- what four characters write, by their values
abbrev pub from_values : Option ℕ → Option ℕ → Option ℕ → Option ℕ → Option ℕ
from_values p q r s =
    if is_some p && (is_some q && (is_some r && (is_some s && true)))
    then Some (number_of_bits (bits_of 5 (unwrap_or p 0) ++ (bits_of 5 (unwrap_or q 0) ++ (bits_of 5 (unwrap_or r 0) ++ (bits_of 5 (unwrap_or s 0) ++ []))))) else None

-- none is more than four values
abbrev pub joined : Option ℕ → Option ℕ → Option ℕ → Option ℕ → ℕ
joined p q r s = ((unwrap_or p 1_048_576 * 32 + unwrap_or q 1_048_576) * 32 + unwrap_or r 1_048_576) * 32 + unwrap_or s 1_048_576

abbrev pub IsValue : Option ℕ → Type 0
IsValue p = (n : ℕ) → p ≡ Some n → n < 32

is_value : (c : ℕ) → IsValue (symbol_value c)
is_value c n e = (symbol_of-symbol_value c n e).0

five_back : (a : ℕ) → a < 32 → a / 16 % 2 * 16 + (a / 8 % 2 * 8 + (a / 4 % 2 * 4 + (a / 2 % 2 * 2 + a / 1 % 2))) ≡ a
five_back a h = omega arith

bits_joined : (a b c d : ℕ) → a < 32 → b < 32 → c < 32 → d < 32
    → number_of_bits (bits_of 5 a ++ (bits_of 5 b ++ (bits_of 5 c ++ (bits_of 5 d ++ [])))) ≡ ((a * 32 + b) * 32 + c) * 32 + d
unfolding bits_of number_of_bits
bits_joined a b c d ha hb hc hd =
    let ea = five_back a ha in
    let eb = five_back b hb in
    let ec = five_back c hc in
    let ed = five_back d hd in
    omega (arith, ea, eb, ec, ed)

low : (p q r s : Option ℕ) → IsValue p → IsValue q → IsValue r → IsValue s → joined p q r s < 1_048_576 → Some (joined p q r s) ≡ from_values p q r s
low None q r s hp hq hr hs below = absurd (omega arith)
low (Some a) None r s hp hq hr hs below = absurd (omega arith)
low (Some a) (Some b) None s hp hq hr hs below = absurd (omega arith)
low (Some a) (Some b) (Some c) None hp hq hr hs below = absurd (omega arith)
low (Some a) (Some b) (Some c) (Some d) hp hq hr hs below = ap (λ (n : ℕ). Some n) (sym (bits_joined a b c d (hp a refl) (hq b refl) (hr c refl) (hs d refl)))

high : (p q r s : Option ℕ) → IsValue p → IsValue q → IsValue r → IsValue s → 1_048_576 ≤ joined p q r s → None ≡ from_values p q r s
high None q r s hp hq hr hs above = refl
high (Some a) None r s hp hq hr hs above = refl
high (Some a) (Some b) None s hp hq hr hs above = refl
high (Some a) (Some b) (Some c) None hp hq hr hs above = refl
high (Some a) (Some b) (Some c) (Some d) hp hq hr hs above = absurd (omega (arith, hp a refl, hq b refl, hr c refl, hs d refl))

four_items : (xs : List ℕ) → length xs ≡ 4 → xs ≡ get_or xs 0 0 ∷ get_or xs 1 0 ∷ get_or xs 2 0 ∷ get_or xs 3 0 ∷ []
four_items xs h = text_from_reads xs _ h (refl, (refl, (refl, (refl, tt))))

-- what the sum of the table's entries says
abbrev pub joined_of : List ℕ → ℕ
joined_of xs = joined (symbol_value (get_or xs 0 0)) (symbol_value (get_or xs 1 0)) (symbol_value (get_or xs 2 0)) (symbol_value (get_or xs 3 0))

pub twenty-low : (xs : List ℕ) (n : ℕ) → length xs ≡ 4 → n ≡ joined_of xs → n < 1_048_576 → Some n ≡ twenty_of xs
twenty-low xs n long is below =
    ap (λ (m : ℕ). Some m) is
    ∙ low _ _ _ _ (is_value (get_or xs 0 0)) (is_value (get_or xs 1 0)) (is_value (get_or xs 2 0)) (is_value (get_or xs 3 0)) (omega (arith, is, below))
    ∙ ap (λ (ys : List ℕ). twenty_of ys) (sym (four_items xs long))

pub twenty-high : (xs : List ℕ) (n : ℕ) → length xs ≡ 4 → n ≡ joined_of xs → 1_048_576 ≤ n → None ≡ twenty_of xs
twenty-high xs n long is above =
    high _ _ _ _ (is_value (get_or xs 0 0)) (is_value (get_or xs 1 0)) (is_value (get_or xs 2 0)) (is_value (get_or xs 3 0)) (omega (arith, is, above))
    ∙ ap (λ (ys : List ℕ). twenty_of ys) (sym (four_items xs long))

-- four values of a number that was written
record Values (p q r s : Option ℕ) (n : ℕ) : Type 0 where
  pub a : ℕ
  pub b : ℕ
  pub c : ℕ
  pub d : ℕ
  pub is_a : p ≡ Some a
  pub is_b : q ≡ Some b
  pub is_c : r ≡ Some c
  pub is_d : s ≡ Some d
  pub number : n ≡ ((a * 32 + b) * 32 + c) * 32 + d

values : (p q r s : Option ℕ) (n : ℕ) → IsValue p → IsValue q → IsValue r → IsValue s → Some n ≡ from_values p q r s → Values p q r s n
values None q r s n hp hq hr hs e = absurd (cc)
values (Some a) None r s n hp hq hr hs e = absurd (cc)
values (Some a) (Some b) None s n hp hq hr hs e = absurd (cc)
values (Some a) (Some b) (Some c) None n hp hq hr hs e = absurd (cc)
values (Some a) (Some b) (Some c) (Some d) n hp hq hr hs e =
    let same : n ≡ number_of_bits (bits_of 5 a ++ (bits_of 5 b ++ (bits_of 5 c ++ (bits_of 5 d ++ [])))) = cc in
    record { a = a; b = b; c = c; d = d; is_a = refl; is_b = refl; is_c = refl; is_d = refl; number = same ∙ bits_joined a b c d (hp a refl) (hq b refl) (hr c refl) (hs d refl) }

-- the five bytes of forty bits
abbrev pub five_of : ℕ → List ℕ
five_of n = (n / 4_294_967_296) ∷ (n / 16_777_216 % 256) ∷ (n / 65_536 % 256) ∷ (n / 256 % 256) ∷ (n % 256) ∷ []

-- two halves of a group are its five bytes
five_bytes : (a b c d e f g h m n : ℕ) → a < 32 → b < 32 → c < 32 → d < 32 → e < 32 → f < 32 → g < 32 → h < 32
    → m ≡ ((a * 32 + b) * 32 + c) * 32 + d → n ≡ ((e * 32 + f) * 32 + g) * 32 + h
    → five_of (m * 1_048_576 + n)
    ≡ (a * 8 + b / 4) ∷ (b % 4 * 64 + c * 2 + d / 16) ∷ (d % 16 * 16 + e / 2) ∷ (e % 2 * 128 + f * 4 + g / 8) ∷ (g % 8 * 32 + h) ∷ []
five_bytes a b c d e f g h m n ha hb hc hd he hf hg hh em en =
    same-five [] (omega arith) (omega arith) (omega arith) (omega arith) (omega arith)

halves : (p q r s t u v w m n : ℕ) → Some m ≡ twenty_of (p ∷ q ∷ r ∷ s ∷ []) → Some n ≡ twenty_of (t ∷ u ∷ v ∷ w ∷ [])
    → Some (five_of (m * 1_048_576 + n)) ≡ decoded_of (p ∷ q ∷ r ∷ s ∷ t ∷ u ∷ v ∷ w ∷ [])
halves p q r s t u v w m n em en =
    let x = values _ _ _ _ m (is_value p) (is_value q) (is_value r) (is_value s) em in
    let y = values _ _ _ _ n (is_value t) (is_value u) (is_value v) (is_value w) en in
    let ha = is_value p _ x.is_a in
    let hb = is_value q _ x.is_b in
    let hc = is_value r _ x.is_c in
    let hd = is_value s _ x.is_d in
    let he = is_value t _ y.is_a in
    let hf = is_value u _ y.is_b in
    let hg = is_value v _ y.is_c in
    let hh = is_value w _ y.is_d in
    ap (λ (bytes : List ℕ). Some bytes) (five_bytes _ _ _ _ _ _ _ _ m n ha hb hc hd he hf hg hh x.number y.number)
    ∙ decoded_of-eight (p ∷ q ∷ r ∷ s ∷ t ∷ u ∷ v ∷ w ∷ []) _ _ _ _ _ _ _ _ refl x.is_a x.is_b x.is_c x.is_d y.is_a y.is_b y.is_c y.is_d ha hb hc hd he hf hg hh

-- five bytes, written one by one
pub set-five : (bytes : List ℕ) (a b c d e : ℕ) → length bytes ≡ 5 → slice_set (slice_set (slice_set (slice_set (slice_set bytes 0 a) 1 b) 2 c) 3 d) 4 e ≡ a ∷ b ∷ c ∷ d ∷ e ∷ []
set-five bytes a b c d e long = rw (five_items bytes long) refl

to_end : (xs : List ℕ) → take (length xs - 4) (drop 4 xs) ≡ drop 4 xs
to_end xs = take_all (length xs - 4) (drop 4 xs) (simp length-drop (omega arith))

pub decoded-halves : (xs : List ℕ) (m n : ℕ) → length xs ≡ 8 → Some m ≡ twenty_of (take 4 xs) → Some n ≡ twenty_of (take (length xs - 4) (drop 4 xs))
    → Some (five_of (m * 1_048_576 + n)) ≡ decoded_of xs
decoded-halves xs m n long em en =
    let items = eight_items xs long in
    halves _ _ _ _ _ _ _ _ m n (em ∙ ap (λ (ys : List ℕ). twenty_of (take 4 ys)) items) (en ∙ ap (λ (ys : List ℕ). twenty_of ys) (to_end xs) ∙ ap (λ (ys : List ℕ). twenty_of (drop 4 ys)) items)
    ∙ ap (λ (ys : List ℕ). decoded_of ys) (sym items)
