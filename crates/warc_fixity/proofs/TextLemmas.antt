-- Characters of base32 write the bytes whose text they are.
use Rattle.std.proofs.Common.{◌≡◌, ℕ, zero, suc, ◌+◌, ◌-◌, ◌*◌, ◌%◌, ◌^◌, ◌<◌, Bool, true, false, ◌&&◌, ◌==◌, List, [], ◌∷◌, ◌++◌, length, map, take, drop, replicate, Some, None, refl, sym, ap, subst, ◌∙◌, arith, if◌then◌else◌}
use Rattle.std.specs.List.{list_all, flat_map}
use Rattle.std.specs.Char.{to_ascii_uppercase}
use Rattle.std.proofs.Math.Seq.{drop-append_seam}
use Rattle.std.proofs.Math.Nat.{suc-mul}
use Rattle.std.proofs.lemmas.Nat.{pow_pos}
use Rattle.std.proofs.lemmas.Bool.{and_from, eqb-true}
use Rattle.std.proofs.lemmas.List.{take-append-drop, length-replicate, length-append, length-drop, length-map}
use Rattle.std.proofs.lemmas.List.Folds.{flat_map-map, list_all-append}
use Rattle.std.proofs.lemmas.Simd.{map-map}
use Rattle.warc_value.specs.Base32.{bits_of, number_of_bits, fives, eights, symbol_of, is_symbol, bytes_of}
use Rattle.warc_fixity.specs.Stated.{bits_in_fives, base32_text}
use Rattle.warc_fixity.specs.Decoded.{bits_in, symbols_len, from_symbols}
use Rattle.warc_fixity.proofs.BitLemmas.{is_bit, is_byte, all_bits, fives_back, numbers_back, eights_back, bytes_back, length-bits_of, same_cons}
use Rattle.warc_fixity.proofs.SymbolLemmas.{five_of, text_of_symbols, numbers_of_text}
use Rattle.warc_fixity.proofs.ReadLemmas.{bits_of_bytes, length-bits_of_bytes}

-- the zeros after the bits of n bytes
abbrev pub zeros_len : ℕ → ℕ
zeros_len n = (5 - 8 * n % 5) % 5

-- ---- lists of bits

pub all_bits_of : (w : ℕ) (ns : List ℕ) → list_all is_bit (flat_map (bits_of w) ns) ≡ true
all_bits_of w [] = refl
all_bits_of w (n ∷ ns) = list_all-append is_bit (bits_of w n) (flat_map (bits_of w) ns) ∙ and_from _ _ (all_bits w n) (all_bits_of w ns)

zeros_are_bits : (k : ℕ) → list_all is_bit (replicate k 0) ≡ true
zeros_are_bits zero = refl
zeros_are_bits (suc k) = zeros_are_bits k

zeros_are_zero : (k : ℕ) → number_of_bits (replicate k 0) ≡ 0
unfolding number_of_bits
zeros_are_zero zero = refl
zeros_are_zero (suc k) = let later = zeros_are_zero k in omega (arith, later)

first_zero : (a m rest : ℕ) → 0 < m → a * m + rest ≡ 0 → a ≡ 0
first_zero zero m rest some is = refl
first_zero (suc a) m rest some is = let e = suc-mul a m in absurd (omega (arith, e, is, some))

pub zero_bits : (xs : List ℕ) → number_of_bits xs ≡ 0 → xs ≡ replicate (length xs) 0
unfolding number_of_bits
zero_bits [] is = refl
zero_bits (a ∷ xs) is = same_cons (first_zero a (2 ^ length xs) (number_of_bits xs) (pow_pos (length xs)) is) (zero_bits xs (omega (arith, is)))

-- ---- a text of bytes

fives_length : (bytes : List ℕ) (n : ℕ) → length bytes ≡ n → length (bits_in_fives bytes) ≡ 8 * n + zeros_len n
fives_length bytes n long =
    let e : length (bits_of_bytes bytes) ≡ 8 * n = length-bits_of_bytes bytes ∙ ap (λ (k : ℕ). 8 * k) long in
    length-append (bits_of_bytes bytes) _
    ∙ ap (λ (k : ℕ). length (bits_of_bytes bytes) + k) (length-replicate ((5 - length (bits_of_bytes bytes) % 5) % 5) 0)
    ∙ ap (λ (k : ℕ). k + (5 - k % 5) % 5) e

fives_are : (bytes : List ℕ) (n : ℕ) → length bytes ≡ n → bits_in_fives bytes ≡ bits_of_bytes bytes ++ replicate (zeros_len n) 0
fives_are bytes n long =
    let e : length (bits_of_bytes bytes) ≡ 8 * n = length-bits_of_bytes bytes ∙ ap (λ (k : ℕ). 8 * k) long in
    ap (λ (k : ℕ). bits_of_bytes bytes ++ replicate ((5 - k % 5) % 5) 0) e

-- the numbers of five bits that bytes are written by
abbrev numbers_in : List ℕ → List ℕ
numbers_in bytes = map number_of_bits (fives (bits_in_fives bytes))

text_is : (bytes : List ℕ) → base32_text bytes ≡ map symbol_of (numbers_in bytes)
unfolding base32_text
text_is bytes = sym (map-map symbol_of number_of_bits (fives (bits_in_fives bytes)))

-- the bits of a text's numbers
bits_by_numbers : (text : List ℕ) → flat_map (bits_of 5) (map five_of text) ≡ bits_in text
bits_by_numbers text = flat_map-map (bits_of 5) five_of text

fives_are_bits : (bytes : List ℕ) → list_all is_bit (bits_in_fives bytes) ≡ true
fives_are_bits bytes =
    let k : ℕ = (5 - length (bits_of_bytes bytes) % 5) % 5 in
    list_all-append is_bit (bits_of_bytes bytes) (replicate k 0) ∙ and_from _ _ (all_bits_of 8 bytes) (zeros_are_bits k)

pub base32_text-length : (bytes : List ℕ) (n : ℕ) → length bytes ≡ n → length (base32_text bytes) ≡ symbols_len n
base32_text-length bytes n long =
    let len : length (bits_in_fives bytes) ≡ 5 * symbols_len n = fives_length bytes n long ∙ omega arith in
    let groups = fives_back (symbols_len n) (bits_in_fives bytes) len (fives_are_bits bytes) in
    ap length (text_is bytes) ∙ length-map (numbers_in bytes) symbol_of ∙ groups.long

-- a text of bytes is decoded to them
pub text_is_read : (n : ℕ) (text bytes : List ℕ) → length bytes ≡ n → list_all is_byte bytes ≡ true → map to_ascii_uppercase text ≡ base32_text bytes
    → from_symbols n text ≡ Some bytes
unfolding from_symbols bytes_of
text_is_read n text bytes long small is =
    let len : length (bits_in_fives bytes) ≡ 5 * symbols_len n = fives_length bytes n long ∙ omega arith in
    let groups = fives_back (symbols_len n) (bits_in_fives bytes) len (fives_are_bits bytes) in
    let symbols = text_of_symbols text (numbers_in bytes) groups.small (is ∙ text_is bytes) in
    let bits : bits_in text ≡ bits_of_bytes bytes ++ replicate (zeros_len n) 0 =
    sym (bits_by_numbers text) ∙ ap (λ (ns : List ℕ). flat_map (bits_of 5) ns) symbols.values ∙ groups.back ∙ fives_are bytes n long in
    let e : length (bits_of_bytes bytes) ≡ 8 * n = length-bits_of_bytes bytes ∙ ap (λ (k : ℕ). 8 * k) long in
    let left : number_of_bits (drop (8 * n) (bits_in text)) ≡ 0 =
    ap (λ (xs : List ℕ). number_of_bits (drop (8 * n) xs)) bits
    ∙ ap (λ (k : ℕ). number_of_bits (drop k (bits_of_bytes bytes ++ replicate (zeros_len n) 0))) (sym e)
    ∙ ap (λ (xs : List ℕ). number_of_bits xs) (drop-append_seam (bits_of_bytes bytes) (replicate (zeros_len n) 0))
    ∙ zeros_are_zero (zeros_len n) in
    let size : length {A = ℕ} (replicate (zeros_len n) 0) ≡ zeros_len n = length-replicate {A = ℕ} (zeros_len n) 0 in
    let few : length {A = ℕ} (replicate (zeros_len n) 0) < 8 = omega (arith, size) in
    let back : map number_of_bits (eights (bits_in text)) ≡ bytes =
    ap (λ (xs : List ℕ). map number_of_bits (eights xs)) bits ∙ bytes_back bytes (replicate (zeros_len n) 0) few small in
    rw (symbols.all, left, back) refl

-- what is decoded
pub record IsText (n : ℕ) (text bytes : List ℕ) : Type 0 where
  pub long : length bytes ≡ n
  pub small : list_all is_byte bytes ≡ true
  pub is : map to_ascii_uppercase text ≡ base32_text bytes

pub length-bits_in : (text : List ℕ) → length (bits_in text) ≡ 5 * length text
length-bits_in [] = refl
length-bits_in (c ∷ text) =
    let first = length-bits_of 5 (five_of c) in
    let later = length-bits_in text in
    length-append (bits_of 5 (five_of c)) (bits_in text) ∙ omega (arith, first, later)

bits_in_are_bits : (text : List ℕ) → list_all is_bit (bits_in text) ≡ true
bits_in_are_bits text = subst (λ (xs : List ℕ). list_all is_bit xs ≡ true) (bits_by_numbers text) (all_bits_of 5 (map five_of text))

pub whole_text : (n : ℕ) (text : List ℕ) → length text ≡ symbols_len n → list_all is_symbol text ≡ true → number_of_bits (drop (8 * n) (bits_in text)) ≡ 0
    → IsText n text (map number_of_bits (eights (bits_in text)))
whole_text n text len all left =
    let bits : List ℕ = bits_in text in
    let bytes : List ℕ = map number_of_bits (eights bits) in
    let z : ℕ = zeros_len n in
    let size : length bits ≡ 8 * n + z = length-bits_in text ∙ omega (arith, len) in
    let groups = eights_back n z bits size (omega arith) (bits_in_are_bits text) in
    let rest : length (drop (8 * n) bits) ≡ z = length-drop (8 * n) bits ∙ omega (arith, size) in
    let zero : drop (8 * n) bits ≡ replicate z 0 = zero_bits (drop (8 * n) bits) left ∙ ap (λ (k : ℕ). replicate k 0) rest in
    let same : bits_in_fives bytes ≡ bits =
    fives_are bytes n groups.long ∙ ap (λ (xs : List ℕ). xs ++ replicate z 0) groups.back ∙ ap (λ (xs : List ℕ). take (8 * n) bits ++ xs) (sym zero)
    ∙ take-append-drop (8 * n) bits in
    let numbers = numbers_of_text text all in
    record {
      long = groups.long;
      small = groups.small;
      is = sym (text_is bytes ∙ ap (λ (xs : List ℕ). map symbol_of (map number_of_bits (fives xs))) (same ∙ sym (bits_by_numbers text))
          ∙ ap (λ (ns : List ℕ). map symbol_of ns) (numbers_back (map five_of text) numbers.small) ∙ numbers.capitals);
    }

if_some : (a b : Bool) (x y : List ℕ) → (if a && b then Some x else None) ≡ Some y → (a ≡ true) × (b ≡ true) × (x ≡ y)
if_some true true x y e = (refl, refl, cc)
if_some true false x y e = absurd (cc)
if_some false b x y e = absurd (cc)

pub read_is_text : (n : ℕ) (text bytes : List ℕ) → length text ≡ symbols_len n → from_symbols n text ≡ Some bytes → IsText n text bytes
unfolding from_symbols bytes_of
read_is_text n text bytes len is =
    let parts = if_some (list_all is_symbol text) (number_of_bits (drop (8 * n) (bits_in text)) == 0) (bytes_of text) bytes is in
    subst (λ (xs : List ℕ). IsText n text xs) parts.2 (whole_text n text len parts.0 (eqb-true _ _ parts.1))
