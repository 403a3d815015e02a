-- The bytes that a text writes are those that are decoded.
use Rattle.std.proofs.Common.{◌≡◌, ◌⊎◌, inl, inr, ℕ, zero, suc, ◌+◌, ◌*◌, ◌/◌, ◌%◌, ◌<◌, ◌≤◌, Bool, true, false, ◌&&◌, ◌||◌, ◌==◌, nat_eq, nat_le, List, [], ◌∷◌, ◌++◌, length, map, take, drop, replicate, slice_index, Option, Some, None, Result, Ok, Err, refl, sym, ap, subst, ◌∙◌, arith, if◌then◌else◌}
use Rattle.std.specs.Prelude.{option_and_then, IsOk}
use Rattle.std.specs.List.{list_all}
use Rattle.std.specs.Char.{to_ascii_lowercase, to_ascii_uppercase}
use Rattle.std.specs.Option.{option_or}
use Rattle.std.specs.Result.{result_ok, result_unwrap_or}
use Rattle.std.proofs.Math.Seq.{take-append_seam, drop-append_seam}
use Rattle.std.proofs.lemmas.Bool.{and_parts, and_from, cases_Bool, eqb-true, leb-true}
use Rattle.std.proofs.lemmas.Bool.Decides.{nat_tests}
use Rattle.std.proofs.lemmas.Grind.{common_steps}
use Rattle.std.proofs.lemmas.List.{take-map, length-take-le, take-append-drop, take_all, length-append, length-drop, length-map, length-replicate, map-append, append-nil}
use Rattle.std.proofs.lemmas.List.Folds.{list_all-append}
use Rattle.std.proofs.lemmas.List.Sums.{list_all-from_AllPass}
use Rattle.hex.specs.Hex.{decode_pairs, decode_sized, digit_or_error, hex_digit_value, encode_lower, encode_with, is_hex_digit, lower_digits, pair_value, value_at, ◌>>=◌}
use Rattle.hex.specs.declared.error.FromHexError.{FromHexError}
use Rattle.hex.proofs.HexLemmas.{IsDigits-lower_digits, IsOk-decode_sized, decode_sized-ok, length-encode_with}
use Rattle.hex.proofs.Pairs.{cons_byte, decode_pairs-ok_pair, decode_sized-pairs}
use Rattle.warc_value.proofs.Alphabet.{passes_below, code_of, same_code}
use Rattle.warc_fixity.specs.Stated.{base32_text, padding_len, IsDigestText}
use Rattle.warc_fixity.specs.Decoded.{symbols_len, without_padding, from_symbols, from_base32, decoded}
use Rattle.warc_fixity.proofs.BitLemmas.{is_byte, byte_below, a_byte, same_cons}
use Rattle.warc_fixity.proofs.TextLemmas.{text_is_read, read_is_text, base32_text-length}

-- ---- hexadecimal

-- whether a digit in lower case is that of its value
abbrev is_lower : ℕ → Option ℕ → Bool
is_lower c None = true
is_lower c (Some v) = nat_eq (to_ascii_lowercase c) (slice_index lower_digits v)

lower_if_some : (c v : ℕ) (o : Option ℕ) → o ≡ Some v → is_lower c o ≡ true → to_ascii_lowercase c ≡ slice_index lower_digits v
lower_if_some c v None is low = absurd (cc)
lower_if_some c v (Some w) is low = let same : w ≡ v = cc in eqb-true _ _ low ∙ ap (λ (k : ℕ). slice_index lower_digits k) same

digit_most : (c v : ℕ) → hex_digit_value c ≡ Some v → c < 103
digit_most c v is = grind (arith, common_steps)

digit_small : (c v : ℕ) → hex_digit_value c ≡ Some v → v < 16
digit_small c v is = grind (arith, common_steps)

lower_digit : (c v : ℕ) → hex_digit_value c ≡ Some v → to_ascii_lowercase c ≡ slice_index lower_digits v
lower_digit c v is = lower_if_some c v (hex_digit_value c) is (passes_below (λ c. is_lower c (hex_digit_value c)) 103 refl c (digit_most c v is))

digit_below : (v : ℕ) → v < 16 → slice_index lower_digits v < 103
digit_below v small = let test = passes_below (λ v. nat_le (slice_index lower_digits v) 102) 16 refl v small in let most = leb-true _ _ test in omega (arith, most)

lower_below : (c : ℕ) → to_ascii_lowercase c < 103 → c < 103
lower_below c below = grind (arith, common_steps)

same_digit : (c : ℕ) → c < 103 → hex_digit_value c ≡ hex_digit_value (to_ascii_lowercase c)
same_digit c below = same_code _ _ (passes_below (λ c. nat_eq (code_of (hex_digit_value c)) (code_of (hex_digit_value (to_ascii_lowercase c)))) 103 refl c below)

digit_of_lower : (c v : ℕ) → v < 16 → to_ascii_lowercase c ≡ slice_index lower_digits v → hex_digit_value c ≡ Some v
digit_of_lower c v small is =
    same_digit c (lower_below c (subst (λ (k : ℕ). k < 103) (sym is) (digit_below v small)))
    ∙ ap (λ (k : ℕ). hex_digit_value k) is ∙ IsDigits-lower_digits v small

text_decodes : (i : ℕ) (text bytes : List ℕ) → list_all is_byte bytes ≡ true → map to_ascii_lowercase text ≡ encode_lower bytes → decode_pairs i text ≡ Ok bytes
unfolding encode_with decode_pairs
text_decodes i [] [] small is = refl
text_decodes i [] (b ∷ bytes) small is = absurd (cc)
text_decodes i (a ∷ text) [] small is = absurd (cc)
text_decodes i (a ∷ []) (b ∷ bytes) small is = absurd (cc)
text_decodes i (a ∷ c ∷ text) (b ∷ bytes) small is =
    let parts = and_parts (is_byte b) (list_all is_byte bytes) small in
    let below = byte_below b parts.0 in
    let first : to_ascii_lowercase a ≡ slice_index lower_digits (b / 16) = cc in
    let second : to_ascii_lowercase c ≡ slice_index lower_digits (b % 16) = cc in
    let others : map to_ascii_lowercase text ≡ encode_lower bytes = cc in
    let high : value_at a i ≡ Ok (b / 16) = ap (λ (o : Option ℕ). digit_or_error a i o) (digit_of_lower a (b / 16) (omega (arith, below)) first) in
    let low : value_at c (i + 1) ≡ Ok (b % 16) = ap (λ (o : Option ℕ). digit_or_error c (i + 1) o) (digit_of_lower c (b % 16) (omega arith) second) in
    let pair : pair_value a c i ≡ Ok (b / 16 * 16 + b % 16) = rw (high, low) refl in
    let whole : b / 16 * 16 + b % 16 ≡ b = omega arith in
    decode_pairs-ok_pair i a c _ text pair ∙ ap (cons_byte (b / 16 * 16 + b % 16)) (text_decodes (i + 2) text bytes parts.1 others)
    ∙ ap (λ (v : ℕ). Ok (v ∷ bytes)) whole

bind_ok : {A B : Type 0} (r : Result A FromHexError) (f : A → Result B FromHexError) (y : B)
    → (r >>= f) ≡ Ok y → (x : A) × (r ≡ Ok x) × (f x ≡ Ok y)
bind_ok (Ok x) f y h = (x, refl, h)
bind_ok (Err e) f y h = cc h

digit_read : (c i : ℕ) (o : Option ℕ) (v : ℕ) → digit_or_error c i o ≡ Ok v → o ≡ Some v
digit_read c i (Some w) v h = ap Some (ap (λ (r : Result ℕ FromHexError). result_unwrap_or r 0) h)
digit_read c i None v h = cc h

-- bytes that are decoded from digits
record IsHex (text bytes : List ℕ) : Type 0 where
  is : map to_ascii_lowercase text ≡ encode_lower bytes
  small : list_all is_byte bytes ≡ true

decoded_text : (i : ℕ) (text bytes : List ℕ) → decode_pairs i text ≡ Ok bytes → IsHex text bytes
unfolding encode_with decode_pairs
decoded_text i [] bytes h =
    subst (λ (xs : List ℕ). IsHex [] xs) (ap (λ (r : Result (List ℕ) FromHexError). result_unwrap_or r []) h) (record { is = refl; small = refl })
decoded_text i (a ∷ []) bytes h = cc h
decoded_text i (a ∷ b ∷ rest) bytes h =
    let p0 = bind_ok (pair_value a b i) _ bytes h in
    let p1 = bind_ok (value_at a i) _ p0.0 p0.1 in
    let p2 = bind_ok (value_at b (i + 1)) _ p0.0 p1.2 in
    let p3 = bind_ok (decode_pairs (i + 2) rest) _ bytes p0.2 in
    let later = decoded_text (i + 2) rest p3.0 p3.1 in
    let is : p0.0 ∷ p3.0 ≡ bytes = ap (λ (r : Result (List ℕ) FromHexError). result_unwrap_or r []) p3.2 in
    let byte : p1.0 * 16 + p2.0 ≡ p0.0 = ap (λ (r : Result ℕ FromHexError). result_unwrap_or r 0) p2.2 in
    let va = digit_read a i (hex_digit_value a) p1.0 p1.1 in
    let vb = digit_read b (i + 1) (hex_digit_value b) p2.0 p2.1 in
    let sa = digit_small a p1.0 va in
    let sb = digit_small b p2.0 vb in
    let high : p0.0 / 16 ≡ p1.0 = omega (arith, byte, sb) in
    let low : p0.0 % 16 ≡ p2.0 = omega (arith, byte, sb) in
    subst (λ (xs : List ℕ). IsHex (a ∷ b ∷ rest) xs) is
    (record {
      is = same_cons (lower_digit a p1.0 va ∙ ap (λ (k : ℕ). slice_index lower_digits k) (sym high))
          (same_cons (lower_digit b p2.0 vb ∙ ap (λ (k : ℕ). slice_index lower_digits k) (sym low)) later.is);
      small = and_from _ _ (a_byte p0.0 (omega (arith, byte, sa, sb))) later.small;
    })

-- ---- padding

equals_in_capitals : (c : ℕ) → to_ascii_uppercase c ≡ 61 → (c == 61) ≡ true
equals_in_capitals c is = grind (arith, nat_tests, common_steps)

capital_equals : (c : ℕ) → (c == 61) ≡ true → to_ascii_uppercase c ≡ 61
capital_equals c is = let e : c ≡ 61 = eqb-true _ _ is in ap to_ascii_uppercase e

signs : (k : ℕ) (text : List ℕ) → map to_ascii_uppercase text ≡ replicate k 61 → list_all (λ b. b == 61) text ≡ true
signs k [] is = refl
signs zero (c ∷ text) is = absurd (cc)
signs (suc k) (c ∷ text) is =
    let first : to_ascii_uppercase c ≡ 61 = cc in
    let others : map to_ascii_uppercase text ≡ replicate k 61 = cc in
    and_from _ _ (equals_in_capitals c first) (signs k text others)

signs_back : (text : List ℕ) → list_all (λ b. b == 61) text ≡ true → map to_ascii_uppercase text ≡ replicate (length text) 61
signs_back [] all = refl
signs_back (c ∷ text) all =
    let parts = and_parts (c == 61) (list_all (λ b. b == 61) text) all in
    same_cons (capital_equals c parts.0) (signs_back text parts.1)

drop_map : (n : ℕ) (xs : List ℕ) → map to_ascii_uppercase (drop n xs) ≡ drop n (map to_ascii_uppercase xs)
drop_map zero xs = refl
drop_map (suc n) [] = refl
drop_map (suc n) (x ∷ xs) = drop_map n xs

either_len : (len padding : ℕ) → (len ≡ 0) ⊎ (len ≡ padding) → (len == 0 || len == padding) ≡ true
either_len len padding (inl e) = grind (arith, nat_tests, common_steps)
either_len len padding (inr e) = grind (arith, nat_tests, common_steps)

which_len : (len padding : ℕ) → (len == 0 || len == padding) ≡ true → (len ≡ 0) ⊎ (len ≡ padding)
which_len len padding is = elim (cases_Bool (len == 0)) [
  | inl none ↦ inl (eqb-true _ _ none)
  | inr some ↦ inr (eqb-true _ _ (grind (arith, common_steps)))
]

at_least : (m n : ℕ) → m ≤ n → nat_le m n ≡ true
at_least m n h = grind (arith, nat_tests, common_steps)

-- a text of characters, with some padding
pub record IsPadded (m : ℕ) (text symbols : List ℕ) : Type 0 where
  pub without : without_padding m text ≡ Some (take m text)
  pub front : map to_ascii_uppercase (take m text) ≡ symbols
  pub signs : list_all (λ b. b == 61) (drop m text) ≡ true
  pub long : length text ≡ m + length (drop m text)

padded : (m k : ℕ) (text symbols : List ℕ) → length symbols ≡ m → (k ≡ 0) ⊎ (k ≡ padding_len m) → map to_ascii_uppercase text ≡ symbols ++ replicate k 61 → IsPadded m text symbols
padded m k text symbols len which is =
    let size : length text ≡ m + k =
    sym (length-map text to_ascii_uppercase) ∙ ap length is ∙ length-append symbols (replicate k 61) ∙ omega (arith, len, length-replicate {A = ℕ} k 61) in
    let rest : length (drop m text) ≡ k = length-drop m text ∙ omega (arith, size) in
    let after : map to_ascii_uppercase (drop m text) ≡ replicate k 61 =
    drop_map m text ∙ ap (drop m) is ∙ ap (λ (n : ℕ). drop n (symbols ++ replicate k 61)) (sym len) ∙ drop-append_seam symbols (replicate k 61) in
    let all = signs k (drop m text) after in
    let lens : (length (drop m text) == 0 || length (drop m text) == padding_len m) ≡ true = either_len _ _ (subst (λ (n : ℕ). (n ≡ 0) ⊎ (n ≡ padding_len m)) (sym rest) which) in
    let enough : nat_le m (length text) ≡ true = at_least m (length text) (omega (arith, size)) in
    record {
      without = rw (enough, lens, all) refl;
      front = sym (take-map to_ascii_uppercase m text) ∙ ap (take m) is ∙ ap (λ (n : ℕ). take n (symbols ++ replicate k 61)) (sym len) ∙ take-append_seam symbols (replicate k 61);
      signs = all;
      long = omega (arith, size, rest);
    }

if_some : (a b c : Bool) (x y : List ℕ) → (if a && (b && c) then Some x else None) ≡ Some y → (a ≡ true) × (b ≡ true) × (c ≡ true) × (x ≡ y)
if_some true true true x y e = (refl, refl, refl, cc)
if_some true true false x y e = absurd (cc)
if_some true false c x y e = absurd (cc)
if_some false b c x y e = absurd (cc)

-- what is left without padding
record IsUnpadded (m : ℕ) (text front : List ℕ) : Type 0 where
  is : take m text ≡ front
  long : m ≤ length text
  which : (length (drop m text) ≡ 0) ⊎ (length (drop m text) ≡ padding_len m)
  signs : list_all (λ b. b == 61) (drop m text) ≡ true

unpadded : (m : ℕ) (text front : List ℕ) → without_padding m text ≡ Some front → IsUnpadded m text front
unpadded m text front is =
    let parts = if_some (nat_le m (length text)) (length (drop m text) == 0 || length (drop m text) == padding_len m) (list_all (λ b. b == 61) (drop m text)) (take m text) front is in
    record { is = parts.3; long = leb-true _ _ parts.0; which = which_len _ _ parts.1; signs = parts.2 }

-- ---- both

hex_is_first : (n : ℕ) (text bytes : List ℕ) → decode_sized text n ≡ Ok bytes → decoded n text ≡ Some bytes
unfolding decoded
hex_is_first n text bytes is = rw is refl

pub hex_first : (n : ℕ) (text bytes : List ℕ) → Ok bytes ≡ decode_sized text n → Some bytes ≡ decoded n text
hex_first n text bytes is = sym (hex_is_first n text bytes (sym is))

pub then_base32 : (n : ℕ) (text : List ℕ) (e : FromHexError) (r : Option (List ℕ)) → Err e ≡ decode_sized text n → r ≡ from_base32 n text → r ≡ decoded n text
unfolding decoded
then_base32 n text e r is same = rw (sym is) same

not_ok : (r : Result (List ℕ) FromHexError) → (IsOk r → ⊥) → result_ok r ≡ None
not_ok (Ok bytes) none = absurd (none refl)
not_ok (Err e) none = refl

no_digits : (text : List ℕ) → 0 < length text → list_all (λ b. b == 61) text ≡ true → list_all is_hex_digit text ≡ true → ⊥
no_digits [] some all digits = omega arith
no_digits (c ∷ text) some all digits =
    let sign = and_parts (c == 61) (list_all (λ b. b == 61) text) all in
    let digit = and_parts (is_hex_digit c) (list_all is_hex_digit text) digits in
    let e : c ≡ 61 = eqb-true _ _ sign.0 in
    let bad : is_hex_digit 61 ≡ true = subst (λ (k : ℕ). is_hex_digit k ≡ true) e digit.0 in
    cc

-- text in base32 isn't hexadecimal
not_hex : (n : ℕ) (text symbols : List ℕ) → 3 ≤ n → IsPadded (symbols_len n) text symbols → IsOk (decode_sized text n) → ⊥
not_hex n text symbols many is ok =
    let hex = (IsOk-decode_sized text n).0 ok in
    let m : ℕ = symbols_len n in
    let digits : list_all is_hex_digit text ≡ true = list_all-from_AllPass is_hex_digit text hex.1 in
    let both : (list_all is_hex_digit (take m text) && list_all is_hex_digit (drop m text)) ≡ true =
    sym (list_all-append is_hex_digit (take m text) (drop m text)) ∙ ap (list_all is_hex_digit) (take-append-drop m text) ∙ digits in
    no_digits (drop m text) (omega (arith, is.long, hex.0, many)) is.signs (and_parts _ _ both).1

from_padded : (n : ℕ) (text bytes : List ℕ) → 3 ≤ n → length bytes ≡ n → list_all is_byte bytes ≡ true → IsPadded (symbols_len n) text (base32_text bytes) → decoded n text ≡ Some bytes
unfolding decoded
from_padded n text bytes many long small is =
    let none : result_ok (decode_sized text n) ≡ None = not_ok _ (not_hex n text (base32_text bytes) many is) in
    let some : from_symbols n (take (symbols_len n) text) ≡ Some bytes = text_is_read n _ bytes long small is.front in
    ap (λ (o : Option (List ℕ)). option_or o (from_base32 n text)) none ∙ ap (option_and_then (from_symbols n)) is.without ∙ some

-- what is written is decoded
pub written_is_decoded : (n : ℕ) (text bytes : List ℕ) → 3 ≤ n → length bytes ≡ n → list_all is_byte bytes ≡ true → IsDigestText text bytes → decoded n text ≡ Some bytes
written_is_decoded n text bytes many long small (inl hex) =
    let len : length text ≡ 2 * n = sym (length-map text to_ascii_lowercase) ∙ ap length hex ∙ length-encode_with lower_digits bytes ∙ ap (λ (k : ℕ). 2 * k) long in
    hex_is_first n text bytes (decode_sized-pairs text n (omega (arith, len)) (omega (arith, len)) ∙ text_decodes 0 text bytes small hex)
written_is_decoded n text bytes many long small (inr (inl plain)) =
    from_padded n text bytes many long small
    (padded (symbols_len n) 0 text (base32_text bytes) (base32_text-length bytes n long) (inl refl) (plain ∙ sym (append-nil (base32_text bytes))))
written_is_decoded n text bytes many long small (inr (inr whole)) =
    let len = base32_text-length bytes n long in
    from_padded n text bytes many long small
    (padded (symbols_len n) (padding_len (symbols_len n)) text (base32_text bytes) len (inr refl)
    (whole ∙ ap (λ (k : ℕ). base32_text bytes ++ replicate (padding_len k) 61) len))

-- what is decoded is written
pub record IsWritten (n : ℕ) (text bytes : List ℕ) : Type 0 where
  pub long : length bytes ≡ n
  pub small : list_all is_byte bytes ≡ true
  pub writes : IsDigestText text bytes

from_hex_text : (n : ℕ) (text bytes : List ℕ) → decode_sized text n ≡ Ok bytes → IsWritten n text bytes
from_hex_text n text bytes is =
    let len : length text ≡ 2 * n = decode_sized-ok text n bytes is in
    let hex = decoded_text 0 text bytes (sym (decode_sized-pairs text n (omega (arith, len)) (omega (arith, len))) ∙ is) in
    let twice : length (encode_lower bytes) ≡ 2 * n = sym (ap length hex.is) ∙ length-map text to_ascii_lowercase ∙ len in
    record { long = omega (arith, twice, length-encode_with lower_digits bytes); small = hex.small; writes = inl hex.is }

written_base32 : (m : ℕ) (text bytes : List ℕ) → length (base32_text bytes) ≡ m → map to_ascii_uppercase (take m text) ≡ base32_text bytes
    → list_all (λ b. b == 61) (drop m text) ≡ true → (length (drop m text) ≡ 0) ⊎ (length (drop m text) ≡ padding_len m) → IsDigestText text bytes
written_base32 m text bytes len front all (inl none) =
    let e : take m text ≡ text = take_all m text (omega (arith, none, length-drop m text)) in
    inr (inl (sym (ap (map to_ascii_uppercase) e) ∙ front))
written_base32 m text bytes len front all (inr whole) =
    inr (inr (sym (ap (map to_ascii_uppercase) (take-append-drop m text)) ∙ map-append to_ascii_uppercase (take m text) (drop m text)
    ∙ ap (λ (xs : List ℕ). xs ++ map to_ascii_uppercase (drop m text)) front
    ∙ ap (λ (xs : List ℕ). base32_text bytes ++ xs) (signs_back (drop m text) all ∙ ap (λ (k : ℕ). replicate k 61) (whole ∙ ap (λ (k : ℕ). padding_len k) (sym len)))))

from_front : (n : ℕ) (text bytes : List ℕ) (o : Option (List ℕ)) → without_padding (symbols_len n) text ≡ o → option_and_then (from_symbols n) o ≡ Some bytes → IsWritten n text bytes
from_front n text bytes None is e = absurd (cc)
from_front n text bytes (Some front) is e =
    let m : ℕ = symbols_len n in
    let parts = unpadded m text front is in
    let len : length front ≡ m = sym (ap length parts.is) ∙ length-take-le m text parts.long in
    let read = read_is_text n front bytes len e in
    record {
      long = read.long;
      small = read.small;
      writes = written_base32 m text bytes (base32_text-length bytes n read.long) (ap (map to_ascii_uppercase) parts.is ∙ read.is) parts.signs parts.which;
    }

from_either : (n : ℕ) (text bytes : List ℕ) (r : Result (List ℕ) FromHexError) → decode_sized text n ≡ r → option_or (result_ok r) (from_base32 n text) ≡ Some bytes → IsWritten n text bytes
from_either n text bytes (Ok hex) is e = let same : hex ≡ bytes = cc in from_hex_text n text bytes (is ∙ ap (λ (xs : List ℕ). Ok xs) same)
from_either n text bytes (Err fault) is e = from_front n text bytes (without_padding (symbols_len n) text) refl e

pub decoded_is_written : (n : ℕ) (text bytes : List ℕ) → decoded n text ≡ Some bytes → IsWritten n text bytes
unfolding decoded
decoded_is_written n text bytes is = from_either n text bytes (decode_sized text n) refl is
