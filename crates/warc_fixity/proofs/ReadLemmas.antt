-- The loop that reads characters of base32.
use Rattle.std.proofs.Common.{◌≡◌, ◌≢◌, ℕ, zero, suc, ◌+◌, ◌-◌, ◌*◌, ◌/◌, ◌%◌, ◌^◌, ◌<◌, ◌≤◌, Bool, true, false, ◌&&◌, ◌==◌, List, [], ◌∷◌, ◌++◌, length, map, take, drop, get_or, slice_set, replicate, Some, None, refl, sym, ap, subst, ◌∙◌, arith, if◌then◌else◌}
use Rattle.std.specs.List.{list_all, flat_map}
use Rattle.std.proofs.Math.Nat.{mod-eq_of_lt, mod-lt}
use Rattle.std.proofs.Math.Seq.{drop-append_seam}
use Rattle.std.proofs.lemmas.Nat.{pow_pos}
use Rattle.std.proofs.lemmas.Bool.{and_parts, and_from}
use Rattle.std.proofs.lemmas.Grind.{flat_map-append}
use Rattle.std.proofs.lemmas.List.{append_assoc, append-nil, take_more, take_more_set, take_all, length-set, length-append}
use Rattle.warc_value.specs.Base32.{bits_of, number_of_bits, eights, is_symbol, bytes_of}
use Rattle.warc_fixity.specs.Decoded.{bits_in, symbols_len, from_symbols}
use Rattle.warc_fixity.proofs.BitLemmas.{bits_of-more, bits_of-split, length-bits_of, number-bits_of, bytes_back, is_byte, a_byte}
use Rattle.warc_fixity.proofs.SymbolLemmas.{five_of}

-- ---- bounds

pub most_bits : (count bits : ℕ) → count < 8 → bits < 2 ^ count → bits < 128
most_bits zero bits few below = omega arith
most_bits (suc zero) bits few below = omega arith
most_bits (suc (suc zero)) bits few below = omega arith
most_bits (suc (suc (suc zero))) bits few below = omega arith
most_bits (suc (suc (suc (suc zero)))) bits few below = omega arith
most_bits (suc (suc (suc (suc (suc zero))))) bits few below = omega arith
most_bits (suc (suc (suc (suc (suc (suc zero)))))) bits few below = omega arith
most_bits (suc (suc (suc (suc (suc (suc (suc zero))))))) bits few below = omega arith
most_bits (suc (suc (suc (suc (suc (suc (suc (suc count)))))))) bits few below = absurd (omega arith)

more_below : (count bits five : ℕ) → count < 3 → bits < 2 ^ count → five < 32 → bits * 32 + five < 2 ^ (count + 5)
more_below zero bits five few below small = omega arith
more_below (suc zero) bits five few below small = omega arith
more_below (suc (suc zero)) bits five few below small = omega arith
more_below (suc (suc (suc count))) bits five few below small = absurd (omega arith)

-- the eight bits before some others are a byte
pub byte_fits : (rest bits five : ℕ) → rest < 5 → bits < 2 ^ (rest + 3) → five < 32 → (bits * 32 + five) / 2 ^ rest < 256
byte_fits zero bits five few below small = omega arith
byte_fits (suc zero) bits five few below small = omega arith
byte_fits (suc (suc zero)) bits five few below small = omega arith
byte_fits (suc (suc (suc zero))) bits five few below small = omega arith
byte_fits (suc (suc (suc (suc zero)))) bits five few below small = omega arith
byte_fits (suc (suc (suc (suc (suc rest))))) bits five few below small = absurd (omega arith)

-- ---- bytes

abbrev pub bits_of_bytes : List ℕ → List ℕ
bits_of_bytes bytes = flat_map (bits_of 8) bytes

pub length-bits_of_bytes : (bytes : List ℕ) → length (bits_of_bytes bytes) ≡ 8 * length bytes
length-bits_of_bytes [] = refl
length-bits_of_bytes (b ∷ bytes) =
    let first = length-bits_of 8 b in
    let later = length-bits_of_bytes bytes in
    length-append (bits_of 8 b) (bits_of_bytes bytes) ∙ omega (arith, first, later)

pub zeros_are_bytes : (n : ℕ) → list_all is_byte (replicate n 0) ≡ true
zeros_are_bytes zero = refl
zeros_are_bytes (suc n) = zeros_are_bytes n

pub set_bytes : (bytes : List ℕ) (at b : ℕ) → b < 256 → list_all is_byte bytes ≡ true → list_all is_byte (slice_set bytes at b) ≡ true
set_bytes [] at b small all = refl
set_bytes (a ∷ bytes) zero b small all = and_from _ _ (a_byte b small) (and_parts (is_byte a) (list_all is_byte bytes) all).1
set_bytes (a ∷ bytes) (suc at) b small all =
    let parts = and_parts (is_byte a) (list_all is_byte bytes) all in
    and_from _ _ parts.0 (set_bytes bytes at b small parts.1)

-- ---- the loop

-- the characters so far write the bytes so far, and the bits after them
pub record IsRead (symbols digest : List ℕ) (i bits n : ℕ) : Type 0 where
  pub written : bits_in (take i symbols) ≡ bits_of_bytes (take (5 * i / 8) digest) ++ bits_of (5 * i % 8) bits
  pub below : bits < 2 ^ (5 * i % 8)
  pub long : length digest ≡ n
  pub small : list_all is_byte digest ≡ true

pub same_read : (symbols digest other : List ℕ) (i bits more n : ℕ) → other ≡ digest → more ≡ bits → IsRead symbols digest i bits n → IsRead symbols other i more n
same_read symbols digest other i bits more n e f old =
    subst (λ (k : ℕ). IsRead symbols other i k n) (sym f) (subst (λ (xs : List ℕ). IsRead symbols xs i bits n) (sym e) old)

pub read_none : (symbols digest : List ℕ) (n : ℕ) → length digest ≡ n → list_all is_byte digest ≡ true → IsRead symbols digest 0 0 n
unfolding bits_of
read_none symbols digest n long small = record { written = refl; below = omega arith; long = long; small = small }

taken_more : (symbols : List ℕ) (i : ℕ) → i < length symbols → bits_in (take (i + 1) symbols) ≡ bits_in (take i symbols) ++ bits_of 5 (five_of (get_or symbols i 0))
taken_more symbols i inside =
    ap (λ (xs : List ℕ). bits_in xs) (take_more symbols i 0 inside)
    ∙ flat_map-append (λ c. bits_of 5 (five_of c)) (take i symbols) (get_or symbols i 0 ∷ [])
    ∙ ap (λ (xs : List ℕ). bits_in (take i symbols) ++ xs) (append-nil (bits_of 5 (five_of (get_or symbols i 0))))

five_more : (symbols digest : List ℕ) (i bits n five : ℕ) → i < length symbols → five ≡ five_of (get_or symbols i 0) → five < 32 → IsRead symbols digest i bits n
    → bits_in (take (i + 1) symbols) ≡ bits_of_bytes (take (5 * i / 8) digest) ++ bits_of (5 * i % 8 + 5) (bits * 32 + five)
five_more symbols digest i bits n five inside is small old =
    let front : List ℕ = bits_of_bytes (take (5 * i / 8) digest) in
    taken_more symbols i inside
    ∙ ap (λ (v : ℕ). bits_in (take i symbols) ++ bits_of 5 v) (sym is)
    ∙ ap (λ (xs : List ℕ). xs ++ bits_of 5 five) old.written
    ∙ append_assoc front (bits_of (5 * i % 8) bits) (bits_of 5 five)
    ∙ ap (λ (xs : List ℕ). front ++ xs) (bits_of-more (5 * i % 8) bits five small)

pub read_few : (symbols digest : List ℕ) (i bits n five : ℕ) → i < length symbols → five ≡ five_of (get_or symbols i 0) → five < 32 → 5 * i % 8 < 3
    → IsRead symbols digest i bits n → IsRead symbols digest (i + 1) (bits * 32 + five) n
read_few symbols digest i bits n five inside is small few old =
    let at : 5 * (i + 1) / 8 ≡ 5 * i / 8 = omega arith in
    let count : 5 * (i + 1) % 8 ≡ 5 * i % 8 + 5 = omega arith in
    record {
      written = five_more symbols digest i bits n five inside is small old
          ∙ sym (ap (λ (k : ℕ). bits_of_bytes (take k digest) ++ bits_of (5 * (i + 1) % 8) (bits * 32 + five)) at
          ∙ ap (λ (k : ℕ). bits_of_bytes (take (5 * i / 8) digest) ++ bits_of k (bits * 32 + five)) count);
      below = subst (λ (k : ℕ). bits * 32 + five < 2 ^ k) (sym count) (more_below (5 * i % 8) bits five few old.below small);
      long = old.long;
      small = old.small;
    }

pub read_byte : (symbols digest : List ℕ) (i bits n five unit : ℕ) → i < length symbols → five ≡ five_of (get_or symbols i 0) → five < 32 → 3 ≤ 5 * i % 8
    → unit ≡ 2 ^ (5 * i % 8 - 3) → 5 * i / 8 < n → IsRead symbols digest i bits n
    → IsRead symbols (slice_set digest (5 * i / 8) ((bits * 32 + five) / unit)) (i + 1) ((bits * 32 + five) % unit) n
read_byte symbols digest i bits n five unit inside is small many unit_is room old =
    let rest : ℕ = 5 * i % 8 - 3 in
    let more : ℕ = bits * 32 + five in
    let place : ℕ = 5 * i / 8 in
    let byte : ℕ = more / 2 ^ rest in
    let at : 5 * (i + 1) / 8 ≡ place + 1 = omega arith in
    let count : 5 * (i + 1) % 8 ≡ rest = omega arith in
    let eight : 5 * i % 8 + 5 ≡ 8 + rest = omega arith in
    let three : 5 * i % 8 ≡ rest + 3 = omega arith in
    let front : List ℕ = bits_of_bytes (take place digest) in
    let set : List ℕ = slice_set digest place byte in
    let fits : byte < 256 = byte_fits rest bits five (omega arith) (subst (λ (k : ℕ). bits < 2 ^ k) three old.below) small in
    let one : bits_of_bytes (take (place + 1) set) ≡ front ++ bits_of 8 byte =
    ap (λ (xs : List ℕ). bits_of_bytes xs) (take_more_set digest place byte (omega (arith, old.long)))
    ∙ flat_map-append (bits_of 8) (take place digest) (byte ∷ [])
    ∙ ap (λ (xs : List ℕ). front ++ xs) (append-nil (bits_of 8 byte)) in
    let all : bits_in (take (i + 1) symbols) ≡ bits_of_bytes (take (place + 1) set) ++ bits_of rest (more % 2 ^ rest) =
    five_more symbols digest i bits n five inside is small old
    ∙ ap (λ (k : ℕ). front ++ bits_of k more) eight
    ∙ ap (λ (xs : List ℕ). front ++ xs) (bits_of-split rest more (omega arith))
    ∙ sym (append_assoc front (bits_of 8 byte) (bits_of rest (more % 2 ^ rest)))
    ∙ ap (λ (xs : List ℕ). xs ++ bits_of rest (more % 2 ^ rest)) (sym one) in
    subst (λ (k : ℕ). IsRead symbols (slice_set digest place (more / k)) (i + 1) (more % k) n) (sym unit_is)
    (record {
      written = all
          ∙ sym (ap (λ (k : ℕ). bits_of_bytes (take k set) ++ bits_of (5 * (i + 1) % 8) (more % 2 ^ rest)) at
          ∙ ap (λ (k : ℕ). bits_of_bytes (take (place + 1) set) ++ bits_of k (more % 2 ^ rest)) count);
      below = subst (λ (k : ℕ). more % 2 ^ rest < 2 ^ k) (sym count) (mod-lt more (pow_pos rest));
      long = length-set digest place byte ∙ old.long;
      small = set_bytes digest place byte fits old.small;
    })

-- all characters are read
pub record IsWhole (symbols digest : List ℕ) (bits n : ℕ) : Type 0 where
  pub bytes : bytes_of symbols ≡ digest
  pub left : number_of_bits (drop (8 * n) (bits_in symbols)) ≡ bits

pub read_whole : (symbols digest : List ℕ) (i bits n : ℕ) → i ≡ length symbols → length symbols ≡ symbols_len n → IsRead symbols digest i bits n → IsWhole symbols digest bits n
unfolding bytes_of
read_whole symbols digest i bits n end len old =
    let count : ℕ = 5 * i % 8 in
    let at : 5 * i / 8 ≡ n = omega arith in
    let few : count < 5 = omega arith in
    let e1 : take i symbols ≡ symbols = take_all i symbols (omega arith) in
    let e2 : take (5 * i / 8) digest ≡ digest = take_all (5 * i / 8) digest (omega (arith, old.long)) in
    let all : bits_in symbols ≡ bits_of_bytes digest ++ bits_of count bits =
    sym (ap (λ (xs : List ℕ). bits_in xs) e1) ∙ old.written ∙ ap (λ (xs : List ℕ). bits_of_bytes xs ++ bits_of count bits) e2 in
    let long : length (bits_of_bytes digest) ≡ 8 * n = length-bits_of_bytes digest ∙ ap (λ (k : ℕ). 8 * k) old.long in
    record {
      bytes = ap (λ (xs : List ℕ). map number_of_bits (eights xs)) all
          ∙ bytes_back digest (bits_of count bits) (subst (λ (k : ℕ). k < 8) (sym (length-bits_of count bits)) (omega arith)) old.small;
      left = ap (λ (xs : List ℕ). number_of_bits (drop (8 * n) xs)) all
          ∙ ap (λ (k : ℕ). number_of_bits (drop k (bits_of_bytes digest ++ bits_of count bits))) (sym long)
          ∙ ap (λ (xs : List ℕ). number_of_bits xs) (drop-append_seam (bits_of_bytes digest) (bits_of count bits))
          ∙ number-bits_of count bits ∙ mod-eq_of_lt old.below;
    }

pub not_symbols : (n : ℕ) (symbols : List ℕ) → list_all is_symbol symbols ≡ false → None ≡ from_symbols n symbols
unfolding from_symbols
not_symbols n symbols bad = rw bad refl

pub good_symbols : (n : ℕ) (symbols digest : List ℕ) → list_all is_symbol symbols ≡ true → IsWhole symbols digest 0 n → Some digest ≡ from_symbols n symbols
unfolding from_symbols
good_symbols n symbols digest all whole = rw (all, whole.left, whole.bytes) refl

none_left : (a b : Bool) (x : List ℕ) → b ≡ false → None ≡ (if a && b then Some x else None)
none_left true b x no_zero = rw no_zero refl
none_left false b x no_zero = refl

not_zero : (left : ℕ) → left ≢ 0 → (left == 0) ≡ false
not_zero zero some = absurd (some refl)
not_zero (suc left) some = grind (arith)

pub bits_left : (n bits : ℕ) (symbols digest : List ℕ) → bits ≢ 0 → IsWhole symbols digest bits n → None ≡ from_symbols n symbols
unfolding from_symbols
bits_left n bits symbols digest some whole =
    none_left (list_all is_symbol symbols) (number_of_bits (drop (8 * n) (bits_in symbols)) == 0) (bytes_of symbols)
    (not_zero _ (λ zero. some (sym whole.left ∙ zero)))
