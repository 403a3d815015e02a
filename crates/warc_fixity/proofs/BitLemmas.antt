-- Bits of numbers, and numbers of bits.
use Rattle.std.proofs.Common.{◌≡◌, ℕ, zero, suc, ◌+◌, ◌*◌, ◌/◌, ◌%◌, ◌^◌, ◌<◌, Bool, true, nat_lt, List, [], ◌∷◌, ◌++◌, length, map, take, refl, sym, ap, ◌∙◌, arith}
use Rattle.std.specs.List.{list_all, flat_map}
use Rattle.std.proofs.Math.Nat.{mul_comm, div-div-eq-div-mul, mod-eq_of_lt}
use Rattle.std.proofs.lemmas.Nat.{pow-add, mod-pow-add}
use Rattle.std.proofs.lemmas.Bool.{and_parts, and_from}
use Rattle.std.proofs.lemmas.Bool.Decides.{nat_tests}
use Rattle.std.proofs.lemmas.Grind.{common_steps}
use Rattle.warc_value.specs.Base32.{bits_of, number_of_bits, fives, eights}

pub same_cons : {a b : ℕ} {xs ys : List ℕ} → a ≡ b → xs ≡ ys → a ∷ xs ≡ b ∷ ys
same_cons p q = cc

-- the bits of a number in two parts
pub bits_of-add : (m n x : ℕ) → bits_of (m + n) x ≡ bits_of m (x / 2 ^ n) ++ bits_of n x
unfolding bits_of
bits_of-add zero n x = ap (λ (k : ℕ). bits_of k x) (omega arith)
bits_of-add (suc m) n x =
    let e : suc m + n ≡ suc (m + n) = omega arith in
    let d : x / 2 ^ (m + n) ≡ x / 2 ^ n / 2 ^ m = ap (λ (k : ℕ). x / k) (pow-add 2 m n ∙ mul_comm (2 ^ m) (2 ^ n)) ∙ sym (div-div-eq-div-mul x (2 ^ n) (2 ^ m)) in
    ap (λ (k : ℕ). bits_of k x) e ∙ same_cons (ap (λ (k : ℕ). k % 2) d) (bits_of-add m n x)

low_five : (high v : ℕ) → bits_of 5 (high * 32 + v) ≡ bits_of 5 v
unfolding bits_of
low_five high v =
    let p : (high * 32 + v) / 16 % 2 ≡ v / 16 % 2 = omega arith in
    let q : (high * 32 + v) / 8 % 2 ≡ v / 8 % 2 = omega arith in
    let r : (high * 32 + v) / 4 % 2 ≡ v / 4 % 2 = omega arith in
    let s : (high * 32 + v) / 2 % 2 ≡ v / 2 % 2 = omega arith in
    let t : (high * 32 + v) / 1 % 2 ≡ v / 1 % 2 = omega arith in
    same_cons p (same_cons q (same_cons r (same_cons s (same_cons t refl))))

-- five bits after others
pub bits_of-more : (count high v : ℕ) → v < 32 → bits_of count high ++ bits_of 5 v ≡ bits_of (count + 5) (high * 32 + v)
bits_of-more count high v below =
    let e : (high * 32 + v) / 2 ^ 5 ≡ high = omega arith in
    sym (bits_of-add count 5 (high * 32 + v) ∙ ap (λ (n : ℕ). bits_of count n ++ bits_of 5 (high * 32 + v)) e
    ∙ ap (λ (bits : List ℕ). bits_of count high ++ bits) (low_five high v))

pub length-bits_of : (n x : ℕ) → length (bits_of n x) ≡ n
unfolding bits_of
length-bits_of zero x = refl
length-bits_of (suc n) x = ap suc (length-bits_of n x)

-- the number of the lowest bits
pub number-bits_of : (n x : ℕ) → number_of_bits (bits_of n x) ≡ x % 2 ^ n
unfolding bits_of number_of_bits
number-bits_of zero x = omega arith
number-bits_of (suc n) x =
    let e : suc n ≡ 1 + n = omega arith in
    ap (λ (k : ℕ). x / 2 ^ n % 2 * 2 ^ k + number_of_bits (bits_of n x)) (length-bits_of n x)
    ∙ ap (λ (k : ℕ). x / 2 ^ n % 2 * 2 ^ n + k) (number-bits_of n x)
    ∙ sym (ap (λ (k : ℕ). x % 2 ^ k) e ∙ mod-pow-add x 1 n)

-- the lowest bits are those of the remainder
pub bits_of-mod : (n x : ℕ) → n < 5 → bits_of n (x % 2 ^ n) ≡ bits_of n x
unfolding bits_of
bits_of-mod zero x few = refl
bits_of-mod (suc zero) x few = same_cons (omega arith) refl
bits_of-mod (suc (suc zero)) x few = same_cons (omega arith) (same_cons (omega arith) refl)
bits_of-mod (suc (suc (suc zero))) x few = same_cons (omega arith) (same_cons (omega arith) (same_cons (omega arith) refl))
bits_of-mod (suc (suc (suc (suc zero)))) x few = same_cons (omega arith) (same_cons (omega arith) (same_cons (omega arith) (same_cons (omega arith) refl)))
bits_of-mod (suc (suc (suc (suc (suc n))))) x few = absurd (omega arith)

-- eight bits, and some after them
pub bits_of-split : (n x : ℕ) → n < 5 → bits_of (8 + n) x ≡ bits_of 8 (x / 2 ^ n) ++ bits_of n (x % 2 ^ n)
bits_of-split n x few = bits_of-add 8 n x ∙ ap (λ (bits : List ℕ). bits_of 8 (x / 2 ^ n) ++ bits) (sym (bits_of-mod n x few))

-- ---- lists of bits

abbrev pub is_bit : ℕ → Bool
is_bit b = nat_lt b 2

abbrev pub is_five : ℕ → Bool
is_five n = nat_lt n 32

abbrev pub is_byte : ℕ → Bool
is_byte n = nat_lt n 256

bit_below : (b : ℕ) → is_bit b ≡ true → b < 2
bit_below b h = grind (arith, nat_tests, common_steps)

a_bit : (y : ℕ) → is_bit (y % 2) ≡ true
a_bit y = grind (arith, nat_tests, common_steps)

pub five_below : (n : ℕ) → is_five n ≡ true → n < 32
five_below n h = grind (arith, nat_tests, common_steps)

pub byte_below : (n : ℕ) → is_byte n ≡ true → n < 256
byte_below n h = grind (arith, nat_tests, common_steps)

pub a_five : (n : ℕ) → n < 32 → is_five n ≡ true
a_five n h = grind (arith, nat_tests, common_steps)

pub a_byte : (n : ℕ) → n < 256 → is_byte n ≡ true
a_byte n h = grind (arith, nat_tests, common_steps)

pub all_bits : (n x : ℕ) → list_all is_bit (bits_of n x) ≡ true
unfolding bits_of
all_bits zero x = refl
all_bits (suc n) x = and_from _ _ (a_bit (x / 2 ^ n)) (all_bits n x)

five_back : (a b c d e : ℕ) → a < 2 → b < 2 → c < 2 → d < 2 → e < 2 → bits_of 5 (number_of_bits (a ∷ b ∷ c ∷ d ∷ e ∷ [])) ≡ a ∷ b ∷ c ∷ d ∷ e ∷ []
unfolding bits_of number_of_bits
five_back a b c d e ha hb hc hd he = same_cons (omega arith) (same_cons (omega arith) (same_cons (omega arith) (same_cons (omega arith) (same_cons (omega arith) refl))))

five_small : (a b c d e : ℕ) → a < 2 → b < 2 → c < 2 → d < 2 → e < 2 → number_of_bits (a ∷ b ∷ c ∷ d ∷ e ∷ []) < 32
unfolding number_of_bits
five_small a b c d e ha hb hc hd he = omega arith

eight_back : (a b c d e f g h : ℕ) → a < 2 → b < 2 → c < 2 → d < 2 → e < 2 → f < 2 → g < 2 → h < 2
    → bits_of 8 (number_of_bits (a ∷ b ∷ c ∷ d ∷ e ∷ f ∷ g ∷ h ∷ [])) ≡ a ∷ b ∷ c ∷ d ∷ e ∷ f ∷ g ∷ h ∷ []
unfolding bits_of number_of_bits
eight_back a b c d e f g h ha hb hc hd he hf hg hh =
    same_cons (omega arith) (same_cons (omega arith) (same_cons (omega arith) (same_cons (omega arith)
    (same_cons (omega arith) (same_cons (omega arith) (same_cons (omega arith) (same_cons (omega arith) refl)))))))

eight_small : (a b c d e f g h : ℕ) → a < 2 → b < 2 → c < 2 → d < 2 → e < 2 → f < 2 → g < 2 → h < 2
    → number_of_bits (a ∷ b ∷ c ∷ d ∷ e ∷ f ∷ g ∷ h ∷ []) < 256
unfolding number_of_bits
eight_small a b c d e f g h ha hb hc hd he hf hg hh = omega arith

five_less : (m n : ℕ) → suc (suc (suc (suc (suc n)))) ≡ 5 * suc m → n ≡ 5 * m
five_less m n long = omega arith

-- numbers of bits in fives
pub record FivesBack (xs : List ℕ) (m : ℕ) : Type 0 where
  pub back : flat_map (bits_of 5) (map number_of_bits (fives xs)) ≡ xs
  pub small : list_all is_five (map number_of_bits (fives xs)) ≡ true
  pub long : length (map number_of_bits (fives xs)) ≡ m

pub fives_back : (m : ℕ) (xs : List ℕ) → length xs ≡ 5 * m → list_all is_bit xs ≡ true → FivesBack xs m
unfolding fives
fives_back zero [] long all = record { back = refl; small = refl; long = refl }
fives_back zero (a ∷ xs) long all = absurd (omega arith)
fives_back (suc m) (a ∷ b ∷ c ∷ d ∷ e ∷ xs) long all =
    let ba = and_parts _ _ all in
    let bb = and_parts _ _ ba.1 in
    let bc = and_parts _ _ bb.1 in
    let bd = and_parts _ _ bc.1 in
    let be = and_parts _ _ bd.1 in
    let later = fives_back m xs (five_less m _ long) be.1 in
    let ha = bit_below a ba.0 in
    let hb = bit_below b bb.0 in
    let hc = bit_below c bc.0 in
    let hd = bit_below d bd.0 in
    let he = bit_below e be.0 in
    record {
      back = ap (λ (bits : List ℕ). bits ++ flat_map (bits_of 5) (map number_of_bits (fives xs))) (five_back a b c d e ha hb hc hd he)
          ∙ ap (λ (bits : List ℕ). a ∷ b ∷ c ∷ d ∷ e ∷ bits) later.back;
      small = and_from _ _ (a_five _ (five_small a b c d e ha hb hc hd he)) later.small;
      long = ap suc later.long;
    }
fives_back (suc m) [] long all = absurd (omega arith)
fives_back (suc m) (a ∷ []) long all = absurd (omega arith)
fives_back (suc m) (a ∷ b ∷ []) long all = absurd (omega arith)
fives_back (suc m) (a ∷ b ∷ c ∷ []) long all = absurd (omega arith)
fives_back (suc m) (a ∷ b ∷ c ∷ d ∷ []) long all = absurd (omega arith)

-- fives of the bits of numbers
pub numbers_back : (ns : List ℕ) → list_all is_five ns ≡ true → map number_of_bits (fives (flat_map (bits_of 5) ns)) ≡ ns
unfolding fives bits_of
numbers_back [] all = refl
numbers_back (n ∷ ns) all =
    let parts = and_parts _ _ all in
    same_cons (number-bits_of 5 n ∙ mod-eq_of_lt (five_below n parts.0)) (numbers_back ns parts.1)

-- numbers of bits in eights, of which fewer than eight are left over
pub record EightsBack (xs : List ℕ) (n : ℕ) : Type 0 where
  pub back : flat_map (bits_of 8) (map number_of_bits (eights xs)) ≡ take (8 * n) xs
  pub small : list_all is_byte (map number_of_bits (eights xs)) ≡ true
  pub long : length (map number_of_bits (eights xs)) ≡ n

pub eights_short : (xs : List ℕ) → length xs < 8 → eights xs ≡ []
unfolding eights
eights_short [] few = refl
eights_short (a ∷ []) few = refl
eights_short (a ∷ b ∷ []) few = refl
eights_short (a ∷ b ∷ c ∷ []) few = refl
eights_short (a ∷ b ∷ c ∷ d ∷ []) few = refl
eights_short (a ∷ b ∷ c ∷ d ∷ e ∷ []) few = refl
eights_short (a ∷ b ∷ c ∷ d ∷ e ∷ f ∷ []) few = refl
eights_short (a ∷ b ∷ c ∷ d ∷ e ∷ f ∷ g ∷ []) few = refl
eights_short (a ∷ b ∷ c ∷ d ∷ e ∷ f ∷ g ∷ h ∷ xs) few = absurd (omega arith)

eight_less : (n z k : ℕ) → suc (suc (suc (suc (suc (suc (suc (suc k))))))) ≡ 8 * suc n + z → k ≡ 8 * n + z
eight_less n z k long = omega arith

pub eights_back : (n z : ℕ) (xs : List ℕ) → length xs ≡ 8 * n + z → z < 8 → list_all is_bit xs ≡ true → EightsBack xs n
unfolding eights
eights_back zero z xs long few all =
    let none = eights_short xs (omega arith) in
    record {
      back = ap (λ (groups : List (List ℕ)). flat_map (bits_of 8) (map number_of_bits groups)) none;
      small = ap (λ (groups : List (List ℕ)). list_all is_byte (map number_of_bits groups)) none;
      long = ap (λ (groups : List (List ℕ)). length (map number_of_bits groups)) none;
    }
eights_back (suc n) z (a ∷ b ∷ c ∷ d ∷ e ∷ f ∷ g ∷ h ∷ xs) long few all =
    let ba = and_parts _ _ all in
    let bb = and_parts _ _ ba.1 in
    let bc = and_parts _ _ bb.1 in
    let bd = and_parts _ _ bc.1 in
    let be = and_parts _ _ bd.1 in
    let bf = and_parts _ _ be.1 in
    let bg = and_parts _ _ bf.1 in
    let bh = and_parts _ _ bg.1 in
    let ha = bit_below a ba.0 in
    let hb = bit_below b bb.0 in
    let hc = bit_below c bc.0 in
    let hd = bit_below d bd.0 in
    let he = bit_below e be.0 in
    let hf = bit_below f bf.0 in
    let hg = bit_below g bg.0 in
    let hh = bit_below h bh.0 in
    let later = eights_back n z xs (eight_less n z _ long) few bh.1 in
    let count : 8 * suc n ≡ suc (suc (suc (suc (suc (suc (suc (suc (8 * n)))))))) = omega arith in
    record {
      back = ap (λ (bits : List ℕ). bits ++ flat_map (bits_of 8) (map number_of_bits (eights xs))) (eight_back a b c d e f g h ha hb hc hd he hf hg hh)
          ∙ ap (λ (bits : List ℕ). a ∷ b ∷ c ∷ d ∷ e ∷ f ∷ g ∷ h ∷ bits) later.back
          ∙ sym (ap (λ (k : ℕ). take k (a ∷ b ∷ c ∷ d ∷ e ∷ f ∷ g ∷ h ∷ xs)) count);
      small = and_from _ _ (a_byte _ (eight_small a b c d e f g h ha hb hc hd he hf hg hh)) later.small;
      long = ap suc later.long;
    }
eights_back (suc n) z [] long few all = absurd (omega arith)
eights_back (suc n) z (a ∷ []) long few all = absurd (omega arith)
eights_back (suc n) z (a ∷ b ∷ []) long few all = absurd (omega arith)
eights_back (suc n) z (a ∷ b ∷ c ∷ []) long few all = absurd (omega arith)
eights_back (suc n) z (a ∷ b ∷ c ∷ d ∷ []) long few all = absurd (omega arith)
eights_back (suc n) z (a ∷ b ∷ c ∷ d ∷ e ∷ []) long few all = absurd (omega arith)
eights_back (suc n) z (a ∷ b ∷ c ∷ d ∷ e ∷ f ∷ []) long few all = absurd (omega arith)
eights_back (suc n) z (a ∷ b ∷ c ∷ d ∷ e ∷ f ∷ g ∷ []) long few all = absurd (omega arith)

-- eights of the bits of bytes, with fewer than eight bits after them
pub bytes_back : (bytes rest : List ℕ) → length rest < 8 → list_all is_byte bytes ≡ true
    → map number_of_bits (eights (flat_map (bits_of 8) bytes ++ rest)) ≡ bytes
unfolding eights bits_of
bytes_back [] rest few all = ap (λ (groups : List (List ℕ)). map number_of_bits groups) (eights_short rest few)
bytes_back (b ∷ bytes) rest few all =
    let parts = and_parts _ _ all in
    same_cons (number-bits_of 8 b ∙ mod-eq_of_lt (byte_below b parts.0)) (bytes_back bytes rest few parts.1)
