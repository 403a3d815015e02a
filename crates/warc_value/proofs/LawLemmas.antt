-- The laws of dates and digests, under the names of their functions.
use Rattle.std.proofs.Common.{◌≡◌, ℕ, zero, suc, ◌+◌, ◌*◌, ◌/◌, ◌%◌, ◌<◌, Bool, true, false, ◌&&◌, nat_eq, nat_le, nat_lt, List, [], ◌∷◌, ◌++◌, length, map, codes, All, Option, Some, None, refl, sym, ap, ◌∙◌, arith, if◌then◌else◌}
use Rattle.std.specs.List.{list_all}
use Rattle.std.specs.Prelude.{is_some}
use Rattle.std.proofs.lemmas.List.Quantifiers.{position-Some}
use Rattle.std.proofs.lemmas.Bool.{eqb-true}
use Rattle.std.proofs.lemmas.Bool.Decides.{nat_tests}
use Rattle.std.proofs.lemmas.Grind.{common_steps}
use Rattle.std.specs.Char.{to_ascii_uppercase}
use Rattle.warc_value.specs.Base32.{fives, eights, alphabet, symbol_of, symbol_value, is_symbol, base32_of, bytes_of, unbase32_of}
use Rattle.warc_value.specs.declared.hash.Wanted.TheVariants.{Sha1}
use Rattle.warc_value.specs.Digests.{wanted_digest}
use Rattle.warc_value.proofs.Alphabet.{all_below, passes_below, code_of, same_code, both-left, both-right}
use Rattle.warc_value.proofs.Bits.{base32_of-group, bytes_of-group, same-eight}

-- Characters and their numbers.
all-symbols : all_below (λ n. nat_eq (code_of (symbol_value (symbol_of n))) (code_of (Some n))) 32 ≡ true
unfolding symbol_value symbol_of
all-symbols = refl

symbol_value-symbol_of : (n : ℕ) → n < 32 → symbol_value (symbol_of n) ≡ Some n
symbol_value-symbol_of n below = same_code _ _ (passes_below (λ n. nat_eq (code_of (symbol_value (symbol_of n))) (code_of (Some n))) 32 all-symbols n below)

symbol_is : (n : ℕ) → n < 32 → is_symbol (symbol_of n) ≡ true
symbol_is n below = rw (symbol_value-symbol_of n below) refl

-- Five bytes of eight numbers of five bytes.
back-five : (a b c d e : ℕ) (rest : List ℕ) → a < 256 → b < 256 → c < 256 → d < 256 → e < 256
    → ((a / 8) * 8 + (a % 8 * 4 + b / 64) / 4)
    ∷ ((a % 8 * 4 + b / 64) % 4 * 64 + (b / 2 % 32) * 2 + (b % 2 * 16 + c / 16) / 16)
    ∷ ((b % 2 * 16 + c / 16) % 16 * 16 + (c % 16 * 2 + d / 128) / 2)
    ∷ ((c % 16 * 2 + d / 128) % 2 * 128 + (d / 4 % 32) * 4 + (d % 4 * 8 + e / 32) / 8)
    ∷ ((d % 4 * 8 + e / 32) % 8 * 32 + e % 32) ∷ rest
    ≡ a ∷ b ∷ c ∷ d ∷ e ∷ rest
back-five a b c d e rest ha hb hc hd he =
    let p : (a / 8) * 8 + (a % 8 * 4 + b / 64) / 4 ≡ a = omega arith in
    let q : (a % 8 * 4 + b / 64) % 4 * 64 + (b / 2 % 32) * 2 + (b % 2 * 16 + c / 16) / 16 ≡ b = omega arith in
    let r : (b % 2 * 16 + c / 16) % 16 * 16 + (c % 16 * 2 + d / 128) / 2 ≡ c = omega arith in
    let s : (c % 16 * 2 + d / 128) % 2 * 128 + (d / 4 % 32) * 4 + (d % 4 * 8 + e / 32) / 8 ≡ d = omega arith in
    let t : (d % 4 * 8 + e / 32) % 8 * 32 + e % 32 ≡ e = omega arith in
    rw (p, q, r, s, t) refl

longer : (k : ℕ) (text : List ℕ) → length text ≡ 8 * k → suc (suc (suc (suc (suc (suc (suc (suc (length text)))))))) ≡ 8 * suc k
longer k text e = omega arith

-- what base32 makes of groups of five bytes
record IsRead (k : ℕ) (bytes : List ℕ) : Type 0 where
  pub back : bytes_of (base32_of bytes) ≡ bytes
  pub symbols : list_all is_symbol (base32_of bytes) ≡ true
  pub long : length (base32_of bytes) ≡ 8 * k

read-none : IsRead 0 []
unfolding base32_of fives bytes_of eights
read-none = record { back = refl; symbols = refl; long = refl }

read-group : (k a b c d e : ℕ) (rest : List ℕ) → a < 256 → b < 256 → c < 256 → d < 256 → e < 256 → IsRead k rest → IsRead (suc k) (a ∷ b ∷ c ∷ d ∷ e ∷ rest)
read-group k a b c d e rest ha hb hc hd he later =
    let is = base32_of-group a b c d e rest ha hb hc hd he in
    let n1 : a / 8 < 32 = omega arith in
    let n2 : a % 8 * 4 + b / 64 < 32 = omega arith in
    let n3 : b / 2 % 32 < 32 = omega arith in
    let n4 : b % 2 * 16 + c / 16 < 32 = omega arith in
    let n5 : c % 16 * 2 + d / 128 < 32 = omega arith in
    let n6 : d / 4 % 32 < 32 = omega arith in
    let n7 : d % 4 * 8 + e / 32 < 32 = omega arith in
    let n8 : e % 32 < 32 = omega arith in
    record {
      back = ap (λ (text : List ℕ). bytes_of text) is
          ∙ bytes_of-group _ _ _ _ _ _ _ _ _ _ _ _ _ _ _ _ (base32_of rest)
          (symbol_value-symbol_of _ n1) (symbol_value-symbol_of _ n2) (symbol_value-symbol_of _ n3) (symbol_value-symbol_of _ n4)
          (symbol_value-symbol_of _ n5) (symbol_value-symbol_of _ n6) (symbol_value-symbol_of _ n7) (symbol_value-symbol_of _ n8)
          n1 n2 n3 n4 n5 n6 n7 n8
          ∙ back-five a b c d e (bytes_of (base32_of rest)) ha hb hc hd he
          ∙ ap (λ (bytes : List ℕ). a ∷ b ∷ c ∷ d ∷ e ∷ bytes) later.back;
      symbols = rw (is, symbol_is _ n1, symbol_is _ n2, symbol_is _ n3, symbol_is _ n4, symbol_is _ n5, symbol_is _ n6, symbol_is _ n7, symbol_is _ n8) later.symbols;
      long = ap (λ (text : List ℕ). length text) is ∙ longer k _ later.long;
    }

read-groups : (k : ℕ) (bytes : List ℕ) → length bytes ≡ 5 * k → All (λ b. b < 256) bytes → IsRead k bytes
read-groups zero [] long small = read-none
read-groups zero (a ∷ bytes) long small = absurd (omega arith)
read-groups (suc k) (a ∷ b ∷ c ∷ d ∷ e ∷ rest) long small =
    read-group k a b c d e rest (small 0 0 (omega arith)) (small 1 0 (omega arith)) (small 2 0 (omega arith)) (small 3 0 (omega arith)) (small 4 0 (omega arith))
    (read-groups k rest (omega arith) (λ i z below. small (suc (suc (suc (suc (suc i))))) z (omega arith)))
read-groups (suc k) [] long small = absurd (omega arith)
read-groups (suc k) (a ∷ []) long small = absurd (omega arith)
read-groups (suc k) (a ∷ b ∷ []) long small = absurd (omega arith)
read-groups (suc k) (a ∷ b ∷ c ∷ []) long small = absurd (omega arith)
read-groups (suc k) (a ∷ b ∷ c ∷ d ∷ []) long small = absurd (omega arith)

pub base32_is_undone : (bytes : List ℕ) → length bytes ≡ 20 → All (λ b. b < 256) bytes → unbase32_of (base32_of bytes) ≡ Some bytes
base32_is_undone bytes long small =
    let read = read-groups 4 bytes long small in
    let length_is : length (base32_of bytes) ≡ 32 = read.long in
    rw (length_is, read.symbols, read.back) refl

-- A character that means a number is that number's, but for its case.
pub symbol_of-symbol_value : (c n : ℕ) → symbol_value c ≡ Some n → (n < 32) × (symbol_of n ≡ to_ascii_uppercase c)
unfolding symbol_value symbol_of
symbol_of-symbol_value c n is =
    let at = position-Some (λ symbol. nat_eq symbol (to_ascii_uppercase c)) alphabet n 0 is in
    (at.0, eqb-true _ _ at.1)

some-value : (found : Option ℕ) → is_some found ≡ true → (n : ℕ) × (found ≡ Some n)
some-value None e = absurd (cc)
some-value (Some n) e = (n, refl)

value-in : (c : ℕ) → is_symbol c ≡ true → (n : ℕ) × (symbol_value c ≡ Some n)
value-in c symbol = some-value (symbol_value c) symbol

-- Eight numbers of the five bytes of eight numbers.
back-eight : (a b c d e f g h : ℕ) (rest : List ℕ) → a < 32 → b < 32 → c < 32 → d < 32 → e < 32 → f < 32 → g < 32 → h < 32
    → base32_of ((a * 8 + b / 4) ∷ (b % 4 * 64 + c * 2 + d / 16) ∷ (d % 16 * 16 + e / 2) ∷ (e % 2 * 128 + f * 4 + g / 8) ∷ (g % 8 * 32 + h) ∷ rest)
    ≡ symbol_of a ∷ symbol_of b ∷ symbol_of c ∷ symbol_of d ∷ symbol_of e ∷ symbol_of f ∷ symbol_of g ∷ symbol_of h ∷ base32_of rest
back-eight a b c d e f g h rest ha hb hc hd he hf hg hh =
    let v : a * 8 + b / 4 < 256 = omega arith in
    let w : b % 4 * 64 + c * 2 + d / 16 < 256 = omega arith in
    let x : d % 16 * 16 + e / 2 < 256 = omega arith in
    let y : e % 2 * 128 + f * 4 + g / 8 < 256 = omega arith in
    let z : g % 8 * 32 + h < 256 = omega arith in
    let i : (a * 8 + b / 4) / 8 ≡ a = omega arith in
    let j : (a * 8 + b / 4) % 8 * 4 + (b % 4 * 64 + c * 2 + d / 16) / 64 ≡ b = omega arith in
    let k : (b % 4 * 64 + c * 2 + d / 16) / 2 % 32 ≡ c = omega arith in
    let l : (b % 4 * 64 + c * 2 + d / 16) % 2 * 16 + (d % 16 * 16 + e / 2) / 16 ≡ d = omega arith in
    let m : (d % 16 * 16 + e / 2) % 16 * 2 + (e % 2 * 128 + f * 4 + g / 8) / 128 ≡ e = omega arith in
    let n : (e % 2 * 128 + f * 4 + g / 8) / 4 % 32 ≡ f = omega arith in
    let o : (e % 2 * 128 + f * 4 + g / 8) % 4 * 8 + (g % 8 * 32 + h) / 32 ≡ g = omega arith in
    let p : (g % 8 * 32 + h) % 32 ≡ h = omega arith in
    base32_of-group _ _ _ _ _ rest v w x y z ∙ same-eight symbol_of (base32_of rest) i j k l m n o p

cons-eight : {a b c d e f g h a' b' c' d' e' f' g' h' : ℕ} {xs ys : List ℕ} → a ≡ a' → b ≡ b' → c ≡ c' → d ≡ d' → e ≡ e' → f ≡ f' → g ≡ g' → h ≡ h' → xs ≡ ys
    → a ∷ b ∷ c ∷ d ∷ e ∷ f ∷ g ∷ h ∷ xs ≡ a' ∷ b' ∷ c' ∷ d' ∷ e' ∷ f' ∷ g' ∷ h' ∷ ys
cons-eight p q r s t u v w x = cc

write-none : base32_of (bytes_of []) ≡ []
unfolding base32_of fives bytes_of eights
write-none = refl

write-group : (p q r s t u v w a b c d e f g h : ℕ) (rest : List ℕ)
    → symbol_value p ≡ Some a → symbol_value q ≡ Some b → symbol_value r ≡ Some c → symbol_value s ≡ Some d
    → symbol_value t ≡ Some e → symbol_value u ≡ Some f → symbol_value v ≡ Some g → symbol_value w ≡ Some h
    → base32_of (bytes_of rest) ≡ map to_ascii_uppercase rest
    → base32_of (bytes_of (p ∷ q ∷ r ∷ s ∷ t ∷ u ∷ v ∷ w ∷ rest)) ≡ map to_ascii_uppercase (p ∷ q ∷ r ∷ s ∷ t ∷ u ∷ v ∷ w ∷ rest)
write-group p q r s t u v w a b c d e f g h rest va vb vc vd ve vf vg vh later =
    let sa = symbol_of-symbol_value p a va in
    let sb = symbol_of-symbol_value q b vb in
    let sc = symbol_of-symbol_value r c vc in
    let sd = symbol_of-symbol_value s d vd in
    let se = symbol_of-symbol_value t e ve in
    let sf = symbol_of-symbol_value u f vf in
    let sg = symbol_of-symbol_value v g vg in
    let sh = symbol_of-symbol_value w h vh in
    ap (λ (bytes : List ℕ). base32_of bytes) (bytes_of-group p q r s t u v w a b c d e f g h rest va vb vc vd ve vf vg vh sa.0 sb.0 sc.0 sd.0 se.0 sf.0 sg.0 sh.0)
    ∙ back-eight a b c d e f g h (bytes_of rest) sa.0 sb.0 sc.0 sd.0 se.0 sf.0 sg.0 sh.0
    ∙ cons-eight sa.1 sb.1 sc.1 sd.1 se.1 sf.1 sg.1 sh.1 later

write-groups : (k : ℕ) (text : List ℕ) → length text ≡ 8 * k → list_all is_symbol text ≡ true → base32_of (bytes_of text) ≡ map to_ascii_uppercase text
write-groups zero [] long all = write-none
write-groups zero (p ∷ text) long all = absurd (omega arith)
write-groups (suc k) (p ∷ q ∷ r ∷ s ∷ t ∷ u ∷ v ∷ w ∷ rest) long all =
    let all-q = both-right _ _ all in
    let all-r = both-right _ _ all-q in
    let all-s = both-right _ _ all-r in
    let all-t = both-right _ _ all-s in
    let all-u = both-right _ _ all-t in
    let all-v = both-right _ _ all-u in
    let all-w = both-right _ _ all-v in
    let vp = value-in p (both-left _ _ all) in
    let vq = value-in q (both-left _ _ all-q) in
    let vr = value-in r (both-left _ _ all-r) in
    let vs = value-in s (both-left _ _ all-s) in
    let vt = value-in t (both-left _ _ all-t) in
    let vu = value-in u (both-left _ _ all-u) in
    let vv = value-in v (both-left _ _ all-v) in
    let vw = value-in w (both-left _ _ all-w) in
    write-group p q r s t u v w vp.0 vq.0 vr.0 vs.0 vt.0 vu.0 vv.0 vw.0 rest vp.1 vq.1 vr.1 vs.1 vt.1 vu.1 vv.1 vw.1 (write-groups k rest (omega arith) (both-right _ _ all-w))
write-groups (suc k) ([]) long all = absurd (omega arith)
write-groups (suc k) (p ∷ []) long all = absurd (omega arith)
write-groups (suc k) (p ∷ q ∷ []) long all = absurd (omega arith)
write-groups (suc k) (p ∷ q ∷ r ∷ []) long all = absurd (omega arith)
write-groups (suc k) (p ∷ q ∷ r ∷ s ∷ []) long all = absurd (omega arith)
write-groups (suc k) (p ∷ q ∷ r ∷ s ∷ t ∷ []) long all = absurd (omega arith)
write-groups (suc k) (p ∷ q ∷ r ∷ s ∷ t ∷ u ∷ []) long all = absurd (omega arith)
write-groups (suc k) (p ∷ q ∷ r ∷ s ∷ t ∷ u ∷ v ∷ []) long all = absurd (omega arith)

if_some : (a b : Bool) (x y : List ℕ) → (if a then (if b then Some x else None) else None) ≡ Some y → (a ≡ true) × (b ≡ true) × (x ≡ y)
if_some true true x y e = (refl, refl, cc)
if_some true false x y e = absurd (cc)
if_some false b x y e = absurd (cc)

pub unbase32_is_undone : (text bytes : List ℕ) → unbase32_of text ≡ Some bytes → base32_of bytes ≡ map to_ascii_uppercase text
unbase32_is_undone text bytes is =
    let parts = if_some (nat_eq (length text) 32) (list_all is_symbol text) (bytes_of text) bytes is in
    ap (λ (bytes : List ℕ). base32_of bytes) (sym parts.2) ∙ write-groups 4 text (eqb-true _ _ parts.0) parts.1

-- A written digest: `sha1:` and its text.
pub written_digest_is_wanted : (digest : List ℕ) → length digest ≡ 20 → All (λ b. b < 256) digest → wanted_digest (codes "sha1:" ++ base32_of digest) ≡ Sha1 digest
written_digest_is_wanted digest long small = rw (base32_is_undone digest long small) refl

-- each character of a written digest is one
pub base32_symbols : (digest : List ℕ) → length digest ≡ 20 → All (λ b. b < 256) digest → list_all is_symbol (base32_of digest) ≡ true
base32_symbols digest long small = let read = read-groups 4 digest long small in read.symbols

-- a character is visible
all-visible : all_below (λ n. nat_le 50 (symbol_of n) && nat_le (symbol_of n) 90) 32 ≡ true
unfolding symbol_of
all-visible = refl

seen : (c s : ℕ) → (nat_le 50 s && nat_le s 90) ≡ true → s ≡ to_ascii_uppercase c → (nat_lt 32 c && nat_lt c 127) ≡ true
seen c s range is = grind (arith, nat_tests, common_steps)

pub symbol_is_visible : (c : ℕ) → is_symbol c ≡ true → (nat_lt 32 c && nat_lt c 127) ≡ true
symbol_is_visible c symbol =
    let is = value-in c symbol in
    let at = symbol_of-symbol_value c is.0 is.1 in
    seen c (symbol_of is.0) (passes_below (λ n. nat_le 50 (symbol_of n) && nat_le (symbol_of n) 90) 32 all-visible is.0 at.0) at.1
