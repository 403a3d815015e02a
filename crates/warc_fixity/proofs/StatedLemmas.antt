-- The digest that a value states, and the verdict by it.
use Rattle.std.proofs.Common.{◌≡◌, ◌≢◌, ◌↔◌, inl, inr, ℕ, zero, suc, ◌+◌, ◌<◌, ◌≤◌, Bool, true, false, ◌==◌, List, [], ◌∷◌, ◌++◌, length, map, take, drop, get_or, codes, All, Option, Some, None, refl, sym, ap, subst, ◌∙◌, arith, if◌then◌else◌}
use Rattle.std.specs.Prelude.{position, option_map, option_and_then}
use Rattle.std.specs.List.{list_all, position_or_len}
use Rattle.std.specs.Char.{to_ascii_lowercase}
use Rattle.std.specs.Str.{str_eq_ignore_ascii_case}
use Rattle.std.proofs.Math.Seq.{take-append_seam, drop-append-add, get_or-append_seam}
use Rattle.std.proofs.Math.ListN.{get_or-append}
use Rattle.std.proofs.lemmas.Bool.{cases_Bool, eqb-true}
use Rattle.std.proofs.lemmas.Grind.{common_steps}
use Rattle.std.proofs.lemmas.List.{take-append-drop, drop_more, drop_all, get_or-take, length-take-le, length-append}
use Rattle.std.proofs.lemmas.List.Quantifiers.{position-Some}
use Rattle.std.proofs.lemmas.List.Sums.{position_or_len_is, AllPass-from_list_all, list_all-from_AllPass}
use Rattle.std.proofs.lemmas.Slice.Eq.{bytes_eq-Decides}
use Rattle.warc_value.specs.Base32.{number_of_bits, is_symbol, bytes_of, unbase32_of}
use Rattle.warc_value.specs.declared.hash.Wanted.{Wanted}
use Rattle.warc_value.specs.declared.hash.Wanted.TheVariants as wanted
use Rattle.warc_value.specs.declared.hash.Verdict.TheVariants.{Unchecked}
use Rattle.warc_value.specs.Digests.{wanted_digest, wanted_if_some, verdict_of}
use Rattle.warc_fixity.specs.declared.names.Algorithm.{Algorithm}
use Rattle.warc_fixity.specs.declared.names.Algorithm.TheVariants.{Md5, Sha1, Sha256, Sha384, Sha512}
use Rattle.warc_fixity.specs.Stated.{algorithm_of, digest_len, States}
use Rattle.warc_fixity.specs.Decoded.{bits_in, decoded, stated_in, stated_around, stated_digest}
use Rattle.warc_fixity.specs.Judged.{stated_verdict, verdict_if_stated, wanted_stated}
use Rattle.warc_fixity.proofs.BitLemmas.{is_byte, byte_below, a_byte}
use Rattle.warc_fixity.proofs.TextLemmas.{IsText, whole_text, length-bits_in}
use Rattle.warc_fixity.proofs.WritesLemmas.{written_is_decoded, decoded_is_written}

abbrev is_colon : ℕ → Bool
is_colon b = b == 58

abbrev Digest : Type 0
Digest = Algorithm × List ℕ

-- ---- what is stated is decoded

not_colon : (b : ℕ) → b ≢ 58 → is_colon b ≡ false
not_colon b other = elim (cases_Bool (b == 58)) [
  | inl same ↦ absurd (other (eqb-true _ _ same))
  | inr differs ↦ differs
]

colon_at : (name text : List ℕ) → All (λ b. b ≢ 58) name → position is_colon (name ++ 58 ∷ text) ≡ Some (length name)
colon_at name text none =
    let value : List ℕ = name ++ 58 ∷ text in
    let long : length value ≡ length name + suc (length text) = length-append name (58 ∷ text) in
    let before : (k : ℕ) → k < length name → is_colon (get_or value k 0) ≡ false =
    λ k lt. ap is_colon (get_or-append name (58 ∷ text) 0 k lt) ∙ not_colon _ (none k 0 lt) in
    let at : position_or_len is_colon value ≡ length name =
    position_or_len_is is_colon value (length name) 0 (omega (arith, long)) before (λ lt. ap is_colon (get_or-append_seam name 58 text 0)) in
    let inside : length name < length value = omega (arith, long) in
    grind (arith, common_steps, at, inside)

many : (a : Algorithm) → 3 ≤ digest_len a
many Md5 = omega arith
many Sha1 = omega arith
many Sha256 = omega arith
many Sha384 = omega arith
many Sha512 = omega arith

pub stated_is_decoded : (value digest : List ℕ) (algorithm : Algorithm) → States value algorithm digest → stated_digest value ≡ Some (algorithm, digest)
unfolding stated_digest
stated_is_decoded value digest algorithm states =
    let name : List ℕ = states.name in
    let text : List ℕ = states.text in
    let whole : List ℕ = name ++ 58 ∷ text in
    let small : list_all is_byte digest ≡ true = list_all-from_AllPass is_byte digest (λ i z below. a_byte _ (states.small i z below)) in
    let some : decoded (digest_len algorithm) text ≡ Some digest = written_is_decoded (digest_len algorithm) text digest (many algorithm) states.long small states.writes in
    let after : drop (length name + 1) whole ≡ text = drop-append-add name (58 ∷ text) 1 in
    let before : take (length name) whole ≡ name = take-append_seam name (58 ∷ text) in
    ap (λ (v : List ℕ). option_and_then (stated_around v) (position is_colon v)) states.is
    ∙ ap (option_and_then (stated_around whole)) (colon_at name text states.no_colon)
    ∙ ap (λ (t : List ℕ). option_and_then (stated_in t) (algorithm_of (take (length name) whole))) after
    ∙ ap (λ (n : List ℕ). option_and_then (stated_in text) (algorithm_of n)) before
    ∙ ap (option_and_then (stated_in text)) states.means
    ∙ ap (option_map {U = Digest} (λ (d : List ℕ). (algorithm, d))) some

-- ---- what is decoded is stated

split_at_colon : (value : List ℕ) (k : ℕ) → k < length value → is_colon (get_or value k 0) ≡ true → value ≡ take k value ++ 58 ∷ drop (k + 1) value
split_at_colon value k inside colon =
    sym (take-append-drop k value) ∙ ap (λ (xs : List ℕ). take k value ++ xs) (drop_more value k 0 inside)
    ∙ ap (λ (b : ℕ). take k value ++ b ∷ drop (k + 1) value) (eqb-true _ _ colon)

none_before : (value : List ℕ) (k : ℕ) → position is_colon value ≡ Some k → All (λ b. b ≢ 58) (take k value)
none_before value k is i z below = λ same.
    let place = position-Some is_colon value k z is in
    let size = length-take-le k value (omega (arith, place.0)) in
    let lt : i < k = omega (arith, below, size) in
    let colon : get_or value i z ≡ 58 = sym (get_or-take k value i z lt) ∙ same in
    let differs : is_colon 58 ≡ false = ap is_colon (sym colon) ∙ place.2 i lt in
    cc

from_text : (value : List ℕ) (k : ℕ) (a b : Algorithm) (digest : List ℕ) (o : Option (List ℕ)) → position is_colon value ≡ Some k → algorithm_of (take k value) ≡ Some b
    → decoded (digest_len b) (drop (k + 1) value) ≡ o → option_map {U = Digest} (λ (d : List ℕ). (b, d)) o ≡ Some (a, digest) → States value a digest
from_text value k a b digest None at means is e = absurd (cc)
from_text value k a b digest (Some d) at means is e =
    let pair : ◌≡◌ {A = Digest} (b, d) (a, digest) = cc in
    let place = position-Some is_colon value k 0 at in
    let written = decoded_is_written (digest_len b) (drop (k + 1) value) d is in
    let states : States value b d = record {
      name = take k value;
      text = drop (k + 1) value;
      is = split_at_colon value k place.0 place.1;
      no_colon = none_before value k at;
      means = means;
      long = written.long;
      small = λ i z below. byte_below _ (AllPass-from_list_all is_byte d written.small i z below);
      writes = written.writes;
    } in
    subst (λ (p : Digest). States value p.0 p.1) pair states

from_name : (value : List ℕ) (k : ℕ) (a : Algorithm) (digest : List ℕ) (o : Option Algorithm) → position is_colon value ≡ Some k → algorithm_of (take k value) ≡ o
    → option_and_then (stated_in (drop (k + 1) value)) o ≡ Some (a, digest) → States value a digest
from_name value k a digest None at means e = absurd (cc)
from_name value k a digest (Some b) at means e = from_text value k a b digest _ at means refl e

from_colon : (value : List ℕ) (a : Algorithm) (digest : List ℕ) (o : Option ℕ) → position is_colon value ≡ o
    → option_and_then (stated_around value) o ≡ Some (a, digest) → States value a digest
from_colon value a digest None at e = absurd (cc)
from_colon value a digest (Some k) at e = from_name value k a digest _ at refl e

pub decoded_is_stated : (value digest : List ℕ) (algorithm : Algorithm) → stated_digest value ≡ Some (algorithm, digest) → States value algorithm digest
unfolding stated_digest
decoded_is_stated value digest algorithm e = from_colon value algorithm digest _ refl e

pub stated_digest_is_stated : (value digest : List ℕ) (algorithm : Algorithm) → (stated_digest value ≡ Some (algorithm, digest)) ↔ States value algorithm digest
stated_digest_is_stated value digest algorithm = (decoded_is_stated value digest algorithm, stated_is_decoded value digest algorithm)

-- ---- the digest that is wanted is stated

both_if : (a b : Bool) (x y : List ℕ) → (if a then (if b then Some x else None) else None) ≡ Some y → (a ≡ true) × (b ≡ true) × (x ≡ y)
both_if true true x y e = (refl, refl, cc)
both_if true false x y e = absurd (cc)
both_if false b x y e = absurd (cc)

wanted_text : (text digest : List ℕ) → unbase32_of text ≡ Some digest → IsText 20 text digest
unfolding bytes_of number_of_bits
wanted_text text digest is =
    let parts = both_if (length text == 32) (list_all is_symbol text) (bytes_of text) digest is in
    let len : length text ≡ 32 = eqb-true _ _ parts.0 in
    let none : drop 160 (bits_in text) ≡ [] = drop_all 160 (bits_in text) (omega (arith, length-bits_in text, len)) in
    subst (λ (xs : List ℕ). IsText 20 text xs) parts.2 (whole_text 20 text len parts.1 (ap (λ (xs : List ℕ). number_of_bits xs) none))

colon_lower : (b : ℕ) → to_ascii_lowercase b ≡ 58 → b ≡ 58
colon_lower b is = grind (arith, common_steps)

other_lower : (b low : ℕ) → to_ascii_lowercase b ≡ low → (low == 58) ≡ false → b ≢ 58
other_lower b low is other = λ same.
    let e : low ≡ 58 = sym is ∙ ap to_ascii_lowercase same in
    let bad : (58 == 58) ≡ false = subst (λ (k : ℕ). (k == 58) ≡ false) e other in
    cc

named : (a b c d : ℕ) → to_ascii_lowercase a ≡ 115 → to_ascii_lowercase b ≡ 104 → to_ascii_lowercase c ≡ 97 → to_ascii_lowercase d ≡ 49
    → algorithm_of (a ∷ b ∷ c ∷ d ∷ []) ≡ Some Sha1
named a b c d ea eb ec ed = rw (ea, eb, ec, ed) refl

four_none : (a b c d : ℕ) → a ≢ 58 → b ≢ 58 → c ≢ 58 → d ≢ 58 → All (λ x. x ≢ 58) (a ∷ b ∷ c ∷ d ∷ [])
four_none a b c d ha hb hc hd zero z below = ha
four_none a b c d ha hb hc hd (suc zero) z below = hb
four_none a b c d ha hb hc hd (suc (suc zero)) z below = hc
four_none a b c d ha hb hc hd (suc (suc (suc zero))) z below = hd
four_none a b c d ha hb hc hd (suc (suc (suc (suc i)))) z below = absurd (omega arith)

labelled : (value digest : List ℕ) → map to_ascii_lowercase (take 5 value) ≡ codes "sha1:" → unbase32_of (drop 5 value) ≡ Some digest → States value Sha1 digest
labelled [] digest label is = absurd (cc)
labelled (a ∷ []) digest label is = absurd (cc)
labelled (a ∷ b ∷ []) digest label is = absurd (cc)
labelled (a ∷ b ∷ c ∷ []) digest label is = absurd (cc)
labelled (a ∷ b ∷ c ∷ d ∷ []) digest label is = absurd (cc)
labelled (a ∷ b ∷ c ∷ d ∷ e ∷ text) digest label is =
    let ea : to_ascii_lowercase a ≡ 115 = cc in
    let eb : to_ascii_lowercase b ≡ 104 = cc in
    let ec : to_ascii_lowercase c ≡ 97 = cc in
    let ed : to_ascii_lowercase d ≡ 49 = cc in
    let ee : to_ascii_lowercase e ≡ 58 = cc in
    let read = wanted_text text digest is in
    record {
      name = a ∷ b ∷ c ∷ d ∷ [];
      text = text;
      is = ap (λ (x : ℕ). a ∷ b ∷ c ∷ d ∷ x ∷ text) (colon_lower e ee);
      no_colon = four_none a b c d (other_lower a 115 ea refl) (other_lower b 104 eb refl) (other_lower c 97 ec refl) (other_lower d 49 ed refl);
      means = named a b c d ea eb ec ed;
      long = read.long;
      small = λ i z below. byte_below _ (AllPass-from_list_all is_byte digest read.small i z below);
      writes = inr (inl read.is);
    }

wanted_some : (o : Option (List ℕ)) (digest : List ℕ) → wanted_if_some o ≡ wanted.Sha1 digest → o ≡ Some digest
wanted_some None digest is = absurd (cc)
wanted_some (Some d) digest is = cc

wanted_label : (value digest : List ℕ) (test : Bool) → str_eq_ignore_ascii_case (take 5 value) (codes "sha1:") ≡ test
    → (if test then wanted_if_some (unbase32_of (drop 5 value)) else wanted.Unchecked) ≡ wanted.Sha1 digest → States value Sha1 digest
wanted_label value digest true label is =
    let same = bytes_eq-Decides (map to_ascii_lowercase (take 5 value)) (map to_ascii_lowercase (codes "sha1:")) in
    labelled value digest (same.0 label) (wanted_some _ digest is)
wanted_label value digest false label is = absurd (cc)

pub wanted_is_stated : (value digest : List ℕ) → wanted_digest value ≡ wanted.Sha1 digest → stated_digest value ≡ Some (Sha1, digest)
wanted_is_stated value digest is = stated_is_decoded value digest Sha1 (wanted_label value digest _ refl is)

kept_if : (value block : List ℕ) (w : Wanted) → wanted_digest value ≡ w → verdict_of w block ≢ Unchecked → verdict_of w block ≡ stated_verdict value block
kept_if value block wanted.Unchecked is checked = absurd (checked refl)
kept_if value block (wanted.Sha1 digest) is checked =
    sym (ap (λ (o : Option Digest). verdict_if_stated o block) (wanted_is_stated value digest is))

pub wanted_verdict_is_kept : (value block : List ℕ) → verdict_of (wanted_digest value) block ≢ Unchecked → verdict_of (wanted_digest value) block ≡ stated_verdict value block
wanted_verdict_is_kept value block = kept_if value block (wanted_digest value) refl

-- ---- a value is cut at its colon

pub stated_at : (value rest : List ℕ) (k : ℕ) → Some k ≡ position is_colon value → rest ≡ drop (k + 1) value
    → stated_digest value ≡ option_and_then (stated_in rest) (algorithm_of (take k value))
unfolding stated_digest
stated_at value rest k at is =
    ap (option_and_then (stated_around value)) (sym at) ∙ ap (λ (text : List ℕ). option_and_then (stated_in text) (algorithm_of (take k value))) (sym is)

pub nothing_stated : (value : List ℕ) → None ≡ position is_colon value → stated_digest value ≡ None
unfolding stated_digest
nothing_stated value at = ap (option_and_then (stated_around value)) (sym at)

pub wanted_is_judged : (w : Wanted) (block : List ℕ) → verdict_if_stated (wanted_stated w) block ≡ verdict_of w block
wanted_is_judged wanted.Unchecked block = refl
wanted_is_judged (wanted.Sha1 digest) block = refl
