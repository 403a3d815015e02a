-- The key of a UUID between brackets: no byte of a UUID ends an id.
use Rattle.std.proofs.Common.{◌≡◌, ℕ, ◌+◌, ◌-◌, ◌<◌, ◌==◌, Bool, true, false, ◌&&◌, ◌||◌, List, ◌∷◌, drop, take, length, map, get_or, get_or-drop, get_or-take, slice_index, nat_lt, Option, Some, None, if◌then◌else◌, inl, inr, refl, sym, ap, ◌∙◌, arith}
use Rattle.std.specs.Char.{to_ascii_lowercase}
use Rattle.std.specs.List.{list_all}
use Rattle.std.proofs.Math.ListN.{get_or-map}
use Rattle.std.proofs.lemmas.List.{length-drop, length-take}
use Rattle.std.proofs.lemmas.Bool.{agree_below_at, and_parts, cases_lt, eqb-true, ltb-true, or_cases}
use Rattle.std.proofs.lemmas.Bool.Decides.{nat_tests}
use Rattle.std.proofs.lemmas.List.Elements.{All-get_or}
use Rattle.std.proofs.lemmas.List.Sums.{AllPass-from_list_all}
use Rattle.std.proofs.lemmas.Slice.Eq.{bytes_eq-Decides}
use Rattle.uuid.proofs.TextLemmas.{by_index_at, by_index_length}
use Rattle.uuid.specs.Text.{digit_place, digits_of, has_hyphens, has_urn_prefix, hyphen_place, is_hex_digit, is_hyphen_place, parsed_hyphenated, parsed_simple, parsed_urn, urn_prefix}
use Rattle.warc_field.specs.Text.{is_blank}
use Rattle.warc_record.specs.Ids.{bare_text, ends_id, id_key, inner_text, is_bare_id, key_by, key_of}
use Rattle.warc_record.proofs.IdLemmas.{bare_is_inner, inner_is_id}

-- what an option under a test gives
given : {X : Type 0} (b : Bool) (o : Option X) (x : X) → (if b then o else None) ≡ Some x → (b ≡ true) × (o ≡ Some x)
given true o x e = (refl, e)
given false o x e = absurd (cc)

digit_is_plain : (c : ℕ) → is_hex_digit c ≡ true → ends_id c ≡ false
unfolding is_blank
digit_is_plain c hex = grind (arith, nat_tests)

letter_is_plain : (c : ℕ) → ends_id (to_ascii_lowercase c) ≡ false → ends_id c ≡ false
unfolding is_blank
letter_is_plain c plain = grind (arith, nat_tests)

-- the bytes of `urn:uuid:`
letters : (k : ℕ) → k < 9 → ends_id (get_or (map to_ascii_lowercase urn_prefix) k 0) ≡ false
unfolding is_blank
letters k low = agree_below_at (λ k. ends_id (get_or (map to_ascii_lowercase urn_prefix) k 0)) (λ k. false) 9 k refl low

prefix_is_plain : (s : List ℕ) → has_urn_prefix s ≡ true → (k : ℕ) → k < 9 → ends_id (get_or s k 0) ≡ false
prefix_is_plain s prefix k low =
    let same : map to_ascii_lowercase (take 9 s) ≡ map to_ascii_lowercase urn_prefix = (bytes_eq-Decides _ _).0 prefix in
    let here : to_ascii_lowercase (get_or s k 0) ≡ get_or (map to_ascii_lowercase urn_prefix) k 0 =
    ap to_ascii_lowercase (sym (get_or-take 9 s k 0 low)) ∙ sym (get_or-map to_ascii_lowercase (take 9 s) k 0) ∙ ap (λ t. get_or t k 0) same in
    letter_is_plain (get_or s k 0) (ap ends_id here ∙ letters k low)

digits_are_plain : (s : List ℕ) → list_all is_hex_digit (digits_of s) ≡ true → (i : ℕ) → i < 32 → ends_id (slice_index s (hyphen_place i)) ≡ false
digits_are_plain s all i low =
    let at : get_or (digits_of s) i 0 ≡ slice_index s (hyphen_place i) = by_index_at 32 (λ i. slice_index s (hyphen_place i)) i 0 low in
    let long : length (digits_of s) ≡ 32 = by_index_length 32 (λ i. slice_index s (hyphen_place i)) in
    let hex : is_hex_digit (get_or (digits_of s) i 0) ≡ true =
    All-get_or (λ c. is_hex_digit c ≡ true) (digits_of s) i 0 (omega (arith, low, long)) (AllPass-from_list_all is_hex_digit (digits_of s) all) in
    digit_is_plain (slice_index s (hyphen_place i)) (ap is_hex_digit (sym at) ∙ hex)

-- each place is a hyphen's or a digit's
placed : (k : ℕ) → k < 36 → (is_hyphen_place k || (nat_lt (digit_place k) 32 && (hyphen_place (digit_place k) == k))) ≡ true
placed k low = agree_below_at (λ k. is_hyphen_place k || (nat_lt (digit_place k) 32 && (hyphen_place (digit_place k) == k))) (λ k. true) 36 k refl low

hyphens_are_plain : (s : List ℕ) → has_hyphens s ≡ true → (k : ℕ) → is_hyphen_place k ≡ true → ends_id (slice_index s k) ≡ false
unfolding is_blank
hyphens_are_plain s hyphens k here = let is : slice_index s k ≡ 45 = grind (arith, nat_tests) in ap ends_id is

hyphenated_is_plain : (s : List ℕ) → has_hyphens s ≡ true → list_all is_hex_digit (digits_of s) ≡ true
    → (k : ℕ) → k < 36 → ends_id (slice_index s k) ≡ false
hyphenated_is_plain s hyphens all k low =
    elim (or_cases _ _ (placed k low)) [
      | inl hyphen ↦ hyphens_are_plain s hyphens k hyphen
      | inr digit ↦
          let parts = and_parts _ _ digit in
          ap (λ j. ends_id (slice_index s j)) (sym (eqb-true _ _ parts.1)) ∙ digits_are_plain s all (digit_place k) (ltb-true _ _ parts.0)
    ]

-- a text that is a UUID begins with the prefix, and after it are hyphens and digits
parts_of : (s uuid : List ℕ) → parsed_urn s ≡ Some uuid
    → (has_urn_prefix s ≡ true) × (has_hyphens (drop 9 s) ≡ true) × (list_all is_hex_digit (digits_of (drop 9 s)) ≡ true)
parts_of s uuid e =
    let t = drop 9 s in
    let urn = given (length s == 45 && has_urn_prefix s) (parsed_hyphenated t) uuid e in
    let hyphenated = given (length t == 36 && has_hyphens t) (parsed_simple (digits_of t)) uuid urn.1 in
    let simple = given (length (digits_of t) == 32 && list_all is_hex_digit (digits_of t)) _ uuid hyphenated.1 in (
      (and_parts (length s == 45) (has_urn_prefix s) urn.0).1,
      (and_parts (length t == 36) (has_hyphens t) hyphenated.0).1,
      (and_parts (length (digits_of t) == 32) (list_all is_hex_digit (digits_of t)) simple.0).1,
    )

-- no byte of a UUID ends an id
uuid_is_plain : (s uuid : List ℕ) → parsed_urn s ≡ Some uuid → (k : ℕ) → k < 45 → ends_id (get_or s k 0) ≡ false
uuid_is_plain s uuid e k inside =
    let parts = parts_of s uuid e in
    elim (cases_lt k 9) [
      | inl before ↦ prefix_is_plain s parts.0 k before
      | inr after ↦
          let plain = hyphenated_is_plain (drop 9 s) parts.1 parts.2 (k - 9) (omega arith) in
          let at : 9 + (k - 9) ≡ k = omega arith in
          ap (λ j. ends_id (get_or s j 0)) (sym at) ∙ ap ends_id (sym (get_or-drop 9 s (k - 9) 0)) ∙ plain
    ]

key_when : (b : Bool) (key : List ℕ) → b ≡ true → (if b then Some key else None) ≡ Some key
key_when b key e = ap (λ c. if c then Some key else None) e

pub plain_key : (text uuid key : List ℕ) → length text ≡ 47 → get_or text 0 0 ≡ 60 → get_or text 46 0 ≡ 62
    → Some uuid ≡ parsed_urn (take 45 (drop 1 text)) → key ≡ 60 ∷ uuid → id_key text ≡ Some key
plain_key text uuid key long opens closes parsed is =
    let inner : inner_text text ≡ take 45 (drop 1 text) = ap (λ n. take (n - 2) (drop 1 text)) long in
    let urn : parsed_urn (inner_text text) ≡ Some uuid = ap parsed_urn inner ∙ sym parsed in
    let last : get_or text (length text - 1) 0 ≡ 62 = ap (λ n. get_or text (n - 1) 0) long ∙ closes in
    let plain = λ (k : ℕ) (inside : k < length (inner_text text)).
    uuid_is_plain (inner_text text) uuid urn k (omega (arith, inside, long, length-take (length text - 2) (drop 1 text), length-drop 1 text)) in
    let bare : bare_text text ≡ inner_text text = bare_is_inner text (omega arith) opens last plain in
    let id : is_bare_id (bare_text text) ≡ true = ap is_bare_id bare ∙ inner_is_id text (omega arith) plain in
    key_when (is_bare_id (bare_text text)) (key_of (bare_text text)) id
    ∙ ap (λ b. Some (key_of b)) bare ∙ ap (λ o. Some (key_by (inner_text text) o)) urn ∙ ap Some (sym is)
