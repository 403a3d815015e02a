-- Numbers, ids and digests as they are written: they are values, and read as what they are of.
use Rattle.std.proofs.Common.{rules, ◌≡◌, ℕ, zero, suc, ◌-◌, ◌*◌, ◌^◌, ◌<◌, ◌≤◌, ◌&&◌}
use Rattle.std.proofs.Common.{◌==◌, nat_lt, nat_le, Bool, true, false, not, List, [], ◌∷◌, ◌++◌, length}
use Rattle.std.proofs.Common.{length-append, take, drop, map, codes, All, decimal, Some, None}
use Rattle.std.proofs.Common.{refl, sym, ap, ◌∙◌, arith, eq-eqb, if◌then◌else◌}
use Rattle.std.specs.Prelude.{slice_index}
use Rattle.std.specs.List.{list_all, list_any, prefix_len, suffix_len}
use Rattle.std.specs.Str.{all_ascii_digits}
use Rattle.std.specs.Char.{is_ascii_digit}
use Rattle.std.specs.Int.Digits.{number_from_digits_after}
use Rattle.std.proofs.lemmas.Bool.{and_parts, and_from, lt-ltb, eqb-true}
use Rattle.std.proofs.lemmas.Bool.Decides.{nat_tests}
use Rattle.std.proofs.lemmas.Grind.{common_steps}
use Rattle.std.proofs.lemmas.Fmt.{decimal_nonempty, digits_decimal, digits_value-decimal}
use Rattle.std.proofs.lemmas.Str.Parse.{IsNumeralModel, numerals_by_fold, tells_all_ascii_digits}
use Rattle.std.proofs.lemmas.List.{get_or_push, take_all, take_at}
use Rattle.std.proofs.lemmas.List.Folds.{list_all-append}
use Rattle.std.specs.Int.{to_be_bytes, w32}
use Rattle.std.proofs.lemmas.List.Elements.{All-append, All-from_recursion}
use Rattle.sha1.specs.Sha1.{digest_bytes, sha1}
use Rattle.uuid.specs.Text.{by_index, hex_digit, hyphenated_text, is_hyphen_place, digit_place, lower, nibble}
use Rattle.uuid.specs.Text.{urn_text}
use Rattle.uuid.proofs.TextLemmas.{nibble_small}
use Rattle.warc_field.specs.Text.{is_blank, is_value, is_value_byte, trimmed}
use Rattle.warc_field.specs.Decimal.{number_of, decimal_of}
use Rattle.warc_field.proofs.VisibleLemmas.{visible_text_is_value}
use Rattle.warc_record.specs.Ids.{bare_text, ends_id, inner_text, is_bare_id, is_bracket, is_bracketed, is_id}

abbrev is_visible : ℕ → Bool
is_visible b = nat_lt 32 b && nat_lt b 127

-- ---- numbers

own : IsNumeralModel (λ ds. all_ascii_digits ds ≡ true) number_of
own = numerals_by_fold (λ ds. all_ascii_digits ds ≡ true) tells_all_ascii_digits (λ n ds. number_from_digits_after 10 n (map (λ c. c - 48) ds)) (search rules)

digits_are_visible : (text : List ℕ) → all_ascii_digits text ≡ true → list_all is_visible text ≡ true
digits_are_visible [] all = refl
digits_are_visible (c ∷ text) all =
    let both = and_parts _ _ all in
    and_from _ _ (digit_is_visible c both.0) (digits_are_visible text both.1)
  where
    digit_is_visible : (c : ℕ) → is_ascii_digit c ≡ true → is_visible c ≡ true
    digit_is_visible c e = grind (arith, common_steps)

pub decimal_is_value : (n : ℕ) → n < 2 ^ 64 → is_value (decimal n) ≡ true
decimal_is_value n fits = visible_text_is_value (decimal n) (digits_are_visible (decimal n) (digits_decimal own n fits))

pub decimal_is_read : (n : ℕ) → n ≤ 2 ^ 48 → decimal_of (decimal n) ≡ Some n
unfolding decimal_of
decimal_is_read n small =
    let fits : n < 2 ^ 64 = omega (arith, small) in
    let some : nat_lt 0 (length (decimal n)) ≡ true = lt-ltb _ _ (decimal_nonempty n fits) in
    let digits : all_ascii_digits (decimal n) ≡ true = digits_decimal own n fits in
    let value : number_of (decimal n) ≡ n = digits_value-decimal own n fits in
    rw (some, digits, value) (within n small)
  where
    within : (n : ℕ) → n ≤ 2 ^ 48 → (if true && true && nat_le n (2 ^ 48) then Some n else None) ≡ Some n
    within n small = let test : nat_le n (2 ^ 48) ≡ true = grind (arith, nat_tests) in rw test refl

-- ---- ids

-- a visible character that is no bracket
abbrev is_plain : ℕ → Bool
is_plain b = is_visible b && not (is_bracket b)

digit_is_plain : (d : ℕ) → d < 16 → is_plain (hex_digit lower d) ≡ true
digit_is_plain d small = grind (arith, nat_tests)

one_is_plain : (at : Bool) (d : ℕ) → d < 16 → is_plain (if at then 45 else hex_digit lower d) ≡ true
one_is_plain true d small = refl
one_is_plain false d small = digit_is_plain d small

all_by_index : (p : ℕ → Bool) (n : ℕ) (f : ℕ → ℕ) → ((k : ℕ) → p (f k) ≡ true) → list_all p (by_index n f) ≡ true
unfolding by_index
all_by_index p zero f each = refl
all_by_index p (suc n) f each =
    list_all-append p (by_index n f) (f n ∷ []) ∙ and_from _ _ (all_by_index p n f each) (and_from _ _ (each n) refl)

hyphenated_is_plain : (uuid : List ℕ) → list_all is_plain (hyphenated_text lower uuid) ≡ true
hyphenated_is_plain uuid =
    all_by_index is_plain 36 (λ k. if is_hyphen_place k then 45 else hex_digit lower (nibble uuid (digit_place k)))
    (λ k. one_is_plain (is_hyphen_place k) (nibble uuid (digit_place k)) (nibble_small uuid (digit_place k)))

urn_is_plain : (uuid : List ℕ) → list_all is_plain (urn_text lower uuid) ≡ true
urn_is_plain uuid = list_all-append is_plain (codes "urn:uuid:") (hyphenated_text lower uuid) ∙ and_from _ _ refl (hyphenated_is_plain uuid)

plain_is_visible : (text : List ℕ) → list_all is_plain text ≡ true → list_all is_visible text ≡ true
plain_is_visible [] all = refl
plain_is_visible (b ∷ text) all = let both = and_parts _ _ all in and_from _ _ (and_parts _ _ both.0).0 (plain_is_visible text both.1)

no_bracket : (text : List ℕ) → list_all is_plain text ≡ true → list_any is_bracket text ≡ false
no_bracket [] all = refl
no_bracket (b ∷ text) all =
    let both = and_parts _ _ all in
    let out : is_bracket b ≡ false = not_so (is_bracket b) (and_parts (is_visible b) (not (is_bracket b)) both.0).1 in
    rw (out, no_bracket text both.1) refl
  where
    not_so : (b : Bool) → not b ≡ true → b ≡ false
    not_so true e = sym e
    not_so false e = refl

plain_ends_none : (b : ℕ) → is_plain b ≡ true → ends_id b ≡ false
unfolding is_blank
plain_ends_none b e = grind (arith, nat_tests)

no_end : (text : List ℕ) → list_all is_plain text ≡ true → list_any ends_id text ≡ false
no_end [] all = refl
no_end (b ∷ text) all = let both = and_parts _ _ all in rw (plain_ends_none b both.0, no_end text both.1) refl

-- a value has no blanks to be cut
trimmed_value : (value : List ℕ) → is_value value ≡ true → trimmed value ≡ value
unfolding trimmed is_value
trimmed_value value is =
    let parts = and_parts (list_all is_value_byte value && (prefix_len is_blank value == 0)) (suffix_len is_blank value == 0) is in
    let front : prefix_len is_blank value ≡ 0 = eqb-true _ 0 (and_parts _ _ parts.0).1 in
    let back : suffix_len is_blank value ≡ 0 = eqb-true _ 0 parts.1 in
    ap (λ (n : ℕ). let t = drop n value in take (length t - suffix_len is_blank t) t) front
    ∙ take_all (length value - suffix_len is_blank value) value (omega (arith, back))

-- the text between the brackets
between : (text : List ℕ) → list_all is_plain text ≡ true → 0 < length text → bare_text (60 ∷ text ++ 62 ∷ []) ≡ text
unfolding bare_text
between text plain some =
    let whole = 60 ∷ text ++ 62 ∷ [] in
    let size = length-append text (62 ∷ []) in
    let inner : inner_text whole ≡ text = take_at text (62 ∷ []) (length whole - 2) (omega (arith, size)) in
    let long : nat_lt 1 (length whole) ≡ true = lt-ltb _ _ (omega (arith, size)) in
    let last : slice_index whole (length whole - 1) ≡ 62 = get_or_push (60 ∷ text) 62 0 (length whole - 1) (omega (arith, size)) in
    let bracketed : is_bracketed whole ≡ true =
    and_from _ _ (and_from _ _ (and_from _ _ long refl) (eq-eqb _ _ last)) (ap not (ap (list_any is_bracket) inner ∙ no_bracket text plain)) in
    ap (λ (b : Bool). trimmed (if b then inner_text whole else whole)) bracketed
    ∙ (ap trimmed inner ∙ trimmed_value text (visible_text_is_value text (plain_is_visible text plain)))

-- an id between brackets
abbrev id_text : List ℕ → List ℕ
id_text uuid = 60 ∷ urn_text lower uuid ++ 62 ∷ []

pub id_is_value : (uuid : List ℕ) → is_value (id_text uuid) ≡ true
id_is_value uuid =
    visible_text_is_value (id_text uuid) (list_all-append is_visible (60 ∷ urn_text lower uuid) (62 ∷ []) ∙ and_from _ _ (plain_is_visible (urn_text lower uuid) (urn_is_plain uuid)) refl)

pub id_is_bare : (uuid : List ℕ) → bare_text (id_text uuid) ≡ urn_text lower uuid
id_is_bare uuid = between (urn_text lower uuid) (urn_is_plain uuid) (omega (arith, length-append (codes "urn:uuid:") (hyphenated_text lower uuid)))

pub id_is_id : (uuid : List ℕ) → is_id (id_text uuid) ≡ true
unfolding is_bare_id by_index
id_is_id uuid = rw (id_is_bare uuid, no_end (urn_text lower uuid) (urn_is_plain uuid)) refl

-- ---- digests

four_bytes : (n : ℕ) → (length (to_be_bytes w32 n) ≡ 4) × All (λ b. b < 256) (to_be_bytes w32 n)
four_bytes n = (refl, All-from_recursion (λ b. b < 256) (to_be_bytes w32 n) (omega arith, (omega arith, (omega arith, (omega arith, tt)))))

digest_len : (h : List ℕ) (n : ℕ) → length (digest_bytes h n) ≡ 4 * n
unfolding digest_bytes
digest_len h zero = refl
digest_len h (suc n) =
    let word = to_be_bytes w32 (slice_index h n) in
    omega (arith, length-append (digest_bytes h n) word, (four_bytes (slice_index h n)).0, digest_len h n)

digest_fits : (h : List ℕ) (n : ℕ) → All (λ b. b < 256) (digest_bytes h n)
unfolding digest_bytes
digest_fits h zero = λ k d below. absurd (omega arith)
digest_fits h (suc n) = All-append (λ b. b < 256) (digest_bytes h n) (to_be_bytes w32 (slice_index h n)) (digest_fits h n) (four_bytes (slice_index h n)).1

pub sha1_len : (block : List ℕ) → length (sha1 block) ≡ 20
unfolding sha1
sha1_len block = digest_len _ 5

pub sha1_fits : (block : List ℕ) → All (λ b. b < 256) (sha1 block)
unfolding sha1
sha1_fits block = digest_fits _ 5
