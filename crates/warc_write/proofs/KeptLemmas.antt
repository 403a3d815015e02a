-- What is kept of a head in its first segment says what it said, but for the length.
use Rattle.std.proofs.Common.{◌≡◌, inl, inr, ℕ, ◌+◌, Bool, true, false, cond, List, [], ◌∷◌, ◌++◌}
use Rattle.std.proofs.Common.{find, codes, decimal}
use Rattle.std.proofs.Common.{Option, Some, None, option_map, refl, sym, ap, ◌∙◌, true≢false, zero-add, if◌then◌else◌}
use Rattle.std.proofs.lemmas.Bool.{cases_Bool}
use Rattle.std.proofs.lemmas.List.Sums.{sum_by-cons}
use Rattle.warc_field.specs.Text.{same}
use Rattle.warc_field.specs.Area.{Pair, first_value, count_of}
use Rattle.warc_frame.specs.Names.{content_length}
use Rattle.warc_write.specs.Splitting.{kept, with_len}
use Rattle.warc_write.proofs.ConversionLemmas.{same_goes_on}

abbrev digest_name : List ℕ
digest_name = codes "WARC-Block-Digest"

skipped : (len : ℕ) (field : Pair) (fields : List Pair) → same field.0 digest_name ≡ true → kept len (field ∷ fields) ≡ kept len fields
skipped len field fields is = rw is refl

stays : (len : ℕ) (field : Pair) (fields : List Pair) → same field.0 digest_name ≡ false → kept len (field ∷ fields) ≡ with_len len field ∷ kept len fields
stays len field fields is = rw is refl

abbrev by_test : ℕ → Bool → Pair → Pair
by_test len b field = if b then (field.0, decimal len) else field

name_stays : (len : ℕ) (b : Bool) (field : Pair) → (by_test len b field).0 ≡ field.0
name_stays len true field = refl
name_stays len false field = refl

-- a field of another name than that of a length
other_stays : (len : ℕ) (name : List ℕ) (field : Pair) → same content_length name ≡ false → same field.0 name ≡ true → with_len len field ≡ field
other_stays len name field other hit = elim (cases_Bool (same field.0 content_length)) [
  | inr not_len ↦ ap (λ (b : Bool). by_test len b field) not_len
  | inl is_len ↦ absurd (true≢false (sym hit ∙ (same_goes_on field.0 content_length name is_len ∙ other)))
]

-- where a digest is skipped, no other name is
not_skipped : (name : List ℕ) (field : Pair) → same digest_name name ≡ false → same field.0 digest_name ≡ true → same field.0 name ≡ false
not_skipped name field other is = same_goes_on field.0 digest_name name is ∙ other

abbrev value_of : Option Pair → Option (List ℕ)
value_of found = option_map (λ (field : Pair). field.1) found

pub first_hit : (name : List ℕ) (field : Pair) (fields : List Pair) → same field.0 name ≡ true → first_value name (field ∷ fields) ≡ Some field.1
first_hit name field fields hit = ap (λ (b : Bool). value_of (cond b (Some field) (find (λ (f : Pair). same f.0 name) fields))) hit

pub first_miss : (name : List ℕ) (field : Pair) (fields : List Pair) → same field.0 name ≡ false → first_value name (field ∷ fields) ≡ first_value name fields
first_miss name field fields miss = ap (λ (b : Bool). value_of (cond b (Some field) (find (λ (f : Pair). same f.0 name) fields))) miss

count_cons : (name : List ℕ) (field : Pair) (fields : List Pair) → count_of name (field ∷ fields) ≡ cond (same field.0 name) 1 0 + count_of name fields
count_cons name field fields = sum_by-cons (λ (f : Pair). cond (same f.0 name) 1 0) field fields

still : (len : ℕ) (name : List ℕ) (field : Pair) → same (with_len len field).0 name ≡ same field.0 name
still len name field = ap (λ (n : List ℕ). same n name) (name_stays len (same field.0 content_length) field)

pub kept_first : (len : ℕ) (name : List ℕ) (fields : List Pair) → same digest_name name ≡ false → same content_length name ≡ false
    → first_value name (kept len fields) ≡ first_value name fields
kept_first len name [] digest other = refl
kept_first len name (field ∷ fields) digest other = elim (cases_Bool (same field.0 digest_name)) [
  | inl is ↦
      ap (first_value name) (skipped len field fields is)
      ∙ (kept_first len name fields digest other ∙ sym (first_miss name field fields (not_skipped name field digest is)))
  | inr is ↦ ap (first_value name) (stays len field fields is) ∙ by_name (kept_first len name fields digest other)
]
  where
    by_name : first_value name (kept len fields) ≡ first_value name fields → first_value name (with_len len field ∷ kept len fields) ≡ first_value name (field ∷ fields)
    by_name rest = elim (cases_Bool (same field.0 name)) [
      | inl hit ↦
          first_hit name (with_len len field) (kept len fields) (still len name field ∙ hit)
          ∙ (ap (λ (f : Pair). Some f.1) (other_stays len name field other hit) ∙ sym (first_hit name field fields hit))
      | inr miss ↦
          first_miss name (with_len len field) (kept len fields) (still len name field ∙ miss)
          ∙ (rest ∙ sym (first_miss name field fields miss))
    ]

pub kept_count : (len : ℕ) (name : List ℕ) (fields : List Pair) → same digest_name name ≡ false → count_of name (kept len fields) ≡ count_of name fields
kept_count len name [] digest = refl
kept_count len name (field ∷ fields) digest = elim (cases_Bool (same field.0 digest_name)) [
  | inl is ↦
      ap (count_of name) (skipped len field fields is)
      ∙ (kept_count len name fields digest
      ∙ sym (count_cons name field fields ∙ ap (λ (b : Bool). cond b 1 0 + count_of name fields) (not_skipped name field digest is) ∙ zero-add (count_of name fields)))
  | inr is ↦
      ap (count_of name) (stays len field fields is)
      ∙ (count_cons name (with_len len field) (kept len fields)
      ∙ (ap (λ (b : Bool). cond b 1 0 + count_of name (kept len fields)) (still len name field)
      ∙ (ap (λ (n : ℕ). cond (same field.0 name) 1 0 + n) (kept_count len name fields digest) ∙ sym (count_cons name field fields))))
]

-- the length is the segment's, where there was one
pub kept_len_first : (len : ℕ) (fields : List Pair) → first_value content_length (kept len fields) ≡ option_map (λ value. decimal len) (first_value content_length fields)
kept_len_first len [] = refl
kept_len_first len (field ∷ fields) = elim (cases_Bool (same field.0 digest_name)) [
  | inl is ↦
      ap (first_value content_length) (skipped len field fields is)
      ∙ (kept_len_first len fields
      ∙ sym (ap (option_map (λ value. decimal len)) (first_miss content_length field fields (not_skipped content_length field refl is))))
  | inr is ↦ ap (first_value content_length) (stays len field fields is) ∙ by_name (kept_len_first len fields)
]
  where
    by_name : first_value content_length (kept len fields) ≡ option_map (λ value. decimal len) (first_value content_length fields)
        → first_value content_length (with_len len field ∷ kept len fields) ≡ option_map (λ value. decimal len) (first_value content_length (field ∷ fields))
    by_name rest = elim (cases_Bool (same field.0 content_length)) [
      | inl hit ↦
          first_hit content_length (with_len len field) (kept len fields) (still len content_length field ∙ hit)
          ∙ (ap (λ (b : Bool). Some (by_test len b field).1) hit
          ∙ sym (ap (option_map (λ value. decimal len)) (first_hit content_length field fields hit)))
      | inr miss ↦
          first_miss content_length (with_len len field) (kept len fields) (still len content_length field ∙ miss)
          ∙ (rest ∙ sym (ap (option_map (λ value. decimal len)) (first_miss content_length field fields miss)))
    ]

-- fields of other names after them change nothing
pub first_after : (name : List ℕ) (fields more : List Pair) → first_value name more ≡ None → first_value name (fields ++ more) ≡ first_value name fields
first_after name [] more none = none
first_after name (field ∷ fields) more none = elim (cases_Bool (same field.0 name)) [
  | inl hit ↦ first_hit name field (fields ++ more) hit ∙ sym (first_hit name field fields hit)
  | inr miss ↦ first_miss name field (fields ++ more) miss ∙ (first_after name fields more none ∙ sym (first_miss name field fields miss))
]

pub count_after : (name : List ℕ) (fields more : List Pair) → count_of name more ≡ 0 → count_of name (fields ++ more) ≡ count_of name fields
count_after name [] more none = none
count_after name (field ∷ fields) more none =
    count_cons name field (fields ++ more)
    ∙ (ap (λ (n : ℕ). cond (same field.0 name) 1 0 + n) (count_after name fields more none) ∙ sym (count_cons name field fields))

-- no block digest is kept
pub no_digest_kept : (len : ℕ) (fields : List Pair) → first_value digest_name (kept len fields) ≡ None
no_digest_kept len [] = refl
no_digest_kept len (field ∷ fields) = elim (cases_Bool (same field.0 digest_name)) [
  | inl is ↦ ap (first_value digest_name) (skipped len field fields is) ∙ no_digest_kept len fields
  | inr is ↦
      ap (first_value digest_name) (stays len field fields is)
      ∙ (first_miss digest_name (with_len len field) (kept len fields) (still len digest_name field ∙ is)
      ∙ no_digest_kept len fields)
]
