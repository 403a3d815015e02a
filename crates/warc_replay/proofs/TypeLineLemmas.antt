-- The `Content-Type` among the lines of a head.
use Rattle.std.specs.Prelude.{IfSome, option_and_then, option_map, unwrap_or}
use Rattle.std.proofs.Common.{◌≡◌, cond, ℕ, suc, ◌+◌, ◌<◌, ◌≤◌, Bool, true, false, not, ◌&&◌, ◌==◌, List, [], ◌∷◌, Option, Some, None, Result, Ok, Err, length, length-append, length-take, take, drop, get_or, get_or-take, get_or-drop, refl, sym, ap, ◌∙◌, arith, inl, inr}
use Rattle.std.specs.Borrow.{Bor}
use Rattle.std.specs.Option.{option_or}
use Rattle.std.specs.List.{position}
use Rattle.std.specs.Char.{to_ascii_lowercase}
use Rattle.std.proofs.Math.Seq.{get_or-append_seam, take-append_seam}
use Rattle.std.proofs.lemmas.Bool.{cases_lt, eqb-true, ne_eqb}
use Rattle.std.proofs.lemmas.List.{get_or_past, length-map}
use Rattle.std.proofs.lemmas.Slice.Eq.{bytes_eq-Decides}
use Rattle.memchr.specs.Find.{IsFirstByte, is_byte}
use Rattle.warc_field.specs.Area.{Pair, area_of, field_at, field_of, fields_of, field_then, first_value, is_colon, value_of}
use Rattle.warc_field.specs.Lines.{begins_blank, crlf_at, ends_at, lines}
use Rattle.warc_field.specs.Text.{is_blank, lower, same, trimmed}
use Rattle.warc_field.proofs.AreaLemmas.{fields_of-line, fields_of-end}
use Rattle.warc_field.proofs.LineLemmas.{begins_blank-get, crlf_at-drop, lines-first, lines-nil, not_true, parts-none, unfolded-none}
use Rattle.warc_field.proofs.SpellLemmas.{and-false, field-is}
use Rattle.warc_field.proofs.TextLemmas.{value_of-means_value}
use Rattle.warc_frame.specs.Names.{content_type, warc_segment_number}
use Rattle.warc_replay.specs.TypeLines.{IsUnsegmentedType, KeepsType, LeavesType, found_text}

-- ---- the end of the first line

no_feed : (t : List ℕ) (k : ℕ) → (get_or t (suc k) 0 ≡ 10 → ⊥) → crlf_at t k ≡ false
no_feed t k other = rw (ne_eqb (get_or t (suc k) 0) 10 other) (and-false (get_or t k 0 == 13))

module _ (t : List ℕ) (n : ℕ) (found : IsFirstByte (is_byte 10) t (Some (suc n))) where
  before : (k : ℕ) → k < suc n → get_or t k 0 ≡ 10 → ⊥
  before k low is = found.0.before k (omega arith) low (rw is refl)

  pub cut_here : (more : List ℕ) → get_or t n 0 ≡ 13 → more ≡ drop (suc (suc n)) t → begins_blank more ≡ false → lines t ≡ take n t ∷ lines more
  cut_here more return same blank =
      let next : is_blank (get_or t (suc (suc n)) 0) ≡ false =
      ap is_blank (ap (λ i. get_or t i 0) (omega arith) ∙ sym (get_or-drop (suc (suc n)) t 0 0)) ∙ sym (begins_blank-get (drop (suc (suc n)) t)) ∙ ap begins_blank (sym same) ∙ blank in
      let here : ends_at t n ≡ true = rw (return, eqb-true (get_or t (suc n) 0) 10 found.1, next) refl in
      lines-first t n here (λ k low. ap (λ b. b && not (is_blank (get_or t (suc (suc k)) 0))) (no_feed t k (before (suc k) (omega (arith, low)))))
      ∙ ap (λ m. take n t ∷ lines m) (sym same)

  pub flat_front : (k : ℕ) → crlf_at (take n t) k ≡ false
  flat_front k = no_feed (take n t) k (λ is. elim (cases_lt (suc k) n) [
    | inl low ↦ before (suc k) (omega (arith, low)) (sym (get_or-take n t (suc k) 0 low) ∙ is)
    | inr high ↦
        let none : get_or (take n t) (suc k) 0 ≡ 0 = get_or_past (take n t) (suc k) 0 (omega (arith, high, length-take n t)) in
        absurd (omega (arith, none, is))
  ])

-- ---- names

same_length : (a b : List ℕ) → same a b ≡ true → length a ≡ length b
same_length a b is =
    let low : lower a ≡ lower b = (bytes_eq-Decides (lower a) (lower b)).0 is in
    sym (length-map a to_ascii_lowercase) ∙ ap length low ∙ length-map b to_ascii_lowercase

module _ (line name : List ℕ) (field : Pair) (is : field_of line ≡ Some field) where
  other : (same field.0 name ≡ true → ⊥) → same field.0 name ≡ false
  other no_ = not_true (same field.0 name) no_

  pub too_short : length line ≤ length name → same field.0 name ≡ false
  too_short short = other (λ hit.
      let (rest, named, value, whole) = field-is line field is in
      let size : length line ≡ length field.0 + suc (length rest) = ap length whole ∙ length-append field.0 (58 ∷ rest) in
      omega (arith, short, size, same_length field.0 name hit))

  pub no_colon : (get_or line (length name) 0 ≡ 58 → ⊥) → same field.0 name ≡ false
  no_colon not_there = other (λ hit.
      let (rest, named, value, whole) = field-is line field is in
      not_there (ap (λ k. get_or line k 0) (sym (same_length field.0 name hit)) ∙ ap (λ t. get_or t (length field.0) 0) whole ∙ get_or-append_seam field.0 58 rest 0))

  pub other_name : (lower (take (length name) line) ≡ lower name → ⊥) → same field.0 name ≡ false
  other_name differ = other (λ hit.
      let (rest, named, value, whole) = field-is line field is in
      let front : take (length name) line ≡ field.0 = ap (λ k. take k line) (sym (same_length field.0 name hit)) ∙ ap (take (length field.0)) whole ∙ take-append_seam field.0 (58 ∷ rest) in
      differ (ap lower front ∙ (bytes_eq-Decides (lower field.0) (lower name)).0 hit))

pub same_from : (a b : List ℕ) → lower a ≡ lower b → same a b ≡ true
same_from a b low = (bytes_eq-Decides (lower a) (lower b)).1 low

-- ---- the value of a line

cond_some_of : {A : Type 0} (b : Bool) (o : Option A) (x : A) → cond b o None ≡ Some x → (b ≡ true) × (o ≡ Some x)
cond_some_of true o x h = (refl, h)
cond_some_of false o x h = absurd cc

option_map_some : {A B : Type 0} (f : A → B) (o : Option A) (y : B) → option_map f o ≡ Some y → (x : A) × (o ≡ Some x) × (f x ≡ y)
option_map_some f None y h = absurd cc
option_map_some f (Some x) y h = (x, refl, cc)

plain_value : (rest v : List ℕ) → ((k : ℕ) → crlf_at rest k ≡ false) → value_of rest ≡ Some v → v ≡ trimmed rest
plain_value rest v flat is = sym (value_of-means_value rest v is).text ∙ ap trimmed (unfolded-none rest (parts-none rest flat))

pub field_here : (line : List ℕ) (k : ℕ) (field : Pair) → position is_colon line ≡ Some k → ((i : ℕ) → crlf_at line i ≡ false) → field_of line ≡ Some field
    → field ≡ (take k line, trimmed (drop (k + 1) line))
unfolding field_of
field_here line k field at flat is =
    let here : field_at line k ≡ Some field = ap (option_and_then (field_at line)) (sym at) ∙ is in
    let named = cond_some_of _ _ _ here in
    let value = option_map_some _ _ _ named.1 in
    let text : value.0 ≡ trimmed (drop (k + 1) line) = plain_value (drop (k + 1) line) value.0 (λ i. crlf_at-drop line (k + 1) i ∙ flat (k + 1 + i)) value.1 in
    sym value.2 ∙ ap (λ v. let f : Pair = (take k line, v) in f) text

-- ---- the first field of a name

pub first_other : (name : List ℕ) (field : Pair) (later : List Pair) → same field.0 name ≡ false → first_value name (field ∷ later) ≡ first_value name later
first_other name field later is = rw is refl

pub first_this : (name : List ℕ) (field : Pair) (later : List Pair) → same field.0 name ≡ true → first_value name (field ∷ later) ≡ Some field.1
first_this name field later is = rw is refl

pub keeps_none : (line : List ℕ) (found : Option (Bor (List ℕ))) (result : Option (Option (Bor (List ℕ)))) → found ≡ None
    → ((field : Pair) → field_of line ≡ Some field → same field.0 warc_segment_number ≡ false)
    → IfSome result (λ after. (field : Pair) (later : List Pair) → field_of line ≡ Some field
    → first_value content_type (field ∷ later) ≡ option_or (found_text after) (first_value content_type later))
    → IfSome result (KeepsType line found)
keeps_none line found None is other has = tt
keeps_none line found (Some after) is other has = record {
  type_is = λ field later at. ap (λ f. option_or (found_text f) (first_value content_type (field ∷ later))) is ∙ has field later at;
  segment_is = λ field later at. first_other warc_segment_number field later (other field at);
}

-- ---- line by line

field_then-ok : (at : ℕ) (o : Option Pair) (r : Result (List Pair) ℕ) (fields : List Pair) → field_then at o r ≡ Ok fields → (f : Pair) × (fs : List Pair) × (o ≡ Some f) × (r ≡ Ok fs) × (f ∷ fs ≡ fields)
field_then-ok at None r fields h = cc
field_then-ok at (Some f) (Ok fs) fields h = (f, fs, refl, refl, cc)
field_then-ok at (Some f) (Err a) fields h = cc

pub begun : (fields : List Pair) (area : List ℕ) → area_of area ≡ Ok fields → LeavesType fields area None
begun fields area is = record { at = 0; later = fields; reads = is; type_is = refl; segment_is = refl }

pub read_on : (fields : List Pair) (rest line more : List ℕ) (found after : Option (Bor (List ℕ))) → lines rest ≡ line ∷ lines more → KeepsType line found after → LeavesType fields rest found
    → LeavesType fields more after
read_on fields rest line more found after cut keeps left =
    let (field, later, is, next, whole) = field_then-ok left.at (field_of line) _ left.later (sym (fields_of-line left.at line more) ∙ ap (fields_of left.at) (sym cut) ∙ left.reads) in
    record {
      at = left.at + length line + 2;
      later = later;
      reads = next;
      type_is = left.type_is ∙ ap (λ fs. option_or (found_text found) (first_value content_type fs)) (sym whole) ∙ keeps.type_is field later is;
      segment_is = left.segment_is ∙ ap (first_value warc_segment_number) (sym whole) ∙ keeps.segment_is field later is;
    }

none_left : (fields : List Pair) (rest : List ℕ) (found : Option (Bor (List ℕ))) (left : LeavesType fields rest found) → length rest ≡ 0 → left.later ≡ []
none_left fields [] found left size =
    let same : ◌≡◌ {A = Result (List Pair) ℕ} (Ok []) (Ok left.later) = sym (ap (fields_of left.at) lines-nil ∙ fields_of-end left.at) ∙ left.reads in
    let e : [] ≡ left.later = cc in
    sym e
none_left fields (b ∷ bs) found left size = absurd (omega (arith, size))

or_none : (o : Option (List ℕ)) → option_or o None ≡ o
or_none None = refl
or_none (Some x) = refl

pub all_read : (fields : List Pair) (rest : List ℕ) (found : Option (Bor (List ℕ))) (value : List ℕ) (empty : Bool) → LeavesType fields rest found → empty ≡ (length rest == 0) → empty ≡ true
    → unwrap_or (found_text found) [] ≡ value → IsUnsegmentedType fields value
all_read fields rest found value empty left size is text =
    let none = none_left fields rest found left (eqb-true (length rest) 0 (sym size ∙ is)) in
    record {
      type_is = ap (λ o. unwrap_or o []) (left.type_is ∙ ap (λ fs. option_or (found_text found) (first_value content_type fs)) none ∙ or_none (found_text found)) ∙ text;
      unsegmented = left.segment_is ∙ ap (first_value warc_segment_number) none;
    }
