-- What a search for one of two bytes finds.
use Rattle.std.proofs.Common.{◌≡◌, ℕ, zero, suc, ◌<◌, Bool, true, false, ◌||◌, List, [], ◌∷◌, Option, None, Some, length, refl, sym, ap, ◌∙◌, arith}
use Rattle.std.specs.Prelude.{is_some, slice_index}
use Rattle.std.specs.List.{list_any}
use Rattle.memchr.specs.Find.{IsFirstByte, is_byte2}
use Rattle.warc_field.specs.Text.{is_blank}
use Rattle.warc_record.specs.Ids.{is_bracket, ends_id}

or_apart : (x y p q : Bool) → ((x || p) || (y || q)) ≡ ((x || y) || (p || q))
or_apart true true p q = refl
or_apart true false p q = refl
or_apart false true true q = refl
or_apart false true false q = refl
or_apart false false p q = refl

-- a bracket or a blank, one after the other
ends_by_either : (text : List ℕ) → (list_any is_bracket text || list_any is_blank text) ≡ list_any ends_id text
ends_by_either [] = refl
ends_by_either (b ∷ bs) =
    or_apart (is_bracket b) (is_blank b) (list_any is_bracket bs) (list_any is_blank bs)
    ∙ ap (λ rest. (is_bracket b || is_blank b) || rest) (ends_by_either bs)

pub ends_by_bracket : (text : List ℕ) (r : Bool) → r ≡ list_any is_bracket text → r ≡ true → r ≡ list_any ends_id text
ends_by_bracket text r is hit = hit ∙ sym (sym (ends_by_either text) ∙ ap (λ a. a || list_any is_blank text) (sym is ∙ hit))

pub ends_by_blank : (text : List ℕ) (r s : Bool) → r ≡ list_any is_bracket text → r ≡ false → s ≡ list_any is_blank text → s ≡ list_any ends_id text
ends_by_blank text r s is miss blank = blank ∙ sym (sym (ends_by_either text) ∙ ap (λ a. a || list_any is_blank text) (sym is ∙ miss))

not_true : (x : Bool) → (x ≡ true → ⊥) → x ≡ false
not_true true never = absurd (never refl)
not_true false never = refl

none_any : (test : ℕ → Bool) (text : List ℕ) → ((k : ℕ) → k < length text → test (slice_index text k) ≡ true → ⊥) → list_any test text ≡ false
none_any test [] never = refl
none_any test (b ∷ bs) never = rw (not_true (test b) (never 0 (omega arith)), none_any test bs (λ k lt. never (suc k) (omega (arith, lt)))) refl

or_right : (x y : Bool) → y ≡ true → (x || y) ≡ true
or_right true y hit = refl
or_right false y hit = hit

some_any : (test : ℕ → Bool) (text : List ℕ) (k : ℕ) → k < length text → test (slice_index text k) ≡ true → list_any test text ≡ true
some_any test [] k lt hit = absurd (omega (arith, lt))
some_any test (b ∷ bs) zero lt hit = rw hit refl
some_any test (b ∷ bs) (suc k) lt hit = or_right (test b) (list_any test bs) (some_any test bs k (omega (arith, lt)) hit)

found_any : (test : ℕ → Bool) (text : List ℕ) (found : Option ℕ) → IsFirstByte test text found → is_some found ≡ list_any test text
found_any test text None none = sym (none_any test text (λ k lt. none k (omega arith) lt))
found_any test text (Some k) first = sym (some_any test text k (omega (arith, first.0.high)) first.1)

pub bracket_found : (text : List ℕ) (found : Option ℕ) → IsFirstByte (is_byte2 60 62) text found → is_some found ≡ list_any is_bracket text
bracket_found text found first = found_any is_bracket text found first

pub blank_found : (text : List ℕ) (found : Option ℕ) → IsFirstByte (is_byte2 32 9) text found → is_some found ≡ list_any is_blank text
unfolding is_blank
blank_found text found first = found_any (is_byte2 32 9) text found first
