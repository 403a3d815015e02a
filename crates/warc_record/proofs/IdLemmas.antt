-- A text between brackets without a bracket, a space or a tab inside is an id.
use Rattle.std.proofs.Common.{◌≡◌, ℕ, ◌-◌, ◌<◌, ◌==◌, Bool, true, false, List, drop, take, length, get_or, if◌then◌else◌, refl, ap, ◌∙◌, arith}
use Rattle.std.proofs.lemmas.Bool.{eq-eqb, lt-ltb, ne_eqb, or_parts}
use Rattle.std.proofs.lemmas.List.{length-drop, length-take, take_all}
use Rattle.std.proofs.lemmas.List.Elements.{All-from_get_or}
use Rattle.std.proofs.lemmas.List.Folds.{list_any_none}
use Rattle.std.proofs.lemmas.List.Sums.{prefix_len_is, suffix_len_is}
use Rattle.std.specs.List.{list_any, prefix_len, suffix_len}
use Rattle.warc_field.specs.Text.{is_blank, trimmed}
use Rattle.warc_record.specs.Ids.{bare_text, ends_id, inner_text, is_bare_id, is_bracket, is_bracketed, is_id}

none_of : (kind : ℕ → Bool) (text : List ℕ) → ((k : ℕ) → k < length text → kind (get_or text k 0) ≡ false) → list_any kind text ≡ false
none_of kind text none = list_any_none kind text (All-from_get_or (λ b. kind b ≡ false) text 0 none)

uncut : (text : List ℕ) → ((k : ℕ) → k < length text → is_blank (get_or text k 0) ≡ false) → trimmed text ≡ text
unfolding trimmed
uncut text none =
    let front : prefix_len is_blank text ≡ 0 = prefix_len_is is_blank text 0 0 (omega arith) (λ k before. absurd (omega arith)) (λ some. none 0 some) in
    let back : suffix_len is_blank text ≡ length text - length text =
    suffix_len_is is_blank text (length text) 0 (omega arith) (λ k from to. absurd (omega arith)) (λ some. none (length text - 1) (omega arith)) in
    ap (λ n. let t = drop n text in take (length t - suffix_len is_blank t) t) front
    ∙ take_all (length text - suffix_len is_blank text) text (omega (arith, back))

-- no bracket and no blank is inside
apart : (inner : List ℕ) → ((k : ℕ) → k < length inner → ends_id (get_or inner k 0) ≡ false)
    → (k : ℕ) → k < length inner → (is_bracket (get_or inner k 0) ≡ false) × (is_blank (get_or inner k 0) ≡ false)
apart inner plain k inside = or_parts (is_bracket (get_or inner k 0)) (is_blank (get_or inner k 0)) (plain k inside)

pub bare_is_inner : (value : List ℕ) → 2 < length value → get_or value 0 0 ≡ 60 → get_or value (length value - 1) 0 ≡ 62
    → ((k : ℕ) → k < length (inner_text value) → ends_id (get_or (inner_text value) k 0) ≡ false) → bare_text value ≡ inner_text value
unfolding bare_text
bare_is_inner value some opens closes plain =
    let inner = inner_text value in
    let none : list_any is_bracket inner ≡ false = none_of is_bracket inner (λ k inside. (apart inner plain k inside).0) in
    let bracketed : is_bracketed value ≡ true =
    rw (lt-ltb 1 (length value) (omega arith), eq-eqb (get_or value 0 0) 60 opens, eq-eqb (get_or value (length value - 1) 0) 62 closes, none) refl in
    ap (λ b. trimmed (if b then inner else value)) bracketed ∙ uncut inner (λ k inside. (apart inner plain k inside).1)

pub inner_is_id : (value : List ℕ) → 2 < length value
    → ((k : ℕ) → k < length (inner_text value) → ends_id (get_or (inner_text value) k 0) ≡ false) → is_bare_id (inner_text value) ≡ true
unfolding is_bare_id
inner_is_id value some plain =
    let inner = inner_text value in
    let long : (length inner == 0) ≡ false = ne_eqb (length inner) 0 (λ e. omega (arith, e, length-take (length value - 2) (drop 1 value), length-drop 1 value)) in
    rw (long, none_of ends_id inner plain) refl

pub plain_id : (value : List ℕ) → 2 < length value → get_or value 0 0 ≡ 60 → get_or value (length value - 1) 0 ≡ 62
    → ((k : ℕ) → k < length (inner_text value) → ends_id (get_or (inner_text value) k 0) ≡ false) → is_id value ≡ true
plain_id value some opens closes plain = ap is_bare_id (bare_is_inner value some opens closes plain) ∙ inner_is_id value some plain
