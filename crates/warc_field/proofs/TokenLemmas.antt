-- Names and values are the tokens and field values of HTTP/1.1.
use Rattle.std.proofs.Common.{◌≡◌, ℕ, zero, suc, ◌<◌, ◌≤◌, Bool, true, false, ◌&&◌, ◌==◌, not, nat_lt, List, [], ◌∷◌, Option, None, Some, length, refl, sym, ap, ◌∙◌, arith, inl, inr}
use Rattle.std.specs.Prelude.{codes}
use Rattle.std.specs.Bool.{beq}
use Rattle.std.specs.List.{list_all, list_any, position, position_or_len}
use Rattle.std.proofs.lemmas.List.Sums.{position_or_len_is}
use Rattle.std.proofs.lemmas.Grind.{common_steps}
use Rattle.memchr.specs.Find.{IsFirstByte}
use Rattle.warc_field.proofs.LineLemmas.{not_true}
use Rattle.std.specs.Char.{is_ascii_alphanumeric}
use Rattle.std.proofs.lemmas.Bool.{cases_eq, cases_lt, and_parts}
use Rattle.httparse.specs.Grammar.{is_token_byte, is_token, is_value_byte as is_http_value_byte}
use Rattle.warc_field.specs.Text.{is_name_byte, is_name, is_value_byte}

-- the two tests agree below n
agree_below : (ℕ → Bool) → (ℕ → Bool) → ℕ → Bool
agree_below f g zero = true
agree_below f g (suc n) = beq (f n) (g n) && agree_below f g n

both_of : (x y rest : Bool) → (beq x y && rest) ≡ true → (x ≡ y) × (rest ≡ true)
both_of true true rest h = (refl, h)
both_of true false rest h = cc
both_of false true rest h = cc
both_of false false rest h = (refl, h)

agree_at : (f g : ℕ → Bool) (n : ℕ) → agree_below f g n ≡ true → (b : ℕ) → b < n → f b ≡ g b
unfolding agree_below
agree_at f g zero h b lt = absurd (omega arith)
agree_at f g (suc n) h b lt =
    let both = both_of (f n) (g n) (agree_below f g n) h in
    elim (cases_eq b n) [ inl same ↦ rw same both.0 | inr other ↦ agree_at f g n both.1 b (omega arith) ]

near_bytes : (b : ℕ) → b < 127 → is_token_byte b ≡ is_name_byte b
unfolding agree_below is_token_byte is_name_byte
near_bytes b near = agree_at is_token_byte is_name_byte 127 refl b near

far_names : (b : ℕ) → 127 ≤ b → is_name_byte b ≡ false
unfolding is_name_byte
far_names b far = grind arith

none_far : (b : ℕ) → 127 ≤ b → (cs : List ℕ) → list_all (λ c. nat_lt c 127) cs ≡ true → list_any (λ c. c == b) cs ≡ false
none_far b far [] near = refl
none_far b far (c ∷ cs) near =
    let both = and_parts (nat_lt c 127) (list_all (λ c. nat_lt c 127) cs) near in
    let other : (c == b) ≡ false = grind (arith, both.0) in
    rw (other, none_far b far cs both.1)

far_letters : (b : ℕ) → 127 ≤ b → is_ascii_alphanumeric b ≡ false
far_letters b far = grind arith

far_tokens : (b : ℕ) → 127 ≤ b → is_token_byte b ≡ false
unfolding is_token_byte
far_tokens b far = rw (far_letters b far, none_far b far (codes "!#$%&'*+-.^_`|~") refl)

same_bytes : (b : ℕ) → is_token_byte b ≡ is_name_byte b
same_bytes b = elim (cases_lt b 127) [ inl near ↦ near_bytes b near | inr far ↦ far_tokens b far ∙ sym (far_names b far) ]

same_runs : (f g : ℕ → Bool) → ((b : ℕ) → f b ≡ g b) → (text : List ℕ) → list_all f text ≡ list_all g text
same_runs f g same [] = refl
same_runs f g same (b ∷ bs) = rw (same b, same_runs f g same bs)

pub same_names : (text : List ℕ) → is_token text ≡ is_name text
unfolding is_name
same_names [] = refl
same_names (b ∷ bs) =
    let some : nat_lt 0 (length (b ∷ bs)) ≡ true = grind arith in
    let other : not (length (b ∷ bs) == 0) ≡ true = grind arith in
    ap (λ v. v && list_all is_token_byte (b ∷ bs)) some ∙ same_runs is_token_byte is_name_byte same_bytes (b ∷ bs) ∙ sym (ap (λ v. v && list_all is_name_byte (b ∷ bs)) other)

same_value_bytes : (b : ℕ) → is_http_value_byte b ≡ is_value_byte b
unfolding is_value_byte
same_value_bytes b = refl

pub same_values : (text : List ℕ) → list_all is_http_value_byte text ≡ list_all is_value_byte text
same_values = same_runs is_http_value_byte is_value_byte same_value_bytes

-- the first byte that a search finds
pub first_is_position : (test : ℕ → Bool) (text : List ℕ) (r : Option ℕ) → IsFirstByte test text r → r ≡ position test text
first_is_position test text None none =
    let at : position_or_len test text ≡ length text = position_or_len_is test text (length text) 0 (omega arith) (λ k lt. not_true _ (none k (omega arith) lt)) (λ lt. absurd (omega (arith, lt))) in
    grind (arith, common_steps, at)
first_is_position test text (Some k) first =
    let at : position_or_len test text ≡ k = position_or_len_is test text k 0 (omega (arith, first.0.high)) (λ j lt. not_true _ (first.0.before j (omega arith) lt)) (λ lt. first.1) in
    grind (arith, common_steps, at, first.0.high)
