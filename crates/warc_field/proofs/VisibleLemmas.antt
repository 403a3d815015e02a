-- A text of visible characters is a value.
use Rattle.std.proofs.Common.{◌≡◌, ℕ, ◌&&◌, ◌==◌, nat_lt, Bool, true, false, List, [], ◌∷◌, refl, ap, ◌∙◌, arith}
use Rattle.std.specs.Prelude.{reverse}
use Rattle.std.specs.List.{list_all, prefix_len}
use Rattle.std.proofs.lemmas.Bool.{and_parts, and_from}
use Rattle.std.proofs.lemmas.Bool.Decides.{nat_tests}
use Rattle.std.proofs.lemmas.List.{reverse-append}
use Rattle.std.proofs.lemmas.List.Folds.{list_all-append}
use Rattle.warc_field.specs.Text.{is_blank, is_value_byte, is_value}

abbrev is_visible : ℕ → Bool
is_visible b = nat_lt 32 b && nat_lt b 127

may_occur : (b : ℕ) → is_visible b ≡ true → is_value_byte b ≡ true
unfolding is_value_byte
may_occur b e = grind (arith, nat_tests)

no_blank : (b : ℕ) → is_visible b ≡ true → is_blank b ≡ false
unfolding is_blank
no_blank b e = grind (arith, nat_tests)

may_all_remain : (text : List ℕ) → list_all is_visible text ≡ true → list_all is_value_byte text ≡ true
may_all_remain [] all = refl
may_all_remain (b ∷ text) all = let both = and_parts _ _ all in and_from _ _ (may_occur b both.0) (may_all_remain text both.1)

begins_so : (text : List ℕ) → list_all is_visible text ≡ true → prefix_len is_blank text ≡ 0
begins_so [] all = refl
begins_so (b ∷ text) all = rw (no_blank b (and_parts _ _ all).0) refl

reversed : (text : List ℕ) → list_all is_visible text ≡ true → list_all is_visible (reverse text) ≡ true
reversed [] all = refl
reversed (b ∷ text) all =
    let both = and_parts _ _ all in
    ap (list_all is_visible) (reverse-append (b ∷ []) text)
    ∙ list_all-append is_visible (reverse text) (b ∷ []) ∙ and_from _ _ (reversed text both.1) (and_from _ _ both.0 refl)

pub visible_text_is_value : (text : List ℕ) → list_all (λ b. nat_lt 32 b && nat_lt b 127) text ≡ true → is_value text ≡ true
unfolding is_value
visible_text_is_value text all =
    and_from _ _ (and_from _ _ (may_all_remain text all) (ap (λ n. n == 0) (begins_so text all)))
    (ap (λ n. n == 0) (begins_so (reverse text) (reversed text all)))
