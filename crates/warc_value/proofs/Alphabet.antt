-- What each byte means in base32, tried one by one.
use Rattle.std.proofs.Common.{◌≡◌, ℕ, zero, suc, ◌<◌, ◌≤◌, Bool, true, false, ◌&&◌, nat_eq, nat_le, get_or, Option, Some, None, refl, arith}
use Rattle.std.specs.Prelude.{unwrap_or}
use Rattle.std.proofs.lemmas.Bool.{eqb-true, leb-true}
use Rattle.std.proofs.lemmas.Grind.{common_steps}
use Rattle.warc_value.specs.Base32.{symbol_value}
use Rattle.warc_value.specs.declared.symbols.TheConstants.{VALUES}

-- a test passes each number below another one
abbrev pub all_below : (ℕ → Bool) → ℕ → Bool
all_below p zero = true
all_below p (suc n) = p n && all_below p n

pub passes_below : (p : ℕ → Bool) (n : ℕ) → all_below p n ≡ true → (i : ℕ) → i < n → p i ≡ true
passes_below p zero h i below = absurd (omega arith)
passes_below p (suc n) h i below = grind (arith, common_steps, passes_below p n)

-- none is 0, and a number is one more
abbrev pub code_of : Option ℕ → ℕ
code_of None = 0
code_of (Some n) = suc n

pub same_code : (a b : Option ℕ) → nat_eq (code_of a) (code_of b) ≡ true → a ≡ b
same_code a b h = grind (arith, common_steps)

pub symbol_value-table : (c : ℕ) → c < 256 → get_or VALUES c 0 ≡ unwrap_or (symbol_value c) 1_048_576
unfolding symbol_value
symbol_value-table c below = eqb-true _ _ (passes_below (λ c. nat_eq (get_or VALUES c 0) (unwrap_or (symbol_value c) 1_048_576)) 256 refl c below)

pub entry-most : (c : ℕ) → c < 256 → get_or VALUES c 0 ≤ 1_048_576
entry-most c below = leb-true _ _ (passes_below (λ c. nat_le (get_or VALUES c 0) 1_048_576) 256 refl c below)

-- both of two tests
pub both-left : (a b : Bool) → (a && b) ≡ true → a ≡ true
both-left true b e = refl
both-left false b e = e

pub both-right : (a b : Bool) → (a && b) ≡ true → b ≡ true
both-right true b e = e
both-right false b e = absurd (cc)
