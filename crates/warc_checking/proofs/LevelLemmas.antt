-- Four levels in a byte, and one of them raised.
use Rattle.std.proofs.Common.{ℕ, zero, suc, ◌+◌, ◌*◌, ◌%◌, ◌^◌, ◌<◌, ◌≤◌, arith}
use Rattle.warc_checking.specs.UsedIds.{level_in}

at_place : (P : ℕ → Type 0) → P 0 → P 1 → P 2 → P 3 → (place : ℕ) → place < 4 → P place
at_place P p0 p1 p2 p3 zero lt = p0
at_place P p0 p1 p2 p3 (suc zero) lt = p1
at_place P p0 p1 p2 p3 (suc (suc zero)) lt = p2
at_place P p0 p1 p2 p3 (suc (suc (suc zero))) lt = p3
at_place P p0 p1 p2 p3 (suc (suc (suc (suc place)))) lt = absurd (omega (arith, lt))

-- a byte with a level raised is a byte
pub raised_fits : (levels place : ℕ) → place < 4 → levels < 256 → level_in levels place < 2 → levels + 1 * 2 ^ (2 * place) % 256 < 256
unfolding level_in
raised_fits x place lt fits = at_place (λ i. level_in x i < 2 → x + 1 * 2 ^ (2 * i) % 256 < 256)
    (λ low. omega (arith, low, fits)) (λ low. omega (arith, low, fits)) (λ low. omega (arith, low, fits)) (λ low. omega (arith, low, fits)) place lt

-- the level that is raised
pub raised_by_one : (levels place : ℕ) → place < 4 → level_in levels place < 2
    → level_in levels place < level_in (levels + 1 * 2 ^ (2 * place) % 256) place
unfolding level_in
raised_by_one x place lt = at_place (λ i. level_in x i < 2 → level_in x i < level_in (x + 1 * 2 ^ (2 * i) % 256) i)
    (λ low. omega (arith, low)) (λ low. omega (arith, low)) (λ low. omega (arith, low)) (λ low. omega (arith, low)) place lt

-- no level falls
module _ (x : ℕ) where
  abbrev IsNoLess : ℕ → ℕ → Type 0
  IsNoLess i other = level_in x i < 2 → level_in x other ≤ level_in (x + 1 * 2 ^ (2 * i) % 256) other

  no_less_at_0 : (other : ℕ) → other < 4 → IsNoLess 0 other
  unfolding level_in
  no_less_at_0 = at_place (IsNoLess 0) (λ low. omega (arith, low)) (λ low. omega (arith, low)) (λ low. omega (arith, low)) (λ low. omega (arith, low))

  no_less_at_1 : (other : ℕ) → other < 4 → IsNoLess 1 other
  unfolding level_in
  no_less_at_1 = at_place (IsNoLess 1) (λ low. omega (arith, low)) (λ low. omega (arith, low)) (λ low. omega (arith, low)) (λ low. omega (arith, low))

  no_less_at_2 : (other : ℕ) → other < 4 → IsNoLess 2 other
  unfolding level_in
  no_less_at_2 = at_place (IsNoLess 2) (λ low. omega (arith, low)) (λ low. omega (arith, low)) (λ low. omega (arith, low)) (λ low. omega (arith, low))

  no_less_at_3 : (other : ℕ) → other < 4 → IsNoLess 3 other
  unfolding level_in
  no_less_at_3 = at_place (IsNoLess 3) (λ low. omega (arith, low)) (λ low. omega (arith, low)) (λ low. omega (arith, low)) (λ low. omega (arith, low))

  pub no_less : (place other : ℕ) → place < 4 → other < 4 → level_in x place < 2 → level_in x other ≤ level_in (x + 1 * 2 ^ (2 * place) % 256) other
  no_less place other lt within = at_place (λ i. IsNoLess i other) (no_less_at_0 other within) (no_less_at_1 other within) (no_less_at_2 other within)
      (no_less_at_3 other within) place lt
