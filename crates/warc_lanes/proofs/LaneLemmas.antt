-- What each lane of a vector is, after the operations of a round.
use Rattle.std.proofs.Common.{◌≡◌, ℕ, ◌<◌, zero, suc, List, [], ◌∷◌, length, map, slice_index, slice_index_or, arith, refl, ◌∙◌, sym, ap, ap₂}
use Rattle.std.proofs.lemmas.Simd.{get_or-zip2, length-zip2}
use Rattle.std.proofs.lemmas.List.{get_or-map, length-map}
use Rattle.std.specs.Simd.Lanes.{zip2}
use Rattle.std.proofs.Math.ListN.{get_or-map as get_or-map_default}
use Rattle.warc_lanes.specs.Lanes.{InEachLane, lane_of}

-- a lane of a vector is this word
pub record IsAt (vector : List ℕ) (lane word : ℕ) : Type 0 where
  pub four : length vector ≡ 4
  pub lane_is : slice_index vector lane ≡ word

pub at_itself : (xs : List ℕ) (j : ℕ) → length xs ≡ 4 → IsAt xs j (slice_index xs j)
at_itself xs j four = record { four = four; lane_is = refl }

pub at_zip : (f : ℕ → ℕ → ℕ) {xs ys : List ℕ} {j x y : ℕ} → j < 4 → IsAt xs j x → IsAt ys j y → IsAt (zip2 f xs ys) j (f x y)
at_zip f {xs} {ys} {j} below left right = record {
  four = length-zip2 f xs ys (left.four ∙ sym right.four) ∙ left.four;
  lane_is = get_or-zip2 f xs ys j 0 0 0 (omega arith) (omega arith) ∙ ap₂ f left.lane_is right.lane_is;
}

pub at_map : (f : ℕ → ℕ) {xs : List ℕ} {j x : ℕ} → j < 4 → IsAt xs j x → IsAt (map f xs) j (f x)
at_map f {xs} {j} below held = record {
  four = length-map xs f ∙ held.four;
  lane_is = get_or-map f xs j 0 0 (omega arith) ∙ ap f held.lane_is;
}

-- what holds of four lanes holds in each
pub of_lanes : (P : ℕ → Type 0) → P 0 → P 1 → P 2 → P 3 → InEachLane P
of_lanes P a b c d zero h = a
of_lanes P a b c d (suc zero) h = b
of_lanes P a b c d (suc (suc zero)) h = c
of_lanes P a b c d (suc (suc (suc zero))) h = d
of_lanes P a b c d (suc (suc (suc (suc n)))) h = absurd (omega arith)

pub at_splat : (x j : ℕ) → j < 4 → IsAt (x ∷ x ∷ x ∷ x ∷ []) j x
at_splat x j below = record { four = refl; lane_is = of_lanes (λ j. slice_index (x ∷ x ∷ x ∷ x ∷ []) j ≡ x) refl refl refl refl j below }

-- a word of a lane
pub word_of_lane : (j : ℕ) (vectors : List (List ℕ)) (k : ℕ) → slice_index (lane_of j vectors) k ≡ slice_index (slice_index_or vectors k []) j
word_of_lane j vectors k = get_or-map_default (λ (vector : List ℕ). slice_index vector j) vectors k []
