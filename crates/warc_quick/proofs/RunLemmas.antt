-- From what sixteen bytes show to how far bytes of one kind go on.
use Rattle.std.proofs.Common.{◌≡◌, ℕ, ◌+◌, ◌-◌, ◌%◌, ◌^◌, ◌<◌, ◌≤◌, ◌==◌, eqb, Bool, true, false, not, cond, List, map, length, get_or, take, drop, take-append-drop, get_or-take, Fits, w8, sym, ap, ◌∙◌, subst, arith, inl, inr}
use Rattle.std.proofs.lemmas.Bool.{agree_below, agree_below_at, cases_lt, cond-false, cond-true, eq-eqb, eqb-true, ne_eqb, not-false, not-true}
use Rattle.std.proofs.lemmas.List.{length-map, length-take, length-drop, drop-drop}
use Rattle.std.proofs.lemmas.List.Elements.{All-from_get_or}
use Rattle.std.proofs.lemmas.List.Folds.{prefix_len-append}
use Rattle.std.proofs.lemmas.List.Sums.{list_all-from_AllPass, prefix_len-le-length, prefix_len_is, prefix_len_passes, prefix_len_stops}
use Rattle.std.proofs.lemmas.Simd.{map-map, mask_l-mod, length-chunk, get_or-chunk, first_set_mask_l}
use Rattle.std.specs.Int.{trailing_zeros, w64}
use Rattle.std.specs.List.{list_all, prefix_len}
use lib.Lanes.{chunk, mask_l, top}
use Rattle.warc_record.specs.Ids.{ends_id}

-- a mask of the lanes that stop, and the bytes before the first of them
module _ (kind : ℕ → Bool) (f : ℕ → ℕ) (text : List ℕ) (at n r : ℕ) (z : List ℕ) (few : n ≤ 64) (room : at + n ≤ length text)
    (fits : (k : ℕ) → Fits w8 (get_or text k 0))
    (found : r ≡ cond (eqb (mask_l (map (top 7) z) % 2 ^ 64) 0) n (trailing_zeros w64 (mask_l (map (top 7) z) % 2 ^ 64)))
    (lanes : z ≡ map f (chunk at n text)) where
  abbrev goes_on : ℕ → Bool
  goes_on b = not (top 7 (f b))

  long : length (chunk at n text) ≡ n
  long = length-chunk at n text room

  counted : r ≡ prefix_len goes_on (chunk at n text)
  counted =
      let v = chunk at n text in
      let stops = λ (b : ℕ). top 7 (f b) in
      let mask = ap (λ l. mask_l l % 2 ^ 64) (ap (map (top 7)) lanes ∙ map-map (top 7) f v) ∙ mask_l-mod (map stops v) 64 (omega (arith, length-map v stops, long)) in
      found ∙ ap (λ m. cond (eqb m 0) n (trailing_zeros w64 m)) mask ∙ first_set_mask_l stops v n long few

  pub run_is : agree_below goes_on kind 256 ≡ true → r ≡ prefix_len kind (chunk at n text)
  run_is all =
      let v = chunk at n text in
      let same : (k : ℕ) → k < length v → goes_on (get_or v k 0) ≡ kind (get_or v k 0) = λ k inside.
      let there = get_or-chunk at n text k 0 (omega (arith, long)) in
      agree_below_at goes_on kind 256 (get_or v k 0) all (subst (λ b. b < 256) (sym there) (fits (at + k)).fits) in
      let most = prefix_len-le-length kind v in
      counted
      ∙ prefix_len_is goes_on v (prefix_len kind v) 0 most
      (λ k before. same k (omega (arith, most)) ∙ prefix_len_passes kind v k 0 before)
      (λ inside. same (prefix_len kind v) inside ∙ prefix_len_stops kind v 0 inside)

-- the first n bytes, and then the rest
cut : (kind : ℕ → Bool) (text : List ℕ) (n : ℕ) → n ≤ length text
    → prefix_len kind text ≡ cond (eqb (prefix_len kind (take n text)) n) (n + prefix_len kind (drop n text)) (prefix_len kind (take n text))
cut kind text n room =
    let size : length (take n text) ≡ n = omega (arith, length-take n text) in
    ap (prefix_len kind) (sym (take-append-drop n text)) ∙ prefix_len-append kind (take n text) (drop n text)
    ∙ ap (λ k. cond (eqb (prefix_len kind (take n text)) k) (k + prefix_len kind (drop n text)) (prefix_len kind (take n text))) size

pub run_ends : (kind : ℕ → Bool) (text : List ℕ) (at n r : ℕ) → at + n ≤ length text → r ≡ prefix_len kind (take n (drop at text)) → r < n
    → prefix_len kind (drop at text) ≡ r
run_ends kind text at n r room is short =
    cut kind (drop at text) n (omega (arith, length-drop at text))
    ∙ cond-false _ _ _ (ne_eqb (prefix_len kind (take n (drop at text))) n (λ e. omega (arith, is, e))) ∙ sym is

pub run_goes_on : (kind : ℕ → Bool) (text : List ℕ) (at n r : ℕ) → at + n ≤ length text → r ≡ prefix_len kind (take n (drop at text)) → n ≤ r
    → prefix_len kind (drop at text) ≡ n + prefix_len kind (drop (at + n) text)
run_goes_on kind text at n r room is whole =
    let v = take n (drop at text) in
    let size : length v ≡ n = omega (arith, length-take n (drop at text), length-drop at text) in
    let all : prefix_len kind v ≡ n = omega (arith, is, whole, size, prefix_len-le-length kind v) in
    cut kind (drop at text) n (omega (arith, length-drop at text)) ∙ cond-true _ _ _ (eq-eqb _ _ all)
    ∙ ap (λ xs. n + prefix_len kind xs) (drop-drop n at text)

-- the bytes before the place where a kind ends are of the kind
pub run_is_all : (kind : ℕ → Bool) (text : List ℕ) (n : ℕ) → n ≡ prefix_len kind text → list_all kind (take n text) ≡ true
run_is_all kind text n is =
    list_all-from_AllPass kind (take n text) (All-from_get_or (λ b. kind b ≡ true) (take n text) 0 (λ k inside.
    let before : k < n = omega (arith, length-take n text) in
    ap kind (get_or-take n text k 0 before) ∙ prefix_len_passes kind text k 0 (omega (arith, is))))

-- where fewer than n are of the kind, the next one isn't
run_stops : (kind : ℕ → Bool) (text : List ℕ) (at n r : ℕ) → at + n ≤ length text → r ≡ prefix_len kind (take n (drop at text)) → r < n
    → kind (get_or text (at + r) 0) ≡ false
run_stops kind text at n r room is short =
    let v = take n (drop at text) in
    let size : length v ≡ n = omega (arith, length-take n (drop at text), length-drop at text) in
    ap kind (sym (get_or-chunk at n text r 0 short) ∙ ap (λ k. get_or v k 0) is) ∙ prefix_len_stops kind v 0 (omega (arith, size, is))

pub colon_found : (text : List ℕ) (at n r : ℕ) → at + n ≤ length text → r ≡ prefix_len (λ b. not (b == 58)) (take n (drop at text)) → r < n
    → (at + r < length text) × (get_or text (at + r) 0 ≡ 58)
colon_found text at n r room is short =
    (omega arith, eqb-true (get_or text (at + r) 0) 58 (not-false _ (run_stops (λ b. not (b == 58)) text at n r room is short)))

-- where all n are of the kind, each of them is
run_passes : (kind : ℕ → Bool) (text : List ℕ) (at n r : ℕ) → r ≡ prefix_len kind (take n (drop at text)) → n ≤ r
    → (k : ℕ) → at ≤ k → k < at + n → kind (get_or text k 0) ≡ true
run_passes kind text at n r is whole k from to =
    let v = take n (drop at text) in
    let back : k ≡ at + (k - at) = omega arith in
    ap kind (ap (λ i. get_or text i 0) back ∙ sym (get_or-chunk at n text (k - at) 0 (omega arith)))
    ∙ prefix_len_passes kind v (k - at) 0 (omega (arith, is))

-- no byte before a place ends an id, and none of the next n
pub none_more : (text : List ℕ) (seen at n r : ℕ) → ((k : ℕ) → k < seen → ends_id (get_or text k 0) ≡ false) → at ≤ seen
    → r ≡ prefix_len (λ b. not (ends_id b)) (take n (drop at text)) → n ≤ r
    → (k : ℕ) → k < at + n → ends_id (get_or text k 0) ≡ false
none_more text seen at n r none near is whole k to = elim (cases_lt k seen) [
  | inl before ↦ none k before
  | inr after ↦ not-true _ (run_passes (λ b. not (ends_id b)) text at n r is whole k (omega arith) to)
]
