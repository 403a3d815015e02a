-- The pieces of a block, one after another, are the block.
use Rattle.std.proofs.Common.{◌≡◌, ℕ, zero, suc, ◌+◌, ◌-◌, ◌*◌, ◌/◌, ◌<◌, ◌≤◌, List, ◌++◌, length, drop}
use Rattle.std.proofs.Common.{sum_by, sym, ap, ◌∙◌, arith, take-append-drop, drop-drop, div-add-mod', div-le_self}
use Rattle.std.specs.List.{flat_map, range_with_len}
use Rattle.std.proofs.lemmas.Nat.{le-div, mod_below}
use Rattle.std.proofs.lemmas.List.{drop_all}
use Rattle.std.proofs.lemmas.List.Concat.{length-flat_map}
use Rattle.warc_write.specs.Splitting.{segment_count, piece_at}

pub pieces_joined : (n : ℕ) (block : List ℕ) (a c end : ℕ) → end ≡ a + c → length block ≤ end * n
    → flat_map (piece_at n block) (range_with_len a c) ≡ drop (a * n) block
pieces_joined n block a zero end is enough =
    let last : end ≡ a = omega arith in
    let same : end * n ≡ a * n = ap (λ k. k * n) last in
    sym (drop_all (a * n) block (omega (arith, same, enough)))
pieces_joined n block a (suc c) end is enough =
    let next : a * n + n ≡ (a + 1) * n = omega arith in
    let rest : flat_map (piece_at n block) (range_with_len (a + 1) c) ≡ drop (a * n + n) block =
    pieces_joined n block (a + 1) c end (omega arith) enough ∙ ap (λ k. drop k block) (sym next) in
    ap (λ l. piece_at n block a ++ l) (rest ∙ sym (drop-drop n (a * n) block)) ∙ take-append-drop n (drop (a * n) block)

pub sizes_joined : (n : ℕ) (block : List ℕ) (a c end : ℕ) → end ≡ a + c → length block ≤ end * n
    → sum_by (λ k. length (piece_at n block k)) (range_with_len a c) ≡ length (drop (a * n) block)
sizes_joined n block a c end is enough =
    sym (length-flat_map (piece_at n block) (range_with_len a c)) ∙ ap length (pieces_joined n block a c end is enough)

-- ---- how many

pub count_enough : (n len : ℕ) → 0 < n → len ≤ segment_count n len * n
count_enough n len some =
    let whole = div-add-mod' (len - 1) n in
    let rest = mod_below (len - 1) n some in
    let next : ((len - 1) / n + 1) * n ≡ (len - 1) / n * n + n = omega arith in
    omega (arith, whole, rest, next)

pub count_two : (n len : ℕ) → 0 < n → n < len → 2 ≤ segment_count n len
count_two n len some long =
    let one : 1 ≤ (len - 1) / n = le-div 1 (len - 1) n some (omega (arith, long)) in
    omega (arith, one)

pub count_small : (n len : ℕ) → 0 < n → 0 < len → segment_count n len ≤ len
count_small n len some long = let below = div-le_self (len - 1) n in omega (arith, below, long)
