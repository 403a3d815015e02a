-- Unfolding and trimming make no text longer.
use Rattle.std.proofs.Common.{ℕ, ◌+◌, ◌-◌, ◌≤◌, ⊎_elim, Bool, true, false, List, [], ◌∷◌, ◌++◌, length, drop, if◌then◌else◌, length-append, length-drop, length-take, ap, arith}
use Rattle.std.specs.List.{flat_map, prefix_len, suffix_len}
use Rattle.warc_field.specs.Lines.{begins_blank, continued, crlf, in_front, is_crlf, joined_parts, parts, unfolded}
use Rattle.warc_field.specs.Text.{is_blank, trimmed}
use Rattle.warc_field.proofs.LineLemmas.{parts-crlf, parts-more, parts-nil, parts-one, true_or_false}

-- the bytes of parts, and two for each
abbrev weight : List (List ℕ) → ℕ
weight [] = 0
weight (p ∷ ps) = length p + 2 + weight ps

in_front_weight : (b : ℕ) (ps : List (List ℕ)) → weight (in_front b ps) ≤ weight ps + 1
in_front_weight b [] = omega arith
in_front_weight b (p ∷ ps) = omega arith

parts_weight : (t : List ℕ) → weight (parts t) ≤ length t + 2
parts_weight [] = rw parts-nil (omega arith)
parts_weight (b ∷ []) = rw (parts-one b) (omega arith)
parts_weight (b ∷ c ∷ bs) =
    ⊎_elim
    (λ is. omega (arith, ap weight (parts-crlf b c bs is), parts_weight bs))
    (λ no. omega (arith, ap weight (parts-more b c bs no), in_front_weight b (parts (c ∷ bs)), parts_weight (c ∷ bs)))
    (true_or_false (is_crlf b c))

continued_by : (blank : Bool) (p : List ℕ) (n : ℕ) → length (if blank then 32 ∷ drop n p else crlf ++ p) ≤ length p + 2
continued_by true p n = omega (arith, length-drop n p)
continued_by false p n = omega arith

later_weight : (ps : List (List ℕ)) → length (flat_map continued ps) ≤ weight ps
later_weight [] = omega arith
later_weight (p ∷ ps) =
    omega (arith, continued_by (begins_blank p) p (prefix_len is_blank p), later_weight ps, length-append (continued p) (flat_map continued ps))

joined_weight : (ps : List (List ℕ)) (n : ℕ) → weight ps ≤ n + 2 → length (joined_parts ps) ≤ n
joined_weight [] n le = omega arith
joined_weight (p ∷ ps) n le = omega (arith, le, later_weight ps, length-append p (flat_map continued ps))

pub unfolded_len : (t : List ℕ) → length (unfolded t) ≤ length t
unfolding unfolded
unfolded_len t = joined_weight (parts t) (length t) (parts_weight t)

pub trimmed_len : (t : List ℕ) → length (trimmed t) ≤ length t
unfolding trimmed
trimmed_len t =
    let front = prefix_len is_blank t in
    let rest = drop front t in
    omega (arith, length-drop front t, length-take (length rest - suffix_len is_blank rest) rest)
