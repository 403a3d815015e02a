-- The first element that passes, looked for one by one.
use Rattle.std.proofs.Common.{◌≡◌, ℕ, ◌+◌, ◌<◌, Bool, true, false, cond, List, length, drop, find, get_or, Some, ap, ◌∙◌}
use Rattle.std.proofs.lemmas.List.{drop_more}

pub found_here : {X : Type 0} (test : X → Bool) (xs : List X) (i : ℕ) (d : X) → i < length xs → test (get_or xs i d) ≡ true
    → find test xs ≡ find test (drop i xs) → find test xs ≡ Some (get_or xs i d)
found_here test xs i d lt hit left =
    left ∙ ap (find test) (drop_more xs i d lt)
    ∙ ap (λ b. cond b (Some (get_or xs i d)) (find test (drop (i + 1) xs))) hit

pub missed_here : {X : Type 0} (test : X → Bool) (xs : List X) (i : ℕ) (d : X) → i < length xs → test (get_or xs i d) ≡ false
    → find test xs ≡ find test (drop i xs) → find test xs ≡ find test (drop (i + 1) xs)
missed_here test xs i d lt miss left =
    left ∙ ap (find test) (drop_more xs i d lt)
    ∙ ap (λ b. cond b (Some (get_or xs i d)) (find test (drop (i + 1) xs))) miss
