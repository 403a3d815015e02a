-- The first element that passes, looked for one by one.
use Rattle.std.proofs.Common.{◌≡◌, ℕ, ◌+◌, ◌<◌, Bool, true, false, cond, Bor, List, [], ◌∷◌, length, drop, find, get_or, map, Option, Some, option_map, refl, ap, ◌∙◌}
use Rattle.std.specs.Str.{str_eq_ignore_ascii_case}
use Rattle.std.proofs.lemmas.List.{drop_more}

pub hit_here : {X : Type 0} (test : X → Bool) (xs : List X) (i : ℕ) (d : X) → i < length xs → test (get_or xs i d) ≡ true
    → find test xs ≡ find test (drop i xs) → find test xs ≡ Some (get_or xs i d)
hit_here test xs i d lt hit left =
    left ∙ ap (find test) (drop_more xs i d lt)
    ∙ ap (λ b. cond b (Some (get_or xs i d)) (find test (drop (i + 1) xs))) hit

pub passed_here : {X : Type 0} (test : X → Bool) (xs : List X) (i : ℕ) (d : X) → i < length xs → test (get_or xs i d) ≡ false
    → find test xs ≡ find test (drop i xs) → find test xs ≡ find test (drop (i + 1) xs)
passed_here test xs i d lt miss left =
    left ∙ ap (find test) (drop_more xs i d lt)
    ∙ ap (λ b. cond b (Some (get_or xs i d)) (find test (drop (i + 1) xs))) miss

-- what is found in a table is found in what is seen of it
abbrev Held : Type 0
Held = Bor (List ℕ) × Bor (List ℕ)

abbrev Pair : Type 0
Pair = List ℕ × List ℕ

abbrev held_lines : Option Held → Option (List ℕ)
held_lines o = option_map (λ (e : Held). e.1.now) o

abbrev lines : Option Pair → Option (List ℕ)
lines o = option_map (λ (e : Pair). e.1) o

by_test : (x : Held) (o : Option Held) (p : Option Pair) (b : Bool) → held_lines o ≡ lines p → held_lines (cond b (Some x) o) ≡ lines (cond b (Some (x.0.now, x.1.now)) p)
by_test x o p true same = refl
by_test x o p false same = same

pub found_seen : (xs : List Held) (number : List ℕ)
    → held_lines (find (λ (e : Held). str_eq_ignore_ascii_case e.0.now number) xs)
    ≡ lines (find (λ (e : Pair). str_eq_ignore_ascii_case e.0 number) (map (λ (e : Held). (e.0.now, e.1.now)) xs))
found_seen [] number = refl
found_seen (x ∷ xs) number = by_test x _ _ (str_eq_ignore_ascii_case x.0.now number) (found_seen xs number)
