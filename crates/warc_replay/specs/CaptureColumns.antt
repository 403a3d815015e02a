-- The line of a capture in the three parts in which it is put: states of the code, which no public clause cites.
use Rattle.std.specs.Prelude.{ℕ, List, [], ◌∷◌, ◌++◌}
use Rattle.std.specs.List.{concat}

-- a column with the tab after it
abbrev pub tabbed : List ℕ → List ℕ
tabbed text = text ++ 9 ∷ []

-- two columns, and the front of the third
abbrev pub front_columns : (a b c : List ℕ) → List ℕ
front_columns a b c = concat (tabbed a ∷ tabbed b ∷ []) ++ c

-- the rest of the third column, and the next five
abbrev pub middle_columns : (d e f g h i : List ℕ) → List ℕ
middle_columns d e f g h i = concat (tabbed d ∷ tabbed e ∷ tabbed f ∷ tabbed g ∷ tabbed h ∷ tabbed i ∷ [])

-- a column in three parts, and the last one
abbrev pub end_columns : (j k l m : List ℕ) → List ℕ
end_columns j k l m = concat (j ∷ k ∷ []) ++ concat (tabbed l ∷ (m ++ 10 ∷ []) ∷ [])
