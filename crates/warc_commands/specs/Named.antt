-- Which positions the lines of a list name. This project's own notion.
use Rattle.std.specs.Prelude.{◌≡◌, ℕ, ◌+◌, ◌||◌, ◌&&◌, ◌==◌, not, Bool, List, length, map, is_none, Option, Some, None, Result, Ok, Err, Vec, option_map, ⊤}
use Rattle.std.specs.List.{before_first, filter_map, position}
use Rattle.bstr.specs.Text.{lines_of, without_terminator}
use Rattle.warc_commands.specs.Words.{position_of}
use Rattle.warc_commands.specs.declared.lists.ListFault.{ListFault}
use Rattle.warc_commands.specs.declared.lists.ListFault.TheVariants.{Line, Memory}

-- a tab or a space, which ends a position
abbrev pub is_gap : ℕ → Bool
is_gap byte = byte == 9 || byte == 32

-- the lines of a list, without the LF at the end of each and a CR directly before it
abbrev pub list_lines : List ℕ → List (List ℕ)
list_lines list = map without_terminator (lines_of list)

-- the position at the beginning of a line
unfoldable pub position_in : List ℕ → Option ℕ
position_in line = position_of (before_first is_gap line)

-- a line that neither is empty nor begins with a position
unfoldable pub is_bad_line : List ℕ → Bool
is_bad_line line = not (length line == 0) && is_none (position_in line)

-- the number of the first bad line, from 1 on, if there is one
abbrev pub bad_line : List ℕ → Option ℕ
bad_line list = option_map (λ i. i + 1) (position is_bad_line (list_lines list))

-- the positions that lines name, in the order of the lines
abbrev pub positions_in : List ℕ → List ℕ
positions_in list = filter_map position_in (list_lines list)

-- what reading a list answers
abbrev pub Names : {A : Type 0} → List ℕ → Result (Vec ℕ A) ListFault → Type 0
Names list (Ok positions) = (bad_line list ≡ None) × (positions.items ≡ positions_in list)
Names list (Err (Line number)) = bad_line list ≡ Some number
Names list (Err Memory) = ⊤
