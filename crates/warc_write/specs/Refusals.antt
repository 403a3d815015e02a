-- Refusals in the order of a table: the first row that fits decides. This project's own notion.
use Rattle.std.specs.Prelude.{Bool, Result, Ok, Err, if◌then◌else◌}

-- a row of the table: the refusal, unless its test passes
abbrev pub checks : {E : Type 0} → Bool → E → Result (Unit {0}) E
checks test fault = if test then Ok tt else Err fault
