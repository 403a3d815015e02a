-- The number that a shell sees of how a run ends.
use Rattle.std.specs.Prelude.{ℕ}
use Rattle.warc_arguments.specs.declared.status.Status.{Status}
use Rattle.warc_arguments.specs.declared.status.Status.TheVariants.{Done, Found, Refused, Failed, Unchecked}

-- the exit status of the program
abbrev pub code_of : Status → ℕ
code_of Done = 0
code_of Found = 1
code_of Refused = 2
code_of Failed = 3
code_of Unchecked = 4
