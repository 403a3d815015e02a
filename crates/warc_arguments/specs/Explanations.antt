-- What the program explains: the table of its numbers.
use Rattle.std.specs.Prelude.{List, find, map, Option, option_map}
use Rattle.std.specs.Str.{str_eq_ignore_ascii_case}
use Rattle.clap.specs.Walk.{Text}
use Rattle.warc_arguments.specs.declared.numbers.TheConstants.{EXPLANATIONS}

-- the program's table: each number with its lines
unfoldable pub explanations : List (Text × Text)
explanations = map (λ e. (e.0.now, e.1.now)) EXPLANATIONS

-- the lines of the table for a number, in any case
unfoldable pub explained : Text → Option Text
explained number = option_map (λ e. e.1) (find (λ e. str_eq_ignore_ascii_case e.0 number) explanations)
