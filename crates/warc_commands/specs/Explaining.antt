-- How `explain` ends.
use Rattle.std.specs.Prelude.{◌≡◌, ℕ, List, codes, Option, Some, None}
use Rattle.warc_arguments.specs.declared.status.Status.{Status}
use Rattle.warc_commands.specs.Devices.{Devices}
use Rattle.warc_commands.specs.Program.{IsShown}
use Rattle.warc_commands.specs.Words.{IsBadWord}

-- the lines went out as they are in the table, or the word is no number; in both cases nothing was read
abbrev pub ExplainEnds : Option (List ℕ) → Devices → Devices → Status → Type 0
ExplainEnds None old new status = IsBadWord (codes "bad number") old new status
ExplainEnds (Some text) old new status =
    (new.source ≡ old.source) × IsShown text old.out new.out old.err new.err status
