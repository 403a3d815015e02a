-- What giving a verdict on a record's block answers, and what it reads of the source. This project's own notion.
use Rattle.std.specs.Prelude.{◌≡◌, ◌↔◌, ℕ, List, slice_get, Option, Some, None, IsSome, Result, Ok, Err}
use Rattle.std.specs.Option.{option_to_list}
use Rattle.warc_value.specs.declared.hash.Verdict.{Verdict}
use Rattle.warc_frame.specs.Effects.{FailsBy}
use Rattle.warc_frame.specs.Seen.{IfHeld, SeenSource}
use Rattle.warc_reading.specs.Archive.{IsArchiveOf}
use Rattle.warc_reading.specs.Judging.{verdict_on}
use Rattle.warc_reading.specs.Rereading.{ReadsRows}
use Rattle.warc_reading.specs.Row.{Placed, Row}
use Rattle.warc_judged.specs.Fixity.{stated_on}
use Rattle.warc_replay.specs.Taking.{take_result}
use Rattle.warc_replay.specs.declared.fault.TakeFault.{TakeFault}
use Rattle.warc_replay.specs.declared.fault.TakeFault.TheVariants.{NoRecord, Read, Memory}

-- the verdict on the record that is there, or that there is none; where there is one, a read or a request for memory
-- may fail
abbrev pub IsVerdictBy : (Placed → Verdict) → Option Placed → Result Verdict TakeFault → Type 0
IsVerdictBy on found (Ok verdict) = (p : Placed) × (found ≡ Some p) × (verdict ≡ on p)
IsVerdictBy on found (Err NoRecord) = found ≡ None
IsVerdictBy on found (Err Read) = IsSome found
IsVerdictBy on found (Err Memory) = IsSome found

-- that on its block, by the digest that its head asks for
abbrev pub IsVerdictTaken : Option Placed → Result Verdict TakeFault → Type 0
IsVerdictTaken = IsVerdictBy verdict_on

-- by the digest that its head states, whatever the algorithm
abbrev pub IsStatedTaken : Option Placed → Result Verdict TakeFault → Type 0
IsStatedTaken = IsVerdictBy stated_on

-- Giving a verdict on the record at a position of an archive of these rows. Where its source holds the archive's bytes
-- it is that on the record that they spell. Of any source its head and its block alone are read. That there is no
-- record is reported exactly where there is no row, and then nothing is read
pub record GivesVerdictBy (on : Placed → Verdict) (rows : List Row) (position : ℕ) (old new : SeenSource)
    (answer : Result Verdict TakeFault) : Type 0 where
  pub taken : IfHeld old.holds (λ bytes. (is : IsArchiveOf bytes rows)
      → IsVerdictBy on (slice_get is.are.records position) answer)
  pub absent : (answer ≡ Err NoRecord) ↔ (slice_get rows position ≡ None)
  pub reads : ReadsRows (option_to_list (slice_get rows position)) old new
  pub fails : FailsBy (λ bytes. IsArchiveOf bytes rows) (take_result answer) old new

-- that on its block, by the digest that its head asks for
abbrev pub GivesVerdict : List Row → ℕ → SeenSource → SeenSource → Result Verdict TakeFault → Type 0
GivesVerdict = GivesVerdictBy verdict_on

-- by the digest that its head states, whatever the algorithm
abbrev pub GivesStated : List Row → ℕ → SeenSource → SeenSource → Result Verdict TakeFault → Type 0
GivesStated = GivesVerdictBy stated_on
