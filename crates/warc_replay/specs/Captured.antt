-- An archive whose blocks were judged as they were read, as one value, and what it says of the bytes of its source.
use Rattle.std.specs.Prelude.{◌≡◌, ℕ, List, map}
use Rattle.warc_value.specs.declared.hash.Verdict.{Verdict}
use Rattle.warc_lookup.specs.Indexed.{Archived, IsIndexed}
use Rattle.warc_reading.specs.Judging.{verdict_on}
use Rattle.warc_reading.specs.Row.{Placed}

-- these are the verdicts on the blocks of records, by the digests that their heads ask for
abbrev pub AreVerdictsOf : List Verdict → List Placed → Type 0
AreVerdictsOf verdicts records = verdicts ≡ map verdict_on records

-- an archive, and the verdict on the block of each record
pub record Captured (S : Type 0) : Type 0 where
  pub archive : Archived S
  pub verdicts : List Verdict

-- an archive of these bytes, and the verdicts on the blocks of its records
pub record IsCaptured {S : Type 0} (bytes : List ℕ) (captured : Captured S) : Type 0 where
  pub indexed : IsIndexed bytes captured.archive
  pub verdicts_are : AreVerdictsOf captured.verdicts indexed.listed.are.records
