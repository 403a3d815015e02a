-- What the closure of a selection gives, and what is read for it. This project's own notion.
use Rattle.std.specs.Prelude.{ℕ, List, length, map, Result, IfErr, IfOk}
use Rattle.std.specs.declared.vec.Vec.{Vec}
use Rattle.warc_frame.specs.Effects.{FailsBy}
use Rattle.warc_frame.specs.Seen.{IfHeld, SeenSource}
use Rattle.warc_frame.specs.declared.fault.OutFault.{OutFault}
use Rattle.warc_index.specs.Orders.{Indexes}
use Rattle.warc_segment.specs.Joined.{ReadRecord}
use Rattle.warc_segment.specs.Kept.{Kept as Parts}
use Rattle.warc_answer.specs.Payloads.{read_record}
use Rattle.warc_answer.specs.Seen.{IsEarly}
use Rattle.warc_answer.specs.declared.answer.ReplayFault.TheVariants.{Out}
use Rattle.warc_reading.specs.Archive.{IsArchiveOf, contents}
use Rattle.warc_lookup.specs.Indexed.{AreOf, IsIndexedBy}
use Rattle.warc_reading.specs.Rereading.{ReadsHeads}
use Rattle.warc_reading.specs.Row.{Placed, Row}
use Rattle.warc_rewrite.specs.Closing.{AreWithNeeded, AreWithout}
use Rattle.warc_rewrite.specs.Selecting.{ArePositions}

-- the records of an archive, by what their heads say
abbrev pub records_read : List Placed → List ReadRecord
records_read records = map read_record (contents records)

-- Positions that are given of an archive of these rows, by an index and parts. Where its source holds the archive's
-- bytes they are right for its records. Of any source the heads alone are read, each at most once, and the positions
-- are such as a selection takes. A fault comes before anything is written
pub record GivesPositions {A : Type 0} (AreRight : List ReadRecord → List ℕ → Type 0) (rows : List Row)
    (index : Indexes) (parts : Parts) (old new : SeenSource) (answer : Result (Vec ℕ A) OutFault) : Type 0 where
  pub reported : IfHeld old.holds (λ bytes. (is : IsArchiveOf bytes rows) → AreOf is.are.records index parts
      → IfOk answer (λ given. AreRight (records_read is.are.records) given.items))
  pub are : IfOk answer (λ given. ArePositions (length rows) given.items)
  pub reads : ReadsHeads rows old new
  pub early : IfErr answer (λ e. IsEarly (Out e))
  pub fails : FailsBy (IsIndexedBy rows index parts) answer old new

-- the positions, and those of all that their records need
abbrev pub GivesNeeded : {A : Type 0} → List Row → Indexes → Parts → List ℕ → SeenSource → SeenSource
    → Result (Vec ℕ A) OutFault → Type 0
GivesNeeded rows index parts positions =
    GivesPositions (λ all given. AreWithNeeded all positions given) rows index parts

-- the positions of the records that need none of those at these positions
abbrev pub GivesOthers : {A : Type 0} → List Row → Indexes → Parts → List ℕ → SeenSource → SeenSource
    → Result (Vec ℕ A) OutFault → Type 0
GivesOthers rows index parts positions =
    GivesPositions (λ all given. AreWithout all positions given) rows index parts
