-- That split records join again (ISO 28500:2017, 7: the block of a segmented record is its segments' blocks, joined).
use Rattle.std.specs.Prelude.{◌≡◌, ℕ, false, List, [], ◌∷◌, map, Ok}
use Rattle.std.specs.List.{AllByRecursion}
use Rattle.warc_frame.specs.Record.{Record}
use Rattle.warc_record.specs.Good.{IsGood}
use Rattle.warc_record.specs.Readings.{reading_of}
use Rattle.warc_segment.specs.Joined.{ReadRecord, joined_block}
use Rattle.warc_record.specs.Blocks.{has_bad_digest}
use Rattle.warc_write.specs.Splitting.{split_of}

-- what a record's head says, and its block
abbrev pub read_of : Record → ReadRecord
read_of r = record { head = reading_of r.fields; block = r.block }

-- in a list of just these records, the joined block of the first is this one
abbrev pub JoinsTo : List ℕ → List Record → Type 0
JoinsTo block [] = ⊥
JoinsTo block (first ∷ more) = joined_block (map read_of (first ∷ more)) (read_of first) ≡ Ok block

-- no record's block has another digest than the one that it states
abbrev pub NoBadDigest : List Record → Type 0
NoBadDigest records = AllByRecursion (λ r. has_bad_digest r ≡ false) records

-- they join to this block, and none has a bad digest
abbrev pub Join : List ℕ → List Record → Type 0
Join block records = JoinsTo block records × NoBadDigest records

-- the records that a good record is split into join to its block, and none has a bad digest
abbrev pub SplitJoins : Type 0
SplitJoins =
    (r : Record) (n : ℕ) (records : List Record) → IsGood r → split_of r n ≡ Ok records
    → Join r.block records
