-- How the blocks of an archive compare with the digests that their heads state, and the lines that say so. This
-- project's own notion.
use Rattle.std.specs.Prelude.{◌≡◌, ℕ, List, [], ◌∷◌, ◌++◌, length, map, slice_get, unwrap_or, codes, decimal}
use Rattle.std.specs.List.{enumerate_from, flat_map, join_with_byte}
use Rattle.warc_field.specs.Area.{Pair, value_or_empty}
use Rattle.warc_value.specs.declared.hash.Verdict.{Verdict}
use Rattle.warc_value.specs.declared.hash.Verdict.TheVariants.{Good, Bad, Unchecked}
use Rattle.warc_fixity.specs.Judged.{stated_verdict}
use Rattle.warc_frame.specs.Names.{warc_block_digest}
use Rattle.warc_record.specs.Ids.{bare_text}
use Rattle.warc_reading.specs.Archive.{Contents, IsArchiveOf}
use Rattle.warc_reading.specs.Row.{Placed, Row}
use Rattle.warc_judged.specs.Counting.{verdict_at, verdict_tally}
use Rattle.warc_judged.specs.Listing.{shown}
use Rattle.warc_judged.specs.declared.digests.Counts.{Counts}

-- the value that states the digest of a block, empty where no field does
abbrev pub digest_value : List Pair → List ℕ
digest_value fields = value_or_empty warc_block_digest fields

-- that value where the block isn't good by it, and nothing where it is
abbrev pub unless_good : Verdict → List ℕ → List ℕ
unless_good Good text = []
unless_good Bad text = text
unless_good Unchecked text = text

-- how a record's block compares with the digest that its head states
abbrev pub stated_on : Placed → Verdict
stated_on p = stated_verdict (digest_value p.content.fields) p.content.block

abbrev pub digest_kept : Placed → List ℕ
digest_kept p = unless_good (stated_on p) (digest_value p.content.fields)

-- how blocks compare with the digests that their heads state, and those values
pub record Judgements : Type 0 where
  pub verdicts : List Verdict
  pub digests : List (List ℕ)

-- a listing, and what was found of each record's block
pub record Digested (S : Type 0) : Type 0 where
  pub listing : Contents S
  pub judged : Judgements

-- these are the rows of the good records that the bytes spell, and what was found of their blocks
pub record AreDigested (bytes : List ℕ) (rows : List Row) (judged : Judgements) : Type 0 where
  pub listed : IsArchiveOf bytes rows
  pub verdicts_are : judged.verdicts ≡ map stated_on listed.are.records
  pub digests_are : judged.digests ≡ map digest_kept listed.are.records

abbrev pub IsDigested : {S : Type 0} → List ℕ → Digested S → Type 0
IsDigested bytes digested = AreDigested bytes digested.listing.rows digested.judged

-- how many records there are, and how many of each verdict
abbrev pub counts_of : List Verdict → Counts
counts_of verdicts = record {
  records = length verdicts;
  good = verdict_tally Good verdicts;
  bad = verdict_tally Bad verdicts;
  unchecked = verdict_tally Unchecked verdicts;
}

abbrev pub verdict_text : Verdict → List ℕ
verdict_text Good = codes "good"
verdict_text Bad = codes "bad"
verdict_text Unchecked = codes "unchecked"

-- the line of a block that isn't good: the position of its record, the verdict, the bare id and the digest's value,
-- separated by tabs, ended by LF
unfoldable pub verdict_line : ℕ → Verdict → Row → List ℕ → List ℕ
verdict_line position verdict row digest =
    join_with_byte 9 (decimal position ∷ verdict_text verdict ∷ bare_text row.id ∷ shown digest ∷ [])
    ++ codes "\n"

-- the line of the row at a position, if its block isn't good
abbrev pub digest_at : List (List ℕ) → ℕ → List ℕ
digest_at digests position = unwrap_or (slice_get digests position) []

abbrev pub fixity_line : Judgements → ℕ → Row → List ℕ
fixity_line judged position row =
    unless_good (verdict_at judged.verdicts position) (verdict_line position (verdict_at judged.verdicts position) row
    (digest_at judged.digests position))

-- the last line: how many records there are, and how many blocks of each verdict, with a space between two
unfoldable pub counts_line : Counts → List ℕ
counts_line counts =
    join_with_byte 32 (codes "records" ∷ decimal counts.records ∷ verdict_text Good ∷ decimal counts.good
    ∷ verdict_text Bad ∷ decimal counts.bad ∷ verdict_text Unchecked ∷ decimal counts.unchecked ∷ [])
    ++ codes "\n"

-- the lines of the blocks that aren't good
abbrev pub fixity_lines : Judgements → List Row → List ℕ
fixity_lines judged rows = flat_map (λ p. fixity_line judged p.0 p.1) (enumerate_from 0 rows)

-- all lines
abbrev pub fixity_text : List Row → Judgements → List ℕ
fixity_text rows judged = fixity_lines judged rows ++ counts_line (counts_of judged.verdicts)
