-- How findings are kept in flat lists, and how a record's are reported with N4 and N6 among them. States of the code,
-- but for `all_of`, `unjudged` and `AreJudged`, which public contracts cite.
use Rattle.std.specs.Prelude.{◌≡◌, ℕ, ◌≤◌, zero, suc, Bool, true, false, nat_lt, ◌&&◌, List, [], ◌∷◌, ◌++◌, length, map, slice_range, unwrap_or, None}
use Rattle.std.specs.List.{AllByRecursion, filter, slice_get}
use Rattle.std.specs.Option.{option_map_or}
use Rattle.warc_field.specs.Area.{Pair}
use Rattle.warc_record.specs.Findings.{SeenFinding, Digest, IdUsed, NotUtf8, finding_number, findings_of, once, plain_seen}
use Rattle.warc_record.specs.Kinds.{is_known}
use Rattle.warc_record.specs.Readings.{kind_of}
use Rattle.warc_frame.specs.Record.{Record}
use Rattle.warc_reading.specs.Archive.{contents}
use Rattle.warc_reading.specs.Row.{Placed, Row, row_of}
use Rattle.warc_record.specs.Heads.{head_fault}
use Rattle.warc_record.specs.Ids.{id_key}
use Rattle.warc_reading.specs.Rereading.{AreCheckable}
use Rattle.warc_checking.specs.Judged.{own_findings}
use Rattle.warc_checking.specs.UsedIds.{HoldsIdsOf, Ids, IsAlone}
use Rattle.warc_checking.specs.declared.digest_state.DigestState.{DigestState}
use Rattle.warc_checking.specs.declared.digest_state.DigestState.TheVariants.{Outside, Unmarked, Marked}
use Rattle.warc_checking.specs.declared.finding_list.ListPart.{ListPart}
use Rattle.warc_checking.specs.declared.finding_list.PackedFinding.{PackedFinding}
use Rattle.warc_checking.specs.declared.finding_list.PackedFinding.TheVariants as packed

-- a part of a list of n
pub record IsPart (count : ℕ) (p : ListPart) : Type 0 where
  pub order : p.start ≤ p.end
  pub end : p.end ≤ count

-- the finding that is packed, its name among the bytes
abbrev pub finding_in : List ℕ → PackedFinding → SeenFinding
finding_in names (packed.Plain found) = plain_seen found
finding_in names (packed.NotUtf8 name) = NotUtf8 (slice_range names name.start name.end)

abbrev pub all_found : List ℕ → List PackedFinding → List SeenFinding
all_found names findings = map (finding_in names) findings

-- its name is within the first bytes, as many as this
abbrev pub IsNamed : ℕ → PackedFinding → Type 0
IsNamed count (packed.Plain found) = Unit {0}
IsNamed count (packed.NotUtf8 name) = IsPart count name

abbrev pub AreNamed : ℕ → List PackedFinding → Type 0
AreNamed count findings = AllByRecursion (IsNamed count) findings

-- the findings of a part
abbrev pub findings_of_part : List SeenFinding → ListPart → List SeenFinding
findings_of_part findings p = slice_range findings p.start p.end

-- the findings of each part, by where the parts end: each starts at the end of the one before it, and the first at a
-- start
abbrev pub found_from : List SeenFinding → ℕ → List ℕ → List (List SeenFinding)
found_from findings start [] = []
found_from findings start (end ∷ ends) = slice_range findings start end ∷ found_from findings end ends

abbrev pub found_by_part : List SeenFinding → List ℕ → List (List SeenFinding)
found_by_part findings ends = found_from findings 0 ends

-- parts that end here are in order, from a start on, and are parts of n findings
abbrev pub AreEndsFrom : ℕ → ℕ → List ℕ → Type 0
AreEndsFrom count start [] = start ≤ count
AreEndsFrom count start (end ∷ ends) = (start ≤ end) × AreEndsFrom count end ends

abbrev pub AreEnds : ℕ → List ℕ → Type 0
AreEnds count ends = AreEndsFrom count 0 ends

-- where the last part ends, or the start if there is none
abbrev pub last_end : ℕ → List ℕ → ℕ
last_end start [] = start
last_end start (end ∷ ends) = last_end end ends

-- those at a place, none past the end
abbrev pub found_at : List (List SeenFinding) → ℕ → List SeenFinding
found_at found position = unwrap_or (slice_get found position) []

-- the number of a finding is between two others
abbrev pub is_between : ℕ → ℕ → SeenFinding → Bool
is_between above below f = nat_lt above (finding_number f) && nat_lt (finding_number f) below

-- the number of a finding is lower, or higher, than that of another one
abbrev pub is_lower : SeenFinding → SeenFinding → Bool
is_lower one f = nat_lt (finding_number f) (finding_number one)

abbrev pub is_higher : SeenFinding → SeenFinding → Bool
is_higher one f = nat_lt (finding_number one) (finding_number f)

-- findings with another one among them, if it holds: those of lower numbers, that one, those of higher numbers
abbrev pub with_among : SeenFinding → List SeenFinding → Bool → List SeenFinding
with_among one found holds = filter (is_lower one) found ++ once one holds ++ filter (is_higher one) found

-- findings with N4 among them, if it holds
abbrev pub with_digest : List SeenFinding → Bool → List SeenFinding
with_digest found bad = with_among Digest found bad

-- findings with N6 among them, if it holds
abbrev pub with_used : List SeenFinding → Bool → List SeenFinding
with_used found used = with_among IdUsed found used

-- findings with N4 and N6 among them, if they hold
abbrev pub with_both : List SeenFinding → Bool → Bool → List SeenFinding
with_both found bad used = with_used (with_digest found bad) used

-- N4 isn't among them
abbrev pub IsWithoutDigest : List SeenFinding → Type 0
IsWithoutDigest found = with_digest found false ≡ found

-- what a record alone shows: the findings but for N4; whether its kind is one of the eight, since N4 holds of no other;
-- and whether N4 holds
pub record Found : Type 0 where
  pub others : List SeenFinding
  pub known : Bool
  pub bad : Bool

-- all findings that a record alone shows
abbrev pub all_of : Found → List SeenFinding
all_of f = with_digest f.others f.bad

-- what a record with these fields and a block of this length shows, by whether its digest differs
abbrev pub shown_by : List Pair → ℕ → Bool → Found
shown_by fields block_len bad = record {
  others = findings_of fields block_len false false;
  known = is_known (kind_of fields);
  bad = bad && is_known (kind_of fields);
}

-- what a record shows with these findings whose kind is one of the eight, and whose digest isn't known to differ
abbrev pub shown_plain : List SeenFinding → Found
shown_plain found = record { others = found; known = true; bad = false }

-- what a record shows whose digest isn't known to differ
abbrev pub unjudged : Record → Found
unjudged r = shown_by r.fields (length r.block) false

-- what a record shows once its digest is known to differ
abbrev pub with_bad : Found → Found
with_bad f = record { others = f.others; known = f.known; bad = f.known }

-- the digest of the record at a position is known to differ
abbrev pub mark_at : List Found → ℕ → List Found
mark_at [] position = []
mark_at (f ∷ fs) zero = with_bad f ∷ fs
mark_at (f ∷ fs) (suc position) = f ∷ mark_at fs position

-- what is kept of N4, by whether the kind is one of the eight
abbrev pub state_by : Bool → DigestState
state_by true = Unmarked
state_by false = Outside

-- what is kept once the digest is known to differ
abbrev pub marked : DigestState → DigestState
marked Outside = Outside
marked Unmarked = Marked
marked Marked = Marked

-- N4 holds
abbrev pub is_marked : DigestState → Bool
is_marked Outside = false
is_marked Unmarked = false
is_marked Marked = true

-- N4 holds of the record at a position; false past the end
abbrev pub bad_at : List DigestState → ℕ → Bool
bad_at states position = option_map_or is_marked (slice_get states position) false

-- the kind is one of the eight
abbrev pub is_inside : DigestState → Bool
is_inside Outside = false
is_inside Unmarked = true
is_inside Marked = true

-- the other findings of records, and what is kept of N4
abbrev pub found_with : List SeenFinding → DigestState → Found
found_with others state = record { others = others; known = is_inside state; bad = is_marked state }

abbrev pub each_with : List (List SeenFinding) → List DigestState → List Found
each_with [] states = []
each_with (others ∷ rest) [] = []
each_with (others ∷ rest) (state ∷ states) = found_with others state ∷ each_with rest states

-- what is known of the record whose findings are written next: its row, its findings, and the ids used before it
pub record IsDue (before : List Record) (p : Placed) (row : Row) (found : List SeenFinding) (ids : Ids) : Type 0 where
  pub row_is : row ≡ row_of p
  pub good : head_fault p.content.fields ≡ None
  pub found_is : found ≡ own_findings p.content
  pub has : HoldsIdsOf before ids
  pub lone : IsAlone before ids (id_key row.id)

-- these are the rows of records that can be checked, and what was found of each
pub record AreJudged (bytes : List ℕ) (records : List Placed) (rows : List Row) (found : List (List SeenFinding))
    : Type 0 where
  pub can : AreCheckable bytes records rows
  pub found_is : found ≡ map own_findings (contents records)
