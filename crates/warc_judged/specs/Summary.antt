-- What an archive holds, in numbers and dates, and the lines that say so. This project's own notion.
use Rattle.std.specs.Prelude.{◌≡◌, ℕ, ◌<◌, Bool, true, false, not, List, [], ◌∷◌, ◌++◌, length, map, filter, slice_get, codes, decimal, Option, Some, is_some, option_map, unwrap_or, MatchOption}
use Rattle.std.specs.List.{flat_map}
use Rattle.warc_field.specs.Area.{Pair}
use Rattle.warc_value.specs.Dates.{Instant, instant_of}
use Rattle.warc_value.specs.declared.hash.Verdict.{Verdict}
use Rattle.warc_value.specs.declared.hash.Verdict.TheVariants.{Good, Bad, Unchecked}
use Rattle.warc_frame.specs.Names.{warc_segment_number}
use Rattle.warc_record.specs.Readings.{present_value}
use Rattle.warc_record.specs.declared.types.Kind.TheVariants.{Warcinfo, Response, Resource, Request, Metadata, Revisit, Conversion, Continuation, Other}
use Rattle.warc_index.specs.Captures.{is_earlier}
use Rattle.warc_reading.specs.Archive.{Contents, IsArchiveOf}
use Rattle.warc_reading.specs.Row.{Placed, Row}
use Rattle.warc_judged.specs.Counting.{is_of, is_of_capture, tally_of, verdict_tally}
use Rattle.warc_judged.specs.Fixity.{stated_on}
use Rattle.warc_judged.specs.declared.tally.End.{End}
use Rattle.warc_judged.specs.declared.tally.End.TheVariants.{First, Last}
use Rattle.warc_judged.specs.declared.summary.Summary.{Summary}

-- whether a record has a segment number, whatever its kind
abbrev pub has_segment_number : List Pair → Bool
has_segment_number fields = is_some (present_value warc_segment_number fields)

abbrev pub is_numbered : Placed → Bool
is_numbered p = has_segment_number p.content.fields

abbrev pub segmented_count : List Bool → ℕ
segmented_count flags = length (filter (λ flag. flag) flags)

-- for each record whether it has a segment number, and how its block compares with its digest
pub record Flags : Type 0 where
  pub segmented : List Bool
  pub verdicts : List Verdict

abbrev pub flags_with : List Bool → List Verdict → Flags
flags_with segmented verdicts = record { segmented = segmented; verdicts = verdicts }

-- a listing, and what was found of its records
pub record Flagged (S : Type 0) : Type 0 where
  pub listing : Contents S
  pub flags : Flags

-- these are the rows of the good records that the bytes spell, and what was found of these
pub record AreFlagged (bytes : List ℕ) (rows : List Row) (flags : Flags) : Type 0 where
  pub listed : IsArchiveOf bytes rows
  pub segmented_are : flags.segmented ≡ map is_numbered listed.are.records
  pub verdicts_are : flags.verdicts ≡ map stated_on listed.are.records

abbrev pub IsSummarized : {S : Type 0} → List ℕ → Flagged S → Type 0
IsSummarized bytes flagged = AreFlagged bytes flagged.listing.rows flagged.flags

abbrev pub instant_at : Row → Option Instant
instant_at row = instant_of row.date

-- the row at a position is the first by its instant: no row is earlier, and each one before it is later
pub record IsFirstRow (rows : List Row) (position : ℕ) (row : Row) : Type 0 where
  pub at : slice_get rows position ≡ Some row
  pub none : (q : ℕ) (r : Row) → slice_get rows q ≡ Some r → is_earlier (instant_at r) (instant_at row) ≡ false
  pub before : (q : ℕ) (r : Row) → slice_get rows q ≡ Some r → q < position
      → is_earlier (instant_at row) (instant_at r) ≡ true

-- the row at a position is the last by its instant: no row is later, and each one after it is earlier
pub record IsLastRow (rows : List Row) (position : ℕ) (row : Row) : Type 0 where
  pub at : slice_get rows position ≡ Some row
  pub none : (q : ℕ) (r : Row) → slice_get rows q ≡ Some r → is_earlier (instant_at row) (instant_at r) ≡ false
  pub following : (q : ℕ) (r : Row) → slice_get rows q ≡ Some r → position < q
      → is_earlier (instant_at r) (instant_at row) ≡ true

abbrev pub IsEndRow : End → List Row → ℕ → Row → Type 0
IsEndRow First rows position row = IsFirstRow rows position row
IsEndRow Last rows position row = IsLastRow rows position row

-- the date of the row at an end, as it is written; there is none exactly where there are no rows
abbrev pub IsDateOf : End → List Row → Option (List ℕ) → Type 0
IsDateOf end rows date =
    MatchOption date (rows ≡ []) (λ text. (position : ℕ) × (row : Row) × IsEndRow end rows position row
    × (text ≡ row.date))

-- what is said of these rows and flags: their number, the number of bytes, and of each kind, verdict and mark; and the
-- dates of the first and of the last row
pub record IsSummaryOf (rows : List Row) (flags : Flags) (s : Summary) : Type 0 where
  pub records : s.records ≡ length rows
  pub bytes : (bytes : List ℕ) → IsArchiveOf bytes rows → s.bytes ≡ length bytes
  pub warcinfo : s.warcinfo ≡ tally_of (is_of Warcinfo) rows
  pub response : s.response ≡ tally_of (is_of Response) rows
  pub resource : s.resource ≡ tally_of (is_of Resource) rows
  pub request : s.request ≡ tally_of (is_of Request) rows
  pub metadata : s.metadata ≡ tally_of (is_of Metadata) rows
  pub revisit : s.revisit ≡ tally_of (is_of Revisit) rows
  pub conversion : s.conversion ≡ tally_of (is_of Conversion) rows
  pub continuation : s.continuation ≡ tally_of (is_of Continuation) rows
  pub other : s.other ≡ tally_of (is_of Other) rows
  pub captures : s.captures ≡ tally_of is_of_capture rows
  pub good : s.good ≡ verdict_tally Good flags.verdicts
  pub bad : s.bad ≡ verdict_tally Bad flags.verdicts
  pub unchecked : s.unchecked ≡ verdict_tally Unchecked flags.verdicts
  pub truncated : s.truncated ≡ tally_of (λ row. row.is_truncated) rows
  pub segmented_is : s.segmented ≡ segmented_count flags.segmented
  pub first : IsDateOf First rows (option_map (λ d. d.now) s.first_date)
  pub last : IsDateOf Last rows (option_map (λ d. d.now) s.last_date)

-- whether a row of an instant is nearer to an end than one before it
abbrev pub is_nearer : End → Option Instant → Option Instant → Bool
is_nearer First instant best = is_earlier instant best
is_nearer Last instant best = not (is_earlier instant best)

-- a line: a name, a tab, a value, LF
unfoldable pub text_line : List ℕ → List ℕ → List ℕ
text_line name value = name ++ codes "\t" ++ value ++ codes "\n"

unfoldable pub number_line : List ℕ × ℕ → List ℕ
number_line named = text_line named.0 (decimal named.1)

-- the numbers with their names, in the order of the lines
unfoldable pub summary_numbers : Summary → List (List ℕ × ℕ)
summary_numbers s =
    (codes "records", s.records)
    ∷ (codes "bytes", s.bytes)
    ∷ (codes "warcinfo", s.warcinfo)
    ∷ (codes "response", s.response)
    ∷ (codes "resource", s.resource)
    ∷ (codes "request", s.request)
    ∷ (codes "metadata", s.metadata)
    ∷ (codes "revisit", s.revisit)
    ∷ (codes "conversion", s.conversion)
    ∷ (codes "continuation", s.continuation)
    ∷ (codes "other", s.other)
    ∷ (codes "captures", s.captures)
    ∷ (codes "good", s.good)
    ∷ (codes "bad", s.bad)
    ∷ (codes "unchecked", s.unchecked)
    ∷ (codes "truncated", s.truncated)
    ∷ (codes "segmented", s.segmented)
    ∷ []

-- a date, or `-` where there is none
abbrev pub shown_date : Option (List ℕ) → List ℕ
shown_date date = unwrap_or date (codes "-")

-- all lines
unfoldable pub summary_text : Summary → List ℕ
summary_text s =
    flat_map number_line (summary_numbers s)
    ++ text_line (codes "first date") (shown_date (option_map (λ d. d.now) s.first_date))
    ++ text_line (codes "last date") (shown_date (option_map (λ d. d.now) s.last_date))
