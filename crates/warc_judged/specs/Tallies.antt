-- What is counted of the first rows, in one pass over all. States of the code.
use Rattle.std.specs.Prelude.{◌≡◌, ℕ, ◌<◌, true, false, List, take, slice_get, slice_index, Option, Some, None, MatchOption, if◌then◌else◌}
use Rattle.warc_record.specs.declared.types.Kind.{Kind}
use Rattle.warc_record.specs.declared.types.Kind.TheVariants.{Warcinfo, Response, Resource, Request, Metadata, Revisit, Conversion, Continuation, Other}
use Rattle.warc_index.specs.Captures.{is_earlier}
use Rattle.warc_reading.specs.Row.{Row}
use Rattle.warc_judged.specs.Counting.{is_of, is_of_capture, tally_of}
use Rattle.warc_judged.specs.Summary.{instant_at, is_nearer}
use Rattle.warc_judged.specs.declared.tally.Dated.{Dated}
use Rattle.warc_judged.specs.declared.tally.End.{End}
use Rattle.warc_judged.specs.declared.tally.End.TheVariants.{First, Last}
use Rattle.warc_judged.specs.declared.tally.Tally.{Tally}

-- the nearest one to an end, of the nearest so far, if there is one, and the next
abbrev pub nearest : End → Option Dated → Dated → Dated
nearest end None next = next
nearest end (Some best) next = if is_nearer end next.instant best.instant then next else best

-- of the rows before place n the one at a position is the first, or the last
pub record IsFirstUpTo (rows : List Row) (n position : ℕ) (row : Row) : Type 0 where
  pub at : slice_get rows position ≡ Some row
  pub low : position < n
  pub none : (q : ℕ) (r : Row) → slice_get rows q ≡ Some r → q < n → is_earlier (instant_at r) (instant_at row) ≡ false
  pub before : (q : ℕ) (r : Row) → slice_get rows q ≡ Some r → q < position
      → is_earlier (instant_at row) (instant_at r) ≡ true

pub record IsLastUpTo (rows : List Row) (n position : ℕ) (row : Row) : Type 0 where
  pub at : slice_get rows position ≡ Some row
  pub low : position < n
  pub none : (q : ℕ) (r : Row) → slice_get rows q ≡ Some r → q < n → is_earlier (instant_at row) (instant_at r) ≡ false
  pub following : (q : ℕ) (r : Row) → slice_get rows q ≡ Some r → q < n → position < q
      → is_earlier (instant_at r) (instant_at row) ≡ true

abbrev pub IsEndUpTo : End → List Row → ℕ → ℕ → Row → Type 0
IsEndUpTo First rows n position row = IsFirstUpTo rows n position row
IsEndUpTo Last rows n position row = IsLastUpTo rows n position row

-- the nearest to an end of the first n rows; there is none if n is 0
abbrev pub IsEndSoFar : End → List Row → ℕ → Option Dated → Type 0
IsEndSoFar end rows n best =
    MatchOption best (n ≡ 0) (λ b. (row : Row) × IsEndUpTo end rows n b.position row × (b.instant ≡ instant_at row))

-- the place of a kind among all
abbrev pub column_of : Kind → ℕ
column_of Warcinfo = 0
column_of Response = 1
column_of Resource = 2
column_of Request = 3
column_of Metadata = 4
column_of Revisit = 5
column_of Conversion = 6
column_of Continuation = 7
column_of Other = 8

-- what is counted of the first n rows
pub record IsTalliedTo (rows : List Row) (n : ℕ) (tally : Tally) : Type 0 where
  pub kinds_are : (kind : Kind) → slice_index tally.kinds (column_of kind) ≡ tally_of (is_of kind) (take n rows)
  pub captures_are : tally.captures ≡ tally_of is_of_capture (take n rows)
  pub truncated_are : tally.truncated ≡ tally_of (λ row. row.is_truncated) (take n rows)
  pub first_is : IsEndSoFar First rows n tally.first
  pub last_is : IsEndSoFar Last rows n tally.last
