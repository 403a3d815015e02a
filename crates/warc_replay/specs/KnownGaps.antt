-- What is known of series: gaps that were found, and series that join. States of the code: no public clause cites them.
use Rattle.std.specs.Prelude.{◌≡◌, ◌⊎◌, ℕ, List, map, Option, Some}
use Rattle.std.specs.BTreeMap.{BTreeMap, get}
use Rattle.std.specs.Ordering.{nat_cmp, ordering_then}
use Rattle.std.specs.declared.cmp.Ordering.{Ordering}
use Rattle.warc_segment.specs.Gaps.{gap_of}
use Rattle.warc_segment.specs.Joined.{PlacedRecord, piece_placed}
use Rattle.warc_segment.specs.Kept.{Kept as Parts, kept_in}
use Rattle.warc_segment.specs.Series.{IsMemberAt, series_of}
use Rattle.warc_segment.specs.declared.gap.Gap.{Gap}
use Rattle.warc_segment.specs.declared.gap.Gap.TheVariants.{Total}
use Rattle.warc_replay.specs.KnownSeries.{AreSeries}
use Rattle.warc_replay.specs.declared.replay.known_gaps.KnownGaps.{KnownGaps}

-- how two keys compare: by the position of a segment, then by the length of a first segment
abbrev pub compare_keys : ℕ × ℕ → ℕ × ℕ → Ordering
compare_keys x y = ordering_then (nat_cmp x.0 y.0) (nat_cmp x.1 y.1)

-- the gap that is kept of the series of the segment at a position, at a length
abbrev pub known_gap_at : BTreeMap (ℕ × ℕ) Gap → ℕ → ℕ → Option Gap
known_gap_at table segment len = get compare_keys table (segment, len)

-- a gap that is kept of a series at a length is its gap after a first segment of that length
abbrev pub AreKnownGaps : Parts → BTreeMap (ℕ × ℕ) Gap → Type 0
AreKnownGaps parts table = (all : List PlacedRecord) → parts ≡ kept_in all
    → (segment len : ℕ) (gap : Gap) (id : Option (List ℕ)) → known_gap_at table segment len ≡ Some gap
    → IsMemberAt (series_of id (map piece_placed all)) segment
    → gap_of len (series_of id (map piece_placed all)) ≡ Some gap

-- this gap is kept of the series of the segment: at this length, or at any if it isn't a wrong total
pub record IsRecalled (table : BTreeMap (ℕ × ℕ) Gap) (segment len : ℕ) (gap : Gap) : Type 0 where
  pub at : ℕ
  pub there : known_gap_at table segment at ≡ Some gap
  pub holds : gap ≡ Total → at ≡ len

-- the same gaps are kept as before, and maybe this one: of the series of the segment, after a first segment of this
-- length
pub record KeepsGap (segment len : ℕ) (gap : Gap) (old new : BTreeMap (ℕ × ℕ) Gap) : Type 0 where
  pub at : ℕ
  pub holds : gap ≡ Total → at ≡ len
  pub each : (s n : ℕ) → (known_gap_at new s n ≡ known_gap_at old s n)
      ⊎ ((s ≡ segment) × (n ≡ at) × (known_gap_at new s n ≡ Some gap))

-- what is known of series is right
pub record AreKnownSeries {A : Type 0} (parts : Parts) (known : KnownGaps A) : Type 0 where
  pub gaps : AreKnownGaps parts known.table
  pub series : AreSeries parts known.series
