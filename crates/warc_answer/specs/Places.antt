-- The bytes at places of a source, one after another, and what reading them asks of it. This project's own notion.
use Rattle.std.specs.Prelude.{ℕ, ◌+◌, ◌^◌, ◌<◌, ◌≤◌, Bool, true, false, List, length, take, drop, filter, sum_by, All, Contains}
use Rattle.std.specs.List.{flat_map}
use Rattle.warc_frame.specs.Effects.{IsTakenFrom, ReadsOnly}
use Rattle.warc_frame.specs.Seen.{SeenSource}
use Rattle.warc_segment.specs.declared.place.Place.{Place}
use Rattle.warc_value.specs.declared.hash.Wanted.{Wanted}
use Rattle.warc_value.specs.declared.hash.Wanted.TheVariants.{Sha1, Unchecked}

-- the bytes at a place
abbrev pub bytes_at : List ℕ → Place → List ℕ
bytes_at bytes p = take p.len (drop p.start bytes)

-- the bytes at places, one after another, and how many they are
abbrev pub text_at : List Place → List ℕ → List ℕ
text_at places bytes = flat_map (bytes_at bytes) places

abbrev pub len_of : List Place → ℕ
len_of places = sum_by (λ p. p.len) places

-- a digest is wanted that can be checked
abbrev pub is_checked : Wanted → Bool
is_checked (Sha1 digest) = true
is_checked Unchecked = false

-- the places of blocks whose digest can be checked
abbrev pub checked_places : List Place → List Place
checked_places places = filter (λ p. is_checked p.wanted) places

-- each place ends before the bytes do, which are fewer than 2^64
pub record LieIn (places : List Place) (bytes : List ℕ) : Type 0 where
  pub within : All (λ p. p.start + p.len ≤ length bytes) places
  pub short : length bytes < 2 ^ 64

-- an offset in one of the places
abbrev pub IsInOne : List Place → ℕ → Type 0
IsInOne places q = (p : Place) × Contains places p × (p.start ≤ q) × (q < p.start + p.len)

-- the text is what the bytes have at places, without `skip` of them at the front
abbrev pub IsPlacedText : List Place → ℕ → List ℕ → List ℕ → Type 0
IsPlacedText places skip bytes text = IsTakenFrom (λ all. drop skip (text_at places all)) (LieIn places) bytes text

-- at most this number of reads, of the bytes at places alone
abbrev pub ReadsPlaces : List Place → ℕ → SeenSource → SeenSource → Type 0
ReadsPlaces places most old new = ReadsOnly (IsInOne places) most old new
