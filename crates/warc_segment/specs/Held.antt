-- How parts hold what is kept: entries in an order, and the rest of each in a list. A state of the code.
use Rattle.std.specs.Prelude.{◌≡◌, ◌⊎◌, ℕ, ◌<◌, ◌≤◌, false, List, [], ◌∷◌, length, map, All, AllPairs, Contains, Some, None, Result, Ok, Err, ⊤}
use Rattle.std.specs.declared.vec.Vec.{Vec}
use Rattle.warc_order.specs.Entries.{Entry, entry_at, comes_later}
use Rattle.warc_segment.specs.declared.fault.JoinFault.{JoinFault}
use Rattle.warc_segment.specs.declared.fault.JoinFault.TheVariants.{Gap as IsGap, Memory}
use Rattle.warc_segment.specs.declared.held.TotalAndPlace.{TotalAndPlace}
use Rattle.warc_segment.specs.declared.series.Continuation.{Continuation}
use Rattle.warc_segment.specs.Gaps.{gap_of, followers}
use Rattle.warc_segment.specs.Ordered.{members_of}
use Rattle.warc_segment.specs.Kept.{KeptMember, Kept}

abbrev pub kept_from : Entry → TotalAndPlace → KeptMember
kept_from e f = record {
  origin = e.text;
  position = e.position;
  number = e.mark.minor;
  total = f.total;
  place = f.place;
}

abbrev pub side_by_side : List Entry → List TotalAndPlace → List KeptMember
side_by_side [] fs = []
side_by_side (e ∷ es) [] = []
side_by_side (e ∷ es) (f ∷ fs) = kept_from e f ∷ side_by_side es fs

-- the entries of the first `count` records, and as many facts
pub record AreHeld (count : ℕ) (es : List Entry) (fs : List TotalAndPlace) : Type 0 where
  pub same : length fs ≡ length es
  pub before : All (λ e. e.position < count) es
  pub rising : AllPairs (λ a b. a.position < b.position) es
  pub numbered : All (λ e. (e.mark.major ≡ 0) × (2 ≤ e.mark.minor)) es

abbrev pub continuation_of : KeptMember → Continuation
continuation_of m = record { position = m.position; number = m.number; total = m.total; place = m.place }

-- it comes before the other: by number, then by position
pub record ComesBefore (a b : Continuation) : Type 0 where
  pub number : a.number ≤ b.number
  pub position : a.number ≡ b.number → a.position < b.position

-- a continuation is a kept one with an origin
pub record IsKeptAs (id : List ℕ) (members : List KeptMember) (c : Continuation) : Type 0 where
  pub it : KeptMember
  pub is_present : Contains members it
  pub origin : it.origin ≡ id
  pub is : c ≡ continuation_of it

-- some of the kept ones with an origin, in their order
pub record AreInSeries (id : List ℕ) (members : List KeptMember) (series : List Continuation) : Type 0 where
  pub ordered : AllPairs ComesBefore series
  pub kept : All (IsKeptAs id members) series

-- all of them
pub record IsWholeSeries (id : List ℕ) (members : List KeptMember) (series : List Continuation) : Type 0 where
  pub some : AreInSeries id members series
  pub all : (m : KeptMember) → Contains members m → m.origin ≡ id → Contains series (continuation_of m)

abbrev pub positions_of : List Continuation → List ℕ
positions_of series = map (λ c. c.position) series

-- a continuation comes before what an entry is
pub record IsEntryAfter (e : Entry) (c : Continuation) : Type 0 where
  pub number : c.number ≤ e.mark.minor
  pub position : c.number ≡ e.mark.minor → c.position < e.position

-- the entry at i comes after the series so far, and each with the text that isn't there yet doesn't come before it
pub record IsNext (id : List ℕ) (es : List Entry) (series : List Continuation) (i : ℕ) : Type 0 where
  pub within : i < length es
  pub text : (entry_at es i).text ≡ id
  pub following : All (IsEntryAfter (entry_at es i)) series
  pub rest : (e : Entry) → Contains es e → e.text ≡ id
      → Contains (positions_of series) e.position ⊎ (comes_later (entry_at es i) e ≡ false)

-- no entry with the text is left
abbrev pub IsDone : List ℕ → List Entry → List Continuation → Type 0
IsDone id es series = (e : Entry) → Contains es e → e.text ≡ id → Contains (positions_of series) e.position

-- the parts of n records
abbrev pub held_in : ℕ → List Entry → List TotalAndPlace → Kept
held_in count es fs = record { count = count; members = side_by_side es fs }

-- the series of the record with the id and a block of this length, in the order of its numbers
abbrev pub IsSeries : {A : Type 0} → List ℕ → ℕ → List KeptMember → Result (Vec Continuation A) JoinFault → Type 0
IsSeries id size members (Ok series) =
    IsWholeSeries id members series.items × (gap_of size (members_of series.items) ≡ None)
    × (followers (members_of series.items) ≡ members_of series.items)
IsSeries id size members (Err (IsGap gap)) =
    (series : List Continuation) × IsWholeSeries id members series × (gap_of size (members_of series) ≡ Some gap)
IsSeries id size members (Err Memory) = ⊤
