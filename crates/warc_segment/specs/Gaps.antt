-- What is wrong in a series, and the members that are joined if nothing is. The gaps are this project's own notion;
-- that the last segment alone states a total, the length of all blocks, is ISO 28500:2017, 5.22.
use Rattle.std.specs.Prelude.{ℕ, ◌+◌, min, Bool, ◌&&◌, ◌==◌, nat_eq, nat_lt, nat_le, List, [], ◌∷◌, map, filter, sum_by, is_some, Option, Some, None, option_map, option_and_then, Result, Ok, Err, if◌then◌else◌}
use Rattle.std.specs.Option.{option_map_or, option_or, option_eq}
use Rattle.warc_record.specs.declared.readings.SegmentNumber.{SegmentNumber}
use Rattle.warc_record.specs.declared.readings.SegmentNumber.TheVariants as numbers
use Rattle.warc_segment.specs.declared.gap.Gap.{Gap}
use Rattle.warc_segment.specs.declared.gap.Gap.TheVariants.{Repeated, Unfinished, AfterEnd, Absent, Total, Number}
use Rattle.warc_segment.specs.Series.{Member, numbers_of, count_numbered, member_numbered, in_order}

-- the least of numbers
abbrev pub lesser : Option ℕ → Option ℕ → Option ℕ
lesser None b = b
lesser (Some a) None = Some a
lesser (Some a) (Some b) = Some (min a b)

abbrev pub least : List ℕ → Option ℕ
least [] = None
least (k ∷ ks) = lesser (Some k) (least ks)

-- the least number that occurs at least twice
abbrev pub least_repeated : List Member → Option ℕ
least_repeated members = least (filter (λ k. nat_le 2 (count_numbered k members)) (numbers_of members))

-- the last segment's number n: the least with a total
abbrev pub end_of : List Member → Option ℕ
end_of members = least (numbers_of (filter (λ m. is_some m.total) members))

-- the least number above n
abbrev pub least_after : ℕ → List Member → Option ℕ
least_after n members = least (filter (nat_lt n) (numbers_of members))

-- a number from 2 to n that no member has
abbrev pub is_absent : ℕ → List Member → ℕ → Bool
is_absent n members k = nat_le 2 k && nat_le k n && (count_numbered k members == 0)

-- the least of them, which is 2 or follows on a member's number
abbrev pub least_absent : ℕ → List Member → Option ℕ
least_absent n members = least (filter (is_absent n members) (2 ∷ map (λ m. m.number + 1) members))

-- the total that number n states is the sum of the lengths of the blocks of 1 to n
abbrev pub has_total : ℕ → ℕ → List Member → Bool
has_total n size members =
    option_eq nat_eq (option_and_then (λ m. m.total) (member_numbered members n))
    (Some (size + sum_by (λ m. m.size) (in_order n members)))

-- the first gap that fits a series after a first segment of this length: G1, G2, G3, G4, G5
abbrev pub absent_or_total : Option ℕ → ℕ → ℕ → List Member → Option Gap
absent_or_total (Some k) n size members = Some (Absent k)
absent_or_total None n size members = if has_total n size members then None else Some Total

abbrev pub gap_to : Option ℕ → ℕ → List Member → Option Gap
gap_to None size members = Some Unfinished
gap_to (Some n) size members =
    option_or (option_map AfterEnd (least_after n members)) (absent_or_total (least_absent n members) n size members)

abbrev pub gap_of : ℕ → List Member → Option Gap
gap_of size members = option_or (option_map Repeated (least_repeated members)) (gap_to (end_of members) size members)

-- the members whose blocks follow the first segment's own, in their order
abbrev pub followers : List Member → List Member
followers members = option_map_or (λ n. in_order n members) (end_of members) []

abbrev pub unless_gap : Option Gap → List Member → Result (List Member) Gap
unless_gap (Some gap) members = Err gap
unless_gap None members = Ok (followers members)

-- the members that are joined to a record of this segment number and length, or the gap: a record without a number
-- has no segments, and one with another number than 1 is G6
abbrev pub joined : SegmentNumber → ℕ → List Member → Result (List Member) Gap
joined numbers.Absent size members = Ok []
joined numbers.Bad size members = Err Number
joined (numbers.Number k) size members = if k == 1 then unless_gap (gap_of size members) members else Err Number
