-- The text of a gap, as the program prints it: this project's own notion.
use Rattle.std.specs.Prelude.{ℕ, List, [], ◌++◌, Option, Some, None, codes, decimal}
use Rattle.warc_segment.specs.declared.fault.JoinFault.{JoinFault}
use Rattle.warc_segment.specs.declared.fault.JoinFault.TheVariants.{Gap as IsGap, Memory}
use Rattle.warc_segment.specs.declared.gap.Gap.{Gap}
use Rattle.warc_segment.specs.declared.gap.Gap.TheVariants.{Repeated, Unfinished, AfterEnd, Absent, Total, Number}

-- a number in decimal digits, if there is one
abbrev pub digits_of : Option ℕ → List ℕ
digits_of None = []
digits_of (Some number) = decimal number

-- its number and name, and the segment's number in decimal digits if it is about one
abbrev pub gap_text : Gap → List ℕ
gap_text (Repeated number) = codes "G1 Repeated " ++ decimal number
gap_text Unfinished = codes "G2 Unfinished"
gap_text (AfterEnd number) = codes "G3 AfterEnd " ++ decimal number
gap_text (Absent number) = codes "G4 Absent " ++ decimal number
gap_text Total = codes "G5 Total"
gap_text Number = codes "G6 Number"

-- why there is no joined block
abbrev pub join_fault_text : JoinFault → List ℕ
join_fault_text (IsGap gap) = gap_text gap
join_fault_text Memory = codes "out of memory"
