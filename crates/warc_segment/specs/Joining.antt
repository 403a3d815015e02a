-- What a call of `join` returns: the definition, or a failed allocation. This project's own notion.
use Rattle.std.specs.Prelude.{◌≡◌, List, Result, Ok, Err, ⊤}
use Rattle.warc_segment.specs.declared.fault.JoinFault.{JoinFault}
use Rattle.warc_segment.specs.declared.fault.JoinFault.TheVariants.{Gap as IsGap, Memory}
use Rattle.warc_segment.specs.declared.gap.Gap.{Gap}
use Rattle.warc_segment.specs.declared.place.Place.{Place}
use Rattle.std.specs.declared.vec.Vec.{Vec}

-- the places, or the gap; a call may also be refused because an allocation failed
abbrev pub IsJoin : {A : Type 0} → Result (Vec Place A) JoinFault → Result (List Place) Gap → Type 0
IsJoin (Ok places) joined = joined ≡ Ok places.items
IsJoin (Err (IsGap gap)) joined = joined ≡ Err gap
IsJoin (Err Memory) joined = ⊤
