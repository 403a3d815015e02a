-- Why a part of a split is refused. States of the code: no public clause cites them.
use Rattle.std.specs.Prelude.{◌≡◌, ⊤, Bool, false}
use Rattle.warc_write.specs.declared.segments.SplitFault.{SplitFault}
use Rattle.warc_write.specs.declared.segments.SplitFault.TheVariants.{NotUuid, AlreadySegmented}
use Rattle.warc_write.specs.declared.segments.SplitFault.TheVariants.{Kind as BadKind, Size}
use Rattle.warc_write.specs.declared.segments.SplitFault.TheVariants.{Memory, TooLong, BadDigest}

-- a segment is refused since its head has no room, or because an allocation failed
abbrev pub RefusesSegment : Bool → SplitFault → Type 0
RefusesSegment room TooLong = room ≡ false
RefusesSegment room Memory = ⊤
RefusesSegment room BadKind = ⊥
RefusesSegment room NotUuid = ⊥
RefusesSegment room AlreadySegmented = ⊥
RefusesSegment room Size = ⊥
RefusesSegment room BadDigest = ⊥
