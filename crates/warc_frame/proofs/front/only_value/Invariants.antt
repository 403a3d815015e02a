use Rattle.std.proofs.Common.{take}
use Rattle.warc_frame.proofs.OnlyLemmas.{IsFound}
use Rattle.warc_frame.proofs.front.only_value.Given as goal

abbrev pub invariant-loop-field : goal.invariant-loop-field
invariant-loop-field g l = IsFound l.name (take l.field-index l.fields) l.found
