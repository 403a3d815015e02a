use Rattle.std.proofs.Common.{take}
use Rattle.warc_rewrite.specs.Statuses.{NamesAll}
use Rattle.warc_rewrite.proofs.remainder.name_all.Given as goal

-- the positions so far are named
abbrev pub invariant-naming : goal.invariant-naming
invariant-naming l = NamesAll (take l.position-index l.positions) l.fn.statuses l.statuses
