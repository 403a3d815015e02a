use Rattle.std.proofs.Common.{◌≡◌, take}
use Rattle.warc_value.proofs.DateLemmas.{fits_from}
use Rattle.warc_value.proofs.date.fit_places.Given as goal

-- the bytes so far may stand where they do
abbrev pub invariant-loop-at : goal.invariant-loop-at
invariant-loop-at l = l.fit ≡ fits_from 0 0 (take l.at l.bytes)
