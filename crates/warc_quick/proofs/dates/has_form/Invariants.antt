use Rattle.std.proofs.Common.{◌≡◌, ℕ, ◌<◌, true, get_or}
use Rattle.warc_quick.specs.Places.{fits_form}
use Rattle.warc_quick.proofs.dates.has_form.Given as goal

abbrev pub invariant-loop-at : goal.invariant-loop-at
invariant-loop-at l = l.fits ≡ true → (k : ℕ) → k < l.at → fits_form k (get_or l.text k 0) ≡ true
