-- How `instant` ends.
use Rattle.std.proofs.Common.{◌≡◌, ℕ, List, [], ◌∷◌, length, drop, codes, append_assoc, sym, subst}
use Rattle.std.specs.List.{concat}
use Rattle.warc_replay.specs.Captures.{date_front, full_date}
use Rattle.warc_arguments.specs.declared.status.Status.{Status}
use Rattle.warc_commands.specs.Devices.{Outputs}
use Rattle.warc_commands.specs.Instants.{IsInstantShown, instant_line}

-- the line of a date, put together from its parts
pub instant_text : (date front rest : List ℕ) → front ≡ date_front date → rest ≡ drop (length front) (codes "0000-01-01T00:00:00.000000000Z") → concat (front ∷ rest ∷ codes "\n" ∷ []) ≡ instant_line date
unfolding full_date
instant_text date front rest is_front is_rest =
    rw (is_rest, is_front) (sym (append_assoc (date_front date) (drop (length (date_front date)) (codes "0000-01-01T00:00:00.000000000Z")) (codes "\n")))

-- the same date
pub shown_as : (text date : List ℕ) (old new : Outputs) (status : Status) → text ≡ date → IsInstantShown text old new status → IsInstantShown date old new status
shown_as text date old new status same is = let P : List ℕ → Type 0 = λ d. IsInstantShown d old new status in subst P same is
