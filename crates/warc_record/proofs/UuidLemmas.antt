-- What reading a UUID of any form says of the urn form.
use Rattle.std.proofs.Common.{◌≡◌, ℕ, List, length, Option, Some, None, refl}
use Rattle.uuid.specs.Text.{parsed, parsed_urn}

-- an option that is no `Some` is `None`
pub none_of : {A : Type 0} (o : Option A) → ¬ ((u : A) × (o ≡ Some u)) → None ≡ o
none_of None absent = refl
none_of (Some u) absent = absurd (absent (u, refl))

-- the reader of all forms, at the length of the urn form
pub parsed_at_45 : (s : List ℕ) → length s ≡ 45 → parsed s ≡ parsed_urn s
parsed_at_45 s len = rw len refl
