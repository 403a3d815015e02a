-- Fields that are put in the place of others are fields.
use Rattle.std.proofs.Common.{◌≡◌, ℕ, zero, suc, ◌+◌, ◌<◌, ◌≤◌, ◌++◌, length, take, arith, refl, ap, List, [], ◌∷◌, Option, Some, None, Bool, true, false, slice_set, sym, ◌∙◌}
use Rattle.std.proofs.lemmas.Bool.{false≢true}
use Rattle.warc_field.specs.Area.{Pair}
use Rattle.warc_field.specs.Meant.{IsPut}
use Rattle.warc_field.specs.Text.{AreFields, IsField}

pub set_field : (fields : List Pair) (place : ℕ) (field : Pair) → AreFields fields → IsField field → AreFields (slice_set fields place field)
set_field [] place field h is = h
set_field (f ∷ fs) zero field h is = (is, h.1)
set_field (f ∷ fs) (suc place) field h is = (h.0, set_field fs place field h.1 is)

-- what is put after all fields comes after those before its place, which are all
pub put_after : (fields : List Pair) (place : ℕ) (field : Pair) → length fields ≤ place → place ≤ length fields → take (place + 1) (fields ++ field ∷ []) ≡ take place fields ++ field ∷ []
put_after [] place field some few = let e : place ≡ 0 = omega arith in rw e refl
put_after (f ∷ fs) zero field some few = absurd (omega arith)
put_after (f ∷ fs) (suc place) field some few =
    let later = put_after fs place field (omega arith) (omega arith) in
    let e : suc place + 1 ≡ suc (place + 1) = omega arith in
    ap (λ n. take n (f ∷ fs ++ field ∷ [])) e ∙ ap (λ l. f ∷ l) later

-- what comes of putting a line's field
pub not_put : (o : Option Pair) (place : ℕ) (old new : List Pair) (is : Bool) → IsPut o place old new is → is ≡ false → o ≡ None
not_put None place old new is h false_is = refl
not_put (Some field) place old new is h false_is = absurd (false≢true (sym false_is ∙ h.0))

pub was_put : (o : Option Pair) (place : ℕ) (old new : List Pair) (is : Bool) → IsPut o place old new is → is ≡ true → (field : Pair) × (o ≡ Some field) × (take (place + 1) new ≡ take place old ++ field ∷ []) × (place < length new)
was_put None place old new is h true_is = absurd (false≢true (sym h ∙ true_is))
was_put (Some field) place old new is h true_is = (field, refl, h.1, h.2)
