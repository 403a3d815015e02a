-- Texts of a head that are empty if they are absent.
use Rattle.std.proofs.Common.{◌≡◌, ℕ, ◌==◌, false, List, [], ◌∷◌, length, Option, None, Some, refl, arith}
use Rattle.std.specs.Option.{option_map_or}
use Rattle.std.specs.Prelude.{option_and_then, unwrap_or}
use Rattle.warc_value.specs.Digests.{wanted_digest}
use Rattle.warc_value.specs.declared.hash.Wanted.TheVariants.{Unchecked}
use Rattle.warc_record.specs.Ids.{bare_text}
use Rattle.warc_record.specs.Readings.{bare_present, unless_empty}

pub some_bytes : (b : ℕ) (bs : List ℕ) → (length (b ∷ bs) == 0) ≡ false
some_bytes b bs = grind arith

-- the text that an option holds, or an empty one
pub present_or_empty : (value : Option (List ℕ)) → unless_empty (unwrap_or value []) ≡ option_and_then unless_empty value
present_or_empty None = refl
present_or_empty (Some text) = refl

absent_or : (text : List ℕ) → unless_empty (unwrap_or (unless_empty text) []) ≡ unless_empty text
absent_or [] = refl
absent_or (b ∷ bs) = rw (some_bytes b bs) (rw (some_bytes b bs) refl)

pub bare_or_empty : (value : Option (List ℕ)) → unless_empty (unwrap_or (bare_present value) []) ≡ bare_present value
bare_or_empty None = refl
bare_or_empty (Some []) = refl
bare_or_empty (Some (b ∷ bs)) = rw (some_bytes b bs) (absent_or (bare_text (b ∷ bs)))

-- an empty text asks for no digest
pub wanted_unless_empty : (text : List ℕ) → option_map_or wanted_digest (unless_empty text) Unchecked ≡ wanted_digest text
wanted_unless_empty [] = refl
wanted_unless_empty (b ∷ bs) = rw (some_bytes b bs) refl
