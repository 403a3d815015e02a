-- What two keep of records: what the second keeps is taken back where the first is refused.
use Rattle.std.proofs.Common.{◌≡◌, ℕ, zero, suc, List, [], ◌∷◌, ◌++◌, length, take, replicate, None, refl, sym, ap, subst, ◌∙◌}
use Rattle.warc_field.specs.Area.{Pair}
use Rattle.warc_frame.specs.declared.version.Version.TheVariants.{V1_0}
use Rattle.warc_record.specs.Heads.{head_fault}
use Rattle.warc_reading.specs.Judging.{IsNextOf}
use Rattle.warc_reading.specs.Row.{Placed}

-- the first records, where one was added
pub first_again : (records : List Placed) (p : Placed) (position : ℕ) → position ≡ length records → take position (records ++ p ∷ []) ≡ records
first_again records p position at = ap (λ n. take n (records ++ p ∷ [])) at ∙ whole records
  where
    whole : (l : List Placed) → take (length l) (l ++ p ∷ []) ≡ l
    whole [] = refl
    whole (x ∷ l) = ap (λ r. x ∷ r) (whole l)

-- what was kept of one more record and taken back is kept of the records before
pub taken_back : {L : Type 0} (Keeps : L → List Placed → Type 0) (l : L) (records : List Placed) (p : Placed) (position : ℕ) → position ≡ length records
    → Keeps l (take position (records ++ p ∷ [])) → Keeps l records
taken_back Keeps l records p position at is = subst (Keeps l) (first_again records p position at) is

-- a record with these fields, whose block begins there and has this length
abbrev pub some_record : List Pair → ℕ → ℕ → Placed
some_record fields start len = record {
  offset = 0;
  block_start = start;
  content = record { version = V1_0; fields = fields; block = replicate len 0 };
}

length_of : (n : ℕ) → length {A = ℕ} (replicate n 0) ≡ n
length_of zero = refl
length_of (suc n) = ap suc (length_of n)

pub some_next : (fields : List Pair) (start len : ℕ) → head_fault fields ≡ None → IsNextOf (some_record fields start len) fields start len
some_next fields start len good = record { fields_are = refl; good = good; start_is = refl; len_is = sym (length_of len) }
