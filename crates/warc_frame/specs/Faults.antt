-- The first fault of a text: that of what follows the longest list of records that the text begins with. This
-- project's own notion.
use Rattle.std.specs.Prelude.{◌≡◌, ◌≢◌, ℕ, ◌+◌, ◌-◌, Bool, true, false, nat_lt, List, [], ◌++◌, length, take, Option, Some, None, Err}
use Rattle.std.specs.List.{AllByRecursion}
use Rattle.warc_frame.specs.declared.fault.FaultKind.{FaultKind}
use Rattle.warc_frame.specs.declared.fault.FaultKind.TheVariants.{Truncated, TooLong}
use Rattle.warc_frame.specs.declared.fault.Fault.{Fault}
use Rattle.warc_frame.specs.Record.{Record, max_archive}
use Rattle.warc_frame.specs.Spelling.{SpellsAll}
use Rattle.warc_frame.specs.Reading.{Judgement, any_fields, fault, record_of}

-- a judgement finds no fault in the fields of any of the records
abbrev pub AllAccepted : Judgement → List Record → Type 0
AllAccepted judge records = AllByRecursion (λ r. judge r.fields ≡ None) records

-- the part of a text that begins at offset q which is before the offset where archives end, and whether it goes on
unfoldable pub within_limit : ℕ → List ℕ → List ℕ
within_limit q t = take (max_archive - q) t

unfoldable pub goes_on : ℕ → List ℕ → Bool
goes_on q t = nat_lt (max_archive - q) (length t)

-- a fault of what is at offset q
abbrev pub following : ℕ → Fault → Fault
following q f = fault f.kind (q + f.offset)

-- what is wrong with a text that begins at offset q: nothing if it is empty, and else that no record is there
abbrev pub HasFault : Judgement → ℕ → List ℕ → Option Fault → Type 0
HasFault judge q t None = t ≡ []
HasFault judge q t (Some f) = (t ≢ []) × (g : Fault) × (record_of judge t ≡ Err g) × (f ≡ following q g)

-- a text that begins at offset q, read as far as records go: the longest list of records that a front of it spells, and
-- what is wrong with the rest
pub record ReadsAs (judge : Judgement) (q : ℕ) (t : List ℕ) (records : List Record)
    (found : Option Fault) : Type 0 where
  pub front : List ℕ
  pub rest : List ℕ
  pub text : t ≡ front ++ rest
  pub spelled : SpellsAll records front
  pub accepted : AllAccepted judge records
  pub fault_is : HasFault judge (q + length front) rest found

-- the fault of a text that goes on where archives end: that it is too long, unless a fault other than truncation
-- comes before
abbrev pub or_too_long : FaultKind → Fault → Fault
or_too_long Truncated f = fault TooLong max_archive
or_too_long kind f = f

abbrev pub limited : Bool → Option Fault → Option Fault
limited false found = found
limited true None = Some (fault TooLong max_archive)
limited true (Some f) = Some (or_too_long f.kind f)

-- the first fault of a text that begins at offset q
pub record IsFirstFault (judge : Judgement) (q : ℕ) (t : List ℕ) (f : Fault) : Type 0 where
  pub records : List Record
  pub found : Option Fault
  pub before : ReadsAs judge q (within_limit q t) records found
  pub is : limited (goes_on q t) found ≡ Some f

-- the first fault is this kind of fault of the record after these
abbrev pub IsFaultAfter : Judgement → ℕ → List ℕ → List Record → FaultKind → Type 0
IsFaultAfter judge q t records kind =
    (front rest : List ℕ) × (t ≡ front ++ rest) × SpellsAll records front
    × IsFirstFault judge q t (fault kind (q + length front))

-- the frame fault: the fault by framing alone
abbrev pub IsFrameFault : ℕ → List ℕ → Fault → Type 0
IsFrameFault q t f = IsFirstFault any_fields q t f
