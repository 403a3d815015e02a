-- What the findings of a record are, one by one: a finding is listed exactly if the sentence of its number holds,
-- and the numbers never fall. Findings are this project's own notion.
use Rattle.std.specs.Prelude.{◌≡◌, ◌⊎◌, ◌↔◌, ℕ, ◌+◌, ◌≤◌, Bool, false, ◌&&◌, List, [], ◌∷◌, length, IsTrue, decimal, unwrap_or}
use Rattle.std.specs.List.{AllPairs, Contains, sum_by}
use Rattle.std.specs.Str.{is_utf8}
use Rattle.warc_field.specs.Area.{Pair, canonical_fields}
use Rattle.warc_record.specs.declared.types.Kind.{Kind}
use Rattle.warc_record.specs.declared.checks.TableCheck.{TableCheck}
use Rattle.warc_record.specs.Kinds.{is_known}
use Rattle.warc_record.specs.Readings.{Reading}
use Rattle.warc_record.specs.Table.{Rule, rules}
use Rattle.warc_record.specs.Findings.{SeenFinding, Digest, SegmentNumber, IdUsed, NoContentType, Profile, NotUtf8, BareId, NoOrigin, finding_number, finding_field, is_broken, broken_rule, has_bad_segment, lacks_content_type, has_unknown_profile, has_bare_id, lacks_origin, findings_by, findings_of}

-- it is about the field of a rule of the table, which is absent, forbidden or repeated
abbrev pub IsByTable : TableCheck → Kind → List Pair → SeenFinding → Type 0
IsByTable check kind fields found =
    (rule : Rule) × Contains rules rule × IsTrue (is_broken check kind fields rule)
    × (found ≡ broken_rule check rule)

-- it is about a field of the record whose value isn't UTF-8
abbrev pub IsNotUtf8 : List Pair → SeenFinding → Type 0
IsNotUtf8 fields found =
    (field : Pair) × Contains fields field × (is_utf8 field.1 ≡ false) × (found ≡ NotUtf8 field.0)

-- the findings that are about no field, each with whether its sentence holds
abbrev pub sentences : Reading → List Pair → ℕ → Bool → Bool → List (SeenFinding × Bool)
sentences reading fields size bad_digest used_id =
    (Digest, is_known reading.kind && bad_digest)
    ∷ (SegmentNumber, has_bad_segment reading fields)
    ∷ (IdUsed, used_id)
    ∷ (NoContentType, lacks_content_type reading.kind fields size)
    ∷ (Profile, has_unknown_profile reading fields)
    ∷ (BareId, has_bare_id reading)
    ∷ (NoOrigin, lacks_origin reading fields)
    ∷ []

-- it is the finding of a sentence, and the sentence holds
abbrev pub IsOnce : SeenFinding × Bool → SeenFinding → Type 0
IsOnce sentence found = IsTrue sentence.1 × (found ≡ sentence.0)

-- it is one by the field table, of a value that isn't UTF-8, or about no field
abbrev pub IsFinding : Reading → List Pair → ℕ → Bool → Bool → SeenFinding → Type 0
IsFinding reading fields size bad_digest used_id found =
    ((check : TableCheck) × IsByTable check reading.kind fields found)
    ⊎ (IsNotUtf8 fields found
    ⊎ ((sentence : SeenFinding × Bool) × Contains (sentences reading fields size bad_digest used_id) sentence
    × IsOnce sentence found))

-- a finding is listed exactly if its sentence holds
abbrev pub ListedWhereTheyHold : Type 0
ListedWhereTheyHold =
    (reading : Reading) (fields : List Pair) (size : ℕ) (bad_digest used_id : Bool) (found : SeenFinding)
    → Contains (findings_by reading fields size bad_digest used_id) found
    ↔ IsFinding reading fields size bad_digest used_id found

-- the numbers of the findings never fall
abbrev pub NumbersNeverFall : Type 0
NumbersNeverFall =
    (reading : Reading) (fields : List Pair) (size : ℕ) (bad_digest used_id : Bool)
    → AllPairs (λ a b. finding_number a ≤ finding_number b) (findings_by reading fields size bad_digest used_id)

-- a record has at most 58 findings and one for each of its fields
abbrev pub FindingsAreFew : Type 0
FindingsAreFew = (fields : List Pair) (size : ℕ) (bad_digest used_id : Bool)
    → length (findings_of fields size bad_digest used_id) ≤ length fields + 58

-- how many bytes a finding has: the digits of its number, and its field's name
abbrev pub reported_len : SeenFinding → ℕ
reported_len found = length (decimal (finding_number found)) + length (unwrap_or (finding_field found) [])

-- the findings of a record have at most 1,000 bytes more than its fields
abbrev pub FindingsAreShort : Type 0
FindingsAreShort = (fields : List Pair) (size : ℕ) (bad_digest used_id : Bool)
    → sum_by reported_len (findings_of fields size bad_digest used_id) ≤ length (canonical_fields fields) + 1000
