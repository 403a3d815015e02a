-- What an index keeps of a head, the captures of a target, and the chosen one: the latest by the moment asked for. The
-- notions are this project's own; captures are the records of ISO 28500:2017, 6.3, 6.4 and 6.7.
use Rattle.std.specs.Prelude.{◌≡◌, ◌↔◌, ℕ, Bool, true, false, not, ◌&&◌, ◌||◌, nat_lt, List, find, slice_get, Option, Some, None, ok_or, option_map, Result, Ok, Err, IsTrue, IsFalse, if◌then◌else◌}
use Rattle.std.specs.List.{AllPairs, Contains, list_any, enumerate_from}
use Rattle.warc_value.specs.Dates.{Instant, is_before}
use Rattle.warc_record.specs.declared.types.Kind.{Kind}
use Rattle.warc_record.specs.declared.types.Kind.TheVariants.{Response, Resource, Revisit}
use Rattle.warc_record.specs.Readings.{ReferenceReading, Reading}
use Rattle.warc_record.specs.Texts.{is_text}
use Rattle.warc_index.specs.declared.unfound.Unfound.{Unfound}
use Rattle.warc_index.specs.declared.unfound.Unfound.TheVariants.{NoCapture, NotYet}

-- what an index keeps of a record: its kind, its id's key, its instant, its target, what it refers to, and the digest
-- that it states of its payload
pub record Indexed : Type 0 where
  pub kind : Kind
  pub id : Option (List ℕ)
  pub instant : Option Instant
  pub target : Option (List ℕ)
  pub reference : ReferenceReading
  pub payload_digest : Option (List ℕ)

abbrev pub indexed_of : Reading → Indexed
indexed_of head = record {
  kind = head.kind;
  id = head.id;
  instant = head.instant;
  target = head.target;
  reference = head.reference;
  payload_digest = head.payload_digest;
}

-- a response or a resource, which has a payload of its own
abbrev pub has_payload : Kind → Bool
has_payload Response = true
has_payload Resource = true
has_payload _ = false

-- a capture: a response, a resource or a revisit
abbrev pub is_capture : Kind → Bool
is_capture Revisit = true
is_capture kind = has_payload kind

-- a capture of the target; an absent target isn't a URI
abbrev pub is_capture_of : List ℕ → Indexed → Bool
is_capture_of uri r = is_capture r.kind && is_text uri r.target

-- the first instant comes before the second; an absent one comes before any other
abbrev pub is_earlier : Option Instant → Option Instant → Bool
is_earlier a None = false
is_earlier None (Some b) = true
is_earlier (Some a) (Some b) = is_before a b

-- the instant isn't after the moment
abbrev pub is_by : Option Instant → Indexed → Bool
is_by moment r = not (is_earlier moment r.instant)

-- a position and the record there
abbrev pub Numbered : Type 0
Numbered = ℕ × Indexed

-- the first is later than the second: by instant, then by position
abbrev pub is_later : Numbered → Numbered → Bool
is_later a b = is_earlier b.1.instant a.1.instant || (not (is_earlier a.1.instant b.1.instant) && nat_lt b.0 a.0)

-- it passes, and nothing that passes is later
abbrev pub is_latest : (Indexed → Bool) → List Numbered → Numbered → Bool
is_latest test entries a = test a.1 && not (list_any (λ b. test b.1 && is_later b a) entries)

-- the position of the latest that passes
abbrev pub latest : (Indexed → Bool) → List Indexed → Option ℕ
latest test all = let entries = enumerate_from 0 all in option_map (λ a. a.0) (find (is_latest test entries) entries)

-- the chosen capture of a target: the latest that isn't after the moment
abbrev pub chosen_of : List Indexed → List ℕ → Instant → Result ℕ Unfound
chosen_of all uri moment =
    ok_or (latest (λ r. is_capture_of uri r && is_by (Some moment) r) all)
    (if list_any (is_capture_of uri) all then NotYet else NoCapture)

-- the record at p passes, and none that passes is later
pub record IsLatest (test : Indexed → Bool) (all : List Indexed) (p : ℕ) : Type 0 where
  pub it : Indexed
  pub is_present : slice_get all p ≡ Some it
  pub passes : IsTrue (test it)
  pub last : (q : ℕ) (r : Indexed) → slice_get all q ≡ Some r → IsTrue (test r) → IsFalse (is_later (q, r) (p, it))

-- none of the records passes
abbrev pub NonePasses : (Indexed → Bool) → List Indexed → Type 0
NonePasses test all = (q : ℕ) (r : Indexed) → slice_get all q ≡ Some r → IsFalse (test r)

-- some record passes
abbrev pub SomePasses : (Indexed → Bool) → List Indexed → Type 0
SomePasses test all = (q : ℕ) × (r : Indexed) × (slice_get all q ≡ Some r) × IsTrue (test r)

-- the latest, as a condition over all positions: it is the only one, and there is one if a record passes
abbrev pub LatestIsLast : Type 0
LatestIsLast =
    (test : Indexed → Bool) (all : List Indexed)
    → ((p : ℕ) → (latest test all ≡ Some p) ↔ IsLatest test all p) × ((latest test all ≡ None) ↔ NonePasses test all)

-- the record at p is a capture of the target by the moment, and no such capture is later
pub record IsChosen (all : List Indexed) (uri : List ℕ) (moment : Instant) (p : ℕ) : Type 0 where
  pub it : Indexed
  pub is_present : slice_get all p ≡ Some it
  pub capture : IsTrue (is_capture_of uri it)
  pub early : IsTrue (is_by (Some moment) it)
  pub last : (q : ℕ) (r : Indexed) → slice_get all q ≡ Some r → IsTrue (is_capture_of uri r)
      → IsTrue (is_by (Some moment) r) → IsFalse (is_later (q, r) (p, it))

-- what is chosen is that one; if none is, no capture has the target, or some has and none is early enough
abbrev pub ChosenIsLatest : Type 0
ChosenIsLatest =
    (all : List Indexed) (uri : List ℕ) (moment : Instant)
    → ((p : ℕ) → (chosen_of all uri moment ≡ Ok p) ↔ IsChosen all uri moment p)
    × ((chosen_of all uri moment ≡ Err NoCapture) ↔ NonePasses (is_capture_of uri) all)
    × ((chosen_of all uri moment ≡ Err NotYet)
    ↔ (SomePasses (is_capture_of uri) all × NonePasses (λ r. is_capture_of uri r && is_by (Some moment) r) all))

-- the record at p is a capture of the target
pub record IsCaptureOf (all : List Indexed) (uri : List ℕ) (p : ℕ) : Type 0 where
  pub it : Indexed
  pub there : slice_get all p ≡ Some it
  pub capture : IsTrue (is_capture_of uri it)

-- the record at q is later than the one at p
abbrev pub IsLaterAt : List Indexed → ℕ → ℕ → Type 0
IsLaterAt all p q =
    (a b : Indexed) → slice_get all p ≡ Some a → slice_get all q ≡ Some b → IsTrue (is_later (q, b) (p, a))

-- the positions of the captures of a target, each once: by instant, then by position
pub record AreCapturesOf (all : List Indexed) (uri : List ℕ) (positions : List ℕ) : Type 0 where
  pub each : (p : ℕ) → Contains positions p ↔ IsCaptureOf all uri p
  pub order : AllPairs (IsLaterAt all) positions
