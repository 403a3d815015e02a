-- What a revisit refers to, and the origin of a capture: the end of the chain of referents (ISO 28500:2017, 6.7, 5.11,
-- 5.12 and 5.13; the payload digest: 5.9). How a record is looked for, and that the first one counts, is this project's
-- own.
use Rattle.std.specs.Prelude.{◌≡◌, ◌↔◌, ℕ, zero, suc, ◌<◌, Bool, false, not, ◌&&◌, ◌||◌, ◌==◌, List, length, position, slice_get, Option, None, is_some, ok_or, option_and_then, Result, Ok, Err, if◌then◌else◌}
use Rattle.std.specs.Option.{option_map_or, option_or}
use Rattle.std.specs.Result.{result_ok}
use Rattle.warc_value.specs.Dates.{Instant}
use Rattle.warc_record.specs.Kinds.{is_revisit}
use Rattle.warc_record.specs.Readings.{ReferenceReading}
use Rattle.warc_index.specs.declared.unfound.Unfound.{Unfound}
use Rattle.warc_index.specs.declared.unfound.Unfound.TheVariants.{UnknownProfile, NoReference, Unresolved, Loop}
use Rattle.warc_index.specs.Captures.{Indexed, has_payload, is_capture, is_by, latest}
use Rattle.warc_record.specs.Texts.{is_text, is_same_text}
use Rattle.warc_index.specs.Walks.{ComesBack}

-- the first capture with the id of a key
abbrev pub has_key : List ℕ → Indexed → Bool
has_key key r = is_capture r.kind && is_text key r.id

abbrev pub by_key : List Indexed → List ℕ → Option ℕ
by_key all key = position (has_key key) all

-- the first record of any kind with the id
abbrev pub first_with : List Indexed → List ℕ → Option ℕ
first_with all key = position (λ r. is_text key r.id) all

-- the first response or resource of a target and an instant
abbrev pub is_instant : Instant → Option Instant → Bool
is_instant moment found = option_map_or (λ instant. (instant.0 == moment.0) && (instant.1 == moment.1)) found false

abbrev pub is_of_pair : List ℕ × Instant → Indexed → Bool
is_of_pair pair r = has_payload r.kind && is_text pair.0 r.target && is_instant pair.1 r.instant

abbrev pub by_pair : List Indexed → List ℕ × Instant → Option ℕ
by_pair all pair = position (is_of_pair pair) all

-- what a revisit names: the first capture with the id, or else the first response or resource of the pair
abbrev pub record_named : List Indexed → ReferenceReading → Option ℕ
record_named all reference =
    option_or (option_and_then (by_key all) reference.named_id) (option_and_then (by_pair all) reference.named_pair)

abbrev pub names_something : ReferenceReading → Bool
names_something reference = is_some reference.named_id || is_some reference.named_pair

-- a response or a resource of the revisit's target, stating its payload digest, that isn't after it
abbrev pub is_candidate : Indexed → Indexed → Bool
is_candidate revisit r =
    has_payload r.kind && is_same_text revisit.target r.target && is_same_text revisit.payload_digest r.payload_digest
    && is_by revisit.instant r

-- the latest of them
abbrev pub by_payload : List Indexed → Indexed → Option ℕ
by_payload all revisit = latest (is_candidate revisit) all

-- the position that a revisit refers to: by what it names, or by its payload if it names nothing
abbrev pub referent_of : List Indexed → Indexed → Result ℕ Unfound
referent_of all revisit =
    if not revisit.reference.known_profile then Err UnknownProfile
    else if names_something revisit.reference then ok_or (record_named all revisit.reference) Unresolved
    else ok_or (by_payload all revisit) NoReference

-- the position that the record at a position refers to; at no position there is none
abbrev pub referent_at : List Indexed → Option Indexed → Result ℕ Unfound
referent_at all found = option_map_or (referent_of all) found (Err Unresolved)

abbrev pub is_revisit_at : List Indexed → ℕ → Bool
is_revisit_at all p = option_map_or (λ (r : Indexed). is_revisit r.kind) (slice_get all p) false

abbrev pub ok_then : {A B E : Type 0} → (A → Result B E) → Result A E → Result B E
ok_then next (Ok a) = next a
ok_then next (Err e) = Err e

-- the end of the chain of referents from p, in at most n steps
abbrev pub origin_within : ℕ → List Indexed → ℕ → Result ℕ Unfound
origin_within zero all p = if is_revisit_at all p then Err Loop else Ok p
origin_within (suc steps) all p =
    if is_revisit_at all p then ok_then (origin_within steps all) (referent_at all (slice_get all p)) else Ok p

-- the origin of the capture at p, in as many steps as there are records
abbrev pub origin_of : List Indexed → ℕ → Result ℕ Unfound
origin_of all p = origin_within (length all) all p

-- the origin of a record is one of the records
abbrev pub OriginsAreRecords : Type 0
OriginsAreRecords = (all : List Indexed) (p q : ℕ) → p < length all → origin_of all p ≡ Ok q → q < length all

-- where the chain goes on from p, none if it ends or breaks
abbrev pub next_of : List Indexed → ℕ → Option ℕ
next_of all p = if is_revisit_at all p then result_ok (referent_at all (slice_get all p)) else None

-- the origin is refused as a loop exactly if the chain comes back to a record that it has left
abbrev pub ChainLoops : Type 0
ChainLoops = (all : List Indexed) (p : ℕ) → p < length all → (origin_of all p ≡ Err Loop) ↔ ComesBack (next_of all) p
