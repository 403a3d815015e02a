-- What is stored of an origin, and where. States of the code: no public clause cites them.
use Rattle.std.specs.Prelude.{◌≡◌, ℕ, ◌<◌, List, length, map, slice_get, Option, Some, None, Result, Ok, Err, IfErr, IfOk, ⊤}
use Rattle.std.specs.Io.KnownBytes.{append_known}
use Rattle.warc_frame.specs.Effects.{FailsBy, Preserves, ReadsOnly}
use Rattle.warc_frame.specs.Failing.{failed_by}
use Rattle.warc_frame.specs.Record.{Record}
use Rattle.warc_frame.specs.Seen.{AsksOnly, IfHeld, Seen, SeenSource}
use Rattle.warc_frame.specs.Send.{sent_of}
use Rattle.warc_frame.specs.declared.fault.OutFault.{OutFault}
use Rattle.warc_segment.specs.Joined.{joined_places}
use Rattle.warc_segment.specs.Kept.{Kept as Parts}
use Rattle.warc_segment.specs.declared.place.Place.{Place}
use Rattle.warc_answer.specs.Places.{LieIn, len_of, text_at}
use Rattle.warc_answer.specs.Replays.{IsSilent, out_result}
use Rattle.warc_answer.specs.Seen.{IsEarly, stored_seen}
use Rattle.warc_answer.specs.Stored.{IsStoredAt, joined_text_at}
use Rattle.warc_answer.specs.declared.answer.Reason.{Reason as Why}
use Rattle.warc_answer.specs.declared.answer.ReplayFault.{ReplayFault}
use Rattle.warc_answer.specs.declared.answer.ReplayFault.TheVariants.{Reason, Out}
use Rattle.warc_answer.specs.declared.stored.Stored.{Stored}
use Rattle.warc_reading.specs.Archive.{IsArchiveOf, contents}
use Rattle.warc_lookup.specs.Indexed.{placed_record, ArePartsOf}
use Rattle.warc_reading.specs.Row.{Placed, Row}
use Rattle.warc_replay.specs.Origins.{IsRecordAt, StaysInside}
use Rattle.warc_replay.specs.Outcomes.{IsFrontAt, judged_seen, stored_text}
use Rattle.warc_replay.specs.Replaying.{IsOfOrigin, origin_joined, reads_of}
use Rattle.warc_replay.specs.declared.replay.stored.Look.{Look}

-- what is stored of the origin at a position, and the places of what is joined; a reason, or nothing where a read or an
-- allocation failed
abbrev pub IsLook : {A : Type 0} → List ℕ → List Record → ℕ → Result (Look A) ReplayFault → Type 0
IsLook bytes records position (Ok l) =
    IsStoredAt records position (Ok (stored_seen l.stored))
    × (text_at l.places.items bytes ≡ joined_text_at records position) × LieIn l.places.items bytes
IsLook bytes records position (Err (Reason why)) = IsStoredAt records position (Err why)
IsLook bytes records position (Err (Out e)) = ⊤

-- these are the places of the blocks that are joined to an origin
pub record ArePlacesFor (all : List Placed) (p : Placed) (places : List Place) : Type 0 where
  pub are : joined_places (map placed_record all) (placed_record p) ≡ Ok places
  pub long : len_of places ≡ origin_joined all p

-- there is an origin, and these are the places of the blocks that are joined to it
abbrev pub ArePlacesIn : List Placed → Option Placed → List Place → Type 0
ArePlacesIn all None places = ⊥
ArePlacesIn all (Some p) places = ArePlacesFor all p places

-- over known bytes: an origin's head and the blocks that are joined to it were read, each at most once, and the places
-- of these blocks are given
pub record LooksOn {A : Type 0} (all : List Placed) (found : Option Placed) (old new : SeenSource)
    (answer : Result (Look A) ReplayFault) : Type 0 where
  pub reads : ReadsOnly (IsOfOrigin all found) (reads_of 1 all found) old new
  pub places : IfOk answer (λ l. ArePlacesIn all found l.places.items)

-- the head of the record at the position and, some times, the blocks that are joined to it are read, where the source
-- holds the archive's bytes
abbrev pub ReadsOrigin : ℕ → List Row → Parts → ℕ → SeenSource → SeenSource → Type 0
ReadsOrigin times rows parts position old new =
    IfHeld old.holds (λ bytes. (is : IsArchiveOf bytes rows) → ArePartsOf is.are.records parts
    → ReadsOnly (IsOfOrigin is.are.records (slice_get is.are.records position))
    (reads_of times is.are.records (slice_get is.are.records position)) old new)

-- any source is asked for no byte after those of an archive of these rows and parts
abbrev pub AsksWithin : List Row → Parts → SeenSource → SeenSource → Type 0
AsksWithin rows parts old new =
    (bytes : List ℕ) (is : IsArchiveOf bytes rows) → ArePartsOf is.are.records parts
    → AsksOnly (λ at. at < length bytes) old new

-- what is stored of the origin at a position, by rows and parts: where the source holds the archive's bytes, and the
-- position is that of a record
pub record Looks {A : Type 0} (rows : List Row) (parts : Parts) (position : ℕ) (old new : SeenSource)
    (answer : Result (Look A) ReplayFault) : Type 0 where
  pub reported : IfHeld old.holds (λ bytes. (is : IsArchiveOf bytes rows) → ArePartsOf is.are.records parts
      → IsLook bytes (contents is.are.records) position answer)
  pub reads : IfHeld old.holds (λ bytes. (is : IsArchiveOf bytes rows) → ArePartsOf is.are.records parts
      → LooksOn is.are.records (slice_get is.are.records position) old new answer)
  pub inside : (bytes : List ℕ) (is : IsArchiveOf bytes rows) → ArePartsOf is.are.records parts
      → StaysInside (λ l. l.places.items) bytes old new answer
  pub early : IfErr answer IsEarly
  pub keeps : Preserves old new
  pub fails : FailsBy (IsRecordAt rows parts position) (out_result answer) old new

-- what is stored of the origin at a position, by rows and parts, as `Looks`, without the places
pub record Judges {A : Type 0} (rows : List Row) (parts : Parts) (position : ℕ) (old new : SeenSource)
    (answer : Result (Result (Stored A) Why) OutFault) : Type 0 where
  pub reported : IfHeld old.holds (λ bytes. (is : IsArchiveOf bytes rows) → ArePartsOf is.are.records parts
      → IfOk answer (λ judged. IsStoredAt (contents is.are.records) position (judged_seen judged)))
  pub reads : ReadsOrigin 1 rows parts position old new
  pub inside : AsksWithin rows parts old new
  pub early : IfErr answer (λ e. IsEarly (Out e))
  pub keeps : Preserves old new
  pub fails : FailsBy (IsRecordAt rows parts position) answer old new

-- what went out of what is stored of the origin at a position
abbrev pub IsSent : {A : Type 0} → List Record → ℕ → Result (Stored A) ReplayFault → Option (List ℕ) → Option (List ℕ)
    → Type 0
IsSent records position (Ok s) old new =
    IsStoredAt records position (Ok (stored_seen s))
    × (new ≡ append_known old (stored_text records position (stored_seen s)))
IsSent records position (Err (Reason why)) old new = IsStoredAt records position (Err why) × (new ≡ old)
IsSent records position (Err (Out e)) old new = IsFrontAt records position (sent_of e) old new

-- what went out of what is stored of the origin at a position, by rows and parts
pub record SendsStored {A : Type 0} (rows : List Row) (parts : Parts) (position : ℕ) (old new : SeenSource)
    (before after : Seen) (answer : Result (Stored A) ReplayFault) : Type 0 where
  pub reported : IfHeld old.holds (λ bytes. (is : IsArchiveOf bytes rows) → ArePartsOf is.are.records parts
      → IsSent (contents is.are.records) position answer before.reports after.reports)
  pub reads : ReadsOrigin 2 rows parts position old new
  pub inside : AsksWithin rows parts old new
  pub silent : IsSilent answer before.reports after.reports
  pub keeps : Preserves old new
  pub fails : FailsBy (IsRecordAt rows parts position) (out_result answer) old new
  pub cause : after.faults ≡ failed_by (out_result answer) before.faults
