-- What is stored of an origin whose own block alone is joined, all of it, and is good. States of the code: no public
-- clause cites them.
use Rattle.std.specs.Prelude.{◌≡◌, ℕ, ◌<◌, false, List, [], length, Option, None, Result, Ok, IfErr, IfOk, IfSome, slice_get, Some}
use Rattle.warc_field.specs.Area.{Pair}
use Rattle.warc_frame.specs.Effects.{FailsBy, Preserves}
use Rattle.warc_frame.specs.Record.{Record}
use Rattle.warc_frame.specs.Seen.{AsksOnly, IfHeld, SeenSource}
use Rattle.warc_frame.specs.declared.fault.OutFault.{OutFault}
use Rattle.warc_payload.specs.Texts.{media_type}
use Rattle.warc_answer.specs.Payloads.{has_bad_block, read_record}
use Rattle.warc_answer.specs.Seen.{IsEarly, stored_seen}
use Rattle.warc_answer.specs.Stored.{IsStoredAt, StoredBody}
use Rattle.warc_answer.specs.declared.answer.ReplayFault.TheVariants.{Out}
use Rattle.warc_answer.specs.declared.stored.Stored.{Stored}
use Rattle.warc_reading.specs.Archive.{IsArchiveOf, contents}
use Rattle.warc_reading.specs.Row.{Row}
use Rattle.warc_replay.specs.TypeLines.{IsUnsegmentedType}

-- all of the block of a row's record, whose own `Content-Type` has this value
abbrev pub own_block : Row → List ℕ → StoredBody
own_block row content_type = record {
  status = None;
  media_type = media_type content_type;
  codings = [];
  coded = false;
  truncated = row.is_truncated;
  head_len = 0;
  length = row.block_len;
}

-- if anything is said of a row's record with these fields, they have no segment number, and it is all of its block
abbrev pub IfLone : {A : Type 0} → List Pair → Row → Option (Stored A) → Type 0
IfLone fields row answer = IfSome answer (λ s. (content_type : List ℕ) × IsUnsegmentedType fields content_type
    × (stored_seen s ≡ own_block row content_type))

-- the block of the record at a position isn't bad
abbrev pub IsGoodAt : List Record → ℕ → Type 0
IsGoodAt records position = (r : Record) → slice_get records position ≡ Some r → has_bad_block (read_record r) ≡ false

-- what is said of the origin at a position, by rows
pub record JudgesLone {A : Type 0} (rows : List Row) (position : ℕ) (old new : SeenSource)
    (answer : Result (Option (Stored A)) OutFault) : Type 0 where
  pub reported : IfHeld old.holds (λ bytes. (is : IsArchiveOf bytes rows) → IsGoodAt (contents is.are.records) position
      → IfOk answer (λ o. IfSome o (λ s. IsStoredAt (contents is.are.records) position (Ok (stored_seen s)))))
  pub early : IfErr answer (λ e. IsEarly (Out e))
  pub inside : (bytes : List ℕ) → IsArchiveOf bytes rows → AsksOnly (λ at. at < length bytes) old new
  pub keeps : Preserves old new
  pub fails : FailsBy (λ bytes. IsArchiveOf bytes rows) answer old new
