-- Whether joined blocks are what their digests say, and where the body begins in them. States of the code: no public
-- clause cites them.
use Rattle.std.specs.Prelude.{◌≡◌, ℕ, ◌≤◌, Bool, true, false, List, length, min, take, drop, Option, Some, None, Result, Ok, Err, IfErr}
use Rattle.std.specs.Bool.{MatchBool}
use Rattle.std.specs.List.{list_any}
use Rattle.warc_value.specs.Digests.{is_bad, verdict_of}
use Rattle.warc_frame.specs.Effects.{FailsBy}
use Rattle.warc_frame.specs.Seen.{IfHeld, SeenSource}
use Rattle.warc_frame.specs.declared.fault.OutFault.TheVariants as outs
use Rattle.warc_payload.specs.Head.{HasNoHead, most_head_bytes}
use Rattle.warc_payload.specs.Payload.{GivesBody, GivesCodedBody}
use Rattle.warc_segment.specs.declared.place.Place.{Place}
use Rattle.warc_answer.specs.Origins.{ReadsToJudge}
use Rattle.warc_answer.specs.Places.{LieIn, bytes_at, len_of, text_at}
use Rattle.warc_answer.specs.Replays.{WantsNoMemory, out_result}
use Rattle.warc_answer.specs.Seen.{IsEarly}
use Rattle.warc_answer.specs.declared.answer.Reason.{Reason as Why}
use Rattle.warc_answer.specs.declared.answer.Reason.TheVariants.{NotFound, Segments, BadDigest, BadHead, Coded}
use Rattle.warc_answer.specs.declared.answer.ReplayFault.{ReplayFault}
use Rattle.warc_answer.specs.declared.answer.ReplayFault.TheVariants.{Reason, Out}
use Rattle.warc_answer.specs.declared.body.BodyStart.{BodyStart}

-- the block at a place isn't what its record's digest says
abbrev pub is_bad_at : List ℕ → Place → Bool
is_bad_at bytes p = is_bad (verdict_of p.wanted (bytes_at bytes p))

abbrev pub any_bad_at : List ℕ → List Place → Bool
any_bad_at bytes places = list_any (is_bad_at bytes) places

-- a buffer begins with this many bytes, which are this text, and no block is bad; or none, and some block is
abbrev pub IsFront : Bool → List ℕ → List ℕ → Option ℕ → Type 0
IsFront bad text buf (Some n) = (bad ≡ false) × (take n buf ≡ text)
IsFront bad text buf None = bad ≡ true

-- a buffer of this length has room for an HTTP head in joined blocks: for 65,536 bytes, or for all of them
abbrev pub HasRoom : ℕ → List Place → Type 0
HasRoom room places = (room ≤ most_head_bytes) × (min most_head_bytes (len_of places) ≤ room)

-- the body begins here in the joined blocks, which are this text
abbrev pub BeginsAt : Bool → List ℕ → BodyStart → Type 0
BeginsAt http text start =
    (start.skip ≤ length text)
    × MatchBool http ((status : ℕ) × (start.status ≡ Some status) × GivesBody text status (drop start.skip text))
    ((start.status ≡ None) × (start.skip ≡ 0))

-- it begins nowhere, for this reason: some block is bad, or none is
abbrev pub BeginsNowhere : Bool → Bool → List ℕ → Why → Type 0
BeginsNowhere bad http text BadDigest = bad ≡ true
BeginsNowhere bad http text BadHead = (bad ≡ false) × MatchBool http (HasNoHead text) ⊥
BeginsNowhere bad http text Coded = (bad ≡ false) × MatchBool http (GivesCodedBody text) ⊥
BeginsNowhere bad http text (NotFound why) = ⊥
BeginsNowhere bad http text (Segments gap) = ⊥

abbrev pub IsStart : Bool → Bool → List ℕ → Result BodyStart ReplayFault → Type 0
IsStart bad http text (Ok start) = (bad ≡ false) × BeginsAt http text start
IsStart bad http text (Err (Reason why)) = BeginsNowhere bad http text why
IsStart bad http text (Err (Out e)) = e ≡ outs.Read 0

-- the joined blocks are judged, and where the body begins in them is found: what is answered, and that nothing is
-- written, no memory is wanted, and what is read
pub record FindsStart (http : Bool) (places : List Place) (old new : SeenSource)
    (result : Result BodyStart ReplayFault) : Type 0 where
  pub begun : IfHeld old.holds (λ bytes. LieIn places bytes →
      IsStart (any_bad_at bytes places) http (text_at places bytes) result)
  pub early : IfErr result IsEarly
  pub device : IfErr result WantsNoMemory
  pub reads : ReadsToJudge http places old new
  pub fails : FailsBy (LieIn places) (out_result result) old new
