-- What is stored of an origin, as the code judges it. States of the code: no public clause cites them.
use Rattle.std.specs.Prelude.{◌≡◌, ℕ, ◌-◌, Bool, true, false, List, Result, Ok, Err, ⊤}
use Rattle.std.specs.Bool.{MatchBool}
use Rattle.std.specs.List.{list_any}
use Rattle.httparse.specs.Grammar.{ResponseHead}
use Rattle.warc_field.specs.Area.{Pair}
use Rattle.warc_frame.specs.Count.{capped}
use Rattle.warc_payload.specs.Head.{HasNoHead, IsInfoOf}
use Rattle.warc_payload.specs.Texts.{AreHeadTexts}
use Rattle.warc_payload.specs.declared.StoredHead.{StoredHead}
use Rattle.warc_segment.specs.declared.place.Place.{Place}
use Rattle.warc_answer.specs.Giving.{any_bad_at}
use Rattle.warc_answer.specs.Places.{len_of, text_at}
use Rattle.warc_answer.specs.Seen.{stored_seen}
use Rattle.warc_answer.specs.Stored.{IsStoredIn, StoredBody}
use Rattle.warc_answer.specs.declared.answer.Reason.{Reason as Why}
use Rattle.warc_answer.specs.declared.answer.Reason.TheVariants.{NotFound, Segments, BadDigest, BadHead, Coded}
use Rattle.warc_answer.specs.declared.answer.ReplayFault.{ReplayFault}
use Rattle.warc_answer.specs.declared.answer.ReplayFault.TheVariants.{Reason, Out}
use Rattle.warc_answer.specs.declared.stored.Stored.{Stored}

-- some block is bad, or none is and the text has no head
abbrev pub IsHeadless : Bool → List ℕ → Why → Type 0
IsHeadless bad text BadDigest = bad ≡ true
IsHeadless bad text BadHead = (bad ≡ false) × HasNoHead text
IsHeadless bad text Coded = ⊥
IsHeadless bad text (NotFound unfound) = ⊥
IsHeadless bad text (Segments gap) = ⊥

-- no block is bad, and this is the head of a response that the text begins with, with its texts
abbrev pub IsHeadIn : {A : Type 0} → Bool → List ℕ → Result (StoredHead A) ReplayFault → Type 0
IsHeadIn bad text (Ok h) =
    (head : ResponseHead) × (bad ≡ false) × IsInfoOf text h.info head
    × AreHeadTexts head h.media_type.items h.codings.items
IsHeadIn bad text (Err (Reason why)) = IsHeadless bad text why
IsHeadIn bad text (Err (Out e)) = ⊤

-- what is stored at places, of which the text is this, has this mark and length
abbrev pub IsSaidOf : Bool → List Pair → List ℕ → List Place → StoredBody → Type 0
IsSaidOf http fields text places s =
    IsStoredIn http fields text (Ok s) × (s.truncated ≡ list_any (λ p. p.truncated) places)
    × (s.length ≡ capped (len_of places) - s.head_len)

-- what is stored at places among the bytes
abbrev pub IsSeenIn : {A : Type 0} → Bool → List Pair → List ℕ → List Place → Result (Stored A) ReplayFault → Type 0
IsSeenIn http fields bytes places (Ok s) =
    (any_bad_at bytes places ≡ false) × IsSaidOf http fields (text_at places bytes) places (stored_seen s)
IsSeenIn http fields bytes places (Err (Reason why)) =
    MatchBool (any_bad_at bytes places) (why ≡ BadDigest) (IsStoredIn http fields (text_at places bytes) (Err why))
IsSeenIn http fields bytes places (Err (Out e)) = ⊤
