-- What is stored of an origin, from what is seen at its places, and what a replay answers of it.
use Rattle.std.proofs.Common.{◌≡◌, ℕ, ◌≤◌, Bool, true, false, List, [], length, length-drop, drop, map, Some, None, Result, Ok, Err, slice_get, MatchBool, refl, sym, ap, subst, ◌∙◌, arith}
use Rattle.std.specs.Prelude.{IfErr, IfOk, option_map}
use Rattle.std.specs.List.{list_any}
use Rattle.std.specs.Option.{option_map_or}
use Rattle.std.proofs.lemmas.Option.{slice_get-map}
use Rattle.httparse.specs.Grammar.{status_code}
use Rattle.warc_field.specs.Area.{Pair}
use Rattle.warc_frame.specs.Failing.{HasFailedBy, MayHaveFailedBy}
use Rattle.warc_frame.specs.Record.{Record, max_archive}
use Rattle.warc_frame.specs.declared.fault.OutFault.TheVariants.{Memory}
use Rattle.warc_index.specs.declared.unfound.Unfound.{Unfound}
use Rattle.warc_record.specs.Readings.{reading_of}
use Rattle.warc_segment.specs.Joined.{ArePlacesOf, JoinedHasTotal, ReadRecord}
use Rattle.warc_segment.specs.declared.gap.Gap.{Gap}
use Rattle.warc_segment.specs.declared.place.Place.{Place}
use Rattle.warc_answer.specs.Answers.{IsAnswerOn, given_by, is_truncated}
use Rattle.warc_answer.specs.Giving.{any_bad_at}
use Rattle.warc_answer.specs.Judging.{IsHeadIn, IsSaidOf, IsSeenIn}
use Rattle.warc_answer.specs.Laws.{IsFound}
use Rattle.warc_answer.specs.Payloads.{IsAfterHead, IsPayload, Payload, has_bad_block, is_http_response, read_record, whole_block}
use Rattle.warc_answer.specs.Places.{len_of, text_at}
use Rattle.warc_answer.specs.Replays.{given, out_result}
use Rattle.warc_answer.specs.Seen.{IsEarly, IsJudged, stored_seen}
use Rattle.warc_answer.specs.Stored.{AreMeasures, IsStoredAfter, IsStoredBy, IsStoredIn, StoredBody, StoredIsAnswered, answer_with, joined_text, joined_text_at, joined_to}
use Rattle.warc_answer.specs.declared.answer.Path.{Path}
use Rattle.warc_answer.specs.declared.answer.Reason.{Reason as Why}
use Rattle.warc_answer.specs.declared.answer.Reason.TheVariants.{NotFound, Segments, BadDigest, BadHead, Coded}
use Rattle.warc_answer.specs.declared.answer.ReplayFault.{ReplayFault}
use Rattle.warc_answer.specs.declared.answer.ReplayFault.TheVariants.{Reason, Out}
use Rattle.warc_answer.specs.declared.stored.Stored.{Stored}
use Rattle.warc_answer.proofs.GiveLemmas.{joined_short, on_false, on_true, places_bad, places_len, places_marked, places_text}
use Rattle.warc_answer.proofs.ReasonLemmas.{answer_of}

-- a bad digest, or no head: nothing is seen
pub headless_seen : (A B : Type 0) (bytes : List ℕ) (fields : List Pair) (places : List Place) (fault : ReplayFault)
    → IsHeadIn {A = A} (any_bad_at bytes places) (text_at places bytes) (Err fault)
    → IsSeenIn {A = B} true fields bytes places (Err fault)
headless_seen A B bytes fields places (Reason BadHead) is = on_false _ _ (any_bad_at bytes places) is.0 is.1
headless_seen A B bytes fields places (Reason BadDigest) is = on_true _ _ (any_bad_at bytes places) is refl
headless_seen A B bytes fields places (Reason Coded) is = absurd is
headless_seen A B bytes fields places (Reason (NotFound unfound)) is = absurd is
headless_seen A B bytes fields places (Reason (Segments gap)) is = absurd is
headless_seen A B bytes fields places (Out e) is = is

-- a failed allocation is no failure of the source
pub memory_failed : {A : Type 0} (r : Result (Stored A) ReplayFault) (n : ℕ) → IfErr r (λ fault. fault ≡ Out (Memory 0)) → HasFailedBy (out_result r) n n
memory_failed (Ok s) n is = refl
memory_failed (Err fault) n is = subst (λ (f : ReplayFault). HasFailedBy (out_result {X = Unit {0}} (Err f)) n n) (sym is) refl

pub memory_may : {A : Type 0} (r : Result (Stored A) ReplayFault) (n : ℕ) → IfErr r (λ fault. fault ≡ Out (Memory 0)) → MayHaveFailedBy (out_result r) n n
memory_may (Ok s) n is = refl
memory_may (Err fault) n is = subst (λ (f : ReplayFault). MayHaveFailedBy (out_result {X = Unit {0}} (Err f)) n n) (sym is) refl

pub memory_early : {A : Type 0} (r : Result (Stored A) ReplayFault) → IfErr r (λ fault. fault ≡ Out (Memory 0)) → IfErr r IsEarly
memory_early (Ok s) is = tt
memory_early (Err fault) is = subst IsEarly (sym is) refl

-- where no digest is bad, what is said is seen
pub said_seen : {A : Type 0} (bytes : List ℕ) (fields : List Pair) (places : List Place) (r : Result (Stored A) ReplayFault)
    → any_bad_at bytes places ≡ false → IfOk r (λ s. IsSaidOf false fields (text_at places bytes) places (stored_seen s))
    → IfErr r (λ fault. fault ≡ Out (Memory 0)) → IsSeenIn false fields bytes places r
said_seen {A} bytes fields places (Ok s) fine said memory = (fine, said)
said_seen {A} bytes fields places (Err fault) fine said memory =
    subst (λ (f : ReplayFault). IsSeenIn {A = A} false fields bytes places (Err f)) (sym memory) tt

-- what is stored in a text, of an HTTP response or not, is stored in an equal one
stored_in : (http other : Bool) (fields : List Pair) (text block : List ℕ) (stored : Result StoredBody Why)
    → http ≡ other → text ≡ block → IsStoredIn http fields text stored → IsStoredIn other fields block stored
stored_in http other fields text block stored same whole is =
    subst (λ (b : Bool). IsStoredIn b fields block stored) same (subst (λ (t : List ℕ). IsStoredIn http fields t stored) whole is)

abbrev Refused : Why → Result StoredBody Why
Refused why = Err why

-- what is seen at the places is what is stored
pub judged_of : {A : Type 0} → JoinedHasTotal → (bytes : List ℕ) (records : List Record) (way : Result Path Unfound)
    (path : Path) (content : Record) (joined : List ReadRecord) (ps : List Place) (http : Bool)
    (result : Result (Stored A) ReplayFault) → length bytes ≤ max_archive
    → IsFound (map read_record records) way path (read_record content) (Ok joined) → ArePlacesOf bytes ps joined
    → http ≡ is_http_response (reading_of content.fields) → IsSeenIn http content.fields bytes ps result
    → IsJudged content joined result
judged_of total bytes records way path content joined ps http (Ok s) short found are same seen =
    let whole : text_at ps bytes ≡ whole_block joined = places_text bytes ps joined are in
    let fits : len_of ps ≤ max_archive = joined_short total bytes records way path (read_record content) joined ps short found are in
    let size : s.length ≡ length (drop s.head_len (whole_block joined)) =
    omega (arith, seen.1.2, fits, places_len bytes ps joined are, length-drop s.head_len (whole_block joined)) in
    on_false _ _ (list_any has_bad_block joined) (sym (places_bad bytes ps joined are) ∙ seen.0) (
      stored_in http _ content.fields _ _ (Ok (stored_seen s)) same whole seen.1.0,
      (seen.1.1 ∙ places_marked bytes ps joined are, size),
    )
judged_of total bytes records way path content joined ps http (Err (Reason why)) short found are same seen =
    by_bad (any_bad_at bytes ps) (list_any has_bad_block joined) (places_bad bytes ps joined are) seen
  where
    by_bad : (a b : Bool) → a ≡ b → MatchBool a (why ≡ BadDigest) (IsStoredIn http content.fields (text_at ps bytes) (Err why))
        → MatchBool b (Refused why ≡ Err BadDigest)
        (IsStoredIn (is_http_response (reading_of content.fields)) content.fields (whole_block joined) (Err why) × AreMeasures joined (Err why))
    by_bad true true e x = ap Err x
    by_bad false false e x = (stored_in http _ content.fields _ _ (Err why) same (places_text bytes ps joined are) x, tt)
    by_bad true false e x = absurd (cc)
    by_bad false true e x = absurd (cc)
judged_of total bytes records way path content joined ps http (Err (Out e)) short found are same seen = seen

-- ---- what a replay answers

abbrev payload_by : Bool → List ℕ → StoredBody → Result Payload Why
payload_by true block s = Err Coded
payload_by false block s = Ok (record { status = s.status; bytes = drop s.head_len block })

abbrev payload_of : List ℕ → Result StoredBody Why → Result Payload Why
payload_of block (Err why) = Err why
payload_of block (Ok s) = payload_by s.coded block s

by_coding : (block : List ℕ) (s : StoredBody) (b : Bool) → IsStoredAfter block s → s.coded ≡ b → IsAfterHead block (payload_by b block s)
by_coding block s true is e = (is.head, drop s.head_len block, is.front, sym is.coded_is ∙ e)
by_coding block s false is e = (status_code is.head, is.status_is, (is.head, is.front, refl, sym is.coded_is ∙ e))

by_head : (http : Bool) (fields : List Pair) (block : List ℕ) (stored : Result StoredBody Why) → IsStoredIn http fields block stored
    → MatchBool http (IsAfterHead block (payload_of block stored)) (payload_of block stored ≡ Ok (record { status = None; bytes = block }))
by_head true fields block (Ok s) is = by_coding block s s.coded is refl
by_head false fields block (Ok s) is =
    ap (λ b. payload_by b block s) is.coded_is ∙ (λ i. Ok (record { status = is.status_is i; bytes = drop (is.head_len_is i) block }))
by_head true fields block (Err BadHead) is = is
by_head false fields block (Err BadHead) is = absurd is
by_head http fields block (Err BadDigest) is = absurd is
by_head http fields block (Err Coded) is = absurd is
by_head http fields block (Err (NotFound unfound)) is = absurd is
by_head http fields block (Err (Segments gap)) is = absurd is

by_digest : (bad http : Bool) (Rest : Type 0) (fields : List Pair) (block : List ℕ) (stored : Result StoredBody Why)
    → MatchBool bad (stored ≡ Err BadDigest) (IsStoredIn http fields block stored × Rest)
    → MatchBool bad (payload_of block stored ≡ Err BadDigest)
    (MatchBool http (IsAfterHead block (payload_of block stored)) (payload_of block stored ≡ Ok (record { status = None; bytes = block })))
by_digest true http Rest fields block stored is = ap (payload_of block) is
by_digest false http Rest fields block stored is = by_head http fields block stored is.0

payload_is : (content : Record) (joined : Result (List ReadRecord) Gap) (stored : Result StoredBody Why) → IsStoredBy content joined stored
    → IsPayload (read_record content) joined (payload_of (joined_text joined) stored)
payload_is content (Err gap) stored is = ap (payload_of (joined_text (Err gap))) is
payload_is content (Ok joined) stored is =
    by_digest (list_any has_bad_block joined) (is_http_response (reading_of content.fields)) _ content.fields (whole_block joined) stored is

-- what is measured
measured : (bad : Bool) (In : Type 0) (joined : List ReadRecord) (s : StoredBody)
    → MatchBool bad (◌≡◌ {A = Result StoredBody Why} (Ok s) (Err BadDigest))
    (In × ((s.truncated ≡ is_truncated (Ok joined)) × (s.length ≡ length (drop s.head_len (whole_block joined)))))
    → (s.truncated ≡ is_truncated (Ok joined)) × (s.length ≡ length (drop s.head_len (whole_block joined)))
measured true In joined s is = absurd (cc is)
measured false In joined s is = is.1

measures_of : (content : Record) (joined : Result (List ReadRecord) Gap) (s : StoredBody) → IsStoredBy content joined (Ok s)
    → (s.truncated ≡ is_truncated joined) × (s.length ≡ length (drop s.head_len (joined_text joined)))
measures_of content (Err gap) s is = absurd (cc is)
measures_of content (Ok joined) s is = measured (list_any has_bad_block joined) _ joined s is

answered : (records : List Record) (path : Path) (content : Record) (payload : Result Payload Why) → slice_get records path.given ≡ Some content
    → IsPayload (read_record content) (joined_to records content) payload
    → IsAnswerOn records (Ok path) (given_by path (is_truncated (joined_to records content)) payload)
answered records path content payload there is =
    answer_of records (Ok path) path (read_record content) (joined_to records content) _
    (record { path_is = refl; is_present = slice_get-map read_record records path.given ∙ ap (option_map read_record) there; joined_is = refl })
    (payload, is, refl)

pub text_there : (records : List Record) (position : ℕ) (content : Record) → slice_get records position ≡ Some content
    → joined_text (joined_to records content) ≡ joined_text_at records position
text_there records position content there =
    ap (λ o. option_map_or (λ r. joined_text (joined_to records r)) o []) (sym there)

answers_body : (records : List Record) (path : Path) (s : StoredBody) (truncated : Bool) (block text : List ℕ) (coded : Bool)
    → s.truncated ≡ truncated → s.length ≡ length (drop s.head_len block) → block ≡ text
    → IsAnswerOn records (Ok path) (given_by path truncated (payload_by coded block s))
    → MatchBool coded (IsAnswerOn records (Ok path) (Err Coded)) (IsAnswerOn records (Ok path) (given (answer_with path s) (drop s.head_len text)))
answers_body records path s truncated block text true mark size same is = is
answers_body records path s truncated block text false mark size same is =
    subst (λ o. IsAnswerOn records (Ok path) o)
    (λ i. Ok (record { answer = record { chosen = path.chosen; given = path.given; status = s.status; truncated = sym mark i; length = sym size i }; body = drop s.head_len (same i) }))
    is

pub stored_is_answered : StoredIsAnswered
stored_is_answered records path (Err why) at = answered records path at.content (Err why) at.there (payload_is at.content (joined_to records at.content) (Err why) at.is)
stored_is_answered records path (Ok s) at =
    let joined = joined_to records at.content in
    let measures = measures_of at.content joined s at.is in
    answers_body records path s (is_truncated joined) (joined_text joined) _ s.coded measures.0 measures.1 (text_there records path.given at.content at.there)
    (answered records path at.content (payload_by s.coded (joined_text joined) s) at.there (payload_is at.content joined (Ok s) at.is))
