-- Where a body begins, what is given of it, and what a replay is by that.
use Rattle.std.proofs.Common.{◌≡◌, inl, inr, ◌⊎◌, ℕ, zero, suc, All, ◌+◌, ◌^◌, ◌<◌, ◌≤◌, Bool, true, false, ◌||◌, nat_lt, nat_le, ◌&&◌, List, [], ◌∷◌, ◌++◌, length, length-append, length-take, length-drop, take, drop, map, append-nil, Option, Some, None, option_and_then, Result, Ok, Err, slice_get, MatchBool, if◌then◌else◌, refl, sym, ap, subst, ◌∙◌, arith}
use Rattle.std.specs.Io.KnownBytes.{append_known}
use Rattle.std.specs.List.{list_any}
use Rattle.std.specs.Prelude.{codes}
use Rattle.std.specs.Str.{all_ascii_digits}
use Rattle.std.proofs.lemmas.Bool.{cases_lt, leb-true}
use Rattle.std.proofs.lemmas.List.Elements.{All-cons, All-head, All-nil, All-tail}
use Rattle.std.proofs.lemmas.List.Sums.{sum_by-cons}
use Rattle.httparse.specs.Grammar.{ResponseHead, print_response}
use Rattle.warc_index.specs.declared.unfound.Unfound.{Unfound}
use Rattle.warc_value.specs.Digests.{is_bad, verdict_of}
use Rattle.warc_field.specs.Area.{Pair}
use Rattle.warc_field.specs.Decimal.{decimal_of, number_of}
use Rattle.warc_frame.specs.Effects.{FailsBy}
use Rattle.warc_frame.specs.Seen.{Seen, SeenSource}
use Rattle.warc_frame.proofs.EffectLemmas.{fails_more}
use Rattle.warc_frame.specs.Record.{Record, max_archive}
use Rattle.warc_frame.specs.Send.{WentOut, sent_of}
use Rattle.warc_frame.specs.declared.fault.OutFault.TheVariants as outs
use Rattle.warc_record.specs.Readings.{number_in, present_value}
use Rattle.warc_payload.specs.declared.HeadInfo.{HeadInfo}
use Rattle.warc_payload.specs.Head.{HasNoHead, IsInfoOf, front_of}
use Rattle.warc_payload.specs.Laws.{OneOfThree}
use Rattle.warc_payload.specs.Payload.{GivesBody, GivesCodedBody}
use Rattle.warc_segment.specs.declared.place.Place.{Place}
use Rattle.warc_segment.specs.Joined.{ReadRecord, ArePlacesOf, JoinedHasTotal}
use Rattle.warc_answer.specs.Answers.{Given, IsAnswerOn, is_truncated, given_by}
use Rattle.warc_answer.specs.Giving.{BeginsAt, BeginsNowhere, HasRoom, IsFront, IsStart, any_bad_at}
use Rattle.warc_answer.specs.Laws.{FailsBeforeAll, IsFound, PlacesAreAsLong}
use Rattle.warc_answer.specs.Payloads.{Payload, IsAfterHead, IsPayload, has_bad_block, is_http_response, read_record, whole_block}
use Rattle.warc_answer.specs.Origins.{AreBlocksIn}
use Rattle.warc_answer.specs.Places.{LieIn, bytes_at, len_of, text_at}
use Rattle.warc_answer.specs.Replays.{IsReplayOn, WritesLate, body_of, given, out_result}
use Rattle.warc_answer.specs.Seen.{IsEarly}
use Rattle.warc_answer.specs.declared.answer.Path.{Path}
use Rattle.warc_answer.specs.declared.answer.Reason.{Reason as Why}
use Rattle.warc_answer.specs.declared.answer.Reason.TheVariants.{NotFound, Segments, BadDigest, BadHead, Coded}
use Rattle.warc_answer.specs.declared.answer.ReplayFault.{ReplayFault}
use Rattle.warc_answer.specs.declared.answer.ReplayFault.TheVariants.{Reason, Out}
use Rattle.warc_answer.specs.declared.body.BodyStart.{BodyStart}
use Rattle.warc_answer.proofs.PayloadLemmas.{payload_some}
use Rattle.warc_answer.proofs.AnswerLemmas.{answer_some}
use Rattle.warc_answer.proofs.PlaceLemmas.{take_past}
use Rattle.warc_answer.proofs.ReasonLemmas.{answer_of}

-- ---- where a body begins

abbrev Lies : List ℕ → Place → Type 0
Lies bytes p = p.start + p.len ≤ length bytes

-- places are as long as the text at them
text_whole : (bytes : List ℕ) (ps : List Place) → All (Lies bytes) ps → length (text_at ps bytes) ≡ len_of ps
text_whole bytes [] lie = refl
text_whole bytes (p ∷ ps) lie =
    let one : len_of (p ∷ ps) ≡ p.len + len_of ps = sum_by-cons (λ (q : Place). q.len) p ps in
    let rest : length (text_at ps bytes) ≡ len_of ps = text_whole bytes ps (All-tail (Lies bytes) p ps lie) in
    let within : p.start + p.len ≤ length bytes = All-head (Lies bytes) p ps lie in
    let whole : length (text_at (p ∷ ps) bytes) ≡ length (bytes_at bytes p) + length (text_at ps bytes) =
    length-append (bytes_at bytes p) (text_at ps bytes) in
    omega (arith, length-take p.len (drop p.start bytes), length-drop p.start bytes)

-- the front of the joined blocks, as it was read
pub front_is : (bytes : List ℕ) (ps : List Place) (buf : List ℕ) (n room : ℕ) → LieIn ps bytes → HasRoom room ps
    → take n buf ≡ take room (text_at ps bytes) → take n buf ≡ front_of (text_at ps bytes)
unfolding front_of
front_is bytes ps buf n room lie fits same = same ∙ by_room (cases_lt room 65536) (text_whole bytes ps lie.within)
  where
    by_room : (room < 65536) ⊎ (65536 ≤ room) → length (text_at ps bytes) ≡ len_of ps
        → take room (text_at ps bytes) ≡ take 65536 (text_at ps bytes)
    by_room (inl less) size =
        let short : length (text_at ps bytes) ≤ room = omega (arith, fits.1) in
        take_past room (text_at ps bytes) short ∙ sym (take_past 65536 (text_at ps bytes) (omega arith))
    by_room (inr more) size =
        let e : room ≡ 65536 = omega (arith, fits.0) in ap (λ k. take k (text_at ps bytes)) e

-- no block is bad, where there is a front
pub some_front : (bad : Bool) (text buf : List ℕ) (n : ℕ) (filled : Option ℕ) → filled ≡ Some n
    → IsFront bad text buf filled → (bad ≡ false) × (take n buf ≡ text)
some_front bad text buf n filled some is = subst (λ (o : Option ℕ). IsFront bad text buf o) some is

pub on_true : (P Q : Type 0) (b : Bool) → b ≡ true → P → MatchBool b P Q
on_true P Q b is p = subst (λ (x : Bool). MatchBool x P Q) (sym is) p

pub on_false : (P Q : Type 0) (b : Bool) → b ≡ false → Q → MatchBool b P Q
on_false P Q b is q = subst (λ (x : Bool). MatchBool x P Q) (sym is) q

pub info_at : (front block : List ℕ) (info : HeadInfo) (head : ResponseHead) → front ≡ front_of block
    → IsInfoOf front info head → IsInfoOf (front_of block) info head
info_at front block info head same is = subst (λ (t : List ℕ). IsInfoOf t info head) same is

pub none_at : (front block : List ℕ) → front ≡ front_of block → HasNoHead front → HasNoHead (front_of block)
none_at front block same none = subst HasNoHead same none

pub coded_body : (block : List ℕ) (info : HeadInfo) (head : ResponseHead) → IsInfoOf block info head
    → info.coded ≡ true → GivesCodedBody block
coded_body block info head is coded = (head, drop info.head_len block, is.front, sym is.coded ∙ coded)

pub plain_body : (block : List ℕ) (info : HeadInfo) (head : ResponseHead) → IsInfoOf block info head
    → info.coded ≡ false → GivesBody block info.status (drop info.head_len block)
plain_body block info head is plain = (head, is.front, is.status, sym is.coded ∙ plain)

pub head_within : (block : List ℕ) (info : HeadInfo) (head : ResponseHead) → IsInfoOf block info head
    → info.head_len ≤ length block
head_within block info head is =
    omega (arith, is.head_len, ap length is.front.reads.1, length-append (print_response head) (drop info.head_len block))

-- ---- places and records

places_within : (bytes : List ℕ) (ps : List Place) (rs : List ReadRecord) → ArePlacesOf bytes ps rs
    → All (Lies bytes) ps
places_within bytes [] [] are = All-nil (Lies bytes)
places_within bytes (p ∷ ps) (r ∷ rs) are = All-cons (Lies bytes) p ps are.0.within (places_within bytes ps rs are.1)
places_within bytes [] (r ∷ rs) are = absurd are
places_within bytes (p ∷ ps) [] are = absurd are

pub places_lie : (bytes : List ℕ) (ps : List Place) (rs : List ReadRecord) → length bytes ≤ max_archive
    → ArePlacesOf bytes ps rs → LieIn ps bytes
places_lie bytes ps rs short are = record { within = places_within bytes ps rs are; short = omega arith }

pub places_text : (bytes : List ℕ) (ps : List Place) (rs : List ReadRecord) → ArePlacesOf bytes ps rs
    → text_at ps bytes ≡ whole_block rs
places_text bytes [] [] are = refl
places_text bytes (p ∷ ps) (r ∷ rs) are =
    ap (λ l. l ++ text_at ps bytes) are.0.block ∙ ap (λ l. r.block ++ l) (places_text bytes ps rs are.1)
places_text bytes [] (r ∷ rs) are = absurd are
places_text bytes (p ∷ ps) [] are = absurd are

pub places_bad : (bytes : List ℕ) (ps : List Place) (rs : List ReadRecord) → ArePlacesOf bytes ps rs
    → any_bad_at bytes ps ≡ list_any has_bad_block rs
places_bad bytes [] [] are = refl
places_bad bytes (p ∷ ps) (r ∷ rs) are =
    (λ i. is_bad (verdict_of (are.0.wanted i) (are.0.block i)) || any_bad_at bytes ps)
    ∙ ap (λ b. has_bad_block r || b) (places_bad bytes ps rs are.1)
places_bad bytes [] (r ∷ rs) are = absurd are
places_bad bytes (p ∷ ps) [] are = absurd are

pub places_marked : (bytes : List ℕ) (ps : List Place) (rs : List ReadRecord) → ArePlacesOf bytes ps rs
    → list_any (λ (p : Place). p.truncated) ps ≡ list_any (λ (r : ReadRecord). r.head.truncated) rs
places_marked bytes [] [] are = refl
places_marked bytes (p ∷ ps) (r ∷ rs) are =
    ap (λ b. b || list_any (λ (q : Place). q.truncated) ps) are.0.truncated
    ∙ ap (λ b. r.head.truncated || b) (places_marked bytes ps rs are.1)
places_marked bytes [] (r ∷ rs) are = absurd are
places_marked bytes (p ∷ ps) [] are = absurd are

pub places_len : (bytes : List ℕ) (ps : List Place) (rs : List ReadRecord) → ArePlacesOf bytes ps rs
    → len_of ps ≡ length (whole_block rs)
places_len bytes [] [] are = refl
places_len bytes (p ∷ ps) (r ∷ rs) are =
    let one : len_of (p ∷ ps) ≡ p.len + len_of ps = sum_by-cons (λ (q : Place). q.len) p ps in
    let rest : len_of ps ≡ length (whole_block rs) = places_len bytes ps rs are.1 in
    let within : p.start + p.len ≤ length bytes = are.0.within in
    let same : length (take p.len (drop p.start bytes)) ≡ length r.block = ap length are.0.block in
    let whole : length (whole_block (r ∷ rs)) ≡ length r.block + length (whole_block rs) =
    length-append r.block (whole_block rs) in
    omega (arith, length-take p.len (drop p.start bytes), length-drop p.start bytes)
places_len bytes [] (r ∷ rs) are = absurd are
places_len bytes (p ∷ ps) [] are = absurd are

-- ---- a joined block is no longer than an archive

decimal_short : (text : List ℕ) (n : ℕ) → decimal_of text ≡ Some n → n ≤ max_archive
unfolding decimal_of
decimal_short text n e = by_test (nat_lt 0 (length text) && all_ascii_digits text) (nat_le (number_of text) (2 ^ 48)) refl e
  where
    by_test : (a b : Bool) → nat_le (number_of text) (2 ^ 48) ≡ b → (if a && b then Some (number_of text) else None) ≡ Some n
        → n ≤ max_archive
    by_test false b is f = absurd (cc)
    by_test true false is f = absurd (cc)
    by_test true true is f = let same : number_of text ≡ n = (cc) in omega (arith, leb-true (number_of text) (2 ^ 48) is)

number_short : (name : List ℕ) (fields : List Pair) (n : ℕ) → number_in name fields ≡ Some n → n ≤ max_archive
number_short name fields n e = by_value (present_value name fields) e
  where
    by_value : (o : Option (List ℕ)) → option_and_then decimal_of o ≡ Some n → n ≤ max_archive
    by_value None f = absurd (cc)
    by_value (Some text) f = decimal_short text n f

total_short : (records : List Record) (k n : ℕ) (last : ReadRecord) → slice_get (map read_record records) k ≡ Some last
    → last.head.segment.total ≡ Some n → n ≤ max_archive
total_short [] k n last at e = absurd (cc)
total_short (r ∷ rs) zero n last at e =
    let same : read_record r ≡ last = (cc) in
    number_short (codes "WARC-Segment-Total-Length") r.fields n (ap (λ (x : ReadRecord). x.head.segment.total) same ∙ e)
total_short (r ∷ rs) (suc k) n last at e = total_short rs k n last at e

pub joined_short : JoinedHasTotal → (bytes : List ℕ) (records : List Record) (way : Result Path Unfound)
    (path : Path) (origin : ReadRecord) (joined : List ReadRecord) (ps : List Place) → length bytes ≤ max_archive
    → IsFound (map read_record records) way path origin (Ok joined) → ArePlacesOf bytes ps joined
    → len_of ps ≤ max_archive
joined_short total bytes records way path origin joined ps short found are =
    elim (total (map read_record records) origin joined found.joined_is) [
      | inl alone ↦ one ps (subst (ArePlacesOf bytes ps) alone are)
      | inr stated ↦
          let le : length (whole_block joined) ≤ max_archive =
          total_short records stated.0 (length (whole_block joined)) stated.1 stated.2 stated.3 in
          let len : len_of ps ≡ length (whole_block joined) = places_len bytes ps joined are in
          omega arith
    ]
  where
    one : (qs : List Place) → ArePlacesOf bytes qs (origin ∷ []) → len_of qs ≤ max_archive
    one [] is = absurd is
    one (q ∷ []) is =
        let len : len_of (q ∷ []) ≡ q.len + len_of [] = sum_by-cons (λ (p : Place). p.len) q [] in
        let none : len_of [] ≡ 0 = refl in
        let within : q.start + q.len ≤ length bytes = is.0.within in
        omega arith
    one (q ∷ p ∷ qs) is = absurd is.1

-- ---- the payload

abbrev payload_at : BodyStart → List ℕ → Result Payload Why
payload_at start block = Ok (record { status = start.status; bytes = drop start.skip block })

pub good_payload : (origin : ReadRecord) (joined : List ReadRecord) (start : BodyStart)
    → list_any has_bad_block joined ≡ false → BeginsAt (is_http_response origin.head) (whole_block joined) start
    → IsPayload origin (Ok joined) (payload_at start (whole_block joined))
good_payload origin joined start fine begins =
    on_false _ _ (list_any has_bad_block joined) fine (by_http (is_http_response origin.head) begins.1)
  where
    block : List ℕ
    block = whole_block joined

    by_http : (b : Bool)
        → MatchBool b ((status : ℕ) × (start.status ≡ Some status) × GivesBody block status (drop start.skip block))
        ((start.status ≡ None) × (start.skip ≡ 0))
        → MatchBool b (IsAfterHead block (payload_at start block))
        (payload_at start block ≡ Ok (record { status = None; bytes = block }))
    by_http true x = x
    by_http false x = λ i. Ok (record { status = x.0 i; bytes = drop (x.1 i) block })

only_true : (b : Bool) (P Q : Type 0) → MatchBool b P ⊥ → MatchBool b P Q
only_true true P Q x = x
only_true false P Q x = absurd x

no_payload : (origin : ReadRecord) (joined : List ReadRecord) (why : Why)
    → BeginsNowhere (list_any has_bad_block joined) (is_http_response origin.head) (whole_block joined) why
    → IsPayload origin (Ok joined) (Err why)
no_payload origin joined BadDigest is = on_true _ _ (list_any has_bad_block joined) is refl
no_payload origin joined BadHead is =
    on_false _ _ (list_any has_bad_block joined) is.0 (only_true (is_http_response origin.head) _ _ is.1)
no_payload origin joined Coded is =
    on_false _ _ (list_any has_bad_block joined) is.0 (only_true (is_http_response origin.head) _ _ is.1)
no_payload origin joined (NotFound unfound) is = absurd is
no_payload origin joined (Segments gap) is = absurd is

-- ---- what went out

same_known : (o : Option (List ℕ)) → o ≡ append_known o []
same_known None = refl
same_known (Some l) = ap Some (sym (append-nil l))

pub none_out : (start : Option (List ℕ)) (output : List ℕ) → WentOut start output start 0
none_out start output =
    record { count = 0; within = omega arith; reported = same_known start; number = omega arith }

-- ---- what a replay is

-- where the body begins, by the records
begun_by : (bytes : List ℕ) (ps : List Place) (http : Bool) (origin : ReadRecord) (joined : List ReadRecord)
    (r : Result BodyStart ReplayFault) → ArePlacesOf bytes ps joined → http ≡ is_http_response origin.head
    → IsStart (any_bad_at bytes ps) http (text_at ps bytes) r
    → IsStart (list_any has_bad_block joined) (is_http_response origin.head) (whole_block joined) r
begun_by bytes ps http origin joined r are same is =
    subst (λ (b : Bool). IsStart b (is_http_response origin.head) (whole_block joined) r) (places_bad bytes ps joined are)
    (subst (λ (b : Bool). IsStart (any_bad_at bytes ps) b (whole_block joined) r) same
    (subst (λ (t : List ℕ). IsStart (any_bad_at bytes ps) http t r) (places_text bytes ps joined are) is))

abbrev Found : List Record → Result Path Unfound → Path → ReadRecord → List ReadRecord → Type 0
Found records way path origin joined = IsFound (map read_record records) way path origin (Ok joined)

-- a digest is bad, no body begins, or a read failed before it is known where
pub replay_of_none : OneOfThree → (bytes : List ℕ) (records : List Record) (way : Result Path Unfound)
    (path : Path) (origin : ReadRecord) (joined : List ReadRecord) (ps : List Place) (old : Option (List ℕ))
    (http : Bool) (fault : ReplayFault) → Found records way path origin joined → ArePlacesOf bytes ps joined
    → http ≡ is_http_response origin.head → IsStart (any_bad_at bytes ps) http (text_at ps bytes) (Err fault)
    → IsReplayOn records way (Err fault) old old
replay_of_none three bytes records way path origin joined ps old http (Reason why) found are same start =
    let payload = no_payload origin joined why (begun_by bytes ps http origin joined (Err (Reason why)) are same start) in
    (answer_of records way path origin (Ok joined) (Err why) found (Err why, payload, refl), refl)
replay_of_none three bytes records way path origin joined ps old http (Out e) found are same start =
    let payload = payload_some three origin (Ok joined) in
    let outcome : Result Given Why = given_by path (is_truncated (Ok joined)) payload.0 in
    let sent : sent_of e ≡ 0 = ap sent_of start in (
      outcome,
      answer_of records way path origin (Ok joined) outcome found (payload.0, payload.1, refl),
      subst (λ (n : ℕ). WentOut old (body_of outcome) old n) (sym sent) (none_out old (body_of outcome)),
    )

-- what is said of the body that begins there
pub answer_of_body : (bytes : List ℕ) (records : List Record) (way : Result Path Unfound) (path : Path)
    (origin : ReadRecord) (joined : List ReadRecord) (ps : List Place) (http : Bool) (start : BodyStart)
    (truncated : Bool) (len : ℕ) → Found records way path origin joined → ArePlacesOf bytes ps joined
    → http ≡ is_http_response origin.head → IsStart (any_bad_at bytes ps) http (text_at ps bytes) (Ok start) → truncated ≡ list_any (λ (p : Place). p.truncated) ps
    → len ≡ length (drop start.skip (text_at ps bytes))
    → IsAnswerOn records way (given (record { chosen = path.chosen; given = path.given; status = start.status; truncated = truncated; length = len }) (drop start.skip (text_at ps bytes)))
answer_of_body bytes records way path origin joined ps http start truncated len found are same is mark size =
    let whole : text_at ps bytes ≡ whole_block joined = places_text bytes ps joined are in
    let begun = begun_by bytes ps http origin joined (Ok start) are same is in
    let payload = good_payload origin joined start begun.0 begun.1 in
    let marked : truncated ≡ is_truncated (Ok joined) = mark ∙ places_marked bytes ps joined are in
    let long : len ≡ length (drop start.skip (whole_block joined)) = size ∙ ap (λ l. length (drop start.skip l)) whole in
    answer_of records way path origin (Ok joined) _ found (
      payload_at start (whole_block joined),
      payload,
      λ i. Ok (record { answer = record { chosen = path.chosen; given = path.given; status = start.status; truncated = marked i; length = long i }; body = drop start.skip (whole i) }),
    )

-- ---- failures

-- places of blocks of records lie among the bytes
pub blocks_lie : (bytes : List ℕ) (ps : List Place) → AreBlocksIn ps bytes → LieIn ps bytes
blocks_lie bytes ps are = places_lie bytes ps are.joined are.short are.places_are

-- a source fails by a fault alike, whatever type a result without a fault has
fault_as : (X Y : Type 0) (fault : ReplayFault) {Expected : List ℕ → Type 0} {old new : SeenSource}
    → FailsBy Expected (out_result {X = X} (Err fault)) old new → FailsBy Expected (out_result {X = Y} (Err fault)) old new
fault_as X Y (Reason why) has = has
fault_as X Y (Out e) has = has

pub fails_of_blocks : (X Y : Type 0) (fault : ReplayFault) (ps : List Place) {old new : SeenSource}
    → FailsBy (LieIn ps) (out_result {X = X} (Err fault)) old new
    → FailsBy (AreBlocksIn ps) (out_result {X = Y} (Err fault)) old new
fails_of_blocks X Y fault ps has = fails_more (λ bytes held are. blocks_lie bytes ps are) (fault_as X Y fault has)

pub fails_of_fault : (X Y : Type 0) (fault : ReplayFault) {Expected : List ℕ → Type 0} {old new : SeenSource}
    → FailsBy Expected (out_result {X = X} (Err fault)) old new
    → FailsBy Expected (out_result {X = Y} (Err fault)) old new
fails_of_fault X Y fault has = fault_as X Y fault has

-- ---- laws

pub places_are_as_long : PlacesAreAsLong
places_are_as_long bytes places joined are = places_len bytes places joined are

pub fails_before_all : OneOfThree → FailsBeforeAll
fails_before_all three records way reported e within none =
    let it = answer_some three records way within in
    (it.0, it.1, subst (λ (n : ℕ). WentOut reported (body_of it.0) reported n) (sym none) (none_out reported (body_of it.0)))

-- nothing goes out before a fault that comes before anything is written
pub early_late : {X : Type 0} (fault : ReplayFault) (o : Seen) → IsEarly fault → WritesLate {X = X} (Err fault) o o
early_late {X} (Reason why) o is = record { silent = refl; cause = refl }
early_late {X} (Out (outs.Read n)) o is = record { silent = tt; cause = refl }
early_late {X} (Out (outs.Write n)) o is = absurd is
early_late {X} (Out (outs.Memory n)) o is = record { silent = (is, refl); cause = refl }
