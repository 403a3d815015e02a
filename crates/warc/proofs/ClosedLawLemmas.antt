-- What a selection keeps whose records need no other.
use Rattle.std.proofs.Common.{◌≡◌, inl, inr, ℕ, Bool, List, [], length, map, drop, Option, Some, None, Result, Ok, Err, option_map, slice_get, refl, sym, ◌∙◌, ap, subst}
use Rattle.std.specs.Option.{option_map_or}
use Rattle.std.specs.Io.KnownBytes.{append_known}
use Rattle.std.proofs.lemmas.List.{length-map}
use Rattle.std.proofs.lemmas.Option.{slice_get-map}
use Rattle.warc_frame.specs.Record.{Record}
use Rattle.warc_frame.specs.Send.{WentOut, sent_of}
use Rattle.warc_frame.specs.declared.fault.OutFault.{OutFault}
use Rattle.warc_index.specs.Captures.{LatestIsLast}
use Rattle.warc_index.specs.Referents.{ChainLoops, ok_then, origin_of}
use Rattle.warc_index.specs.declared.unfound.Unfound.{Unfound}
use Rattle.warc_segment.specs.Joined.{ReadRecord, joined_records}
use Rattle.warc_segment.specs.declared.gap.Gap.{Gap}
use Rattle.warc_answer.specs.Answers.{Given, IsAnswerOn, IsGivenAt, IsGivenOn, given_by, index_of, is_truncated, path_at}
use Rattle.warc_answer.specs.Payloads.{IsPayload, Payload, read_record}
use Rattle.warc_answer.specs.Replays.{body_of, given}
use Rattle.warc_answer.specs.Stored.{IsStoredAt, IsStoredBy, IsStoredOn, StoredBody, joined_text, joined_text_at, joined_to}
use Rattle.warc_answer.specs.declared.answer.Answer.{Answer}
use Rattle.warc_answer.specs.declared.answer.Path.{Path}
use Rattle.warc_answer.specs.declared.answer.Reason.{Reason as Why}
use Rattle.warc_answer.specs.declared.answer.Reason.TheVariants.{NotFound}
use Rattle.warc_answer.specs.declared.answer.ReplayFault.TheVariants.{Reason, Out}
use Rattle.warc_reading.specs.Archive.{contents}
use Rattle.warc_reading.specs.Row.{Placed, Row, row_of}
use Rattle.warc_replay.specs.Bodies.{IsBodyAt, IsCaptureAt, IsOtherAt}
use Rattle.warc_replay.specs.Captures.{line_by}
use Rattle.warc.specs.ClosedLaws.{AnswersAreKept, AreSameRecord, AreClosed, BodiesAreKept, IsAnswerAt, IsSameRecord, IsOutcomeOf, IsSameGiven, IsSameOutcome, IsSameResult, IsSameStored, LinesAreKept, OutcomesAreKept, StoredBodiesAreKept}
use Rattle.warc_rewrite.specs.SelectionLaws.{SelectionIsOfTheSelected}
use Rattle.warc_replay.specs.Outcomes.{CaptureSeen, IsFrontAt, IsStoredOut, StoredAnswer, origin_on, stored_text}
use Rattle.warc_rewrite.specs.Selecting.{ArePositions, at_positions}
use Rattle.warc_replay.specs.declared.fault.BodyFault.{BodyFault}
use Rattle.warc_replay.specs.declared.fault.BodyFault.TheVariants.{NoRecord, NoCapture, Replay}
use Rattle.warc.proofs.ClosedLemmas.{same_joined, same_origin}
use Rattle.warc.proofs.PartLemmas.{is_there}
use Rattle.warc_rewrite.proofs.SelectionLaws.{at_map}
use Rattle.warc.proofs.WayLemmas.{AreSame}

-- ---- paths

-- from the same capture to the same origin, or the same reason why there is none
abbrev ArePaths : List ℕ → Result Path Unfound → Result Path Unfound → Type 0
ArePaths ps (Ok a) (Ok b) = IsSameRecord ps a.chosen b.chosen × IsSameRecord ps a.given b.given
ArePaths ps (Err why) (Err other) = why ≡ other
ArePaths ps (Ok a) (Err other) = ⊥
ArePaths ps (Err why) (Ok b) = ⊥

abbrev way_from : ℕ → Result ℕ Unfound → Result Path Unfound
way_from chosen origin = ok_then (λ given. Ok (record { chosen = chosen; given = given })) origin

are_paths : (ps : List ℕ) (i p : ℕ) (x y : Result ℕ Unfound) → IsSameRecord ps i p → AreSame ps x y → ArePaths ps (way_from i y) (way_from p x)
are_paths ps i p (Ok q) (Ok j) at same = (at, same)
are_paths ps i p (Err why) (Err other) at same = sym same
are_paths ps i p (Ok q) (Err other) at same = same
are_paths ps i p (Err why) (Ok j) at same = same

given_at : (ps : List ℕ) (x y : Result Path Unfound) → ArePaths ps x y → AreSameRecord ps (origin_on x) (origin_on y)
given_at ps (Ok a) (Ok b) alike = alike.1
given_at ps (Err why) (Err other) alike = tt
given_at ps (Ok a) (Err other) alike = alike
given_at ps (Err why) (Ok b) alike = alike

-- ---- what is given

all_given : (ps : List ℕ) (a b : Path) (t : Bool) (payload : Result Payload Why) → IsSameRecord ps a.chosen b.chosen → IsSameRecord ps a.given b.given
    → IsSameGiven ps (given_by a t payload) (given_by b t payload)
all_given ps a b t (Err why) chosen origin = refl
all_given ps a b t (Ok payload) chosen origin =
    (record { chosen = chosen; given = origin; status = refl; truncated = refl; length = refl }, refl)

module _ (late : LatestIsLast) (chains : ChainLoops) (records : List Record) (ps : List ℕ) (is : AreClosed records ps) where
  abbrev all : List ReadRecord
  all = map read_record records

  abbrev part : List Record
  part = at_positions records ps

  as_many : length all ≡ length records
  as_many = length-map records read_record

  are : ArePositions (length all) ps
  are = subst (λ (n : ℕ). ArePositions n ps) (sym as_many) is.are

  part_is : at_positions all ps ≡ map read_record part
  part_is = at_map read_record records ps

  -- ---- the records and the paths

  same_record : (i p : ℕ) → IsSameRecord ps i p → slice_get part i ≡ slice_get records p
  same_record i p at = is_there records ps is.are.below i p at

  same_read : (i p : ℕ) → IsSameRecord ps i p → slice_get (map read_record part) i ≡ slice_get all p
  same_read i p at = ap (λ l. slice_get l i) (sym part_is) ∙ is_there all ps are.below i p at

  same_path : (i p : ℕ) → IsSameRecord ps i p → ArePaths ps (path_at part i) (path_at records p)
  unfolding path_at
  same_path i p at =
      let P : List ReadRecord → Type 0 = λ l. ArePaths ps (way_from i (origin_of (index_of l) i)) (way_from p (origin_of (index_of all) p)) in
      subst P part_is
      (are_paths ps i p (origin_of (index_of all) p) (origin_of (index_of (at_positions all ps)) i) at
      (same_origin all ps are is.needs late chains i p at))

  join_same : (i p : ℕ) (r : ReadRecord) → IsSameRecord ps i p → slice_get all p ≡ Some r → joined_records all r ≡ joined_records (map read_record part) r
  join_same i p r at there = same_joined all ps are is.needs i p r at there ∙ ap (λ l. joined_records l r) part_is

  joined_same : (i p : ℕ) (content : Record) → IsSameRecord ps i p → slice_get records p ≡ Some content → joined_to records content ≡ joined_to part content
  joined_same i p content at there =
      join_same i p (read_record content) at (slice_get-map read_record records p ∙ ap (option_map read_record) there)

  -- ---- outcomes

  stored_from : (i p : ℕ) (s : Result StoredBody Why) → IsSameRecord ps i p → IsStoredAt part i s → IsStoredAt records p s
  stored_from i p s at stored =
      let there : slice_get records p ≡ Some stored.content = sym (same_record i p at) ∙ stored.there in
      record {
        content = stored.content;
        there = there;
        is = subst (λ (j : Result (List ReadRecord) Gap). IsStoredBy stored.content j s) (sym (joined_same i p stored.content at there)) stored.is;
      }

  stored_to : (i p : ℕ) (s : Result StoredBody Why) → IsSameRecord ps i p → IsStoredAt records p s → IsStoredAt part i s
  stored_to i p s at stored = record {
    content = stored.content;
    there = same_record i p at ∙ stored.there;
    is = subst (λ (j : Result (List ReadRecord) Gap). IsStoredBy stored.content j s) (joined_same i p stored.content at stored.there) stored.is;
  }

  stored_on_from : (x y : Result Path Unfound) (s : Result StoredBody Why) → ArePaths ps x y → IsStoredOn part x s → IsStoredOn records y s
  stored_on_from (Ok a) (Ok b) s alike stored = stored_from a.given b.given s alike.1 stored
  stored_on_from (Err why) (Err other) s alike stored = stored ∙ ap (λ w. Err (NotFound w)) alike
  stored_on_from (Ok a) (Err other) s alike stored = absurd alike
  stored_on_from (Err why) (Ok b) s alike stored = absurd alike

  stored_on_to : (x y : Result Path Unfound) (s : Result StoredBody Why) → ArePaths ps x y → IsStoredOn records y s → IsStoredOn part x s
  stored_on_to (Ok a) (Ok b) s alike stored = stored_to a.given b.given s alike.1 stored
  stored_on_to (Err why) (Err other) s alike stored = stored ∙ ap (λ w. Err (NotFound w)) (sym alike)
  stored_on_to (Ok a) (Err other) s alike stored = absurd alike
  stored_on_to (Err why) (Ok b) s alike stored = absurd alike

  outcome_from : (i p : ℕ) → IsSameRecord ps i p → (o : CaptureSeen) → IsOutcomeOf part i o → (w : CaptureSeen) × IsSameOutcome ps o w × IsOutcomeOf records p w
  outcome_from i p at o (here, outcome) =
      let paths : ArePaths ps (path_at part o.chosen) (path_at records p) = subst (λ (n : ℕ). ArePaths ps (path_at part n) (path_at records p)) (sym here) (same_path i p at) in
      let w : CaptureSeen = record { chosen = p; given = origin_on (path_at records p); stored = o.stored } in (
        w,
        record {
          chosen = subst (λ (n : ℕ). IsSameRecord ps n p) (sym here) at;
          given = subst (λ (g : Option ℕ). AreSameRecord ps g (origin_on (path_at records p))) (sym outcome.given) (given_at ps (path_at part o.chosen) (path_at records p) paths);
          stored = refl;
        },
        (refl, record { given = refl; stored = stored_on_from (path_at part o.chosen) (path_at records p) o.stored paths outcome.stored }),
      )

  outcome_to : (i p : ℕ) → IsSameRecord ps i p → (w : CaptureSeen) → IsOutcomeOf records p w → (o : CaptureSeen) × IsSameOutcome ps o w × IsOutcomeOf part i o
  outcome_to i p at w (here, outcome) =
      let paths : ArePaths ps (path_at part i) (path_at records w.chosen) = subst (λ (n : ℕ). ArePaths ps (path_at part i) (path_at records n)) (sym here) (same_path i p at) in
      let o : CaptureSeen = record { chosen = i; given = origin_on (path_at part i); stored = w.stored } in (
        o,
        record {
          chosen = subst (λ (n : ℕ). IsSameRecord ps i n) (sym here) at;
          given = subst (λ (g : Option ℕ). AreSameRecord ps (origin_on (path_at part i)) g) (sym outcome.given) (given_at ps (path_at part i) (path_at records w.chosen) paths);
          stored = refl;
        },
        (refl, record { given = refl; stored = stored_on_to (path_at part i) (path_at records w.chosen) w.stored paths outcome.stored }),
      )

  -- ---- answers

  found_from : (a b : Path) → IsSameRecord ps a.chosen b.chosen → IsSameRecord ps a.given b.given → (found : Option ReadRecord) → slice_get all b.given ≡ found → (g : Result Given Why)
      → IsGivenAt (map read_record part) a found g → (w : Result Given Why) × IsSameGiven ps g w × IsGivenAt all b found w
  found_from a b chosen origin None there g (impossible) = absurd impossible
  found_from a b chosen origin (Some r) there g (payload, of, g_is) =
      let same : joined_records all r ≡ joined_records (map read_record part) r = join_same a.given b.given r origin there in
      let of_all : IsPayload r (joined_records all r) payload = subst (λ (j : Result (List ReadRecord) Gap). IsPayload r j payload) (sym same) of in
      let g_by : g ≡ given_by a (is_truncated (joined_records all r)) payload = g_is ∙ ap (λ j. given_by a (is_truncated j) payload) (sym same) in
      let w : Result Given Why = given_by b (is_truncated (joined_records all r)) payload in (
        w,
        subst (λ (x : Result Given Why). IsSameGiven ps x w) (sym g_by) (all_given ps a b (is_truncated (joined_records all r)) payload chosen origin),
        (payload, of_all, refl),
      )

  found_to : (a b : Path) → IsSameRecord ps a.chosen b.chosen → IsSameRecord ps a.given b.given → (found : Option ReadRecord) → slice_get all b.given ≡ found → (w : Result Given Why)
      → IsGivenAt all b found w → (g : Result Given Why) × IsSameGiven ps g w × IsGivenAt (map read_record part) a found g
  found_to a b chosen origin None there w (impossible) = absurd impossible
  found_to a b chosen origin (Some r) there w (payload, of, w_is) =
      let same : joined_records all r ≡ joined_records (map read_record part) r = join_same a.given b.given r origin there in
      let of_part : IsPayload r (joined_records (map read_record part) r) payload = subst (λ (j : Result (List ReadRecord) Gap). IsPayload r j payload) same of in
      let w_by : w ≡ given_by b (is_truncated (joined_records (map read_record part) r)) payload = w_is ∙ ap (λ j. given_by b (is_truncated j) payload) same in
      let g : Result Given Why = given_by a (is_truncated (joined_records (map read_record part) r)) payload in (
        g,
        subst (λ (x : Result Given Why). IsSameGiven ps g x) (sym w_by) (all_given ps a b (is_truncated (joined_records (map read_record part) r)) payload chosen origin),
        (payload, of_part, refl),
      )

  given_from : (x y : Result Path Unfound) → ArePaths ps x y → (g : Result Given Why) → IsGivenOn (map read_record part) x g
      → (w : Result Given Why) × IsSameGiven ps g w × IsGivenOn all y w
  given_from (Ok a) (Ok b) alike g on =
      let here : IsGivenAt (map read_record part) a (slice_get all b.given) g =
      subst (λ (o : Option ReadRecord). IsGivenAt (map read_record part) a o g) (same_read a.given b.given alike.1) on in
      found_from a b alike.0 alike.1 (slice_get all b.given) refl g here
  given_from (Err why) (Err other) alike g on =
      (Err (NotFound other), subst (λ (x : Result Given Why). IsSameGiven ps x (Err (NotFound other))) (sym on) (ap NotFound alike), refl)
  given_from (Ok a) (Err other) alike g on = absurd alike
  given_from (Err why) (Ok b) alike g on = absurd alike

  given_to : (x y : Result Path Unfound) → ArePaths ps x y → (w : Result Given Why) → IsGivenOn all y w
      → (g : Result Given Why) × IsSameGiven ps g w × IsGivenOn (map read_record part) x g
  given_to (Ok a) (Ok b) alike w on =
      let (g, same, here) = found_to a b alike.0 alike.1 (slice_get all b.given) refl w on in
      (g, same, subst (λ (o : Option ReadRecord). IsGivenAt (map read_record part) a o g) (sym (same_read a.given b.given alike.1)) here)
  given_to (Err why) (Err other) alike w on =
      (Err (NotFound why), subst (λ (x : Result Given Why). IsSameGiven ps (Err (NotFound why)) x) (sym on) (ap NotFound alike), refl)
  given_to (Ok a) (Err other) alike w on = absurd alike
  given_to (Err why) (Ok b) alike w on = absurd alike

  answer_from : (i p : ℕ) → IsSameRecord ps i p → (g : Result Given Why) → IsAnswerAt part i g → (w : Result Given Why) × IsSameGiven ps g w × IsAnswerAt records p w
  unfolding IsAnswerOn
  answer_from i p at g on = given_from (path_at part i) (path_at records p) (same_path i p at) g on

  answer_to : (i p : ℕ) → IsSameRecord ps i p → (w : Result Given Why) → IsAnswerAt records p w → (g : Result Given Why) × IsSameGiven ps g w × IsAnswerAt part i g
  unfolding IsAnswerOn
  answer_to i p at w on = given_to (path_at part i) (path_at records p) (same_path i p at) w on

  -- ---- bodies

  capture_from : (i p : ℕ) → IsSameRecord ps i p → IsCaptureAt part i → IsCaptureAt records p
  capture_from i p at it = record { content = it.content; there = sym (same_record i p at) ∙ it.there; capture = it.capture }

  capture_to : (i p : ℕ) → IsSameRecord ps i p → IsCaptureAt records p → IsCaptureAt part i
  capture_to i p at it = record { content = it.content; there = same_record i p at ∙ it.there; capture = it.capture }

  other_from : (i p : ℕ) → IsSameRecord ps i p → IsOtherAt part i → IsOtherAt records p
  other_from i p at it = record { content = it.content; there = sym (same_record i p at) ∙ it.there; other = it.other }

  other_to : (i p : ℕ) → IsSameRecord ps i p → IsOtherAt records p → IsOtherAt part i
  other_to i p at it = record { content = it.content; there = same_record i p at ∙ it.there; other = it.other }

  same_body : (g w : Result Given Why) → IsSameGiven ps g w → body_of g ≡ body_of w
  same_body (Ok g) (Ok w) same = same.1
  same_body (Err why) (Err other) same = refl
  same_body (Ok g) (Err other) same = absurd same
  same_body (Err why) (Ok w) same = absurd same

  module _ (i p : ℕ) (at : IsSameRecord ps i p) (old new : Option (List ℕ)) where
    abbrev From : Result Answer BodyFault → Type 0
    From a = (b : Result Answer BodyFault) × IsSameResult ps a b × IsBodyAt records p b old new

    body_given : (a : Answer) (body : List ℕ) → IsCaptureAt records p → new ≡ append_known old body
        → (w : Result Given Why) → IsSameGiven ps (given a body) w → IsAnswerAt records p w → From (Ok a)
    body_given a body it reported (Ok w) same on =
        (Ok w.answer, same.0, (it, (w.body, on, reported ∙ ap (append_known old) same.1)))
    body_given a body it reported (Err why) same on = absurd same

    body_missing : (why : Why) → IsCaptureAt records p → new ≡ old → (w : Result Given Why) → IsSameGiven ps (Err why) w → IsAnswerAt records p w
        → From (Err (Replay (Reason why)))
    body_missing why it reported (Ok w) same on = absurd same
    body_missing why it reported (Err other) same on =
        (Err (Replay (Reason why)), refl, (it, (subst (λ (x : Why). IsAnswerAt records p (Err x)) (sym same) on, reported)))

    body_from : (a : Result Answer BodyFault) → IsBodyAt part i a old new → From a
    body_from (Ok a) (it, (body, on, reported)) =
        let (w, same, whole) = answer_from i p at (given a body) on in body_given a body (capture_from i p at it) reported w same whole
    body_from (Err NoRecord) (none, reported) = (Err NoRecord, refl, (sym (same_record i p at) ∙ none, reported))
    body_from (Err NoCapture) (other, reported) = (Err NoCapture, refl, (other_from i p at other, reported))
    body_from (Err (Replay (Reason why))) (it, (on, reported)) =
        let (w, same, whole) = answer_from i p at (Err why) on in body_missing why (capture_from i p at it) reported w same whole
    body_from (Err (Replay (Out e))) (it, (g, on, went)) =
        let (w, same, whole) = answer_from i p at g on in
        (Err (Replay (Out e)), refl, (capture_from i p at it, (w, whole, subst (λ (body : List ℕ). WentOut old body new (sent_of e)) (same_body g w same) went)))

    abbrev To : Result Answer BodyFault → Type 0
    To b = (a : Result Answer BodyFault) × IsSameResult ps a b × IsBodyAt part i a old new

    given_back : (b : Answer) (body : List ℕ) → IsCaptureAt part i → new ≡ append_known old body
        → (g : Result Given Why) → IsSameGiven ps g (given b body) → IsAnswerAt part i g → To (Ok b)
    given_back b body it reported (Ok g) same on =
        (Ok g.answer, same.0, (it, (g.body, on, reported ∙ ap (append_known old) (sym same.1))))
    given_back b body it reported (Err why) same on = absurd same

    missing_back : (why : Why) → IsCaptureAt part i → new ≡ old → (g : Result Given Why) → IsSameGiven ps g (Err why) → IsAnswerAt part i g
        → To (Err (Replay (Reason why)))
    missing_back why it reported (Ok g) same on = absurd same
    missing_back why it reported (Err other) same on =
        (Err (Replay (Reason why)), refl, (it, (subst (λ (x : Why). IsAnswerAt part i (Err x)) same on, reported)))

    body_to : (b : Result Answer BodyFault) → IsBodyAt records p b old new → To b
    body_to (Ok b) (it, (body, on, reported)) =
        let (g, same, some) = answer_to i p at (given b body) on in given_back b body (capture_to i p at it) reported g same some
    body_to (Err NoRecord) (none, reported) = (Err NoRecord, refl, (same_record i p at ∙ none, reported))
    body_to (Err NoCapture) (other, reported) = (Err NoCapture, refl, (other_to i p at other, reported))
    body_to (Err (Replay (Reason why))) (it, (on, reported)) =
        let (g, same, some) = answer_to i p at (Err why) on in missing_back why (capture_to i p at it) reported g same some
    body_to (Err (Replay (Out e))) (it, (w, on, went)) =
        let (g, same, some) = answer_to i p at w on in
        (Err (Replay (Out e)), refl, (capture_to i p at it, (g, some, subst (λ (body : List ℕ). WentOut old body new (sent_of e)) (sym (same_body g w same)) went)))

  -- ---- texts

  text_same : (i p : ℕ) → IsSameRecord ps i p → joined_text_at part i ≡ joined_text_at records p
  text_same i p at =
      ap (λ o. option_map_or (λ content. joined_text (joined_to part content)) o []) (same_record i p at) ∙ by_found (slice_get records p) refl
    where
      by_found : (o : Option Record) → slice_get records p ≡ o
          → option_map_or (λ content. joined_text (joined_to part content)) o [] ≡ option_map_or (λ content. joined_text (joined_to records content)) o []
      by_found None there = refl
      by_found (Some content) there = ap (λ j. joined_text j) (sym (joined_same i p content at there))

  -- ---- what is stored

  bytes_same : (i p : ℕ) (s : StoredBody) → IsSameRecord ps i p → stored_text part i s ≡ stored_text records p s
  bytes_same i p s at = ap (λ t. drop s.head_len t) (text_same i p at)

  module _ (i p : ℕ) (at : IsSameRecord ps i p) (old new : Option (List ℕ)) where
    abbrev StoredFrom : Result StoredAnswer BodyFault → Type 0
    StoredFrom a = (b : Result StoredAnswer BodyFault) × IsSameStored ps a b × IsStoredOut records p b old new

    front_from : (j q sent : ℕ) → IsSameRecord ps j q → IsFrontAt part j sent old new → IsFrontAt records q sent old new
    front_from j q sent at_q (inl none) = inl none
    front_from j q sent at_q (inr some) = inr (record {
      stored = some.stored;
      is = stored_from j q (Ok some.stored) at_q some.is;
      front = subst (λ (t : List ℕ). WentOut old t new sent) (bytes_same j q some.stored at_q) some.front;
    })

    all_from : (a : StoredAnswer) (y : Result Path Unfound) → path_at records p ≡ y → ArePaths ps (Ok a.path) y → IsCaptureAt part i
        → IsStoredAt part a.path.given (Ok a.stored) → new ≡ append_known old (stored_text part a.path.given a.stored) → StoredFrom (Ok a)
    all_from a (Ok b) path alike it stored reported = (
      Ok (record { path = b; stored = a.stored }),
      record { chosen = alike.0; given = alike.1; stored = refl },
      (
        capture_from i p at it,
        path,
        stored_from a.path.given b.given (Ok a.stored) alike.1 stored,
        reported ∙ ap (append_known old) (bytes_same a.path.given b.given a.stored alike.1),
      ),
    )
    all_from a (Err why) path alike it stored reported = absurd alike

    cut_from : (e : OutFault) (a : Path) (y : Result Path Unfound) → path_at records p ≡ y → ArePaths ps (Ok a) y → IsCaptureAt part i
        → IsFrontAt part a.given (sent_of e) old new → StoredFrom (Err (Replay (Out e)))
    cut_from e a (Ok b) path alike it front =
        (Err (Replay (Out e)), refl, (capture_from i p at it, b, path, front_from a.given b.given (sent_of e) alike.1 front))
    cut_from e a (Err why) path alike it front = absurd alike

    paths_by : (x : Result Path Unfound) → path_at part i ≡ x → ArePaths ps x (path_at records p)
    paths_by x path = subst (λ (y : Result Path Unfound). ArePaths ps y (path_at records p)) path (same_path i p at)

    out_from : (a : Result StoredAnswer BodyFault) → IsStoredOut part i a old new → StoredFrom a
    out_from (Ok a) (it, path, stored, reported) =
        all_from a (path_at records p) refl (paths_by (Ok a.path) path) it stored reported
    out_from (Err NoRecord) (none, reported) = (Err NoRecord, refl, (sym (same_record i p at) ∙ none, reported))
    out_from (Err NoCapture) (other, reported) = (Err NoCapture, refl, (other_from i p at other, reported))
    out_from (Err (Replay (Reason why))) (it, stored, reported) = (
      Err (Replay (Reason why)),
      refl,
      (capture_from i p at it, stored_on_from (path_at part i) (path_at records p) (Err why) (same_path i p at) stored, reported),
    )
    out_from (Err (Replay (Out e))) (it, a, path, front) =
        cut_from e a (path_at records p) refl (paths_by (Ok a) path) it front

    abbrev StoredTo : Result StoredAnswer BodyFault → Type 0
    StoredTo b = (a : Result StoredAnswer BodyFault) × IsSameStored ps a b × IsStoredOut part i a old new

    front_to : (j q sent : ℕ) → IsSameRecord ps j q → IsFrontAt records q sent old new → IsFrontAt part j sent old new
    front_to j q sent at_q (inl none) = inl none
    front_to j q sent at_q (inr some) = inr (record {
      stored = some.stored;
      is = stored_to j q (Ok some.stored) at_q some.is;
      front = subst (λ (t : List ℕ). WentOut old t new sent) (sym (bytes_same j q some.stored at_q)) some.front;
    })

    all_to : (b : StoredAnswer) (x : Result Path Unfound) → path_at part i ≡ x → ArePaths ps x (Ok b.path) → IsCaptureAt records p
        → IsStoredAt records b.path.given (Ok b.stored) → new ≡ append_known old (stored_text records b.path.given b.stored) → StoredTo (Ok b)
    all_to b (Ok a) path alike it stored reported = (
      Ok (record { path = a; stored = b.stored }),
      record { chosen = alike.0; given = alike.1; stored = refl },
      (
        capture_to i p at it,
        path,
        stored_to a.given b.path.given (Ok b.stored) alike.1 stored,
        reported ∙ ap (append_known old) (sym (bytes_same a.given b.path.given b.stored alike.1)),
      ),
    )
    all_to b (Err why) path alike it stored reported = absurd alike

    cut_to : (e : OutFault) (b : Path) (x : Result Path Unfound) → path_at part i ≡ x → ArePaths ps x (Ok b) → IsCaptureAt records p
        → IsFrontAt records b.given (sent_of e) old new → StoredTo (Err (Replay (Out e)))
    cut_to e b (Ok a) path alike it front =
        (Err (Replay (Out e)), refl, (capture_to i p at it, a, path, front_to a.given b.given (sent_of e) alike.1 front))
    cut_to e b (Err why) path alike it front = absurd alike

    paths_back : (y : Result Path Unfound) → path_at records p ≡ y → ArePaths ps (path_at part i) y
    paths_back y path = subst (λ (x : Result Path Unfound). ArePaths ps (path_at part i) x) path (same_path i p at)

    out_to : (b : Result StoredAnswer BodyFault) → IsStoredOut records p b old new → StoredTo b
    out_to (Ok b) (it, path, stored, reported) =
        all_to b (path_at part i) refl (paths_back (Ok b.path) path) it stored reported
    out_to (Err NoRecord) (none, reported) = (Err NoRecord, refl, (same_record i p at ∙ none, reported))
    out_to (Err NoCapture) (other, reported) = (Err NoCapture, refl, (other_to i p at other, reported))
    out_to (Err (Replay (Reason why))) (it, stored, reported) = (
      Err (Replay (Reason why)),
      refl,
      (capture_to i p at it, stored_on_to (path_at part i) (path_at records p) (Err why) (same_path i p at) stored, reported),
    )
    out_to (Err (Replay (Out e))) (it, b, path, front) =
        cut_to e b (path_at part i) refl (paths_back (Ok b) path) it front

-- ---- lines

-- the line of a record by what its head says
abbrev line_here : Record → ℕ → Option ℕ → Result StoredBody Why → List ℕ
line_here content chosen origin s = line_by (row_of (record { offset = 0; block_start = 0; content = content })) chosen origin s

line_is : (p : Placed) (chosen : ℕ) (origin : Option ℕ) (s : Result StoredBody Why) → line_by (row_of p) chosen origin s ≡ line_here p.content chosen origin s
line_is p chosen origin (Ok s) = refl
line_is p chosen origin (Err why) = refl

same_line : (a b : Option Placed) (chosen : ℕ) (origin : Option ℕ) (s : Result StoredBody Why)
    → option_map (λ (p : Placed). p.content) a ≡ option_map (λ (p : Placed). p.content) b
    → option_map_or (λ row. line_by row chosen origin s) (option_map row_of a) [] ≡ option_map_or (λ row. line_by row chosen origin s) (option_map row_of b) []
same_line None None chosen origin s same = refl
same_line (Some p) (Some q) chosen origin s same =
    let content : p.content ≡ q.content = (cc) in
    line_is p chosen origin s ∙ ap (λ c. line_here c chosen origin s) content ∙ sym (line_is q chosen origin s)
same_line None (Some q) chosen origin s same = absurd (cc)
same_line (Some p) None chosen origin s same = absurd (cc)

pub lines_are_kept : SelectionIsOfTheSelected → LinesAreKept
lines_are_kept selected bytes rows is ps are others other part whole same =
    let records = is.are.records in
    let chosen = other.are.records in
    let many : length rows ≡ length (contents records) =
    ap (λ l. length l) is.are.rows_are ∙ length-map records row_of ∙ sym (length-map records (λ (p : Placed). p.content)) in
    let here : ArePositions (length (contents records)) ps = subst (λ (n : ℕ). ArePositions n ps) many are in
    let there : slice_get (contents chosen) part.chosen ≡ slice_get (contents records) whole.chosen =
    ap (λ l. slice_get l part.chosen) (selected bytes rows is ps others other) ∙ is_there (contents records) ps here.below part.chosen whole.chosen same.chosen in
    let content : option_map (λ (p : Placed). p.content) (slice_get chosen part.chosen) ≡ option_map (λ (p : Placed). p.content) (slice_get records whole.chosen) =
    sym (slice_get-map (λ (p : Placed). p.content) chosen part.chosen) ∙ there ∙ slice_get-map (λ (p : Placed). p.content) records whole.chosen in
    let line : Option Row → Result StoredBody Why → List ℕ = λ o s. option_map_or (λ row. line_by row part.chosen part.given s) o [] in
    ap (λ o. line o part.stored) (ap (λ l. slice_get l part.chosen) other.are.rows_are ∙ slice_get-map row_of chosen part.chosen)
    ∙ ap (λ s. line (option_map row_of (slice_get chosen part.chosen)) s) same.stored
    ∙ same_line (slice_get chosen part.chosen) (slice_get records whole.chosen) part.chosen part.given whole.stored content
    ∙ sym (ap (λ o. line o whole.stored) (ap (λ l. slice_get l whole.chosen) is.are.rows_are ∙ slice_get-map row_of records whole.chosen))

-- ---- the laws

pub outcomes_are_kept : LatestIsLast → ChainLoops → OutcomesAreKept
outcomes_are_kept late chains records ps is i p at = record {
  each = outcome_from late chains records ps is i p at;
  back = outcome_to late chains records ps is i p at;
}

pub answers_are_kept : LatestIsLast → ChainLoops → AnswersAreKept
answers_are_kept late chains records ps is i p at = record {
  each = answer_from late chains records ps is i p at;
  back = answer_to late chains records ps is i p at;
}

pub bodies_are_kept : LatestIsLast → ChainLoops → BodiesAreKept
bodies_are_kept late chains old new records ps is i p at = record {
  each = body_from late chains records ps is i p at old new;
  back = body_to late chains records ps is i p at old new;
}

pub stored_bodies_are_kept : LatestIsLast → ChainLoops → StoredBodiesAreKept
stored_bodies_are_kept late chains old new records ps is i p at = record {
  each = out_from late chains records ps is i p at old new;
  back = out_to late chains records ps is i p at old new;
}
