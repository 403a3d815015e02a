-- What is known of blocks, and what is found of those that are joined.
use Rattle.std.proofs.Common.{◌≡◌, ◌⊎◌, inl, inr, ℕ, zero, suc, ◌==◌, ◌≤◌, Bool, true, false, cond, ◌||◌, List, [], ◌∷◌, drop, length, map, take, Option, Some, Result, Ok, Err, MatchBool, refl, sym, ap, subst, ◌∙◌, arith}
use Rattle.std.specs.List.{filter_map, list_any, slice_get}
use Rattle.warc_value.specs.declared.hash.Verdict.{Verdict}
use Rattle.warc_value.specs.declared.hash.Verdict.TheVariants.{Good, Bad, Unchecked}
use Rattle.warc_value.specs.Digests.{is_bad}
use Rattle.warc_frame.specs.Record.{Record, max_archive}
use Rattle.warc_frame.specs.Seen.{SeenSource}
use Rattle.warc_frame.specs.declared.fault.OutFault.{OutFault}
use Rattle.warc_frame.proofs.EffectLemmas.{fails_as}
use Rattle.warc_record.specs.Readings.{reading_of}
use Rattle.warc_segment.specs.Joined.{ArePlacesOf, PlacesAreOfRecords, ReadRecord, joined_places, joined_records, with_members}
use Rattle.warc_segment.specs.Kept.{Kept as Parts}
use Rattle.warc_segment.specs.Series.{Member}
use Rattle.warc_segment.specs.declared.gap.Gap.{Gap}
use Rattle.warc_segment.specs.declared.gap.Gap.TheVariants.{Total}
use Rattle.warc_segment.specs.declared.place.Place.{Place}
use Rattle.warc_answer.specs.Giving.{any_bad_at}
use Rattle.warc_answer.specs.Known.{Agrees}
use Rattle.warc_answer.specs.Payloads.{has_bad_block, is_http_response, read_record, whole_block}
use Rattle.warc_answer.specs.Seen.{IsJudged, stored_seen}
use Rattle.warc_answer.specs.Stored.{IsStoredAt, IsStoredBy, IsStoredIn, StoredBody, joined_to}
use Rattle.warc_answer.specs.declared.answer.Reason.{Reason as Why}
use Rattle.warc_answer.specs.declared.answer.Reason.TheVariants.{NotFound, Segments, BadDigest, BadHead, Coded}
use Rattle.warc_answer.specs.declared.answer.ReplayFault.{ReplayFault}
use Rattle.warc_answer.specs.declared.answer.ReplayFault.TheVariants.{Reason, Out}
use Rattle.warc_answer.specs.declared.stored.Stored.{Stored}
use Rattle.warc_answer.proofs.GiveLemmas.{places_bad}
use Rattle.warc_answer.proofs.SplitLemmas.{after_of}
use Rattle.warc_lookup.specs.Indexed.{placed_record}
use Rattle.warc_reading.specs.Archive.{SpellsFrom, contents}
use Rattle.warc_reading.specs.Judging.{verdict_on}
use Rattle.warc_reading.specs.Row.{Placed, Row}
use Rattle.warc_replay.specs.Capturing.{AreFound, AreKnownBlocks, AreRests, AreUnknown, IsJoinedVerdict, IsBlockVerdict, IsOriginIn, IsRestVerdict, IsStoredFound, JudgesBy, LooksBy}
use Rattle.warc_replay.specs.KnownSeries.{BeginsSeries, joined_like}
use Rattle.warc_replay.specs.declared.replay.captures.JoinedVerdicts.{JoinedVerdicts}
use Rattle.warc_replay.specs.declared.replay.known_series.Shared.{Shared}
use Rattle.warc_replay.specs.declared.replay.origin.Origin.{Origin}
use Rattle.warc_judged.specs.Counting.{verdict_at}
use Rattle.warc_replay.specs.Origins.{IsOriginAt, IsOriginFound, IsSharedAt}
use Rattle.warc_replay.specs.Outcomes.{judged_seen}
use Rattle.warc_judged.specs.Waiting.{IsSetAt}
use Rattle.warc_replay.proofs.LookLemmas.{stored_by, stored_gap}
use Rattle.warc_replay.proofs.ReplayLemmas.{gap_is, places_are, read_all}

-- ---- lists of verdicts

-- a list that says nothing is right
pub nothing_known : (records : List Placed) → AreKnownBlocks [] records
nothing_known records = λ position r there. tt

unsaid : (verdict : Verdict) (bad : Bool) → verdict ≡ Unchecked → Agrees verdict bad
unsaid verdict bad is = subst (λ (v : Verdict). Agrees v bad) (sym is) tt

pub nothing_found : {A : Type 0} (known : List Verdict) (found : JoinedVerdicts A) (records : List Placed) → AreUnknown found → AreKnownBlocks known records → AreFound known found records
nothing_found known found records none right = record {
  own = right;
  joined = λ position r joined there whole. unsaid (verdict_at found.whole position) (list_any has_bad_block joined) (none.0 position);
  rest = λ segment i p joined there first whole. unsaid (verdict_at found.rest segment) (list_any has_bad_block (drop 1 joined)) (none.1 segment);
}

agreed : (verdict : Verdict) → Agrees verdict (is_bad verdict)
agreed Good = refl
agreed Bad = refl
agreed Unchecked = tt

pub own_right : (p : Placed) (r : Record) → p.content ≡ r → Agrees (verdict_on p) (has_bad_block (read_record r))
own_right p r same = subst (λ (x : Record). Agrees (verdict_on p) (has_bad_block (read_record x))) same (agreed (verdict_on p))

-- the verdicts on the blocks of records are right
pub verdicts_known : (records : List Placed) → AreKnownBlocks (map verdict_on records) records
verdicts_known [] position r there = absurd (cc there)
verdicts_known (p ∷ ps) zero r there = own_right p r (let same : Some p.content ≡ Some r = there in cc same)
verdicts_known (p ∷ ps) (suc position) r there = verdicts_known ps position r there

pub known_as : (verdicts : List Verdict) (records : List Placed) → verdicts ≡ map verdict_on records → AreKnownBlocks verdicts records
known_as verdicts records same = subst (λ (l : List Verdict). AreKnownBlocks l records) (sym same) (verdicts_known records)

-- ---- the blocks that are joined to a record

own_first : (all : List ReadRecord) (r : ReadRecord) (members : Result (List Member) Gap) (joined : List ReadRecord) → with_members all r members ≡ Ok joined
    → (rest : List ReadRecord) × (joined ≡ r ∷ rest)
own_first all r (Ok members) joined is =
    let rest : List ReadRecord = filter_map (λ (m : Member). slice_get all m.position) members in
    let f : ◌≡◌ {A = Result (List ReadRecord) Gap} (Ok (r ∷ rest)) (Ok joined) = is in
    let e : r ∷ rest ≡ joined = cc f in
    (rest, sym e)
own_first all r (Err gap) joined is = absurd (cc is)

one_place : (bytes : List ℕ) (places : List Place) (r : ReadRecord) (rest : List ReadRecord) → ArePlacesOf bytes places (r ∷ rest) → length places ≡ 1 → rest ≡ []
one_place bytes [] r rest are size = absurd are
one_place bytes (p ∷ []) r [] are size = refl
one_place bytes (p ∷ []) r (x ∷ xs) are size = absurd are.1
one_place bytes (p ∷ q ∷ ps) r rest are size = absurd (omega (arith, size))

or_no : (b : Bool) → b || false ≡ b
or_no true = refl
or_no false = refl

alone : (bytes : List ℕ) (places : List Place) (all : List ReadRecord) (r : ReadRecord) (joined : List ReadRecord) → joined_records all r ≡ Ok joined → ArePlacesOf bytes places joined
    → length places ≡ 1 → list_any has_bad_block joined ≡ has_bad_block r
alone bytes places all r joined whole are size =
    let (rest, is) = own_first all r _ joined whole in
    let none : rest ≡ [] = one_place bytes places r rest (subst (λ (l : List ReadRecord). ArePlacesOf bytes places l) is are) size in
    ap (list_any has_bad_block) (is ∙ ap (λ l. r ∷ l) none) ∙ or_no (has_bad_block r)

-- what is known of the joined blocks
pub joined_known : (bytes : List ℕ) (records : List Record) (position : ℕ) (r : Record) (joined : List ReadRecord) (places : List Place) (own found known : Verdict)
    → (known ≡ found) ⊎ ((known ≡ own) × (length places ≡ 1)) → slice_get records position ≡ Some r → joined_to records r ≡ Ok joined → ArePlacesOf bytes places joined
    → IsBlockVerdict records position own → IsJoinedVerdict records position found → Agrees known (list_any has_bad_block joined)
joined_known bytes records position r joined places own found known (inl same) there whole are one all =
    subst (λ (v : Verdict). Agrees v (list_any has_bad_block joined)) (sym same) (all r joined there whole)
joined_known bytes records position r joined places own found known (inr (same, size)) there whole are one all =
    let lone = alone bytes places (map read_record records) (read_record r) joined whole are size in
    subst (λ (v : Verdict). Agrees v (list_any has_bad_block joined)) (sym same) (subst (Agrees own) (sym lone) (one r there))

-- ---- what is found of them by what is stored

-- where this is stored, some block is bad, or none is
abbrev IsFoundBy : Result StoredBody Why → Bool → Type 0
IsFoundBy (Ok s) bad = bad ≡ false
IsFoundBy (Err BadHead) bad = bad ≡ false
IsFoundBy (Err BadDigest) bad = bad ≡ true
IsFoundBy (Err Coded) bad = Unit {0}
IsFoundBy (Err (NotFound unfound)) bad = Unit {0}
IsFoundBy (Err (Segments gap)) bad = Unit {0}

by_bad : (http bad : Bool) (P : Type 0) (content : Record) (block : List ℕ) (stored : Result StoredBody Why)
    → MatchBool bad (stored ≡ Err BadDigest) (IsStoredIn http content.fields block stored × P) → IsFoundBy stored bad
by_bad http true P content block (Ok s) is = absurd (cc is)
by_bad http true P content block (Err BadHead) is = absurd (cc is)
by_bad http true P content block (Err BadDigest) is = refl
by_bad http true P content block (Err Coded) is = tt
by_bad http true P content block (Err (NotFound unfound)) is = tt
by_bad http true P content block (Err (Segments gap)) is = tt
by_bad http false P content block (Ok s) is = refl
by_bad http false P content block (Err BadHead) is = refl
by_bad http false P content block (Err BadDigest) is = absurd is.0
by_bad http false P content block (Err Coded) is = tt
by_bad http false P content block (Err (NotFound unfound)) is = tt
by_bad http false P content block (Err (Segments gap)) is = tt

by_joined : (r : Record) (all : Result (List ReadRecord) Gap) (joined : List ReadRecord) (stored : Result StoredBody Why) → all ≡ Ok joined → IsStoredBy r all stored
    → IsFoundBy stored (list_any has_bad_block joined)
by_joined r (Ok l) joined stored same is =
    let e : l ≡ joined = (let f : ◌≡◌ {A = Result (List ReadRecord) Gap} (Ok l) (Ok joined) = same in cc f) in
    subst (λ (j : List ReadRecord). IsFoundBy stored (list_any has_bad_block j)) e (by_bad (is_http_response (reading_of r.fields)) (list_any has_bad_block l) _ r (whole_block l) stored is)
by_joined r (Err gap) joined stored same is = absurd (cc same)

found_of : (records : List Record) (position : ℕ) (stored : Result StoredBody Why) → IsStoredAt records position stored → (r : Record) (joined : List ReadRecord)
    → slice_get records position ≡ Some r → joined_to records r ≡ Ok joined → IsFoundBy stored (list_any has_bad_block joined)
found_of records position stored at r joined there whole =
    let same : at.content ≡ r = (let f : Some at.content ≡ Some r = sym at.there ∙ there in cc f) in
    by_joined r (joined_to records r) joined stored whole (subst (λ (c : Record). IsStoredBy c (joined_to records c) stored) same at.is)

module _ {A : Type 0} (records : List Record) (position : ℕ) (judged : Result (Stored A) Why) (at : IsStoredAt records position (judged_seen judged)) where
  pub found_good : (s : Stored A) → judged ≡ Ok s → IsJoinedVerdict records position Good
  found_good s is = λ r joined there whole.
      subst (λ (j : Result (Stored A) Why). IsFoundBy (judged_seen j) (list_any has_bad_block joined)) is (found_of records position (judged_seen judged) at r joined there whole)

pub found_headless : (records : List Record) (position : ℕ) (why : Why) → why ≡ BadHead → IsStoredAt records position (Err why) → IsJoinedVerdict records position Good
found_headless records position why is at = λ r joined there whole.
    subst (λ (w : Why). IsFoundBy (Err w) (list_any has_bad_block joined)) is (found_of records position (Err why) at r joined there whole)

pub found_bad : (records : List Record) (position : ℕ) (why : Why) → why ≡ BadDigest → IsStoredAt records position (Err why) → IsJoinedVerdict records position Bad
found_bad records position why is at = λ r joined there whole.
    subst (λ (w : Why). IsFoundBy (Err w) (list_any has_bad_block joined)) is (found_of records position (Err why) at r joined there whole)

pub stored_reason : {A : Type 0} (records : List Record) (position : ℕ) (judged : Result (Stored A) Why) (why : Why) → judged ≡ Err why → IsStoredAt records position (judged_seen judged)
    → IsStoredAt records position (Err why)
stored_reason {A} records position judged why is at = subst (λ (j : Result (Stored A) Why). IsStoredAt records position (judged_seen j)) is at

-- what was found now is kept
pub found_now : {A : Type 0} (known : List Verdict) (found again : JoinedVerdicts A) (records : List Placed) (origin : ℕ) (verdict : Verdict) → IsSetAt found.whole again.whole origin verdict
    → IsJoinedVerdict (contents records) origin verdict → AreFound known found records → AreRests again.rest records → AreFound known again records
found_now known found again records origin verdict is now right rests = record {
  own = right.own;
  joined = λ i. elim (is i) [
    | inl same ↦ subst (IsJoinedVerdict (contents records) i) (sym same) (right.joined i)
    | inr (here, value) ↦
        subst (IsJoinedVerdict (contents records) i) (sym value) (subst (λ (n : ℕ). IsJoinedVerdict (contents records) n verdict) (sym here) now)
  ];
  rest = rests;
}

pub rests_now : (old new : List Verdict) (records : List Placed) (segment : ℕ) (verdict : Verdict) → IsSetAt old new segment verdict → IsRestVerdict records segment verdict → AreRests old records
    → AreRests new records
rests_now old new records segment verdict is now right = λ s. elim (is s) [
  | inl same ↦ subst (IsRestVerdict records s) (sym same) (right s)
  | inr (here, value) ↦ subst (IsRestVerdict records s) (sym value) (subst (λ (n : ℕ). IsRestVerdict records n verdict) (sym here) now)
]

-- what is known of a record's own block, as the first of those that are joined to it
pub own_known : (records : List Record) (position : ℕ) (r : Record) (joined : List ReadRecord) (own : Verdict) → slice_get records position ≡ Some r → joined_to records r ≡ Ok joined
    → IsBlockVerdict records position own → Agrees own (list_any has_bad_block (take 1 joined))
own_known records position r joined own there whole one =
    let (rest, is) = own_first (map read_record records) (read_record r) _ joined whole in
    let e : list_any has_bad_block (take 1 joined) ≡ has_bad_block (read_record r) = ap (λ (l : List ReadRecord). list_any has_bad_block (take 1 l)) is ∙ or_no (has_bad_block (read_record r)) in
    subst (Agrees own) (sym e) (one r there)

-- ---- what is found of the blocks that series share

pub origin_in : {A : Type 0} (bytes : List ℕ) (records : List Placed) (position : ℕ) (o : Origin A) (shared : Shared) (content_type : List ℕ) (places : List Place) → SpellsFrom 0 records bytes
    → length bytes ≤ max_archive → IsOriginAt records position o.http o.content_type.items o.places.items → IsSharedAt records position o.shared o.places.items
    → content_type ≡ o.content_type.items → places ≡ o.places.items → o.shared ≡ Some shared → IsOriginIn bytes records position o.http content_type places shared
origin_in {A} bytes records position o shared content_type places spelled short at series typed same is = record {
  spelled = spelled;
  short = short;
  at = record { placed = at.placed; there = at.there; http_is = at.http_is; type_is = typed ∙ at.type_is; places_are = at.places_are ∙ ap Ok (sym same) };
  series = subst (λ (l : List Place). IsSharedAt records position (Some shared) l) (sym same) (subst (λ (s : Option Shared). IsSharedAt records position s o.places.items) is series);
}

one_joined : (a b : List ReadRecord) (all : Result (List ReadRecord) Gap) → all ≡ Ok a → all ≡ Ok b → a ≡ b
one_joined a b all one other = let f : ◌≡◌ {A = Result (List ReadRecord) Gap} (Ok a) (Ok b) = sym one ∙ other in cc f

module _ (bytes : List ℕ) (records : List Placed) (spelled : SpellsFrom 0 records bytes) (law : PlacesAreOfRecords) where
  after_bad : (i : ℕ) (p : Placed) (places : List Place) (joined : List ReadRecord) → slice_get records i ≡ Some p → joined_places (map placed_record records) (placed_record p) ≡ Ok places
      → joined_records (read_all records) (read_record p.content) ≡ Ok joined → any_bad_at bytes (drop 1 places) ≡ list_any has_bad_block (drop 1 joined)
  after_bad i p places joined there same whole =
      let (found, is, are) = places_are bytes records i p spelled there places law same in
      let one : found ≡ joined = one_joined found joined (joined_records (read_all records) (read_record p.content)) is whole in
      places_bad bytes (drop 1 places) (drop 1 joined) (after_of bytes places joined (subst (ArePlacesOf bytes places) one are))

  like_bad : (i : ℕ) (p : Placed) (size : ℕ) (rest : List Place) (joined : List ReadRecord) → slice_get records i ≡ Some p
      → joined_places (map placed_record records) (placed_record p) ≡ joined_like size rest (placed_record p).place
      → joined_records (read_all records) (read_record p.content) ≡ Ok joined → any_bad_at bytes rest ≡ list_any has_bad_block (drop 1 joined)
  like_bad i p size rest joined there same whole = by_test ((placed_record p).place.len == size) same
    where
      by_test : (test : Bool) → joined_places (map placed_record records) (placed_record p) ≡ cond test (Ok ((placed_record p).place ∷ rest)) (Err Total)
          → any_bad_at bytes rest ≡ list_any has_bad_block (drop 1 joined)
      by_test true is = after_bad i p ((placed_record p).place ∷ rest) joined there is whole
      by_test false is = absurd (cc (sym whole ∙ gap_is bytes records i p spelled there Total law is))

  -- the verdict on the blocks after the own one of a first segment is that for its series
  pub rest_right : (position : ℕ) (http : Bool) (content_type : List ℕ) (places : List Place) (shared : Shared) (origin : IsOriginIn bytes records position http content_type places shared)
      (joined : List ReadRecord) (old verdict : Verdict) → joined_records (read_all records) (read_record origin.at.placed.content) ≡ Ok joined → IsRestVerdict records shared.segment old
      → (verdict ≡ old) ⊎ Agrees verdict (list_any has_bad_block (drop 1 joined)) → IsRestVerdict records shared.segment verdict
  rest_right position http content_type places shared origin joined old verdict whole known (inl same) = subst (IsRestVerdict records shared.segment) (sym same) known
  rest_right position http content_type places shared origin joined old verdict whole known (inr agrees) = λ i p other there first is.
      let own = after_bad position origin.at.placed places joined origin.at.there origin.at.places_are whole in
      let its = like_bad i p shared.size (drop 1 places) other there (origin.series.is.1.joins (placed_record p) first) is in
      subst (Agrees verdict) (sym own ∙ its) agrees

  -- so it is right for the segment itself
  pub rest_own : (position : ℕ) (http : Bool) (content_type : List ℕ) (places : List Place) (shared : Shared) (origin : IsOriginIn bytes records position http content_type places shared)
      (joined : List ReadRecord) (verdict : Verdict) → joined_records (read_all records) (read_record origin.at.placed.content) ≡ Ok joined → IsRestVerdict records shared.segment verdict
      → Agrees verdict (list_any has_bad_block (drop 1 joined))
  rest_own position http content_type places shared origin joined verdict whole right =
      right position origin.at.placed joined origin.at.there (first_of origin) whole
    where
      first_of : (o : IsOriginIn bytes records position http content_type places shared) → BeginsSeries (map placed_record records) shared.segment (placed_record o.at.placed).head
      first_of o =
          let same : o.series.placed ≡ o.at.placed = (let f : Some o.series.placed ≡ Some o.at.placed = sym o.series.there ∙ o.at.there in cc f) in
          subst (λ (q : Placed). BeginsSeries (map placed_record records) shared.segment (placed_record q).head) same o.series.is.0

-- what is judged is stored
pub stored_found : {A : Type 0} (records : List Placed) (i : ℕ) (p : Placed) (joined : List ReadRecord) (answer : Result (Stored A) ReplayFault) → slice_get records i ≡ Some p
    → joined_records (read_all records) (read_record p.content) ≡ Ok joined → IsJudged p.content joined answer → IsStoredFound (contents records) i answer
stored_found records i p joined (Ok s) there whole is = stored_by records i p (Ok joined) (Ok (stored_seen s)) there whole is
stored_found records i p joined (Err (Reason why)) there whole is = stored_by records i p (Ok joined) (Err why) there whole is
stored_found records i p joined (Err (Out e)) there whole is = tt

pub gap_found : (A B : Type 0) (bytes : List ℕ) (records : List Placed) (i : ℕ) (fault : ReplayFault) → SpellsFrom 0 records bytes → PlacesAreOfRecords → IsOriginFound {A = A} records i (Err fault)
    → IsStoredFound {A = B} (contents records) i (Err fault)
gap_found A B bytes records i (Reason why) spelled law (gap, says, at) =
    subst (λ (w : Why). IsStoredAt (contents records) i (Err w)) (sym says) (stored_gap records i at.placed gap at.there (gap_is bytes records i at.placed spelled at.there gap law at.gap_is))
gap_found A B bytes records i (Out e) spelled law at = tt

-- if looking gives a reason, that is what is judged
pub by_reason : {A : Type 0} {rows : List Row} {parts : Parts} {position : ℕ} {own joined : Verdict} {rests again : List Verdict} {old new : SeenSource} (answer : Result (Stored A) ReplayFault) (why : Why) → answer ≡ Err (Reason why)
    → LooksBy rows parts position own joined rests again old new answer → JudgesBy {A = A} rows parts position own joined rests again old new (Ok (Err why))
by_reason {A} {rows} {parts} {position} {own} {joined} {rests} {again} {old} {new} answer why is looks =
    let has = subst (λ (a : Result (Stored A) ReplayFault). LooksBy rows parts position own joined rests again old new a) is looks in
    record { reported = has.reported; remembers = has.remembers; early = tt; inside = has.inside; keeps = has.keeps; fails = record { may = has.fails.may; failed = has.fails.failed } }

pub by_out : {A : Type 0} {rows : List Row} {parts : Parts} {position : ℕ} {own joined : Verdict} {rests again : List Verdict} {old new : SeenSource} (answer : Result (Stored A) ReplayFault) (e : OutFault) → answer ≡ Err (Out e)
    → LooksBy rows parts position own joined rests again old new answer → JudgesBy {A = A} rows parts position own joined rests again old new (Err e)
by_out {A} {rows} {parts} {position} {own} {joined} {rests} {again} {old} {new} answer e is looks =
    let has = subst (λ (a : Result (Stored A) ReplayFault). LooksBy rows parts position own joined rests again old new a) is looks in
    record {
      reported = λ bytes held of are one all right. tt;
      remembers = has.remembers;
      early = has.early;
      inside = has.inside;
      keeps = has.keeps;
      fails = fails_as (Unit {0}) (Result (Stored A) Why) has.fails;
    }
