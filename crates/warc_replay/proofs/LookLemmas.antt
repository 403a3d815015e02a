-- What is stored of an origin, over the bytes of an archive.
use Rattle.std.proofs.Common.{◌≡◌, inl, inr, ℕ, zero, suc, ◌<◌, ◌≤◌, List, [], ◌∷◌, length, drop, Option, Some, None, Result, Ok, Err, refl, sym, ap, subst, ◌∙◌, arith}
use Rattle.std.specs.Io.KnownBytes.{append_known}
use Rattle.std.specs.List.{slice_get}
use Rattle.std.specs.Option.{option_map_or}
use Rattle.warc_frame.specs.Effects.{FailsBy, IsOfDevice, ReadsOnly}
use Rattle.warc_frame.specs.Failing.{MayHaveFailedBy, failed_by}
use Rattle.warc_frame.proofs.EffectLemmas.{fails_as, fails_more}
use Rattle.warc_frame.specs.Record.{Record, max_archive}
use Rattle.warc_frame.specs.Seen.{Seen, SeenSource}
use Rattle.warc_frame.specs.Send.{WentOut, sent_of}
use Rattle.warc_frame.specs.declared.fault.OutFault.{OutFault}
use Rattle.warc_frame.specs.declared.fault.OutFault.TheVariants as outs
use Rattle.warc_index.specs.Orders.{Indexes}
use Rattle.warc_index.specs.declared.unfound.Unfound.{Unfound}
use Rattle.warc_segment.specs.Joined.{ArePlacesOf, PlacesAreOfRecords, ReadRecord, joined_records}
use Rattle.warc_segment.specs.Kept.{Kept as Parts}
use Rattle.warc_segment.specs.declared.gap.Gap.{Gap}
use Rattle.warc_segment.specs.declared.place.Place.{Place}
use Rattle.std.specs.declared.vec.Vec.{Vec}
use Rattle.warc_answer.specs.Answers.{path_at}
use Rattle.warc_answer.specs.Laws.{PathsEndInside}
use Rattle.warc_answer.specs.Payloads.{read_record, whole_block}
use Rattle.warc_answer.specs.Places.{ReadsPlaces, len_of}
use Rattle.warc_answer.specs.Replays.{IsSilent, out_result}
use Rattle.warc_answer.specs.Seen.{IsEarly, IsJudged, stored_seen}
use Rattle.warc_answer.specs.Stored.{IsStoredAt, IsStoredBy, IsStoredOn, StoredBody, joined_text, joined_text_at, joined_to}
use Rattle.warc_answer.specs.declared.answer.Path.{Path}
use Rattle.warc_answer.specs.declared.answer.Reason.{Reason as Why}
use Rattle.warc_answer.specs.declared.answer.Reason.TheVariants.{NotFound, Segments}
use Rattle.warc_answer.specs.declared.answer.ReplayFault.{ReplayFault}
use Rattle.warc_answer.specs.declared.answer.ReplayFault.TheVariants.{Reason, Out}
use Rattle.warc_answer.specs.declared.stored.Stored.{Stored}
use Rattle.warc_answer.proofs.GiveLemmas.{places_lie, places_text}
use Rattle.warc_reading.specs.Archive.{IsArchiveOf, SpellsFrom, contents}
use Rattle.warc_lookup.specs.Indexed.{AreOf}
use Rattle.warc_reading.specs.Row.{Placed, Row}
use Rattle.warc_replay.specs.Finding.{IsFoundAt, IsOtherRow}
use Rattle.warc_replay.specs.Looking.{AsksWithin, IsLook, IsSent, Judges, Looks, ReadsOrigin, SendsStored}
use Rattle.warc_replay.specs.Origins.{IsOriginFound}
use Rattle.warc_replay.specs.Outcomes.{GivesStoredAt, CaptureSeen, IsOutcome, JudgesAt, StoredAnswer, judged_seen, origin_on}
use Rattle.warc_replay.specs.Replaying.{IsOnPath, ReadsPath, path_reads}
use Rattle.warc_replay.specs.declared.replay.body.Found.TheVariants.{Capture}
use Rattle.warc_replay.specs.declared.fault.BodyFault.TheVariants.{NoRecord, NoCapture, Replay}
use Rattle.warc_replay.specs.declared.replay.stored.Look.{Look}
use Rattle.warc_replay.specs.declared.replay.outcome.Outcome.{Outcome}
use Rattle.warc_replay.proofs.BodyLemmas.{below_there, capture_there, none_there, other_there}
use Rattle.warc_replay.proofs.OriginLemmas.{early_sent, read_less, then_read}
use Rattle.warc_replay.proofs.ReplayLemmas.{gap_is, path_by_links, read_all, reads_nothing, then_inside}

-- the record at a position of a list
pub content_there : (records : List Placed) (i : ℕ) (p : Placed) → slice_get records i ≡ Some p → slice_get (contents records) i ≡ Some p.content
content_there [] i p is = absurd (cc is)
content_there (x ∷ xs) zero p is = let same : x ≡ p = cc is in ap (λ (q : Placed). Some q.content) same
content_there (x ∷ xs) (suc i) p is = content_there xs i p is

pub stored_by : (records : List Placed) (i : ℕ) (p : Placed) (joined : Result (List ReadRecord) Gap) (stored : Result StoredBody Why) → slice_get records i ≡ Some p
    → joined_records (read_all records) (read_record p.content) ≡ joined → IsStoredBy p.content joined stored → IsStoredAt (contents records) i stored
stored_by records i p joined stored there same is = record {
  content = p.content;
  there = content_there records i p there;
  is = subst (λ (j : Result (List ReadRecord) Gap). IsStoredBy p.content j stored) (sym same) is;
}

pub stored_gap : (records : List Placed) (i : ℕ) (p : Placed) (gap : Gap) → slice_get records i ≡ Some p
    → joined_records (read_all records) (read_record p.content) ≡ Err gap → IsStoredAt (contents records) i (Err (Segments gap))
stored_gap records i p gap there same = stored_by records i p (Err gap) (Err (Segments gap)) there same refl

text_here : (records : List Placed) (i : ℕ) (p : Placed) (joined : List ReadRecord) → slice_get records i ≡ Some p
    → joined_records (read_all records) (read_record p.content) ≡ Ok joined → whole_block joined ≡ joined_text_at (contents records) i
text_here records i p joined there same =
    ap joined_text (sym same) ∙ ap (λ (o : Option Record). option_map_or (λ r. joined_text (joined_to (contents records) r)) o []) (sym (content_there records i p there))

pub look_made : {A : Type 0} (bytes : List ℕ) (records : List Placed) (i : ℕ) (p : Placed) (joined : List ReadRecord) (stored : Stored A) (places : Vec Place A) → length bytes ≤ max_archive
    → slice_get records i ≡ Some p → joined_records (read_all records) (read_record p.content) ≡ Ok joined → ArePlacesOf bytes places.items joined
    → IsJudged p.content joined (Ok stored) → let r : Result (Look A) ReplayFault = Ok (record { stored = stored; places = places }) in IsLook bytes (contents records) i r
look_made bytes records i p joined stored places short there same are is = (
  stored_by records i p (Ok joined) (Ok (stored_seen stored)) there same is,
  places_text bytes places.items joined are ∙ text_here records i p joined there same,
  places_lie bytes places.items joined short are,
)

pub look_failed : (A B : Type 0) (bytes : List ℕ) (records : List Placed) (i : ℕ) (p : Placed) (joined : List ReadRecord) (fault : ReplayFault) → slice_get records i ≡ Some p
    → joined_records (read_all records) (read_record p.content) ≡ Ok joined → IsJudged {A = A} p.content joined (Err fault) → IsLook {A = B} bytes (contents records) i (Err fault)
look_failed A B bytes records i p joined (Reason why) there same is = stored_by records i p (Ok joined) (Err why) there same is
look_failed A B bytes records i p joined (Out e) there same is = tt

-- where the origin isn't found
pub gap_looked : (A B : Type 0) (bytes : List ℕ) (records : List Placed) (i : ℕ) (fault : ReplayFault) → SpellsFrom 0 records bytes → PlacesAreOfRecords → IsOriginFound {A = A} records i (Err fault)
    → IsLook {A = B} bytes (contents records) i (Err fault)
gap_looked A B bytes records i (Reason why) spelled law (gap, says, at) =
    subst (λ (w : Why). IsStoredAt (contents records) i (Err w)) (sym says) (stored_gap records i at.placed gap at.there (gap_is bytes records i at.placed spelled at.there gap law at.gap_is))
gap_looked A B bytes records i (Out e) spelled law at = tt

-- a fault of the same kind, of another answer
pub fault_fails : (X Y : Type 0) (fault : ReplayFault) {Expected : List ℕ → Type 0} {old new : SeenSource}
    → FailsBy Expected (out_result {X = X} (Err fault)) old new → FailsBy Expected (out_result {X = Y} (Err fault)) old new
fault_fails X Y (Reason why) has = has
fault_fails X Y (Out e) has = has

pub out_may : (X Y : Type 0) (e : OutFault) (old new : ℕ) → MayHaveFailedBy {X = X} (Err e) old new → MayHaveFailedBy {X = Y} (Err e) old new
out_may X Y (outs.Read n) old new is = is
out_may X Y (outs.Write n) old new is = is
out_may X Y (outs.Memory n) old new is = is

-- where a device fails, it isn't before a byte is out
pub device_silent : (X : Type 0) (e : OutFault) (old new : Option (List ℕ)) → IsOfDevice e → IsSilent {X = X} (Err (Out e)) old new
device_silent X (outs.Read n) old new is = tt
device_silent X (outs.Write n) old new is = tt
device_silent X (outs.Memory n) old new is = absurd is

pub early_sound : (fault : ReplayFault) (n : ℕ) → IsEarly fault → failed_by (out_result {X = Unit {0}} (Err fault)) n ≡ n
early_sound (Reason why) n is = refl
early_sound (Out (outs.Read sent)) n is = refl
early_sound (Out (outs.Write sent)) n is = absurd is
early_sound (Out (outs.Memory sent)) n is = refl

-- ---- what is read

module _ {A : Type 0} {rows : List Row} {parts : Parts} {position : ℕ} {old mid : SeenSource} {answer : Result (Look A) ReplayFault} (looks : Looks rows parts position old mid answer) where
  pub origin_read : ReadsOrigin 1 rows parts position old mid
  origin_read = λ bytes held is are. (looks.reads bytes held is are).reads

  pub origin_read_less : ReadsOrigin 2 rows parts position old mid
  origin_read_less = λ bytes held is are. read_less 1 2 (λ n. omega arith) is.are.records (slice_get is.are.records position) (origin_read bytes held is are)

  pub asked_within : AsksWithin rows parts old mid
  asked_within = λ bytes is are. (looks.inside bytes is are).asks

-- if a look gives a reason, that is what is judged, without the places
pub judged_none : {A : Type 0} {rows : List Row} {parts : Parts} {position : ℕ} {old new : SeenSource} (answer : Result (Look A) ReplayFault) (why : Why) → answer ≡ Err (Reason why)
    → Looks rows parts position old new answer → Judges {A = A} rows parts position old new (Ok (Err why))
judged_none {A} {rows} {parts} {position} {old} {new} answer why is looks =
    let has = subst (λ (a : Result (Look A) ReplayFault). Looks rows parts position old new a) is looks in
    record {
      reported = has.reported;
      reads = origin_read has;
      inside = asked_within has;
      early = tt;
      keeps = has.keeps;
      fails = record { may = has.fails.may; failed = has.fails.failed };
    }

pub judged_out : {A : Type 0} {rows : List Row} {parts : Parts} {position : ℕ} {old new : SeenSource} (answer : Result (Look A) ReplayFault) (e : OutFault) → answer ≡ Err (Out e)
    → Looks rows parts position old new answer → Judges {A = A} rows parts position old new (Err e)
judged_out {A} {rows} {parts} {position} {old} {new} answer e is looks =
    let has = subst (λ (a : Result (Look A) ReplayFault). Looks rows parts position old new a) is looks in
    record {
      reported = λ bytes held of are. tt;
      reads = origin_read has;
      inside = asked_within has;
      early = has.early;
      keeps = has.keeps;
      fails = fails_as (Unit {0}) (Result (Stored A) Why) has.fails;
    }

-- and then the blocks are read that are joined
module _ {A : Type 0} {rows : List Row} {parts : Parts} {position : ℕ} {old mid : SeenSource} {look : Look A} (looks : Looks rows parts position old mid (Ok look))
    (places : List Place) (new : SeenSource) (same : places ≡ look.places.items) (then : ReadsPlaces places (len_of places) mid new) where
  pub sent_read : ReadsOrigin 2 rows parts position old new
  sent_read = λ bytes held is are.
      let looked = looks.reads bytes held is are in
      then_read 1 1 2 (λ n. omega arith) is.are.records (slice_get is.are.records position) look.places.items places (len_of places) looked.reads looked.places same (omega arith) then

  pub sent_within : AsksWithin rows parts old new
  sent_within = λ bytes is are.
      let looked = looks.inside bytes is are in
      then_inside bytes look.places.items places old mid new looks.keeps.watched looked.asks looked.ends same then.near

-- ---- by a position

module _ (rows : List Row) (index : Indexes) (parts : Parts) (position : ℕ) where
  pub judges_no_record : {A : Type 0} → (s : SeenSource) → slice_get rows position ≡ None → JudgesAt {A = A} rows index parts position s s (Err NoRecord)
  judges_no_record s none = record {
    reported = λ bytes held is are. none_there bytes rows position is none;
    early = tt;
    reads = λ bytes held is are. reads_nothing;
    inside = λ bytes is off. refl;
    keeps = record { kept = refl; watched = refl };
    fails = record { may = refl; failed = λ bytes held is. refl };
  }

  pub judges_no_capture : {A : Type 0} → (s : SeenSource) → IsOtherRow rows position → JudgesAt {A = A} rows index parts position s s (Err NoCapture)
  judges_no_capture s has = record {
    reported = λ bytes held is are. other_there bytes rows position is has;
    early = tt;
    reads = λ bytes held is are. reads_nothing;
    inside = λ bytes is off. refl;
    keeps = record { kept = refl; watched = refl };
    fails = record { may = refl; failed = λ bytes held is. refl };
  }

  path_found : (path : Result Path Unfound) (bytes : List ℕ) (is : IsArchiveOf bytes rows) → AreOf is.are.records index parts
      → IsFoundAt rows index parts position (Capture path) → path_at (contents is.are.records) position ≡ path
  path_found path bytes is are found = sym (path_by_links is.are.records position) ∙ sym (found.1 is.are.records are)

  pub outcome_made : (given : Option ℕ) (stored : Result StoredBody Why) (path : Result Path Unfound) (records : List Record) → path_at records position ≡ path → given ≡ origin_on path
      → IsStoredOn records path stored → let o : CaptureSeen = record { chosen = position; given = given; stored = stored } in IsOutcome records o
  outcome_made given stored path records same origin is = record {
    given = origin ∙ ap origin_on (sym same);
    stored = subst (λ (p : Result Path Unfound). IsStoredOn records p stored) (sym same) is;
  }

  pub judges_no_path : {A : Type 0} → (s : SeenSource) (unfound : Unfound) → IsFoundAt rows index parts position (Capture (Err unfound))
      → let r : Outcome A = record { chosen = position; given = None; stored = Err (NotFound unfound) } in JudgesAt {A = A} rows index parts position s s (Ok r)
  judges_no_path s unfound found = record {
    reported = λ bytes held is are. (
      capture_there bytes rows position is found.0,
      refl,
      outcome_made None (Err (NotFound unfound)) (Err unfound) (contents is.are.records) (path_found (Err unfound) bytes is are found) refl refl,
    );
    early = tt;
    reads = λ bytes held is are. reads_nothing;
    inside = λ bytes is off. refl;
    keeps = record { kept = refl; watched = refl };
    fails = record { may = refl; failed = λ bytes held is. refl };
  }

  inside_there : PathsEndInside → (path : Path) (bytes : List ℕ) (is : IsArchiveOf bytes rows) → AreOf is.are.records index parts
      → IsFoundAt rows index parts position (Capture (Ok path)) → path.given < length (contents is.are.records)
  inside_there inside path bytes is are found =
      (inside (contents is.are.records)).1 position (below_there bytes rows position is found.0) path (path_found (Ok path) bytes is are found)

  reads_there : (times : ℕ) (path : Path) (old new : SeenSource) → IsFoundAt rows index parts position (Capture (Ok path)) → ReadsOrigin times rows parts path.given old new
      → ReadsPath times rows index parts (λ records. path_at records position) old new
  reads_there times path old new found by = λ bytes held is are.
      subst (λ (f : Result Path Unfound). ReadsOnly (IsOnPath is.are.records f) (path_reads times is.are.records f) old new) (sym (path_found (Ok path) bytes is are found)) (by bytes held is are.parts_are)

  pub judges_made : {A : Type 0} → PathsEndInside → (path : Path) (stored : Result (Stored A) Why) (old new : SeenSource) → IsFoundAt rows index parts position (Capture (Ok path))
      → Judges rows parts path.given old new (Ok stored)
      → let r : Outcome A = record { chosen = position; given = Some path.given; stored = stored } in JudgesAt {A = A} rows index parts position old new (Ok r)
  judges_made inside path stored old new found by = record {
    reported = λ bytes held is are. (
      capture_there bytes rows position is found.0,
      refl,
      outcome_made (Some path.given) (judged_seen stored) (Ok path) (contents is.are.records) (path_found (Ok path) bytes is are found) refl (by.reported bytes held is are.parts_are),
    );
    early = tt;
    reads = reads_there 1 path old new found by.reads;
    inside = λ bytes (is, are). by.inside bytes is are.parts_are;
    keeps = by.keeps;
    fails = fails_more (λ bytes held (is, are). (is, are.parts_are, inside_there inside path bytes is are found)) (record { may = by.fails.may; failed = by.fails.failed });
  }

  pub judges_failed : {A : Type 0} → PathsEndInside → (path : Path) (e : OutFault) (old new : SeenSource) → IsFoundAt rows index parts position (Capture (Ok path))
      → Judges {A = A} rows parts path.given old new (Err e) → JudgesAt {A = A} rows index parts position old new (Err (Replay (Out e)))
  judges_failed {A} inside path e old new found by = record {
    reported = λ bytes held is are. (capture_there bytes rows position is found.0, early_sent e by.early);
    early = by.early;
    reads = reads_there 1 path old new found by.reads;
    inside = λ bytes (is, are). by.inside bytes is are.parts_are;
    keeps = by.keeps;
    fails = fails_more (λ bytes held (is, are). (is, are.parts_are, inside_there inside path bytes is are found)) (fails_as (Result (Stored A) Why) (Unit {0}) by.fails);
  }

  -- ---- what is stored is written

  pub gives_none : (s : SeenSource) (o : Seen) → slice_get rows position ≡ None → GivesStoredAt rows index parts position s s o o (Err NoRecord)
  gives_none s o none = record {
    reported = λ bytes held is are. (none_there bytes rows position is none, refl);
    reads = λ bytes held is are. reads_nothing;
    inside = λ bytes is off. refl;
    silent = refl;
    keeps = record { kept = refl; watched = refl };
    fails = record { may = refl; failed = λ bytes held is. refl };
    cause = refl;
  }

  pub gives_other : (s : SeenSource) (o : Seen) → IsOtherRow rows position → GivesStoredAt rows index parts position s s o o (Err NoCapture)
  gives_other s o has = record {
    reported = λ bytes held is are. (other_there bytes rows position is has, refl);
    reads = λ bytes held is are. reads_nothing;
    inside = λ bytes is off. refl;
    silent = refl;
    keeps = record { kept = refl; watched = refl };
    fails = record { may = refl; failed = λ bytes held is. refl };
    cause = refl;
  }

  reason_there : (path : Result Path Unfound) (why : Why) (records : List Record) → path_at records position ≡ path
      → IsStoredOn records path (Err why) → IsStoredOn records (path_at records position) (Err why)
  reason_there path why records same is = subst (λ (p : Result Path Unfound). IsStoredOn records p (Err why)) (sym same) is

  pub gives_unfound : (s : SeenSource) (o : Seen) (unfound : Unfound) → IsFoundAt rows index parts position (Capture (Err unfound))
      → GivesStoredAt rows index parts position s s o o (Err (Replay (Reason (NotFound unfound))))
  gives_unfound s o unfound found = record {
    reported = λ bytes held is are. (
      capture_there bytes rows position is found.0,
      reason_there (Err unfound) (NotFound unfound) (contents is.are.records) (path_found (Err unfound) bytes is are found) refl,
      refl,
    );
    reads = λ bytes held is are. reads_nothing;
    inside = λ bytes is off. refl;
    silent = refl;
    keeps = record { kept = refl; watched = refl };
    fails = record { may = refl; failed = λ bytes held is. refl };
    cause = refl;
  }

  pub gives_stored : {A : Type 0} → PathsEndInside → (path : Path) (stored : Stored A) (old new : SeenSource) (before after : Seen) → IsFoundAt rows index parts position (Capture (Ok path))
      → SendsStored rows parts path.given old new before after (Ok stored)
      → let r : StoredAnswer = record { path = path; stored = stored_seen stored } in GivesStoredAt rows index parts position old new before after (Ok r)
  gives_stored inside path stored old new before after found by = record {
    reported = λ bytes held is are.
        let sent = by.reported bytes held is are.parts_are in
        (capture_there bytes rows position is found.0, path_found (Ok path) bytes is are found, sent.0, sent.1);
    reads = reads_there 2 path old new found by.reads;
    inside = λ bytes (is, are). by.inside bytes is are.parts_are;
    silent = tt;
    keeps = by.keeps;
    fails = fails_more (λ bytes held (is, are). (is, are.parts_are, inside_there inside path bytes is are found)) (record { may = by.fails.may; failed = by.fails.failed });
    cause = by.cause;
  }

  pub gives_failed : {A : Type 0} → PathsEndInside → (path : Path) (fault : ReplayFault) (old new : SeenSource) (before after : Seen) → IsFoundAt rows index parts position (Capture (Ok path))
      → SendsStored {A = A} rows parts path.given old new before after (Err fault) → GivesStoredAt rows index parts position old new before after (Err (Replay fault))
  gives_failed inside path (Reason why) old new before after found by = record {
    reported = λ bytes held is are.
        let sent = by.reported bytes held is are.parts_are in (
          capture_there bytes rows position is found.0,
          reason_there (Ok path) why (contents is.are.records) (path_found (Ok path) bytes is are found) sent.0,
          sent.1,
        );
    reads = reads_there 2 path old new found by.reads;
    inside = λ bytes (is, are). by.inside bytes is are.parts_are;
    silent = by.silent;
    keeps = by.keeps;
    fails = fails_more (λ bytes held (is, are). (is, are.parts_are, inside_there inside path bytes is are found)) (record { may = by.fails.may; failed = by.fails.failed });
    cause = by.cause;
  }
  gives_failed inside path (Out e) old new before after found by = record {
    reported = λ bytes held is are. (
      capture_there bytes rows position is found.0,
      path,
      path_found (Ok path) bytes is are found,
      by.reported bytes held is are.parts_are,
    );
    reads = reads_there 2 path old new found by.reads;
    inside = λ bytes (is, are). by.inside bytes is are.parts_are;
    silent = by.silent;
    keeps = by.keeps;
    fails = fails_more (λ bytes held (is, are). (is, are.parts_are, inside_there inside path bytes is are found)) (record { may = by.fails.may; failed = by.fails.failed });
    cause = by.cause;
  }

-- nothing went out
pub nothing_sent : (A : Type 0) (records : List Record) (i : ℕ) (fault : ReplayFault) (reported : Option (List ℕ)) (bytes : List ℕ) → IsEarly fault
    → IsLook {A = A} bytes records i (Err fault) → IsSent {A = A} records i (Err fault) reported reported
nothing_sent A records i (Reason why) reported bytes early is = (is, refl)
nothing_sent A records i (Out e) reported bytes early is = inl (early_sent e early, refl)

-- a front of what is stored went out
pub front_sent : (A : Type 0) (records : List Record) (i : ℕ) (s : StoredBody) (e : OutFault) (text : List ℕ) (old new : Option (List ℕ)) → IsStoredAt records i (Ok s)
    → text ≡ joined_text_at records i → WentOut old (drop s.head_len text) new (sent_of e) → IsSent {A = A} records i (Err (Out e)) old new
front_sent A records i s e text old new is same went =
    inr (record { stored = s; is = is; front = subst (λ (t : List ℕ). WentOut old (drop s.head_len t) new (sent_of e)) same went })

pub all_sent : {A : Type 0} (records : List Record) (i : ℕ) (s : Stored A) (text : List ℕ) (old new : Option (List ℕ)) → IsStoredAt records i (Ok (stored_seen s))
    → text ≡ joined_text_at records i → new ≡ append_known old (drop s.head_len text) → IsSent records i (Ok s) old new
all_sent records i s text old new is same went = (is, went ∙ ap (λ (t : List ℕ). append_known old (drop s.head_len t)) same)
