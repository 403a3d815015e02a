-- The origin at a position, and what is read for it.
use Rattle.std.proofs.Common.{◌≡◌, inl, inr, ℕ, Bool, zero, suc, ◌+◌, ◌*◌, ◌<◌, ◌≤◌, List, [], ◌∷◌, length, map, Option, Some, None, Result, Ok, Err, IfErr, IfOk, refl, sym, ap, subst, ◌∙◌, arith}
use Rattle.std.specs.List.{slice_get}
use Rattle.warc_frame.specs.Effects.{Preserves, ReadsOnly}
use Rattle.warc_frame.specs.Failing.{HasFailedBy, MayHaveFailedBy}
use Rattle.warc_frame.specs.Reading.{Head, any_fields, head_of}
use Rattle.warc_frame.specs.declared.fault.Fault.{Fault}
use Rattle.warc_frame.specs.Record.{Record}
use Rattle.warc_frame.specs.Seen.{SeenSource}
use Rattle.warc_frame.specs.Send.{ended_by, sent_of}
use Rattle.warc_frame.specs.declared.fault.OutFault.{OutFault}
use Rattle.warc_frame.specs.declared.fault.OutFault.TheVariants as outs
use Rattle.warc_frame.proofs.EffectLemmas.{reads_both, reads_within}
use Rattle.warc_index.specs.declared.unfound.Unfound.{Unfound}
use Rattle.warc_record.specs.Readings.{Reading, reading_of}
use Rattle.warc_quick.specs.Alone.{IsWholeHead}
use Rattle.warc_segment.specs.Joined.{PlacedRecord, PlacesAreOfRecords, joined_places}
use Rattle.warc_segment.specs.declared.place.Place.{Place}
use Rattle.warc_value.specs.declared.hash.Wanted.{Wanted}
use Rattle.warc_answer.specs.Answers.{IsAnswerOn}
use Rattle.warc_answer.specs.Laws.{EndsInside, FailsBeforeAll, PlacesAreAsLong, ReasonsAreAnswers}
use Rattle.warc_answer.specs.Payloads.{read_record}
use Rattle.warc_answer.specs.Places.{IsInOne, ReadsPlaces, len_of}
use Rattle.warc_answer.specs.Replays.{IsReplayOn, out_result}
use Rattle.warc_answer.specs.Seen.{IsEarly}
use Rattle.warc_answer.specs.declared.answer.Path.{Path}
use Rattle.warc_answer.specs.declared.answer.Reason.{Reason as Why}
use Rattle.warc_answer.specs.declared.answer.ReplayFault.{ReplayFault}
use Rattle.warc_answer.specs.declared.answer.ReplayFault.TheVariants.{Reason, Out}
use Rattle.warc_reading.specs.Archive.{SpellsFrom, contents}
use Rattle.warc_lookup.specs.Indexed.{placed_record}
use Rattle.warc_reading.specs.Rereading.{ReadsHeads}
use Rattle.warc_reading.specs.Row.{Placed, Row, row_of}
use Rattle.warc_frame.specs.declared.fault.EarlyFault.{EarlyFault}
use Rattle.warc_frame.specs.declared.fault.EarlyFault.TheVariants.{Read, Memory}
use Rattle.warc_replay.specs.Looking.{ArePlacesIn}
use Rattle.warc_replay.specs.KnownSeries.{IsSharedBy}
use Rattle.warc_replay.specs.Origins.{IsOfSeries, IsOriginAt, IsOriginBy, IsOriginFound, IsOriginOf, IsPlacedBy, IsSharedAt, IsUnjoined, place_in, placed_by}
use Rattle.warc_replay.specs.declared.replay.known_series.Shared.{Shared}
use Rattle.warc_replay.specs.declared.replay.origin.Origin.{Origin}
use Rattle.warc_replay.specs.Replaying.{IsJoined, IsOfOrigin, IsOnPath, origin_joined, path_reads, reads_of}
use Rattle.warc_replay.proofs.ReplayLemmas.{found_as, gap_is, places_are, places_for, reads_of_head}

pub absent_after : {X : Type 0} (xs : List X) (i : ℕ) → i < length xs → slice_get xs i ≡ None → ⊥
absent_after [] i low is = omega (arith, low)
absent_after (x ∷ xs) zero low is = cc is
absent_after (x ∷ xs) (suc i) low is = absent_after xs i (omega (arith, low)) is

pub preserves_both : {old mid new : SeenSource} → Preserves old mid → Preserves mid new → Preserves old new
preserves_both first then = record { kept = then.kept ∙ first.kept; watched = then.watched ∙ first.watched }

-- ---- faults that come before anything goes out

pub ended_early : (fault : EarlyFault) → IsEarly (Out (ended_by fault 0))
ended_early Read = refl
ended_early Memory = refl

pub early_sent : (e : OutFault) → IsEarly (Out e) → sent_of e ≡ 0
early_sent (outs.Read n) is = is
early_sent (outs.Write n) is = absurd is
early_sent (outs.Memory n) is = is

-- what fails before anything goes out, where no read failed
pub early_may : {X : Type 0} (answer : Result X ReplayFault) (old new : ℕ) → IfErr answer IsEarly → new ≡ old → MayHaveFailedBy (out_result answer) old new
early_may (Ok x) old new is same = same
early_may (Err (Reason why)) old new is same = same
early_may (Err (Out (outs.Read n))) old new is same = inl same
early_may (Err (Out (outs.Write n))) old new is same = same
early_may (Err (Out (outs.Memory n))) old new is same = same

-- ---- what is made of a head

-- the record and its place
pub placed_is : (row : Row) (head : Reading) (place : Place) (wanted : Wanted) → place ≡ place_in row wanted → wanted ≡ head.wanted
    → ◌≡◌ {A = PlacedRecord} (record { head = head; place = place }) (placed_by row head)
placed_is row head place wanted at asks =
    ap (λ (y : Place). let x : PlacedRecord = record { head = head; place = y } in x) (at ∙ ap (place_in row) asks)

-- by the row of a record it is that record
placed_as : (p : Placed) (row : Row) → row ≡ row_of p → placed_by row (reading_of p.content.fields) ≡ placed_record p
placed_as p row same = ap (λ (r : Row). placed_by r (reading_of p.content.fields)) same

pub made_found : {A : Type 0} (records : List Placed) (position : ℕ) (p : Placed) (row : Row) (answer : Result (Origin A) ReplayFault) → slice_get records position ≡ Some p → row ≡ row_of p
    → IsOriginOf (map placed_record records) row p.content.fields answer → IsOriginFound records position answer
made_found records position p row (Ok o) there same (http, is, joined, shared) = record {
  placed = p;
  there = there;
  http_is = http;
  type_is = is;
  places_are = ap (joined_places (map placed_record records)) (sym (placed_as p row same)) ∙ joined;
}
made_found records position p row (Err (Reason why)) there same (gap, says, joined) =
    (gap, says, record { placed = p; there = there; gap_is = ap (joined_places (map placed_record records)) (sym (placed_as p row same)) ∙ joined })
made_found records position p row (Err (Out e)) there same is = tt

-- and its series
pub made_shared : {A : Type 0} (records : List Placed) (position : ℕ) (p : Placed) (row : Row) (answer : Result (Origin A) ReplayFault) → slice_get records position ≡ Some p → row ≡ row_of p
    → IsOriginOf (map placed_record records) row p.content.fields answer → IfOk answer (λ o. IsSharedAt records position o.shared o.places.items)
made_shared records position p row (Ok o) there same (http, is, joined, shared) = record {
  placed = p;
  there = there;
  is = subst (λ (r : PlacedRecord). IsSharedBy (map placed_record records) r o.shared o.places.items) (placed_as p row same) shared;
}
made_shared records position p row (Err fault) there same is = tt

of_series : (all : List PlacedRecord) (r : PlacedRecord) (shared : Option Shared) (places : List Place) → IsSharedBy all r shared places → IsOfSeries all shared places
of_series all r None places is = tt
of_series all r (Some s) places is = is.1

pub placed_series : {A : Type 0} (all : List PlacedRecord) (row : Row) (answer : Result (Origin A) ReplayFault) → IfOk answer (IsPlacedBy all row) → IfOk answer (λ o. IsOfSeries all o.shared o.places.items)
placed_series all row (Ok o) (head, joined, shared) = of_series all (placed_by row head) o.shared o.places.items shared
placed_series all row (Err fault) is = tt

-- what isn't joined comes before anything goes out, and no read failed
pub unjoined_early : {X : Type 0} (answer : Result X ReplayFault) → IfErr answer IsUnjoined → IfErr answer IsEarly
unjoined_early (Ok x) is = tt
unjoined_early (Err (Reason why)) is = tt
unjoined_early (Err (Out e)) is = subst (λ (f : OutFault). IsEarly (Out f)) (sym is) refl

pub unjoined_failed : {X : Type 0} (answer : Result X ReplayFault) (old new : ℕ) → IfErr answer IsUnjoined → new ≡ old → HasFailedBy (out_result answer) old new
unjoined_failed (Ok x) old new is same = same
unjoined_failed (Err (Reason why)) old new is same = same
unjoined_failed (Err (Out e)) old new is same = subst (λ (f : OutFault). HasFailedBy {X = Unit {0}} (Err f) old new) (sym is) same

pub made_placed : {A : Type 0} (all : List PlacedRecord) (row : Row) (head : Reading) (content_type : List ℕ) (answer : Result (Origin A) ReplayFault) → IsOriginBy all row head content_type answer
    → IfOk answer (IsPlacedBy all row)
made_placed all row head content_type (Ok o) (http, type, joined, shared) = (head, joined, shared)
made_placed all row head content_type (Err fault) is = tt

-- a reading gives one head
one_head : {x y : Head} → ◌≡◌ {A = Result Head Fault} (Ok x) (Ok y) → x ≡ y
one_head {x} {y} same = cc

-- a text is the head of one record
pub same_fields : (text : List ℕ) (r : Record) (block_len : ℕ) (says : Reading) (content_type : List ℕ) (is : IsWholeHead text block_len says content_type)
    → head_of any_fields text ≡ Ok (record { version = r.version; fields = r.fields; len = length text; block_len = block_len }) → is.fields ≡ r.fields
same_fields text r block_len says content_type is reads = ap (λ (h : Head). h.fields) (one_head (sym is.reads ∙ reads))

-- an origin by a head is one by an equal head
pub by_head : {A : Type 0} (all : List PlacedRecord) (row : Row) (answer : Result (Origin A) ReplayFault) {one other : Reading} {own own' : List ℕ} → one ≡ other → own ≡ own'
    → IsOriginBy all row one own answer → IsOriginBy all row other own' answer
by_head all row answer {one} {other} {own} {own'} same typed is =
    subst (λ (t : List ℕ). IsOriginBy all row other t answer) typed (subst (λ (h : Reading). IsOriginBy all row h own answer) same is)

-- what a replay answers where the origin isn't found
pub fault_replayed : (A : Type 0) → ReasonsAreAnswers → FailsBeforeAll → PlacesAreOfRecords → (bytes : List ℕ) (records : List Placed) (found : Result Path Unfound) (path : Path) (fault : ReplayFault) (reported : Option (List ℕ))
    → SpellsFrom 0 records bytes → found ≡ Ok path → EndsInside (contents records) found → IsEarly fault → IsOriginFound {A = A} records path.given (Err fault) → IsReplayOn (contents records) found (Err fault) reported reported
fault_replayed A reasons before law bytes records found path (Reason why) reported spelled is ends early (gap, says, at) = (
  subst (λ (w : Why). IsAnswerOn (contents records) found (Err w)) (sym says)
      ((reasons (contents records) found).1 path (read_record at.placed.content) gap (found_as records found path at.placed is at.there (Err gap) (gap_is bytes records path.given at.placed spelled at.there gap law at.gap_is))),
  refl,
)
fault_replayed A reasons before law bytes records found path (Out e) reported spelled is ends early at =
    before (contents records) found reported e ends (early_sent e early)

-- ---- what is read

more_than : (h a b c : ℕ) → a + b ≤ c → h + a + b ≤ h + c
more_than h a b c le = omega (arith, le)

no_more : (h a b : ℕ) → a ≤ b → h + a ≤ h + b
no_more h a b le = omega (arith, le)

-- the head of the record at a position
pub head_only : (records : List Placed) (position : ℕ) (p : Placed) (row : Row) {old new : SeenSource} → slice_get records position ≡ Some p → row ≡ row_of p → ReadsHeads (row ∷ []) old new
    → ReadsOnly (IsOfOrigin records (slice_get records position)) (reads_of 0 records (slice_get records position)) old new
head_only records position p row {old} {new} there same has =
    subst (λ (o : Option Placed). ReadsOnly (IsOfOrigin records o) (reads_of 0 records o) old new) (sym there) (reads_of_head 0 records p row same has)

-- no more than that was read
pub read_less : (less more : ℕ) → ((n : ℕ) → less * n ≤ more * n) → (all : List Placed) (found : Option Placed) {old new : SeenSource} → ReadsOnly (IsOfOrigin all found) (reads_of less all found) old new
    → ReadsOnly (IsOfOrigin all found) (reads_of more all found) old new
read_less less more le all None has = has
read_less less more le all (Some p) has = reads_within (λ at in_. in_) (no_more _ _ _ (le (origin_joined all p))) has

-- then what is joined, some times
pub then_read : (done times more : ℕ) → ((n : ℕ) → done * n + times * n ≤ more * n) → (all : List Placed) (found : Option Placed) (items places : List Place) (most : ℕ) {old mid new : SeenSource}
    → ReadsOnly (IsOfOrigin all found) (reads_of done all found) old mid → ArePlacesIn all found items → places ≡ items → most ≤ times * len_of places → ReadsPlaces places most mid new
    → ReadsOnly (IsOfOrigin all found) (reads_of more all found) old new
then_read done times more sum all None items places most first are same within then = absurd are
then_read done times more sum all (Some p) items places most {old} {mid} {new} first are same within then =
    let size : len_of places ≡ origin_joined all p = ap len_of same ∙ are.long in
    let second : ReadsOnly (IsOfOrigin all (Some p)) (times * origin_joined all p) mid new =
    reads_within (λ at in_. inr (subst (λ r. IsJoined r at) (sym are.are) (subst (λ (l : List Place). IsInOne l at) same in_))) (subst (λ (n : ℕ). most ≤ times * n) size within) then in
    reads_within (λ at in_. in_) (more_than _ _ _ _ (sum (origin_joined all p))) (reads_both first second)

-- what is read for the origin is read on the path
pub on_path : (times : ℕ) (records : List Placed) (found : Result Path Unfound) (path : Path) {old new : SeenSource} → found ≡ Ok path
    → ReadsOnly (IsOfOrigin records (slice_get records path.given)) (reads_of times records (slice_get records path.given)) old new → ReadsOnly (IsOnPath records found) (path_reads times records found) old new
on_path times records found path {old} {new} is has =
    subst (λ (f : Result Path Unfound). ReadsOnly (IsOnPath records f) (path_reads times records f) old new) (sym is) has

-- the places of an origin that is found are those of what is joined to it
pub places_in : (bytes : List ℕ) (records : List Placed) (position : ℕ) → SpellsFrom 0 records bytes → {http : Bool} {content_type : List ℕ} (items : List Place) (at : IsOriginAt records position http content_type items) → PlacesAreOfRecords
    → PlacesAreAsLong → ArePlacesIn records (slice_get records position) items
places_in bytes records position spelled items at law long =
    let (joined, whole, places) = places_are bytes records position at.placed spelled at.there items law at.places_are in
    subst (λ (o : Option Placed). ArePlacesIn records o items) (sym at.there) (places_for bytes records at.placed items joined at.places_are long whole places)
