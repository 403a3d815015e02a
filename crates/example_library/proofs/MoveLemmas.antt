-- Archives that are moved, and records that are read back.
use Rattle.std.proofs.Common.{◌≡◌, ◌↔◌, ◌⊎◌, inl, inr, ℕ, ◌+◌, ◌≤◌, List, [], ◌∷◌, ◌++◌, length, map, take, get_or, ◌<◌, Some, Result, Ok, refl, sym, ap, subst, ◌∙◌, arith}
use Rattle.std.specs.Io.KnownBytes.{append_known}
use Rattle.std.specs.List.{slice_get}
use Rattle.std.specs.Option.{option_map}
use Rattle.std.proofs.lemmas.List.{map-append, map_more, take_more}
use Rattle.std.proofs.lemmas.Option.{get_or_from_slice_get, slice_get-map, slice_get_within}
use Rattle.warc_value.specs.Dates.{Instant}
use Rattle.warc_frame.specs.Device.{Stored}
use Rattle.warc_frame.specs.Record.{Record, max_archive}
use Rattle.warc_frame.specs.Seen.{SeenSource}
use Rattle.warc_frame.specs.Spelling.{canonical}
use Rattle.warc_frame.specs.declared.fault.Fault.{Fault}
use Rattle.warc_frame.specs.declared.fault.FaultKind.{FaultKind}
use Rattle.warc_frame.specs.declared.fault.FaultKind.TheVariants.{Memory, Read}
use Rattle.warc_record.specs.Good.{IsGood}
use Rattle.warc_write.specs.Making.{made}
use Rattle.warc_write.specs.Rendering.{AllGood, canonical_texts}
use Rattle.warc_write.specs.declared.made.MakeFault.{MakeFault}
use Rattle.warc_answer.specs.Answers.{Given, IsAnswer}
use Rattle.warc_answer.specs.declared.answer.Reason.{Reason}
use Rattle.warc_reading.specs.Archive.{AreGood, IsArchiveOf, IsFaultOf, contents}
use Rattle.warc_rewrite.specs.Forms.{record_as, texts_as}
use Rattle.warc_lookup.specs.Indexed.{Archived, IsIndexed}
use Rattle.warc.specs.Laws.{AreSpelledBy, MigrationKeepsAnswers, NoFaultWhereSpelled, WrittenOpensAsSame, WrittenSpells}
use Rattle.warc_reading.specs.Opening.{RefusesBy, faults_after}
use Rattle.warc_reading.specs.Row.{Placed, Row}
use Rattle.warc_replay.specs.Taking.{IsTaken}
use Rattle.warc_rewrite.specs.declared.forms.Form.TheVariants.{Canonical, Converted}
use Rattle.example_library.specs.Migration.{IsMigrationOf, IsUnopened}
use Rattle.example_library.specs.Opened.{IsRefused}
use Rattle.example_library.specs.RoundTrip.{plan_of_draft}
use Rattle.example_library.specs.declared.round_trip.Plan.{Plan}

-- why a source isn't opened
pub first_refused : (kind : FaultKind) (bytes : List ℕ) (old new : SeenSource) (f : Fault) → RefusesBy kind bytes old new f
    → (kind ≡ Read) ⊎ ((kind ≡ Memory) ⊎ IsFaultOf bytes f)
first_refused Read bytes old new f is = inl refl
first_refused Memory bytes old new f is = inr (inl refl)
first_refused kind bytes old new f is = inr (inr is)

-- why one isn't that never fails
pub sound_refused : (kind : FaultKind) (bytes : List ℕ) (old new : SeenSource) (f : Fault) → 0 ≡ faults_after kind 0
    → RefusesBy kind bytes old new f → (kind ≡ Memory) ⊎ IsFaultOf bytes f
sound_refused Read bytes old new f sound is = absurd (omega (arith, sound))
sound_refused Memory bytes old new f sound is = inl refl
sound_refused kind bytes old new f sound is = inr is

memory_else : (text : List ℕ) (f : Fault) → (IsFaultOf text f → ⊥) → IsRefused text f → f.kind ≡ Memory
memory_else text f none (inl memory) = memory
memory_else text f none (inr is) = absurd (none is)

-- what was written of good records opens, unless memory is wanted
unopened : NoFaultWhereSpelled → (text : List ℕ) (records : List Record) (f : Fault) → AreSpelledBy text records
    → IsRefused text f → length text ≤ max_archive → f.kind ≡ Memory
unopened none text records f spelled is short = memory_else text f (λ fault. none text records f short spelled fault) is

pub converted_unopened : NoFaultWhereSpelled → WrittenSpells → (bytes text : List ℕ) (rows : List Row) (f : Fault) (first : IsArchiveOf bytes rows)
    → text ≡ texts_as Converted (contents first.are.records) → IsRefused text f → IsUnopened bytes f
converted_unopened none spells bytes text rows f first text_is is =
    let records = contents first.are.records in
    let P : List ℕ → Type 0 = λ t. IsRefused t f in record {
      rows = rows;
      first = first;
      why = unopened none (texts_as Converted records) (map (record_as Converted) records) f (spells Converted records first.are.good) (subst P text_is is);
    }

-- an archive of what was written answers as the first one
answers_same : MigrationKeepsAnswers → (records : List Record) → AreGood records → (text : List ℕ) (rows : List Row) → text ≡ texts_as Converted records
    → (is : IsArchiveOf text rows) (uri : List ℕ) (moment : Instant) (outcome : Result Given Reason)
    → IsAnswer (contents is.are.records) uri moment outcome ↔ IsAnswer records uri moment outcome
answers_same keeps records good text rows text_is =
    let Q : List ℕ → Type 0 = λ t. (is : IsArchiveOf t rows) (uri : List ℕ) (moment : Instant) (outcome : Result Given Reason)
    → IsAnswer (contents is.are.records) uri moment outcome ↔ IsAnswer records uri moment outcome in
    subst Q (sym text_is) (λ is. keeps records good rows is)

pub is_moved : MigrationKeepsAnswers → (bytes text : List ℕ) (rows : List Row) (moved : Archived Stored) (first : IsArchiveOf bytes rows)
    → text ≡ texts_as Converted (contents first.are.records) → moved.listing.source.bytes ≡ text → IsIndexed text moved
    → IsMigrationOf bytes moved
is_moved keeps bytes text rows moved first text_is bytes_are opened =
    let P : List ℕ → Type 0 = λ t. IsIndexed t moved in
    let again = subst P (sym bytes_are) opened in
    let written = bytes_are ∙ text_is in record {
      rows = rows;
      first = first;
      written = written;
      opened = again;
      answers = answers_same keeps (contents first.are.records) first.are.good moved.listing.source.bytes moved.listing.rows written again.listed;
    }

-- what is rendered is what is written in canonical form
are_canonical : (records : List Record) → canonical_texts records ≡ texts_as Canonical records
are_canonical [] = refl
are_canonical (r ∷ rs) = ap (λ l. canonical r ++ l) (are_canonical rs)

themselves : (records : List Record) → map (record_as Canonical) records ≡ records
themselves [] = refl
themselves (r ∷ rs) = ap (λ (l : List Record). r ∷ l) (themselves rs)

pub rendered_unopened : NoFaultWhereSpelled → WrittenSpells → (text : List ℕ) (records : List Record) (f : Fault) → AllGood records
    → text ≡ canonical_texts records → IsRefused text f → length (canonical_texts records) ≤ max_archive → f.kind ≡ Memory
rendered_unopened none spells text records f good text_is is short =
    let P : List ℕ → Type 0 = λ t. IsRefused t f in
    let e = are_canonical records in
    unopened none (texts_as Canonical records) (map (record_as Canonical) records) f (spells Canonical records good)
    (subst P (text_is ∙ e) is) (omega (arith, short, ap length e))

read_same : WrittenOpensAsSame → (text : List ℕ) (records back : List Record) (rows : List Row) → AllGood records → text ≡ canonical_texts records
    → (is : IsArchiveOf text rows) → back ≡ contents is.are.records → back ≡ records
read_same same text records back rows good text_is =
    let Q : List ℕ → Type 0 = λ t. (is : IsArchiveOf t rows) → back ≡ contents is.are.records → back ≡ records in
    subst Q (sym (text_is ∙ are_canonical records)) (λ is back_is. back_is ∙ same Canonical records good rows is ∙ themselves records)

-- one more record is made
pub good_more : (records : List Record) (r : Record) → AllGood records → IsGood r → AllGood (records ++ r ∷ [])
good_more [] r all good = (good, tt)
good_more (s ∷ rs) r all good = (all.0, good_more rs r all.1 good)

-- what a record is made to
abbrev pub made_of : Plan → Result Record MakeFault
made_of plan = made (plan_of_draft plan)

abbrev pub all_made : List Record → List (Result Record MakeFault)
all_made records = map (λ (r : Record). Ok r) records

pub made_more : (records : List Record) (r : Record) (plans : List Plan) (i : ℕ) (d : Plan) → i < length plans
    → all_made records ≡ map made_of (take i plans) → made_of (get_or plans i d) ≡ Ok r → all_made (records ++ r ∷ []) ≡ map made_of (take (i + 1) plans)
made_more records r plans i d lt so_far made_is =
    let ok : Record → Result Record MakeFault = λ r. Ok r in
    let one : Result Record MakeFault = Ok r in
    map-append ok records (r ∷ []) ∙ ap (λ (l : List (Result Record MakeFault)). l ++ one ∷ []) so_far
    ∙ ap (λ (x : Result Record MakeFault). map made_of (take i plans) ++ x ∷ []) (sym made_is)
    ∙ sym (map_more made_of plans i d lt)

-- what a sink reports that reported nothing before
pub reported_bytes : (new old text : List ℕ) → Some new ≡ append_known (Some old) text → old ≡ [] → new ≡ text
reported_bytes new old text reported empty =
    let e : Some new ≡ Some text = reported ∙ ap (λ (l : List ℕ). Some (l ++ text)) empty in cc e

-- one more record is read
pub read_more : (bytes : List ℕ) (rows before : List Row) (position : ℕ) (records : List Record) (r : Record) → before ≡ rows
    → ((is : IsArchiveOf bytes before) → IsTaken (slice_get is.are.records position) (Ok r)) → (is : IsArchiveOf bytes rows)
    → records ≡ take position (contents is.are.records) → records ++ r ∷ [] ≡ take (position + 1) (contents is.are.records)
read_more bytes rows before position records r rows_are taken is so_far =
    let Q : List Row → Type 0 = λ rs. (is : IsArchiveOf bytes rs) → IsTaken (slice_get is.are.records position) (Ok r) in
    let (p, found, same) = subst Q rows_are taken is in
    let content : Placed → Record = λ p. p.content in
    let all = contents is.are.records in
    let got : slice_get all position ≡ Some p.content = slice_get-map content is.are.records position ∙ ap (option_map content) found in
    ap (λ (l : List Record). l ++ r ∷ []) so_far
    ∙ ap (λ (x : Record). take position all ++ x ∷ []) (same ∙ sym (get_or_from_slice_get all position p.content p.content got))
    ∙ sym (take_more all position p.content (slice_get_within all position p.content got))

pub same_bytes : (one other : List ℕ) → Some one ≡ Some other → one ≡ other
same_bytes one other e = cc e

pub read_back_same : WrittenOpensAsSame → (text bytes : List ℕ) (records back : List Record) (rows : List Row) → AllGood records → text ≡ canonical_texts records
    → bytes ≡ text → IsArchiveOf text rows → ((is : IsArchiveOf bytes rows) → back ≡ contents is.are.records) → back ≡ records
read_back_same same text bytes records back rows good text_is bytes_are is read =
    let P : List ℕ → Type 0 = λ t. IsArchiveOf t rows in
    let there = subst P (sym bytes_are) is in
    read_same same bytes records back rows good (bytes_are ∙ text_is) there (read there)
