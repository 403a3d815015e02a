-- Why bytes are refused while they are read.
use Rattle.std.proofs.Common.{◌≡◌, ◌≢◌, ℕ, ◌+◌, ◌-◌, ◌≤◌, true, true≢false, List, ◌++◌, length, drop, Some, None, refl, sym, ap, subst, ◌∙◌, arith}
use Rattle.std.proofs.lemmas.List.{append_assoc, take-append-drop}
use Rattle.warc_field.specs.Area.{Pair}
use Rattle.warc_frame.specs.Faults.{AllAccepted, within_limit}
use Rattle.warc_frame.specs.Record.{Record, max_archive}
use Rattle.warc_frame.specs.Reading.{fault}
use Rattle.warc_frame.specs.Spelling.{SpellsAll}
use Rattle.warc_frame.specs.Reported.{AcceptsReported, IsExact, Refuses, RefusesAs, Reported, Unclosed, WantsMemory}
use Rattle.warc_frame.specs.declared.fault.Fault.{Fault}
use Rattle.warc_frame.specs.declared.fault.FaultKind.{FaultKind}
use Rattle.warc_frame.specs.declared.fault.FaultKind.TheVariants.{Memory, Read, Truncated}
use Rattle.warc_frame.proofs.JudgedLemmas.{judged_refuted, head_with_findings}
use Rattle.warc_frame.proofs.LawLemmas.{faults_are_stable}
use Rattle.warc_record.specs.Heads.{head_fault}
use Rattle.warc_reading.specs.Archive.{IsFaultOf, IsRecordEnd}
use Rattle.warc_reading.specs.Row.{Placed}
use Rattle.warc_reading.specs.Stream.{HasRead, StaysBy, StaysRefused}
use Rattle.warc_reading.specs.declared.stream.StreamState.{StreamState}
use Rattle.warc_reading.proofs.GoodLemmas.{are_good}
use Rattle.warc_reading.proofs.KindLemmas.{head_kind, is_of_head, limited_kind}
use Rattle.warc_reading.proofs.StreamLemmas.{accepts_reported, same_front, spells_all}

-- more bytes after a record's end
end_more : (text more : List ℕ) (offset : ℕ) → IsRecordEnd text offset → IsRecordEnd (text ++ more) offset
end_more text more offset is = record {
  records = is.records;
  front = is.front;
  rest = is.rest ++ more;
  bytes_are = ap (λ t. t ++ more) is.bytes_are ∙ append_assoc is.front is.rest more;
  spelled = is.spelled;
  good = is.good;
  offset_is = is.offset_is;
}

stays_by : (kind : FaultKind) (offset : ℕ) (text more : List ℕ) → StaysBy kind text (fault kind offset) → StaysBy kind (text ++ more) (fault kind offset)
stays_by Memory offset text more is = end_more text more offset is
stays_by Read offset text more is = absurd is
stays_by Truncated offset text more is = absurd is
stays_by kind offset text more is = faults_are_stable head_fault 0 text more (fault kind offset) is (λ e. cc e)

-- a refusal stays whatever follows
pub stays_more : (text more : List ℕ) (f : Fault) → StaysRefused text f → StaysRefused (text ++ more) f
stays_more text more f is = stays_by f.kind f.offset text more is

not_read_by : (kind : FaultKind) (offset : ℕ) (text : List ℕ) → StaysBy kind text (fault kind offset) → kind ≢ Read
not_read_by Memory offset text is e = cc e
not_read_by Read offset text is e = is
not_read_by Truncated offset text is e = cc e
not_read_by kind offset text is e = cc e

pub stays_not_read : (text : List ℕ) (f : Fault) → StaysRefused text f → f.kind ≢ Read
stays_not_read text f is = not_read_by f.kind f.offset text is

-- memory was wanted for a head
wants_memory : (text : List ℕ) (reported : Reported) (f : Fault) → AllAccepted head_fault reported.records → WantsMemory 0 text reported f → IsRecordEnd text f.offset
unfolding within_limit
wants_memory text reported f good is = record {
  records = reported.records;
  front = is.front;
  rest = is.rest ++ drop (max_archive - 0) text;
  bytes_are = sym (take-append-drop (max_archive - 0) text) ∙ ap (λ t. t ++ drop (max_archive - 0) text) is.text_is ∙ append_assoc is.front is.rest (drop (max_archive - 0) text);
  spelled = is.spelled;
  good = are_good reported.records is.front is.spelled good;
  offset_is = is.offset_is ∙ omega arith;
}

step_by : (kind : FaultKind) (offset : ℕ) (text : List ℕ) (reported : Reported) → AcceptsReported head_fault reported → RefusesAs kind 0 text reported (fault kind offset) → StaysBy kind text (fault kind offset)
step_by Memory offset text reported accepts is = wants_memory text reported (fault Memory offset) accepts.0 is
step_by Read offset text reported accepts is = absurd (limited_kind _ is.found is.reads.rest _ (fault Read offset) is.reads.fault_is is.limit refl)
step_by Truncated offset text reported accepts is = absurd (is.settled refl)
step_by kind offset text reported accepts is = judged_refuted head_fault 0 text reported (fault kind offset) is accepts

-- a step of the decoder failed
pub step_refused : {A B L : Type 0} {Sees : B → List Pair → List ℕ → Type 0} {K : L → List Placed → Type 0} (text piece : List ℕ) (reported : Reported) (r : StreamState A L B) (f : Fault) → HasRead Sees K text reported r → Refuses 0 (text ++ piece) reported f → StaysRefused (text ++ piece) f
step_refused text piece reported r f has is = step_by f.kind f.offset (text ++ piece) reported (accepts_reported text reported r has) is

-- memory was wanted for a record that was being read
pub memory_at : {A B L : Type 0} {Sees : B → List Pair → List ℕ → Type 0} {K : L → List Placed → Type 0} (text more : List ℕ) (reported : Reported) (r : StreamState A L B) → HasRead Sees K text reported r → IsRecordEnd (text ++ more) r.begin
memory_at text more reported r has =
    let P : List Record → Type 0 = λ rs. SpellsAll rs has.front in
    let spelled = subst P (sym has.reported_is) (spells_all 0 has.records has.front has.spelled) in
    record {
      records = reported.records;
      front = has.front;
      rest = has.rest ++ more;
      bytes_are = ap (λ t. t ++ more) has.text_is ∙ append_assoc has.front has.rest more;
      spelled = spelled;
      good = are_good reported.records has.front spelled has.good;
      offset_is = has.begin_is;
    }

head_by : (kind : FaultKind) (text : List ℕ) (f : Fault) (offset : ℕ) → is_of_head kind ≡ true → IsFaultOf text (fault kind offset) → StaysBy kind text (fault kind offset)
head_by Memory text f offset of is = absurd (true≢false (sym of))
head_by Read text f offset of is = absurd (true≢false (sym of))
head_by Truncated text f offset of is = absurd (true≢false (sym of))
head_by kind text f offset of is = is

-- a head is refused
pub head_refused : {A B L : Type 0} {Sees : B → List Pair → List ℕ → Type 0} {K : L → List Placed → Type 0} (text more : List ℕ) (rs : List Record) (u : Unclosed) (r : StreamState A L B) (kind : FaultKind) → HasRead Sees K text (record { records = rs; unclosed = None }) r
    → IsExact (text ++ more) (record { records = rs; unclosed = Some u }) → head_fault u.fields ≡ Some kind → length (text ++ more) ≤ max_archive
    → StaysBy kind (text ++ more) (fault kind r.begin)
head_refused text more rs u r kind has exact is short =
    let reported : Reported = record { records = rs; unclosed = Some u } in
    let (front, rest, text_is, spelled, first) = head_with_findings head_fault 0 (text ++ more) reported u kind exact refl has.good is (omega (arith, short)) in
    let (same, others) = same_front text more front rest (record { records = rs; unclosed = None }) r has text_is spelled in
    let size : length front ≡ r.begin = ap length (sym same) ∙ sym has.begin_is in
    let begin : 0 + length front ≡ r.begin = omega (arith, size) in
    let P : ℕ → Type 0 = λ q. IsFaultOf (text ++ more) (fault kind q) in
    head_by kind (text ++ more) (fault kind r.begin) r.begin (head_kind u.fields kind is) (subst P begin first)

refuses_by : (kind : FaultKind) (offset at : ℕ) (text : List ℕ) (reported : Reported) → RefusesAs kind at text reported (fault kind offset) → kind ≢ Read
refuses_by Memory offset at text reported is e = cc e
refuses_by Read offset at text reported is e = limited_kind _ is.found is.reads.rest _ (fault Read offset) is.reads.fault_is is.limit refl
refuses_by Truncated offset at text reported is e = cc e
refuses_by kind offset at text reported is e = cc e

-- neither the decoder nor a judge of heads reports a failed read
pub refuses_not_read : (at : ℕ) (text : List ℕ) (reported : Reported) (f : Fault) → Refuses at text reported f → f.kind ≢ Read
refuses_not_read at text reported f is = refuses_by f.kind f.offset at text reported is

pub head_not_read : (fields : List Pair) (kind : FaultKind) → head_fault fields ≡ Some kind → kind ≢ Read
head_not_read fields kind is read =
    let of : is_of_head kind ≡ true = head_kind fields kind is in
    let off : is_of_head Read ≡ true = ap is_of_head (sym read) ∙ of in
    true≢false (sym off)
