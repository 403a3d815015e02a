-- The longest list of good records that bytes begin with, by what was read of them.
use Rattle.std.proofs.Common.{◌≡◌, ◌≢◌, ℕ, ◌+◌, ◌-◌, ◌<◌, ◌≤◌, Bool, true, false, true≢false, List, [], ◌++◌, length, take, drop, Option, Some, None, Result, Ok, Err, refl, sym, ap, subst, ◌∙◌, arith, length-append}
use Rattle.std.proofs.Math.Seq.{take-append_seam, take-append-add}
use Rattle.std.proofs.lemmas.Bool.{ltb-true, ltb-false}
use Rattle.std.proofs.lemmas.List.{append_assoc, append-nil, take-append-drop, take-append-le, take_all}
use Rattle.warc_field.specs.Area.{Pair}
use Rattle.warc_field.specs.Lines.{crlf}
use Rattle.warc_frame.specs.Faults.{AllAccepted, HasFault, goes_on, limited, within_limit}
use Rattle.warc_frame.specs.Reading.{Head, any_fields, fault, head_of, record_of}
use Rattle.warc_frame.specs.Record.{Record, head_text, max_archive}
use Rattle.warc_frame.specs.Spelling.{Spells}
use Rattle.warc_frame.specs.Reported.{IsExact, Lies, Refuses, RefusesAs, Refutes, Reported, Unclosed}
use Rattle.warc_frame.specs.declared.fault.Fault.{Fault}
use Rattle.warc_frame.specs.declared.fault.FaultKind.{FaultKind}
use Rattle.warc_frame.specs.declared.fault.FaultKind.TheVariants.{Memory, Read, Truncated}
use Rattle.warc_frame.proofs.LawLemmas.{faults_are_stable-record, head_of_spelled, heads_are_stable, reading_is_spelling-read}
use Rattle.warc_record.specs.Heads.{head_fault}
use Rattle.warc_record.proofs.GoodLemmas.{good_heads_have_no_fault}
use Rattle.warc_reading.specs.Archive.{contents}
use Rattle.warc_reading.specs.Fronts.{BeginsWithNone, IsLongestFront, reach_by, reach_of}
use Rattle.warc_reading.specs.Row.{Placed, Row}
use Rattle.warc_reading.specs.Stream.{HasRead, Stops}
use Rattle.warc_reading.specs.declared.stream.StreamState.{StreamState}
use Rattle.warc_reading.proofs.GoodLemmas.{are_good}
use Rattle.warc_reading.proofs.KindLemmas.{head_kind, is_of_head, limited_kind}
use Rattle.warc_reading.proofs.StreamLemmas.{same_front, spells_all}

front_len : (head block : List ℕ) → length (head ++ block ++ crlf ++ crlf) ≡ length head + length block + 4
front_len head block = simp length-append (omega arith)

-- ---- bytes that begin with no record

text_len : (r : Record) (text : List ℕ) (spelled : Spells r text) → length (head_text r.version spelled.area) + length r.block + 4 ≡ length text
text_len r text spelled = sym (ap length spelled.text_is ∙ front_len (head_text r.version spelled.area) r.block)

none_in : BeginsWithNone []
none_in = λ r text more whole spelled good.
    let size = text_len r text spelled in
    let sum : 0 ≡ length text + length more = ap length whole ∙ length-append text more in
    absurd (omega (arith, size, sum))

-- nothing was read
pub none_read : IsLongestFront [] []
none_read = record {
  front = [];
  rest = [];
  bytes_are = refl;
  are = record { short = omega arith; are = record { records = []; spelled = refl; good = tt; rows_are = refl } };
  longest = none_in;
}

none_at : (bytes : List ℕ) → bytes ≡ [] → BeginsWithNone bytes
none_at bytes is = let P : List ℕ → Type 0 = λ t. BeginsWithNone t in subst P (sym is) none_in

reads_none : (bytes : List ℕ) (f : Fault) → record_of any_fields bytes ≡ Err f → BeginsWithNone bytes
reads_none bytes f is = λ r text more whole spelled good.
    let read : record_of any_fields bytes ≡ Ok (r, length text) = ap (record_of any_fields) whole ∙ reading_is_spelling-read any_fields r text more spelled refl in
    let no : ◌≡◌ {A = Result (Record × ℕ) Fault} (Err f) (Ok (r, length text)) = sym is ∙ read in
    cc no

-- a head is there in which a fault is found
head_none : (u : Unclosed) (head bytes more : List ℕ) (kind : FaultKind) → bytes ≡ head ++ more
    → head_of any_fields head ≡ Ok (record { version = u.version; fields = u.fields; len = length head; block_len = u.block_len }) → head_fault u.fields ≡ Some kind → BeginsWithNone bytes
head_none u head bytes more kind bytes_are read found = λ r text rest whole spelled good.
    let n : ℕ = length (head_text r.version spelled.area) in
    let one : Head = record { version = u.version; fields = u.fields; len = length head; block_len = u.block_len } in
    let other : Head = record { version = r.version; fields = r.fields; len = n; block_len = length r.block } in
    let first : head_of any_fields bytes ≡ Ok one = ap (head_of any_fields) bytes_are ∙ heads_are_stable any_fields head more one read in
    let parts : bytes ≡ take n text ++ (drop n text ++ rest) = whole ∙ ap (λ t. t ++ rest) (sym (take-append-drop n text)) ∙ append_assoc (take n text) (drop n text) rest in
    let second : head_of any_fields bytes ≡ Ok other = ap (head_of any_fields) parts ∙ heads_are_stable any_fields (take n text) (drop n text ++ rest) other (head_of_spelled any_fields r text n spelled refl (text_len r text spelled)) in
    let both : ◌≡◌ {A = Result Head Fault} (Ok one) (Ok other) = sym first ∙ second in
    let same : one ≡ other = cc both in
    let fields : u.fields ≡ r.fields = ap (λ (h : Head). h.fields) same in
    let no : ◌≡◌ {A = Option FaultKind} (Some kind) None = sym found ∙ ap head_fault fields ∙ (good_heads_have_no_fault r.fields).0 good.head in
    cc no

-- ---- the front that was read

module _ {A B L : Type 0} {Sees : B → List Pair → List ℕ → Type 0} {K : L → List Placed → Type 0} (text : List ℕ) (reported : Reported) (r : StreamState A L B) (has : HasRead Sees K text reported r) (rows : List Row) (same : rows ≡ r.rows)
    (low : length text ≤ max_archive) where
  front_at : (bytes rest : List ℕ) → bytes ≡ has.front ++ rest → BeginsWithNone rest → IsLongestFront bytes rows
  front_at bytes rest is none =
      let Q : List Record → Type 0 = λ rs. AllAccepted head_fault rs in
      record {
        front = has.front;
        rest = rest;
        bytes_are = is;
        are = record {
          short = omega (arith, low, ap length has.text_is, length-append has.front has.rest);
          are = record {
            records = has.records;
            spelled = has.spelled;
            good = are_good (contents has.records) has.front (spells_all 0 has.records has.front has.spelled) (subst Q has.reported_is has.good);
            rows_are = same ∙ has.rows_are;
          };
        };
        longest = none;
      }

  -- less than a record is after it
  pub longest_cut : Lies text reported → IsLongestFront text rows
  longest_cut lies =
      let front = (same_front text [] lies.front lies.rest reported r has (append-nil text ∙ lies.text_is) lies.spelled).0 in
      front_at text lies.rest (lies.text_is ∙ ap (λ f. f ++ lies.rest) (sym front)) (reads_none lies.rest (fault Truncated (length lies.rest)) lies.cut)

  -- memory was wanted for the record after it
  pub longest_before : (piece more : List ℕ) (offset : ℕ) → offset ≡ length has.front → IsLongestFront (take offset ((text ++ piece) ++ more)) rows
  longest_before piece more offset at =
      let parts : (text ++ piece) ++ more ≡ has.front ++ (has.rest ++ (piece ++ more)) =
      append_assoc text piece more ∙ ap (λ t. t ++ (piece ++ more)) has.text_is ∙ append_assoc has.front has.rest (piece ++ more) in
      let cut : take offset ((text ++ piece) ++ more) ≡ has.front ++ [] =
      ap (take offset) parts ∙ ap (λ n. take n (has.front ++ (has.rest ++ (piece ++ more)))) at ∙ take-append_seam has.front (has.rest ++ (piece ++ more)) ∙ sym (append-nil has.front) in
      front_at (take offset ((text ++ piece) ++ more)) [] cut none_in

  -- a fault is after it, within the limit
  within : (t more : List ℕ) → length t ≤ max_archive → take max_archive (t ++ more) ≡ t ++ take (max_archive - length t) more
  within t more short =
      let sum : max_archive ≡ length t + (max_archive - length t) = omega (arith, short) in
      ap (λ n. take n (t ++ more)) sum ∙ take-append-add t more (max_archive - length t)

  pub longest_head : (piece more : List ℕ) (u : Unclosed) (kind : FaultKind) → reported.unclosed ≡ None → IsExact (text ++ piece) (record { records = reported.records; unclosed = Some u }) → head_fault u.fields ≡ Some kind
      → length (text ++ piece) ≤ max_archive → IsLongestFront (take max_archive ((text ++ piece) ++ more)) rows
  longest_head piece more u kind none exact found short =
      let (head, head_is, rest_is) = exact.ends in
      let m : List ℕ = take (max_archive - length (text ++ piece)) more in
      let front = (same_front text piece exact.front exact.rest reported r has exact.text_is exact.spelled).0 in
      let cut : take max_archive ((text ++ piece) ++ more) ≡ has.front ++ (exact.rest ++ m) =
      within (text ++ piece) more short ∙ ap (λ t. t ++ m) exact.text_is ∙ append_assoc exact.front exact.rest m ∙ ap (λ f. f ++ (exact.rest ++ m)) (sym front) in
      front_at (take max_archive ((text ++ piece) ++ more)) (exact.rest ++ m) cut
      (head_none u head (exact.rest ++ m) (u.bytes ++ m) kind (ap (λ t. t ++ m) rest_is ∙ append_assoc head u.bytes m) head_is found)

  found_none : (q : ℕ) (rest : List ℕ) (found : Option Fault) → HasFault any_fields q rest found → BeginsWithNone rest
  found_none q rest None is = none_at rest is
  found_none q rest (Some f) (some, g, read, is) = reads_none rest g read

  stays_none : (q : ℕ) (rest more : List ℕ) (found : Option Fault) (f : Fault) → HasFault any_fields q rest found → found ≡ Some f → f.kind ≢ Truncated → BeginsWithNone (rest ++ more)
  stays_none q rest more None f has_fault is settled = cc is
  stays_none q rest more (Some h) f (some, g, read, at) is settled =
      let e : h ≡ f = cc is in
      let kind : g.kind ≡ f.kind = sym (ap (λ (x : Fault). x.kind) at) ∙ ap (λ (x : Fault). x.kind) e in
      reads_none (rest ++ more) g (faults_are_stable-record any_fields rest more g read (λ (cut : g.kind ≡ Truncated). settled (sym kind ∙ cut)))

  refuted_by : (piece more : List ℕ) (f : Fault) (is : Refutes 0 (text ++ piece) reported f) (goes : Bool) → goes_on 0 (text ++ piece) ≡ goes → IsLongestFront (take max_archive ((text ++ piece) ++ more)) rows
  unfolding within_limit goes_on
  refuted_by piece more f is true on =
      let t : List ℕ = text ++ piece in
      let beyond : List ℕ = drop (max_archive - 0) t in
      let long : max_archive - 0 < length t = ltb-true _ _ on in
      let whole : t ≡ is.reads.front ++ (is.reads.rest ++ beyond) =
      sym (take-append-drop (max_archive - 0) t) ∙ ap (λ x. x ++ beyond) is.reads.text ∙ append_assoc is.reads.front is.reads.rest beyond in
      let front = (same_front text piece is.reads.front (is.reads.rest ++ beyond) reported r has whole is.reads.spelled).0 in
      let cut : take max_archive (t ++ more) ≡ has.front ++ is.reads.rest =
      take-append-le max_archive t more (omega (arith, long)) ∙ is.reads.text ∙ ap (λ x. x ++ is.reads.rest) (sym front) in
      front_at (take max_archive (t ++ more)) is.reads.rest cut (found_none _ is.reads.rest is.found is.reads.fault_is)
  refuted_by piece more f is false on =
      let t : List ℕ = text ++ piece in
      let short : length t ≤ max_archive - 0 = ltb-false _ _ on in
      let m : List ℕ = take (max_archive - length t) more in
      let whole : t ≡ is.reads.front ++ is.reads.rest = sym (take_all (max_archive - 0) t short) ∙ is.reads.text in
      let front = (same_front text piece is.reads.front is.reads.rest reported r has whole is.reads.spelled).0 in
      let found : is.found ≡ Some f = ap (λ b. limited b is.found) (sym on) ∙ is.limit in
      let cut : take max_archive (t ++ more) ≡ has.front ++ (is.reads.rest ++ m) =
      within t more (omega (arith, short)) ∙ ap (λ x. x ++ m) whole ∙ append_assoc is.reads.front is.reads.rest m ∙ ap (λ x. x ++ (is.reads.rest ++ m)) (sym front) in
      front_at (take max_archive (t ++ more)) (is.reads.rest ++ m) cut (stays_none _ is.reads.rest m is.found f is.reads.fault_is found is.settled)

  step_by : (kind : FaultKind) (offset : ℕ) (piece more : List ℕ) → RefusesAs kind 0 (text ++ piece) reported (fault kind offset) → IsLongestFront (take (reach_by kind offset) ((text ++ piece) ++ more)) rows
  unfolding within_limit
  step_by Memory offset piece more is =
      let t : List ℕ = text ++ piece in
      let beyond : List ℕ = drop (max_archive - 0) t in
      let whole : t ≡ is.front ++ (is.rest ++ beyond) =
      sym (take-append-drop (max_archive - 0) t) ∙ ap (λ x. x ++ beyond) is.text_is ∙ append_assoc is.front is.rest beyond in
      let front = (same_front text piece is.front (is.rest ++ beyond) reported r has whole is.spelled).0 in
      longest_before piece more offset (omega (arith, is.offset_is, ap length front))
  step_by Read offset piece more is = absurd (limited_kind _ is.found is.reads.rest _ (fault Read offset) is.reads.fault_is is.limit refl)
  step_by kind offset piece more is = refuted_by piece more (fault kind offset) is (goes_on 0 (text ++ piece)) refl

  -- a step of the decoder failed
  pub step_stops : (piece : List ℕ) (f : Fault) → Refuses 0 (text ++ piece) reported f → Stops (text ++ piece) rows f
  step_stops piece f is = λ more. step_by f.kind f.offset piece more is

  -- memory was wanted for what is kept of a record
  pub memory_stops_at : (piece : List ℕ) (kind : FaultKind) → kind ≡ Memory → Stops (text ++ piece) rows (fault kind r.begin)
  memory_stops_at piece kind is = λ more.
      let P : FaultKind → Type 0 = λ k. IsLongestFront (take (reach_by k r.begin) ((text ++ piece) ++ more)) rows in
      subst P (sym is) (longest_before piece more r.begin has.begin_is)

head_reach : (kind : FaultKind) (offset : ℕ) → is_of_head kind ≡ true → reach_by kind offset ≡ max_archive
head_reach Read offset of = absurd (true≢false (sym of))
head_reach Memory offset of = absurd (true≢false (sym of))
head_reach kind offset of = refl

pub stops_more : (text more : List ℕ) (rows : List Row) (f : Fault) → Stops text rows f → Stops (text ++ more) rows f
stops_more text more rows f is = λ rest.
    let P : List ℕ → Type 0 = λ t. IsLongestFront (take (reach_of f) t) rows in
    subst P (sym (append_assoc text more rest)) (is (more ++ rest))

-- a head was refused
pub head_stops_at : {A B L : Type 0} {Sees : B → List Pair → List ℕ → Type 0} {K : L → List Placed → Type 0} (text piece : List ℕ) (reported : Reported) (r : StreamState A L B) (has : HasRead Sees K text reported r) (rows : List Row) → rows ≡ r.rows → length text ≤ max_archive → (u : Unclosed) (kind : FaultKind) (offset : ℕ)
    → reported.unclosed ≡ None → IsExact (text ++ piece) (record { records = reported.records; unclosed = Some u }) → head_fault u.fields ≡ Some kind → length (text ++ piece) ≤ max_archive → Stops (text ++ piece) rows (fault kind offset)
head_stops_at text piece reported r has rows same low u kind offset none exact found short = λ more.
    let P : ℕ → Type 0 = λ n. IsLongestFront (take n ((text ++ piece) ++ more)) rows in
    subst P (sym (head_reach kind offset (head_kind u.fields kind found))) (longest_head text reported r has rows same low piece more u kind none exact found short)
