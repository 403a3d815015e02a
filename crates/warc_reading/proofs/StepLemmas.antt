-- One step of the decoder, and what is kept of it.
use Rattle.std.proofs.Common.{◌≡◌, ℕ, ◌≤◌, List, [], ◌∷◌, ◌++◌, length, take, drop, Option, Some, None, Result, Ok, Err, OnOk, IfErr, slice_range, refl, sym, ap, subst, ◌∙◌}
use Rattle.std.proofs.lemmas.List.{append_assoc, take-append-drop}
use Rattle.warc_field.specs.Area.{Pair}
use Rattle.warc_frame.specs.Decoding.{State, Takes}
use Rattle.warc_frame.specs.Reading.{fault}
use Rattle.warc_frame.specs.Record.{Record, max_archive}
use Rattle.warc_frame.specs.Reported.{IsExact, IsWhole, Reported, Unclosed, ended, report}
use Rattle.warc_frame.specs.declared.fault.Fault.{Fault}
use Rattle.warc_frame.specs.declared.fault.FaultKind.{FaultKind}
use Rattle.warc_frame.specs.declared.fault.FaultKind.TheVariants.{Memory}
use Rattle.warc_frame.specs.declared.stream.Event.{Event}
use Rattle.warc_frame.specs.declared.stream.Event.TheVariants as events
use Rattle.warc_frame.specs.declared.version.Version.{Version}
use Rattle.warc_record.specs.Heads.{head_fault}
use Rattle.warc_reading.specs.Judging.{IsNextOf}
use Rattle.warc_reading.specs.Stream.{HasRead, IsHead, IsReadSoFar, StaysRefused, Stops, row_by}
use Rattle.warc_reading.specs.Row.{Placed, Row}
use Rattle.warc_reading.specs.declared.stream.Current.{Current}
use Rattle.warc_reading.specs.declared.stream.StreamState.{StreamState}
use Rattle.warc_reading.proofs.StreamLemmas.{TakesPart, end_kept_by, head_kept, more_kept, part_kept}
use Rattle.warc_reading.proofs.FrontLemmas.{head_stops_at, stops_more}
use Rattle.warc_reading.proofs.RefusalLemmas.{head_refused, memory_at, stays_more}

pub ok_then : {E : Type 0} {P : Type 0} (r : Result (Unit {0}) E) (x : Unit {0}) → OnOk r P → r ≡ Ok x → P
ok_then (Ok u) x p is = p
ok_then (Err e) x p is = cc is

pub err_then : {X E : Type 0} (P : E → Type 0) (r : Result X E) (e : E) → IfErr r P → r ≡ Err e → P e
err_then {X} {E} P r e p is = let Q : Result X E → Type 0 = λ x. IfErr x P in subst Q is p

unclosed_as : {A B L : Type 0} {Sees : B → List Pair → List ℕ → Type 0} {K : L → List Placed → Type 0} (text : List ℕ) (reported : Reported) (o : Option Unclosed) (r : StreamState A L B) → reported.unclosed ≡ o → HasRead Sees K text reported r → HasRead Sees K text (record { records = reported.records; unclosed = o }) r
unclosed_as {A} {B} {L} {Sees} {K} text reported o r is has = let P : Option Unclosed → Type 0 = λ x. HasRead Sees K text (record { records = reported.records; unclosed = x }) r in subst P is has

-- the end of a record was reported
abbrev pub AddsRow : {A B L : Type 0} → StreamState A L B → List Row → Type 0
AddsRow {A} {B} old rows = (c : Current A B) → old.current ≡ Some c → rows ≡ old.rows ++ row_by old.begin c ∷ []

-- what is wanted of that record is kept beside its row
abbrev pub AddsBeside : {A B L : Type 0} → (B → List Pair → List ℕ → Type 0) → (L → List Placed → Type 0) → StreamState A L B → L → Type 0
AddsBeside {A} {B} Sees K old beside = (c : Current A B) (records : List Placed) (p : Placed) → old.current ≡ Some c → K old.beside records → length old.rows ≡ length records
    → IsNextOf p c.head c.block_start c.block_len → Sees c.block c.head p.content.block → K beside (records ++ p ∷ [])

end_kept : {A B L : Type 0} {Sees : B → List Pair → List ℕ → Type 0} {K : L → List Placed → Type 0} (text more : List ℕ) (rs : List Record) (o : Option Unclosed) (rows : List Row) (beside : L) (begin : ℕ) (cur : Option (Current A B)) (new : StreamState A L B)
    → HasRead Sees K text (record { records = rs; unclosed = o }) (record { rows = rows; beside = beside; begin = begin; current = cur; spare = tt }) → IsWhole o
    → IsExact (text ++ more) (record { records = rs ++ ended o; unclosed = None }) → new.begin ≡ length (text ++ more) → new.current ≡ None
    → AddsRow (record { rows = rows; beside = beside; begin = begin; current = cur; spare = tt }) new.rows → AddsBeside Sees K (record { rows = rows; beside = beside; begin = begin; current = cur; spare = tt }) new.beside
    → HasRead Sees K (text ++ more) (record { records = rs ++ ended o; unclosed = None }) new
end_kept text more rs None rows beside begin cur new has whole exact at none adds keeps = absurd whole
end_kept text more rs (Some u) rows beside begin None new has whole exact at none adds keeps = absurd has.current
end_kept text more rs (Some u) rows beside begin (Some c) new has whole exact at none adds keeps =
    end_kept_by text more rs u (record { rows = rows; beside = beside; begin = begin; current = Some c; spare = tt }) new c has has.current whole exact at none (adds c refl)
    (λ records p kept size next seen. keeps c records p refl kept size next seen)

module _ {A B L E : Type 0} {Sees : B → List Pair → List ℕ → Type 0} {K : L → List Placed → Type 0} (text piece : List ℕ) (reported : Reported) (d : State) (took : ℕ) (event : Event E) (takes : Takes 0 text reported d piece took event) (old new : StreamState A L B)
    (has : HasRead Sees K text reported old) where
  is_present : HasRead Sees K (text ++ take took piece) (report reported piece event) new → IsReadSoFar Sees K (text ++ take took piece) d new
  is_present now = record { reported = report reported piece event; is_at = takes.is_at; has = now }

  pub more_is_present : event ≡ events.More → new ≡ old → IsReadSoFar Sees K (text ++ take took piece) d new
  more_is_present is same =
      let P : Event E → Type 0 = λ e. HasRead Sees K (text ++ take took piece) (report reported piece e) new in
      let Q : StreamState A L B → Type 0 = λ r. HasRead Sees K (text ++ take took piece) reported r in
      is_present (subst P (sym is) (subst Q (sym same) (more_kept text (take took piece) reported old has)))

  pub head_is_present : (version : Version) (fields : List Pair) (n : ℕ) (c : Current A B) → event ≡ events.Head version fields n → new.rows ≡ old.rows → new.beside ≡ old.beside → new.begin ≡ old.begin
      → new.current ≡ Some c → IsHead fields c → Sees c.block fields [] → c.block_start ≡ length (text ++ take took piece) → c.block_len ≡ n → IsReadSoFar Sees K (text ++ take took piece) d new
  head_is_present version fields n c is rows beside begin current of seen start len =
      let T : Event E → Type 0 = λ e. Takes 0 text reported d piece took e in
      let here = subst T is takes in
      let P : Event E → Type 0 = λ e. HasRead Sees K (text ++ take took piece) (report reported piece e) new in
      let u : Unclosed = record { version = version; fields = fields; block_len = n; bytes = [] } in
      is_present (subst P (sym is) (head_kept text (take took piece) reported.records u old new c (unclosed_as text reported None old here.may has) here.exact refl rows beside begin current of seen start len))

  pub part_is_present : (from to : ℕ) → event ≡ events.Part from to → new.rows ≡ old.rows → new.beside ≡ old.beside → new.begin ≡ old.begin → TakesPart Sees (slice_range piece from to) old.current new.current
      → IsReadSoFar Sees K (text ++ take took piece) d new
  part_is_present from to is rows beside begin part =
      let T : Event E → Type 0 = λ e. Takes 0 text reported d piece took e in
      let here = subst T is takes in
      let P : Event E → Type 0 = λ e. HasRead Sees K (text ++ take took piece) (report reported piece e) new in
      is_present (subst P (sym is) (part_kept text (take took piece) (slice_range piece from to) reported old new has here.may rows beside begin part))

  pub end_is_present : event ≡ events.End → new.begin ≡ length (text ++ take took piece) → new.current ≡ None → AddsRow old new.rows → AddsBeside Sees K old new.beside → IsReadSoFar Sees K (text ++ take took piece) d new
  end_is_present is begin none adds keeps =
      let T : Event E → Type 0 = λ e. Takes 0 text reported d piece took e in
      let here = subst T is takes in
      let P : Event E → Type 0 = λ e. HasRead Sees K (text ++ take took piece) (report reported piece e) new in
      is_present (subst P (sym is) (end_kept text (take took piece) reported.records reported.unclosed old.rows old.beside old.begin old.current new has here.may here.exact begin none adds keeps))

  whole : (text ++ take took piece) ++ drop took piece ≡ text ++ piece
  whole = append_assoc text (take took piece) (drop took piece) ∙ ap (λ t. text ++ t) (take-append-drop took piece)

  further : (f : Fault) → StaysRefused (text ++ take took piece) f → StaysRefused (text ++ piece) f
  further f is =
      let P : List ℕ → Type 0 = λ t. StaysRefused t f in
      subst P whole (stays_more (text ++ take took piece) (drop took piece) f is)

  pub head_stops : (version : Version) (fields : List Pair) (n : ℕ) (kind : FaultKind) → event ≡ events.Head version fields n → head_fault fields ≡ Some kind
      → length (text ++ take took piece) ≤ max_archive → StaysRefused (text ++ piece) (fault kind old.begin)
  head_stops version fields n kind is fault_is short =
      let T : Event E → Type 0 = λ e. Takes 0 text reported d piece took e in
      let here = subst T is takes in
      let u : Unclosed = record { version = version; fields = fields; block_len = n; bytes = [] } in
      further (fault kind old.begin)
      (head_refused text (take took piece) reported.records u old kind (unclosed_as text reported None old here.may has) here.exact fault_is short)

  pub head_front : (version : Version) (fields : List Pair) (n : ℕ) (kind : FaultKind) (rows : List Row) → event ≡ events.Head version fields n → head_fault fields ≡ Some kind
      → length (text ++ take took piece) ≤ max_archive → rows ≡ old.rows → length text ≤ max_archive → Stops (text ++ piece) rows (fault kind old.begin)
  head_front version fields n kind rows is fault_is short same low =
      let T : Event E → Type 0 = λ e. Takes 0 text reported d piece took e in
      let here = subst T is takes in
      let u : Unclosed = record { version = version; fields = fields; block_len = n; bytes = [] } in
      let P : List ℕ → Type 0 = λ t. Stops t rows (fault kind old.begin) in
      subst P whole (stops_more (text ++ take took piece) (drop took piece) rows (fault kind old.begin)
      (head_stops_at text (take took piece) reported old has rows same low u kind old.begin here.may here.exact fault_is short))

-- memory was wanted for the record that was being read
pub memory_stops : {A B L : Type 0} {Sees : B → List Pair → List ℕ → Type 0} {K : L → List Placed → Type 0} (text piece : List ℕ) (reported : Reported) (r : StreamState A L B) → HasRead Sees K text reported r → (kind : FaultKind) → kind ≡ Memory → StaysRefused (text ++ piece) (fault kind r.begin)
memory_stops text piece reported r has kind is =
    let P : FaultKind → Type 0 = λ k. StaysRefused (text ++ piece) (fault k r.begin) in
    subst P (sym is) (memory_at text piece reported r has)
