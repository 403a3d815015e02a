-- How a stream is read piece by piece.
use Rattle.std.proofs.Common.{◌≡◌, ℕ, ◌+◌, ◌-◌, ◌<◌, ◌≤◌, List, [], ◌∷◌, ◌++◌, length, take, drop, refl, sym, ap, subst, ◌∙◌, arith, Option, Some, None, Result, Ok, Err, get_or}
use Rattle.std.specs.List.{flat_map}
use Rattle.std.proofs.lemmas.List.{append_assoc, take_all, take_rest, take_more, length-take-le, take-append-drop, append-nil}
use Rattle.std.proofs.Math.Seq.{take-append-add}
use Rattle.warc_frame.specs.declared.fault.FaultKind.{FaultKind}
use Rattle.warc_frame.specs.declared.fault.FaultKind.TheVariants as kinds
use Rattle.warc_frame.specs.declared.fault.Fault.{Fault}
use Rattle.warc_frame.specs.declared.stream.Event.{Event}
use Rattle.warc_frame.specs.declared.stream.Event.TheVariants as events
use Rattle.warc_frame.specs.Record.{Record, IsFramed, max_archive}
use Rattle.warc_frame.specs.Spelling.{SpellsAll}
use Rattle.warc_frame.specs.Reading.{any_fields}
use Rattle.warc_frame.specs.Faults.{within_limit}
use Rattle.warc_frame.specs.Reported.{Unclosed, Reported, report, ended, WantsMemory, RefusesAs, Refuses}
use Rattle.warc_frame.specs.Decoding.{State, IsAt, TakesWithin, Takes}
use Rattle.warc_frame.specs.Pieces.{ClosesFramed, MayKeep, AreRecordsBefore, Keeping, Keeps, start_on, IsPieceFault, IsPiecesFault, IsMemoryFault}
use Rattle.std.specs.Prelude.{is_err, OnOk, OnErr, true, false}
use Rattle.warc_frame.proofs.StreamSteps.{true_false}
use Rattle.warc_frame.proofs.StreamFaults.{refuted_fault, refusals_refute}
use Rattle.warc_frame.proofs.LawLemmas.{faults_are_stable}

-- the last record of a list that is spelled can be framed
last_framed : (rs : List Record) (r : Record) (t : List ℕ) → SpellsAll (rs ++ r ∷ []) t → IsFramed r
last_framed [] r t (front, rest, s, e, more) = s.framed
last_framed (x ∷ rs) r t (front, rest, s, e, more) = last_framed rs r rest more

closes_framed : (rs : List Record) (o : Option Unclosed) (t : List ℕ) → SpellsAll (rs ++ ended o) t → ClosesFramed o
closes_framed rs None t s = tt
closes_framed rs (Some u) t s = last_framed rs (record { version = u.version; fields = u.fields; block = u.bytes }) t s

pub may_keep : {A : Type 0} (at : ℕ) (taken piece : List ℕ) (reported : Reported) (new : State) (n took : ℕ) (event : Event A) → TakesWithin n took event → Takes at taken reported new piece took event → MayKeep n reported.unclosed event
may_keep at taken piece reported new n took events.More h t = tt
may_keep at taken piece reported new n took (events.Head version fields number) h t = tt
may_keep at taken piece reported new n took (events.Part from to) h t = (omega (arith, h.0), omega (arith, h.1, h.2))
may_keep at taken piece reported new n took events.End h t = closes_framed reported.records reported.unclosed t.is_at.front t.is_at.spelled

pub takes_some : {A : Type 0} (n took : ℕ) (event : Event A) → TakesWithin n took event → 0 < n → (0 < took) × (took ≤ n)
takes_some n took events.More h some = (omega (arith, h, some), omega (arith, h))
takes_some n took (events.Head version fields number) h some = h
takes_some n took (events.Part from to) h some = (omega (arith, h.0, h.1), h.2)
takes_some n took events.End h some = h

pub take_further : (i n : ℕ) (xs : List ℕ) → i ≤ length xs → take (i + n) xs ≡ take i xs ++ take n (drop i xs)
take_further i n xs h =
    let len : length (take i xs) ≡ i = length-take-le i xs h in
    ap (λ x. take (i + n) x) (sym (take-append-drop i xs)) ∙ ap (λ k. take (k + n) (take i xs ++ drop i xs)) (sym len) ∙ take-append-add (take i xs) (drop i xs) n

-- a step's refusal is the frame fault of the bytes
pub refused : (at : ℕ) (text : List ℕ) (reported : Reported) (f : Fault) → Refuses at text reported f → IsPieceFault at text f
refused at text reported f r other = let x = refusals_refute at text reported f r other in (refuted_fault at text reported f x, x.settled)

-- it stays whatever follows
pub stays : (at : ℕ) (text more : List ℕ) (f : Fault) → IsPieceFault at text f → IsPiecesFault at (text ++ more) f
stays at text more f r other = let x = r other in faults_are_stable any_fields at text more f x.0 x.1

-- the bytes taken and what follows them in the piece
pub whole_piece : (taken piece : List ℕ) (from : ℕ) → (taken ++ take from piece) ++ take (length piece - from) (drop from piece) ≡ taken ++ piece
whole_piece taken piece from =
    ap (λ x. (taken ++ take from piece) ++ x) (take_rest piece from) ∙ append_assoc taken (take from piece) (drop from piece) ∙ ap (λ x. taken ++ x) (take-append-drop from piece)

-- what comes after records stays there
pub is_present_more : (at : ℕ) (text more : List ℕ) (records : List Record) (offset : ℕ) → AreRecordsBefore at text records offset → AreRecordsBefore at (text ++ more) records offset
is_present_more at text more records offset s = record {
  front = s.front;
  rest = s.rest ++ more;
  text_is = ap (λ x. x ++ more) s.text_is ∙ append_assoc s.front s.rest more;
  spelled = s.spelled;
  offset_is = s.offset_is;
}

pub memory_more : (at : ℕ) (text more : List ℕ) (f : Fault) → IsMemoryFault at text f → IsMemoryFault at (text ++ more) f
memory_more at text more f h is = let x = h is in (x.0, is_present_more at text more x.0 f.offset x.1)

-- memory was wanted for the record after those that were reported
wanted : (at : ℕ) (text : List ℕ) (reported : Reported) (f : Fault) → WantsMemory at text reported f → AreRecordsBefore at text reported.records f.offset
unfolding within_limit
wanted at text reported f w = record {
  front = w.front;
  rest = w.rest ++ drop (max_archive - at) text;
  text_is = sym (take-append-drop (max_archive - at) text) ∙ ap (λ x. x ++ drop (max_archive - at) text) w.text_is ∙ append_assoc w.front w.rest (drop (max_archive - at) text);
  spelled = w.spelled;
  offset_is = w.offset_is;
}

pub refused_memory : (at : ℕ) (text : List ℕ) (reported : Reported) (f : Fault) → Refuses at text reported f → IsMemoryFault at text f
refused_memory at text reported f r is = let P : FaultKind → Type 0 = λ k. RefusesAs k at text reported f in (reported.records, wanted at text reported f (subst P is r))

-- where the record begins that isn't ended, after an event
starts : {A : Type 0} (at : ℕ) (taken piece : List ℕ) (reported : Reported) (new : State) (took start : ℕ) (event : Event A) → Takes at taken reported new piece took event → AreRecordsBefore at taken reported.records start
    → AreRecordsBefore at (taken ++ take took piece) (report reported piece event).records (start_on start new.position event)
starts at taken piece reported new took start events.More t s = is_present_more at taken (take took piece) reported.records start s
starts at taken piece reported new took start (events.Head version fields number) t s = is_present_more at taken (take took piece) reported.records start s
starts at taken piece reported new took start (events.Part from to) t s = is_present_more at taken (take took piece) reported.records start s
starts at taken piece reported new took start events.End t s =
    let x = t.exact in
    let all : x.front ≡ taken ++ take took piece = sym (x.text_is ∙ ap (λ xs. x.front ++ xs) x.ends ∙ append-nil x.front) in
    record { front = x.front; rest = x.rest; text_is = x.text_is; spelled = x.spelled; offset_is = t.is_at.position_is ∙ ap (λ xs. at + length xs) (sym all) }

-- what is kept after an event
pub keeps_on : {A : Type 0} (at : ℕ) (taken piece : List ℕ) (old new : Keeping) (d : State) (took : ℕ) (event : Event A) → Takes at taken old.reported d piece took event → AreRecordsBefore at taken old.reported.records old.start
    → new.reported ≡ report old.reported piece event → new.start ≡ start_on old.start d.position event → Keeps at (taken ++ take took piece) new d
keeps_on at taken piece old new d took event t s reported start =
    let P : Reported → Type 0 = λ x. IsAt at (taken ++ take took piece) x d in
    let Q : Reported → Type 0 = λ x. AreRecordsBefore at (taken ++ take took piece) x.records (start_on old.start d.position event) in
    let R : ℕ → Type 0 = λ x. AreRecordsBefore at (taken ++ take took piece) new.reported.records x in
    record {
      is_at = subst P (sym reported) t.is_at;
      start = subst R (sym start) (subst Q (sym reported) (starts at taken piece old.reported d took old.start event t s));
    }

-- a text that is cut off wants no memory
pub cut_off : kinds.Truncated ≡ kinds.Memory → ⊥
cut_off e = cc

-- the bytes of pieces, one after the other
joined_append : {X : Type 0} (v : X → List ℕ) (xs ys : List X) → flat_map v (xs ++ ys) ≡ flat_map v xs ++ flat_map v ys
joined_append v [] ys = refl
joined_append v (x ∷ xs) ys = ap (λ r. v x ++ r) (joined_append v xs ys) ∙ sym (append_assoc (v x) (flat_map v xs) (flat_map v ys))

pub joined_more : {X : Type 0} (v : X → List ℕ) (ps : List X) (i : ℕ) (d : X) → i < length ps → flat_map v (take (i + 1) ps) ≡ flat_map v (take i ps) ++ v (get_or ps i d)
joined_more v ps i d h = ap (flat_map v) (take_more ps i d h) ∙ joined_append v (take i ps) (get_or ps i d ∷ []) ∙ ap (λ x. flat_map v (take i ps) ++ x) (append-nil (v (get_or ps i d)))

pub joined_split : {X : Type 0} (v : X → List ℕ) (ps : List X) (i : ℕ) (d : X) → i < length ps → (flat_map v (take i ps) ++ v (get_or ps i d)) ++ flat_map v (drop (i + 1) ps) ≡ flat_map v ps
joined_split v ps i d h = ap (λ x. x ++ flat_map v (drop (i + 1) ps)) (sym (joined_more v ps i d h)) ∙ sym (joined_append v (take (i + 1) ps) (drop (i + 1) ps)) ∙ ap (flat_map v) (take-append-drop (i + 1) ps)

pub joined_all : {X : Type 0} (v : X → List ℕ) (ps : List X) (i : ℕ) → length ps ≤ i → flat_map v (take i ps) ≡ flat_map v ps
joined_all v ps i h = ap (flat_map v) (take_all i ps h)

pub on_ok : {E : Type 0} (r : Result (Unit {0}) E) (P : Type 0) → is_err r ≡ false → OnOk r P → P
on_ok (Ok u) P h p = p
on_ok (Err f) P h p = absurd (true_false h)

pub on_err : {E : Type 0} (r : Result (Unit {0}) E) (P : Type 0) → is_err r ≡ true → OnErr r P → P
on_err (Ok u) P h p = absurd (true_false (sym h))
on_err (Err f) P h p = p
