-- How what a decoder represents changes.
use Rattle.std.proofs.Common.{◌≡◌, ◌≢◌, ℕ, min, ◌+◌, ◌-◌, ◌<◌, ◌≤◌, ◌^◌, true, false, nat_lt, List, [], ◌++◌, length, take, drop, refl, sym, ap, ◌∙◌, subst, arith, length-append, Option, Some, None, Result, Ok, Err, MatchResult, IfOk, IsSome, ⊎_elim}
use Rattle.std.specs.Prelude.{is_err, is_ok, if◌then◌else◌}
use Rattle.std.specs.List.{slice_range}
use Rattle.std.proofs.Math.Seq.{take-append-add, drop-append_seam, take-append_seam}
use Rattle.std.proofs.lemmas.List.{append_assoc, append-nil, append_cancel_left, take-append-drop, length-take-le, length-take, take_all, take_at, take-take, take_min, drop-take}
use Rattle.std.proofs.lemmas.Bool.{lt-ltb, ltb-true, false_from_ne_true, cases_lt}
use Rattle.warc_field.specs.Area.{Pair}
use Rattle.warc_frame.specs.declared.version.Version.{Version}
use Rattle.warc_frame.specs.declared.stream.Event.{Event}
use Rattle.warc_frame.specs.declared.stream.Event.TheVariants as events
use Rattle.warc_frame.specs.declared.stream.Phase.{Phase}
use Rattle.warc_frame.specs.declared.stream.Phase.TheVariants as phases
use Rattle.warc_frame.specs.declared.fault.FaultKind.{FaultKind}
use Rattle.warc_frame.specs.declared.fault.FaultKind.TheVariants as kinds
use Rattle.warc_frame.specs.declared.fault.Fault.{Fault}
use Rattle.warc_frame.specs.Record.{Record, max_head, max_archive}
use Rattle.warc_frame.specs.VersionLine.{version_line}
use Rattle.warc_frame.specs.Spelling.{Spells, SpellsAll}
use Rattle.warc_frame.specs.Reading.{Head, any_fields, begins, version_of, empty_line, head_len, head_of, fault, AnswersAs}
use Rattle.warc_frame.specs.Faults.{within_limit, goes_on, following, IsFrameFault}
use Rattle.warc_frame.specs.Reported.{Unclosed, Reported, nothing, opened, report, with_bytes, ended, IsWhole, IsHeadOf, Lies, IsExact, EndsThere, IfReported, Refutes, WantsMemory, RefusesAs, Refuses}
use Rattle.warc_frame.specs.Decoding.{State, closing, InHead, InBlock, PhaseIs, IsAt, IsSound, TakesWithin, Takes, Finishes}
use Rattle.warc_frame.specs.Steps.{Near, ReportsHead, HeadFails, ClosesHead}
use Rattle.warc_frame.proofs.StreamEnds.{empty_line-less}
use Rattle.warc_frame.proofs.StreamHeads.{begins-less, version_there, version-more, cut_head, head_len-whole, head_len-none, head_parts, head_settled, head_more, record_head, record_bad, record_whole, Settled}
use Rattle.std.proofs.lemmas.Slice.Eq.{bytes_eq-Decides}
use Rattle.warc_frame.specs.declared.version.Version.TheVariants as versions
use Rattle.warc_frame.proofs.HeadLemmas.{head_room, version-begins}
use Rattle.warc_frame.proofs.StreamState.{empty_version, empty_head, empty_none, front_length, head_reported, head_after, unclosed_after, cut_at, cut_in_head, cut_in_block}
use Rattle.warc_frame.proofs.JudgedLemmas.{truncated, all_reported}
use Rattle.warc_frame.proofs.StreamFaults.{refutes}
use Rattle.warc_frame.proofs.StreamBridge.{record_spelled, spells_all_more}

pub true_false : true ≡ false → ⊥
true_false e = cc

pub at_phase : (rest : List ℕ) (o : Option Unclosed) (d : State) (phase : Phase) → d.phase ≡ phase → PhaseIs rest o d d.phase → PhaseIs rest o d phase
at_phase rest o d phase e s = let P : Phase → Type 0 = λ v. PhaseIs rest o d v in subst P e s

pub from_phase : (rest : List ℕ) (o : Option Unclosed) (d : State) (phase : Phase) → d.phase ≡ phase → PhaseIs rest o d phase → PhaseIs rest o d d.phase
from_phase rest o d phase e s = let P : Phase → Type 0 = λ v. PhaseIs rest o d v in subst P (sym e) s

pub in_head : (at : ℕ) (taken : List ℕ) (reported : Reported) (d : State) → (s : IsAt at taken reported d) → d.phase ≡ phases.Head → InHead s.rest reported.unclosed d.kept
in_head at taken reported d s e = at_phase s.rest reported.unclosed d phases.Head e s.phase_is

pub in_block : (at : ℕ) (taken : List ℕ) (reported : Reported) (d : State) → (s : IsAt at taken reported d) → d.phase ≡ phases.Block → (d.kept ≡ []) × InBlock s.rest reported.unclosed d.left d.matched
in_block at taken reported d s e = at_phase s.rest reported.unclosed d phases.Block e s.phase_is

-- the records' text, and the rest with what comes
rest_text : (taken front rest near : List ℕ) → taken ≡ front ++ rest → taken ++ near ≡ front ++ (rest ++ near)
rest_text taken front rest near e = ap (λ x. x ++ near) e ∙ append_assoc front rest near

-- the records' text, what is kept of the head, and the bytes that come
pub head_text : (at : ℕ) (taken : List ℕ) (reported : Reported) (d : State) (near : List ℕ) → (s : IsAt at taken reported d) → d.phase ≡ phases.Head → taken ++ near ≡ s.front ++ (d.kept ++ near)
head_text at taken reported d near s e = rest_text taken s.front s.rest near s.taken_is ∙ ap (λ x. s.front ++ (x ++ near)) (sym (in_head at taken reported d s e).kept_is)

-- where the head begins
pub head_start : (at : ℕ) (taken : List ℕ) (reported : Reported) (d : State) → (s : IsAt at taken reported d) → d.phase ≡ phases.Head → d.position - length d.kept ≡ at + length s.front
head_start at taken reported d s e =
    let h = in_head at taken reported d s e in
    omega (arith, s.position_is, ap length s.taken_is, length-append s.front s.rest, ap length h.kept_is)

-- more of a head
pub head_more_at : (at : ℕ) (taken : List ℕ) (reported : Reported) (d e : State) (piece : List ℕ) (v : Version) → IsAt at taken reported d → d.phase ≡ phases.Head → version_of (d.kept ++ piece) ≡ Some v → head_len (d.kept ++ piece) ≡ None → length (d.kept ++ piece) < max_head
    → e.phase ≡ phases.Head → e.kept ≡ d.kept ++ piece → e.position ≡ d.position + length piece → IsAt at (taken ++ piece) reported e
head_more_at at taken reported d e piece v s ph version none small ph' kept' pos' =
    let h = in_head at taken reported d s ph in
    record {
      front = s.front;
      rest = d.kept ++ piece;
      taken_is = head_text at taken reported d piece s ph;
      spelled = s.spelled;
      position_is = omega (arith, s.position_is, pos', length-append taken piece);
      phase_is = from_phase (d.kept ++ piece) reported.unclosed e phases.Head ph' (record { reported = h.reported; kept_is = kept'; version = v; version_is = version; unended = none; room = small });
    }

pub lies_in_head : (at : ℕ) (taken : List ℕ) (reported : Reported) (d : State) (piece : List ℕ) (v : Version) → IsAt at taken reported d → d.phase ≡ phases.Head → version_of (d.kept ++ piece) ≡ Some v → head_len (d.kept ++ piece) ≡ None → length (d.kept ++ piece) < max_head → Lies (taken ++ piece) reported
lies_in_head at taken reported d piece v s ph version none small =
    let h = in_head at taken reported d s ph in
    let cut = cut_in_head (d.kept ++ piece) reported.unclosed (d.kept ++ piece) (record { reported = h.reported; kept_is = refl; version = v; version_is = version; unended = none; room = small }) in
    record { front = s.front; rest = d.kept ++ piece; text_is = head_text at taken reported d piece s ph; spelled = s.spelled; cut = cut.0; unclosed_is = cut.1 }

-- a head was reported
pub head_closed : (at : ℕ) (taken : List ℕ) (reported : Reported) (d e : State) (end : List ℕ) (v : Version) (fields : List Pair) → IsAt at taken reported d → d.phase ≡ phases.Head
    → IsHeadOf (record { version = v; fields = fields; block_len = e.left; bytes = [] }) (d.kept ++ end)
    → e.kept ≡ [] → e.position ≡ d.position + length end → e.matched ≡ 0 → e.phase ≡ phases.Block
    → IsAt at (taken ++ end) (record { records = reported.records; unclosed = Some (record { version = v; fields = fields; block_len = e.left; bytes = [] }) }) e
head_closed at taken reported d e end v fields s ph head kept' pos' matched' ph' =
    let u : Unclosed = record { version = v; fields = fields; block_len = e.left; bytes = [] } in
    record {
      front = s.front;
      rest = d.kept ++ end;
      taken_is = head_text at taken reported d end s ph;
      spelled = s.spelled;
      position_is = omega (arith, s.position_is, pos', length-append taken end);
      phase_is = from_phase (d.kept ++ end) (Some u) e phases.Block ph' (
        kept',
        record {
          head = d.kept ++ end;
          part = u;
          reported = refl;
          head_is = head;
          count = omega arith;
          rest_is = sym (ap (λ k. (d.kept ++ end) ++ ([] ++ take k closing)) matched' ∙ append-nil (d.kept ++ end));
          fewer = omega (arith, matched');
          block_first = λ _. matched';
        },
      );
    }

pub head_exact : (at : ℕ) (taken : List ℕ) (reported : Reported) (d : State) (end : List ℕ) (u : Unclosed) → IsAt at taken reported d → d.phase ≡ phases.Head → u.bytes ≡ [] → IsHeadOf u (d.kept ++ end) → IsExact (taken ++ end) (record { records = reported.records; unclosed = Some u })
head_exact at taken reported d end u s ph none head = record {
  front = s.front;
  rest = d.kept ++ end;
  text_is = head_text at taken reported d end s ph;
  spelled = s.spelled;
  ends = (d.kept ++ end, head, sym (ap (λ x. (d.kept ++ end) ++ x) none ∙ append-nil (d.kept ++ end)));
}

-- more of a block
pub block_part : (at : ℕ) (taken : List ℕ) (reported : Reported) (d e : State) (part : List ℕ) → IsAt at taken reported d → d.phase ≡ phases.Block → 0 < d.left → d.left ≡ e.left + length part
    → e.phase ≡ phases.Block → e.kept ≡ d.kept → e.matched ≡ d.matched → e.position ≡ d.position + length part → IsAt at (taken ++ part) (record { records = reported.records; unclosed = with_bytes reported.unclosed part }) e
block_part at taken reported d e part s ph some left' ph' kept' matched' pos' =
    let b = in_block at taken reported d s ph in
    let st = b.1 in
    let u = st.part in
    let none : d.matched ≡ 0 = st.block_first some in
    let none' : e.matched ≡ 0 = matched' ∙ none in
    let rest_is : s.rest ≡ st.head ++ u.bytes = st.rest_is ∙ ap (λ k. st.head ++ (u.bytes ++ take k closing)) none ∙ ap (λ x. st.head ++ x) (append-nil u.bytes) in
    let text : s.rest ++ part ≡ st.head ++ (u.bytes ++ part) = ap (λ x. x ++ part) rest_is ∙ append_assoc st.head u.bytes part in
    let u' : Unclosed = record { version = u.version; fields = u.fields; block_len = u.block_len; bytes = u.bytes ++ part } in
    record {
      front = s.front;
      rest = s.rest ++ part;
      taken_is = rest_text taken s.front s.rest part s.taken_is;
      spelled = s.spelled;
      position_is = omega (arith, s.position_is, pos', length-append taken part);
      phase_is = from_phase (s.rest ++ part) (with_bytes reported.unclosed part) e phases.Block ph' (
        kept' ∙ b.0,
        record {
          head = st.head;
          part = u';
          reported = ap (λ o. with_bytes o part) st.reported;
          head_is = st.head_is;
          count = omega (arith, st.count, left', length-append u.bytes part);
          rest_is = text ∙ sym (ap (λ k. st.head ++ ((u.bytes ++ part) ++ take k closing)) none' ∙ ap (λ x. st.head ++ x) (append-nil (u.bytes ++ part)));
          fewer = omega (arith, none');
          block_first = λ _. none';
        },
      );
    }

pub head_was_reported : (at : ℕ) (taken : List ℕ) (reported : Reported) (d : State) → IsAt at taken reported d → d.phase ≡ phases.Block → IsSome reported.unclosed
head_was_reported at taken reported d s ph =
    let P : Option Unclosed → Type 0 = λ o. IsSome o in
    subst P (sym (in_block at taken reported d s ph).1.reported) refl

pub part_exact : (at : ℕ) (taken : List ℕ) (reported : Reported) (d : State) (part : List ℕ) → IsAt at taken reported d → d.phase ≡ phases.Block → 0 < d.left → IsExact (taken ++ part) (record { records = reported.records; unclosed = with_bytes reported.unclosed part })
part_exact at taken reported d part s ph some =
    let st = (in_block at taken reported d s ph).1 in
    let u = st.part in
    let none : d.matched ≡ 0 = st.block_first some in
    let rest_is : s.rest ≡ st.head ++ u.bytes = st.rest_is ∙ ap (λ k. st.head ++ (u.bytes ++ take k closing)) none ∙ ap (λ x. st.head ++ x) (append-nil u.bytes) in
    let text : s.rest ++ part ≡ st.head ++ (u.bytes ++ part) = ap (λ x. x ++ part) rest_is ∙ append_assoc st.head u.bytes part in
    let P : Option Unclosed → Type 0 = λ o. EndsThere (s.rest ++ part) (with_bytes o part) in
    record { front = s.front; rest = s.rest ++ part; text_is = rest_text taken s.front s.rest part s.taken_is; spelled = s.spelled; ends = subst P (sym st.reported) (st.head, st.head_is, text) }

pub more_matched : (m : ℕ) (part : List ℕ) → m + length part ≤ 4 → part ≡ take (length part) (drop m closing) → take m closing ++ part ≡ take (m + length part) closing
more_matched m part h e =
    let f : List ℕ = take m closing in
    let g : List ℕ = drop m closing in
    let len : length f ≡ m = length-take-le m closing (omega (arith, h)) in
    sym (ap (λ x. take (m + length part) x) (sym (take-append-drop m closing)) ∙ ap (λ k. take (k + length part) (f ++ g)) (sym len) ∙ take-append-add f g (length part) ∙ ap (λ x. f ++ x) (sym e))

-- what follows the block, with more of it
end_text : (rest head bytes part : List ℕ) (m : ℕ) → rest ≡ head ++ (bytes ++ take m closing) → m + length part ≤ 4 → part ≡ take (length part) (drop m closing) → rest ++ part ≡ head ++ (bytes ++ take (m + length part) closing)
end_text rest head bytes part m e h same =
    ap (λ x. x ++ part) e ∙ append_assoc head (bytes ++ take m closing) part ∙ ap (λ x. head ++ x) (append_assoc bytes (take m closing) part ∙ ap (λ x. bytes ++ x) (more_matched m part h same))

-- the state after more of what closes a record
block_more : (rest : List ℕ) (o : Option Unclosed) (left m : ℕ) (part : List ℕ) → InBlock rest o left m → left ≡ 0 → part ≡ take (length part) (drop m closing) → m + length part < 4 → InBlock (rest ++ part) o left (m + length part)
block_more rest o left m part st none same few = record {
  head = st.head;
  part = st.part;
  reported = st.reported;
  head_is = st.head_is;
  count = st.count;
  rest_is = end_text rest st.head st.part.bytes part m st.rest_is (omega (arith, few)) same;
  fewer = few;
  block_first = λ h. absurd (omega (arith, h, none));
}

-- more of what closes a record
pub end_more : (at : ℕ) (taken : List ℕ) (reported : Reported) (d e : State) (part : List ℕ) → IsAt at taken reported d → d.phase ≡ phases.Block → d.left ≡ 0 → part ≡ take (length part) (drop d.matched closing) → d.matched + length part < 4
    → e.phase ≡ phases.Block → e.kept ≡ d.kept → e.left ≡ d.left → e.matched ≡ d.matched + length part → e.position ≡ d.position + length part → IsAt at (taken ++ part) reported e
end_more at taken reported d e part s ph none same few ph' kept' left' matched' pos' =
    let b = in_block at taken reported d s ph in
    let more = block_more s.rest reported.unclosed d.left d.matched part b.1 none same few in
    let P : ℕ → Type 0 = λ n. InBlock (s.rest ++ part) reported.unclosed n e.matched in
    let Q : ℕ → Type 0 = λ m. InBlock (s.rest ++ part) reported.unclosed d.left m in
    record {
      front = s.front;
      rest = s.rest ++ part;
      taken_is = rest_text taken s.front s.rest part s.taken_is;
      spelled = s.spelled;
      position_is = omega (arith, s.position_is, pos', length-append taken part);
      phase_is = from_phase (s.rest ++ part) reported.unclosed e phases.Block ph' (kept' ∙ b.0, subst P (sym left') (subst Q (sym matched') more));
    }

pub lies_in_end : (at : ℕ) (taken : List ℕ) (reported : Reported) (d : State) (part : List ℕ) → IsAt at taken reported d → d.phase ≡ phases.Block → d.left ≡ 0 → part ≡ take (length part) (drop d.matched closing) → d.matched + length part < 4 → Lies (taken ++ part) reported
lies_in_end at taken reported d part s ph none same few =
    let cut = cut_in_block (s.rest ++ part) reported.unclosed d.left (d.matched + length part) (block_more s.rest reported.unclosed d.left d.matched part (in_block at taken reported d s ph).1 none same few) in
    record { front = s.front; rest = s.rest ++ part; text_is = rest_text taken s.front s.rest part s.taken_is; spelled = s.spelled; cut = cut.0; unclosed_is = cut.1 }

-- the record that a head, its whole block and what closes it spell
record_there : (u : Unclosed) (head : List ℕ) → IsHeadOf u head → u.block_len ≡ length u.bytes → Spells (record { version = u.version; fields = u.fields; block = u.bytes }) (head ++ (u.bytes ++ closing))
record_there u head h n =
    let t : List ℕ = head ++ (u.bytes ++ closing) in
    let read = record_whole any_fields (head_reported u head) head u.bytes (head_after u head (u.bytes ++ closing) h) refl n in
    let found = record_spelled any_fields t _ (length t) read in
    let P : List ℕ → Type 0 = λ x. Spells (record { version = u.version; fields = u.fields; block = u.bytes }) x in
    subst P (take_all (length t) t (omega arith)) found.1

-- a record's end was reported
end_spelled : (at : ℕ) (taken : List ℕ) (reported : Reported) (d : State) (part : List ℕ) → (s : IsAt at taken reported d) → d.phase ≡ phases.Block → d.left ≡ 0 → part ≡ take (length part) (drop d.matched closing) → d.matched + length part ≡ 4
    → SpellsAll (reported.records ++ ended reported.unclosed) (s.front ++ (s.rest ++ part))
end_spelled at taken reported d part s ph none same all =
    let st = (in_block at taken reported d s ph).1 in
    let u = st.part in
    let text : s.rest ++ part ≡ st.head ++ (u.bytes ++ closing) = end_text s.rest st.head u.bytes part d.matched st.rest_is (omega (arith, all)) same ∙ ap (λ k. st.head ++ (u.bytes ++ take k closing)) all in
    let r : Record = record { version = u.version; fields = u.fields; block = u.bytes } in
    let P : List ℕ → Type 0 = λ x. Spells r x in
    let Q : List Record → Type 0 = λ x. SpellsAll (reported.records ++ x) (s.front ++ (s.rest ++ part)) in
    subst Q (sym (ap ended st.reported)) (spells_all_more reported.records r s.front (s.rest ++ part) s.spelled (subst P (sym text) (record_there u st.head st.head_is (omega (arith, st.count, none)))))

nothing_kept : InHead [] None []
nothing_kept = record { reported = refl; kept_is = refl; version = versions.V1_1; version_is = empty_version; unended = empty_head; room = omega arith }

pub end_closed : (at : ℕ) (taken : List ℕ) (reported : Reported) (d e : State) (part : List ℕ) → IsAt at taken reported d → d.phase ≡ phases.Block → d.left ≡ 0 → part ≡ take (length part) (drop d.matched closing) → d.matched + length part ≡ 4
    → e.phase ≡ phases.Head → e.kept ≡ d.kept → e.position ≡ d.position + length part → IsAt at (taken ++ part) (record { records = reported.records ++ ended reported.unclosed; unclosed = None }) e
end_closed at taken reported d e part s ph none same all ph' kept' pos' =
    let b = in_block at taken reported d s ph in
    let P : List ℕ → Type 0 = λ x. InHead [] None x in
    record {
      front = s.front ++ (s.rest ++ part);
      rest = [];
      taken_is = rest_text taken s.front s.rest part s.taken_is ∙ sym (append-nil (s.front ++ (s.rest ++ part)));
      spelled = end_spelled at taken reported d part s ph none same all;
      position_is = omega (arith, s.position_is, pos', length-append taken part);
      phase_is = from_phase [] None e phases.Head ph' (subst P (sym (kept' ∙ b.0)) nothing_kept);
    }

pub end_exact : (at : ℕ) (taken : List ℕ) (reported : Reported) (d : State) (part : List ℕ) → IsAt at taken reported d → d.phase ≡ phases.Block → d.left ≡ 0 → part ≡ take (length part) (drop d.matched closing) → d.matched + length part ≡ 4
    → IsExact (taken ++ part) (record { records = reported.records ++ ended reported.unclosed; unclosed = None })
end_exact at taken reported d part s ph none same all = record {
  front = s.front ++ (s.rest ++ part);
  rest = [];
  text_is = rest_text taken s.front s.rest part s.taken_is ∙ sym (append-nil (s.front ++ (s.rest ++ part)));
  spelled = end_spelled at taken reported d part s ph none same all;
  ends = refl;
}

-- after a block all of it was reported
pub block_was_reported : (at : ℕ) (taken : List ℕ) (reported : Reported) (d : State) → IsAt at taken reported d → d.phase ≡ phases.Block → d.left ≡ 0 → IsWhole reported.unclosed
block_was_reported at taken reported d s ph none =
    let st = (in_block at taken reported d s ph).1 in
    let P : Option Unclosed → Type 0 = λ o. IsWhole o in
    subst P (sym st.reported) (omega (arith, st.count, none))

-- bytes that aren't those of a CRLF CRLF
begins_part : (m n : ℕ) (near : List ℕ) → m < 4 → n ≡ min (4 - m) (length near) → begins (take m closing ++ near) closing ≡ true → take n near ≡ take n (drop m closing)
begins_part m n near h size on =
    let f : List ℕ = take m closing in
    let g : List ℕ = drop m closing in
    let t : List ℕ = f ++ near in
    let len : length f ≡ m = front_length m (omega (arith, h)) in
    let same : take 4 t ≡ take (length (take 4 t)) closing = (bytes_eq-Decides _ _).0 on in
    let left : take 4 t ≡ f ++ take (4 - m) near = ap (λ k. take k t) (let e : 4 ≡ length f + (4 - m) = omega (arith, len, h) in e) ∙ take-append-add f near (4 - m) in
    let cut : take (4 - m) near ≡ take n near = sym (ap (λ k. take k near) size ∙ take_min (4 - m) near) in
    let count : length (take 4 t) ≡ length f + n = ap length (left ∙ ap (λ x. f ++ x) cut) ∙ length-append f (take n near) ∙ ap (λ k. length f + k) (length-take-le n near (omega (arith, size))) in
    let right : take (length (take 4 t)) closing ≡ f ++ take n g = ap (λ k. take k closing) count ∙ ap (take (length f + n)) (sym (take-append-drop m closing)) ∙ take-append-add f g n in
    append_cancel_left f (take n near) (take n g) (ap (λ x. f ++ x) (sym cut) ∙ sym left ∙ same ∙ right)

not_nil : (head y : List ℕ) (n : ℕ) → 12 ≤ n → n ≡ length head → head ++ y ≢ []
not_nil head y n l e nil = absurd (omega (arith, l, e, ap length nil, length-append head y))

pub end_refused : (at : ℕ) (taken : List ℕ) (reported : Reported) (d : State) (text near : List ℕ) (n : ℕ) → IsAt at taken reported d → d.phase ≡ phases.Block → d.left ≡ 0 → within_limit at text ≡ taken ++ near → n ≡ min (4 - d.matched) (length near)
    → ¬ (take n near ≡ take n (drop d.matched closing)) → Refutes at text reported (fault kinds.End (d.position - d.matched))
end_refused at taken reported d text near n s ph none front size differs =
    let st = (in_block at taken reported d s ph).1 in
    let u = st.part in
    let f : List ℕ = take d.matched closing in
    let h : Head = head_reported u st.head in
    let y : List ℕ = u.bytes ++ (f ++ near) in
    let all : u.block_len ≡ length u.bytes = omega (arith, st.count, none) in
    let text_is : s.rest ++ near ≡ st.head ++ y = ap (λ x. x ++ near) st.rest_is ∙ append_assoc st.head (u.bytes ++ f) near ∙ ap (λ x. st.head ++ x) (append_assoc u.bytes f near) in
    let whole : within_limit at text ≡ s.front ++ (st.head ++ y) = front ∙ rest_text taken s.front s.rest near s.taken_is ∙ ap (λ x. s.front ++ x) text_is in
    let off : begins (drop h.block_len y) closing ≡ false = ap (λ k. begins (drop k y) closing) all ∙ ap (λ x. begins x closing) (drop-append_seam u.bytes (f ++ near)) ∙ false_from_ne_true _ (λ on. differs (begins_part d.matched n near st.fewer size on)) in
    let fails = record_bad any_fields h st.head y (head_after u st.head y st.head_is) refl off in
    let parts = head_parts any_fields st.head h st.head_is in
    let sizes : length s.rest ≡ length st.head + (length u.bytes + d.matched) = ap length st.rest_is ∙ length-append st.head (u.bytes ++ f) ∙ ap (λ k. length st.head + k) (length-append u.bytes f ∙ ap (λ k. length u.bytes + k) (front_length d.matched (omega (arith, st.fewer)))) in
    let place : d.position - d.matched ≡ at + length s.front + (length st.head + u.block_len) = omega (arith, s.position_is, ap length s.taken_is, length-append s.front s.rest, sizes, all) in
    let cut : take u.block_len y ≡ u.bytes = ap (λ k. take k y) all ∙ take-append_seam u.bytes (f ++ near) in
    refutes at text s.front (st.head ++ y) reported (fault kinds.End (length st.head + u.block_len)) (fault kinds.End (d.position - d.matched)) whole s.spelled
    (not_nil st.head y (length st.head) (head_room st.head u.version (length st.head) parts.0 parts.1) refl)
    fails (λ e. cc) (ap (fault kinds.End) place) (st.reported ∙ sym (unclosed_after u st.head y st.head_is cut))

-- a decoder of a stream of which nothing was taken
pub begun : (at : ℕ) → IsAt at [] nothing (record { phase = phases.Head; position = at; kept = []; left = 0; matched = 0 })
begun at = record { front = []; rest = []; taken_is = refl; spelled = refl; position_is = omega arith; phase_is = nothing_kept }

pub sound_between : (position matched : ℕ) → position ≤ 2 ^ 48 → matched < 4 → matched ≤ position → IsSound position [] matched
sound_between position matched limit fewer following = record { limit = limit; room = omega arith; taken = omega arith; unended = empty_none; fewer = fewer; following = following }

phase_some : (rest : List ℕ) (o : Option Unclosed) (d : State) (phase : Phase) → PhaseIs rest o d phase → (phase ≡ phases.Head → d.kept ≢ []) → rest ≢ []
phase_some rest o d phases.Head s some e = some refl (s.kept_is ∙ e)
phase_some rest o d phases.Block s some e =
    let st = s.1 in
    let parts = head_parts any_fields st.head (head_reported st.part st.head) st.head_is in
    not_nil st.head (st.part.bytes ++ take d.matched closing) (length st.head) (head_room st.head st.part.version (length st.head) parts.0 parts.1) refl (sym st.rest_is ∙ e)
phase_some rest o d (phases.Failed f) s some e = absurd s

-- a decoder in a head of which it keeps bytes, or after one
pub rest_some : (at : ℕ) (taken : List ℕ) (reported : Reported) (d : State) → (s : IsAt at taken reported d) → (d.phase ≡ phases.Head → d.kept ≢ []) → s.rest ≢ []
rest_some at taken reported d s some = phase_some s.rest reported.unclosed d d.phase s.phase_is some

err_same : (f g : Fault) → ◌≡◌ {A = Result Head Fault} (Err f) (Err g) → f ≡ g
err_same f g e = cc

-- of no bytes nothing but more of them is wanted
head_some : (t : List ℕ) (g : Fault) → head_of any_fields t ≡ Err g → g.kind ≢ kinds.Truncated → t ≢ []
head_some t g fails settled nil =
    let cut : head_of any_fields [] ≡ Err (fault kinds.Truncated 0) = cut_head any_fields [] versions.V1_1 empty_version empty_head (omega arith) in
    let P : List ℕ → Type 0 = λ x. head_of any_fields x ≡ Err g in
    settled (ap (λ (x : Fault). x.kind) (err_same g (fault kinds.Truncated 0) (sym (subst P nil fails) ∙ cut)))

-- a head that is refused
pub head_refused : (at : ℕ) (taken : List ℕ) (reported : Reported) (d : State) (text near : List ℕ) (g f : Fault) → IsAt at taken reported d → d.phase ≡ phases.Head → within_limit at text ≡ taken ++ near
    → head_of any_fields (d.kept ++ near) ≡ Err g → g.kind ≢ kinds.Truncated → f ≡ following (d.position - length d.kept) g → Refutes at text reported f
head_refused at taken reported d text near g f s ph front fails settled is =
    let h = in_head at taken reported d s ph in
    let t : List ℕ = d.kept ++ near in
    refutes at text s.front t reported g f (front ∙ head_text at taken reported d near s ph) s.spelled (head_some t g fails settled) (record_head any_fields t g fails) settled
    (is ∙ ap (λ q. following q g) (head_start at taken reported d s ph)) (h.reported ∙ sym (ap (λ r. opened r t) fails))

-- the bytes of a head that are looked at
pub front_is : (kept near : List ℕ) (room m : ℕ) → length kept ≤ 65536 → room ≡ 65536 - length kept → m ≡ min room (length near) → take max_head (kept ++ near) ≡ kept ++ take m near
front_is kept near room m small size cut =
    ap (λ k. take k (kept ++ near)) (let e : 65536 ≡ length kept + room = omega (arith, small, size) in e) ∙ take-append-add kept near room
    ∙ ap (λ x. kept ++ x) (sym (ap (λ k. take k near) cut ∙ take_min room near))

-- the part of a text that holds a CRLF CRLF begins as a version line where the text does
pub version-less : (t x : List ℕ) (v : Version) → version_of (t ++ x) ≡ Some v → (w : Version) × (version_of t ≡ Some w)
version-less t x v h = version_there t v (begins-less t x (version_line v) (version-begins (t ++ x) v h))

pub ended_head : (kept front : List ℕ) (n : ℕ) → empty_line (kept ++ front) ≡ Some (length kept + n - 4) → 4 ≤ length kept + n → n ≤ length front → length (kept ++ take n front) ≤ max_head → head_len (kept ++ take n front) ≡ Some (length (kept ++ take n front))
ended_head kept front n found four fits small =
    let head : List ℕ = kept ++ take n front in
    let size : length head ≡ length kept + n = length-append kept (take n front) ∙ ap (λ k. length kept + k) (length-take-le n front fits) in
    let split : kept ++ front ≡ head ++ drop n front = sym (append_assoc kept (take n front) (drop n front) ∙ ap (λ x. kept ++ x) (take-append-drop n front)) in
    let there : empty_line (head ++ drop n front) ≡ Some (length kept + n - 4) = ap empty_line (sym split) ∙ found in
    let place : length kept + n - 4 + 4 ≡ length head = omega (arith, size, four) in
    head_len-whole head (length kept + n - 4) (empty_line-less head (drop n front) (length kept + n - 4) there (omega (arith, place))) place small

-- where a head ends among the bytes that are looked at, its version and its length are those of the bytes up to there
pub whole_head : (kept near : List ℕ) (v : Version) (m n : ℕ) → length kept ≤ 65536 → m ≡ min (65536 - length kept) (length near) → version_of (kept ++ near) ≡ Some v
    → empty_line (kept ++ take m near) ≡ Some (length kept + n - 4) → n ≤ length (take m near) → 4 ≤ length kept + n
    → (version_of (kept ++ take n (take m near)) ≡ Some v) × (head_len (kept ++ take n (take m near)) ≡ Some (length (kept ++ take n (take m near))))
whole_head kept near v m n low size version found fits four =
    let end : List ℕ = take n (take m near) in
    let head : List ℕ = kept ++ end in
    let cut : end ≡ take n near = take-take n m near (omega (arith, fits, length-take m near)) in
    let whole : head ++ drop n near ≡ kept ++ near = append_assoc kept end (drop n near) ∙ ap (λ x. kept ++ x) (ap (λ x. x ++ drop n near) cut ∙ take-append-drop n near) in
    let small : length head ≤ 65536 = omega (arith, length-append kept end, length-take n (take m near), length-take m near, size, low) in
    let len = ended_head kept (take m near) n found four fits small in
    let line = version-less head (drop n near) v (ap version_of whole ∙ version) in
    let room = head_room head line.0 (length head) line.1 len in
    (sym (version-more head (drop n near) (omega (arith, room))) ∙ ap version_of whole ∙ version, len)

-- an allocation failed in a head
pub no_memory : (at : ℕ) (taken : List ℕ) (reported : Reported) (d : State) (text near : List ℕ) (f : Fault) → IsAt at taken reported d → d.phase ≡ phases.Head → within_limit at text ≡ taken ++ near → f.offset ≡ d.position - length d.kept → WantsMemory at text reported f
no_memory at taken reported d text near f s ph front is = record {
  front = s.front;
  rest = d.kept ++ near;
  text_is = front ∙ head_text at taken reported d near s ph;
  spelled = s.spelled;
  offset_is = is ∙ head_start at taken reported d s ph;
  unclosed_is = (in_head at taken reported d s ph).reported;
}

some_same : (m n : ℕ) → Some m ≡ Some n → m ≡ n
some_same m n e = cc

-- the fault of a head is that of the text at whose front it is
head_failed : (at : ℕ) (taken text near end more : List ℕ) (reported : Reported) (d : State) (v : Version) (g f : Fault) → IsAt at taken reported d → d.phase ≡ phases.Head → within_limit at text ≡ taken ++ near → near ≡ end ++ more
    → version_of (d.kept ++ end) ≡ Some v → head_len (d.kept ++ end) ≡ Some (length (d.kept ++ end)) → head_of any_fields (d.kept ++ end) ≡ Err g → f ≡ following (d.position - length d.kept) g → Refutes at text reported f
head_failed at taken text near end more reported d v g f s ph front split version len fails is =
    let head : List ℕ = d.kept ++ end in
    let whole : d.kept ++ near ≡ head ++ more = ap (λ x. d.kept ++ x) split ∙ sym (append_assoc d.kept end more) in
    let there : head_of any_fields (d.kept ++ near) ≡ Err g = ap (head_of any_fields) whole ∙ head_more any_fields head more v (length head) version len ∙ fails in
    let settled : Settled (head_of any_fields head) = head_settled head v (length head) version len in
    let P : Result Head Fault → Type 0 = λ r. Settled r in
    let other : g.kind ≢ kinds.Truncated = subst P fails settled in
    head_refused at taken reported d text near g f s ph front there other is

head_fails_as : (kind : FaultKind) (at : ℕ) (taken text near end more : List ℕ) (reported : Reported) (d : State) (v : Version) (f : Fault) → IsAt at taken reported d → d.phase ≡ phases.Head → within_limit at text ≡ taken ++ near → near ≡ end ++ more
    → version_of (d.kept ++ end) ≡ Some v → head_len (d.kept ++ end) ≡ Some (length (d.kept ++ end)) → HeadFails kind (d.position - length d.kept) (d.kept ++ end) f → RefusesAs kind at text reported f
head_fails_as kinds.Memory at taken text near end more reported d v f s ph front split version len fails = no_memory at taken reported d text near f s ph front fails
head_fails_as kinds.Version at taken text near end more reported d v f s ph front split version len fails = head_failed at taken text near end more reported d v fails.0 f s ph front split version len fails.1 fails.2
head_fails_as kinds.HeadTooLong at taken text near end more reported d v f s ph front split version len fails = head_failed at taken text near end more reported d v fails.0 f s ph front split version len fails.1 fails.2
head_fails_as kinds.Field at taken text near end more reported d v f s ph front split version len fails = head_failed at taken text near end more reported d v fails.0 f s ph front split version len fails.1 fails.2
head_fails_as (kinds.Missing m) at taken text near end more reported d v f s ph front split version len fails = head_failed at taken text near end more reported d v fails.0 f s ph front split version len fails.1 fails.2
head_fails_as (kinds.Repeated m) at taken text near end more reported d v f s ph front split version len fails = head_failed at taken text near end more reported d v fails.0 f s ph front split version len fails.1 fails.2
head_fails_as kinds.Length at taken text near end more reported d v f s ph front split version len fails = head_failed at taken text near end more reported d v fails.0 f s ph front split version len fails.1 fails.2
head_fails_as kinds.BadType at taken text near end more reported d v f s ph front split version len fails = head_failed at taken text near end more reported d v fails.0 f s ph front split version len fails.1 fails.2
head_fails_as kinds.Id at taken text near end more reported d v f s ph front split version len fails = head_failed at taken text near end more reported d v fails.0 f s ph front split version len fails.1 fails.2
head_fails_as kinds.Date at taken text near end more reported d v f s ph front split version len fails = head_failed at taken text near end more reported d v fails.0 f s ph front split version len fails.1 fails.2
head_fails_as kinds.End at taken text near end more reported d v f s ph front split version len fails = head_failed at taken text near end more reported d v fails.0 f s ph front split version len fails.1 fails.2
head_fails_as kinds.Truncated at taken text near end more reported d v f s ph front split version len fails = head_failed at taken text near end more reported d v fails.0 f s ph front split version len fails.1 fails.2
head_fails_as kinds.TooLong at taken text near end more reported d v f s ph front split version len fails = head_failed at taken text near end more reported d v fails.0 f s ph front split version len fails.1 fails.2
head_fails_as kinds.Read at taken text near end more reported d v f s ph front split version len fails = head_failed at taken text near end more reported d v fails.0 f s ph front split version len fails.1 fails.2

abbrev pub Took : {A : Type 0} → ℕ → List ℕ → List ℕ → List ℕ → Reported → State → Result (ℕ × Event A) Fault → Type 0
Took at taken text piece reported e r = MatchResult r (λ x. Takes at taken reported e piece x.0 x.1) (λ f. Refuses at text reported f)

head_takes : {A : Type 0} (at : ℕ) (taken near end more : List ℕ) (reported : Reported) (d e : State) (event : Event A) → IsAt at taken reported d → d.phase ≡ phases.Head → near ≡ end ++ more
    → head_len (d.kept ++ end) ≡ Some (length (d.kept ++ end)) → ReportsHead (d.kept ++ end) e.left event → e.kept ≡ [] → e.position ≡ d.position + length end → e.matched ≡ 0 → e.phase ≡ phases.Block → Takes at taken reported e near (length end) event
head_takes at taken near end more reported d e events.More s ph split len reports kept' pos' matched' ph' = absurd reports
head_takes at taken near end more reported d e (events.Part from to) s ph split len reports kept' pos' matched' ph' = absurd reports
head_takes at taken near end more reported d e events.End s ph split len reports kept' pos' matched' ph' = absurd reports
head_takes {A = A} at taken near end more reported d e (events.Head version fields m) s ph split len reports kept' pos' matched' ph' =
    let head : List ℕ = d.kept ++ end in
    let read : Head = record { version = version; fields = fields; len = reports.0; block_len = e.left } in
    let parts = head_parts any_fields head read reports.2 in
    let size : reports.0 ≡ length head = some_same reports.0 (length head) (sym parts.1 ∙ len) in
    let u : Unclosed = record { version = version; fields = fields; block_len = e.left; bytes = [] } in
    let whole : IsHeadOf u head = reports.2 ∙ ap (λ k. Ok (record { version = version; fields = fields; len = k; block_len = e.left })) size in
    let cut : take (length end) near ≡ end = ap (take (length end)) split ∙ take_at end more (length end) refl in
    let after : Reported = record { records = reported.records; unclosed = Some u } in
    let same : report {A = A} reported near (events.Head version fields m) ≡ after = ap (λ k. record { records = reported.records; unclosed = Some (record { version = version; fields = fields; block_len = k; bytes = [] }) }) reports.1 in
    let P : List ℕ → Type 0 = λ x. IsAt at (taken ++ x) after e in
    let Q : Reported → Type 0 = λ x. IsAt at (taken ++ take (length end) near) x e in
    let E : List ℕ → Type 0 = λ x. IsExact (taken ++ x) after in
    let F : Reported → Type 0 = λ x. IsExact (taken ++ take (length end) near) x in
    record {
      may = (in_head at taken reported d s ph).reported;
      is_at = subst Q (sym same) (subst P (sym cut) (head_closed at taken reported d e end version fields s ph whole kept' pos' matched' ph'));
      exact = subst F (sym same) (subst E (sym cut) (head_exact at taken reported d end u s ph refl whole));
    }

-- what closing a head gives
pub head_outcome : {A : Type 0} (at : ℕ) (taken text near end more : List ℕ) (reported : Reported) (d e : State) (v : Version) (r : Result (ℕ × Event A) Fault) → IsAt at taken reported d → d.phase ≡ phases.Head → within_limit at text ≡ taken ++ near → near ≡ end ++ more
    → version_of (d.kept ++ end) ≡ Some v → head_len (d.kept ++ end) ≡ Some (length (d.kept ++ end)) → ClosesHead d e end r → Took at taken text near reported e r
head_outcome at taken text near end more reported d e v (Ok r) s ph front split version len closes =
    let P : ℕ → Type 0 = λ k. Takes at taken reported e near k r.1 in
    subst P (sym closes.0) (head_takes at taken near end more reported d e r.1 s ph split len closes.1 closes.2 closes.3 closes.4 closes.5)
head_outcome at taken text near end more reported d e v (Err f) s ph front split version len closes = head_fails_as f.kind at taken text near end more reported d v f s ph front split version len closes

-- the first part of the piece in place of the piece
within_le : {A : Type 0} (n took : ℕ) (event : Event A) → TakesWithin n took event → took ≤ n
within_le n took events.More h = omega (arith, h)
within_le n took (events.Head version fields number) h = h.1
within_le n took (events.Part from to) h = h.2
within_le n took events.End h = h.1

take_near : (k n : ℕ) (piece : List ℕ) → k ≤ length (take n piece) → take k (take n piece) ≡ take k piece
take_near k n piece h = take-take k n piece (omega (arith, h, length-take n piece))

report_near : {A : Type 0} (reported : Reported) (n took : ℕ) (piece : List ℕ) (event : Event A) → TakesWithin (length (take n piece)) took event → report reported (take n piece) event ≡ report reported piece event
report_near reported n took piece events.More h = refl
report_near reported n took piece (events.Head version fields number) h = refl
report_near reported n took piece (events.Part from to) h =
    let le : to ≤ n = omega (arith, h.1, h.2, length-take n piece) in
    let size : n ≡ from + (n - from) = omega (arith, h.0, le) in
    let cut : drop from (take n piece) ≡ take (n - from) (drop from piece) = ap (λ k. drop from (take k piece)) size ∙ drop-take from (n - from) piece in
    let same : slice_range (take n piece) from to ≡ slice_range piece from to = ap (λ x. take (to - from) x) cut ∙ take-take (to - from) (n - from) (drop from piece) (omega (arith, le)) in
    ap (λ x. record { records = reported.records; unclosed = with_bytes reported.unclosed x }) same
report_near reported n took piece events.End h = refl

pub took_piece : {A : Type 0} (at : ℕ) (taken text piece : List ℕ) (reported : Reported) (n : ℕ) (e : State) (r : Result (ℕ × Event A) Fault) → IfOk r (λ x. TakesWithin (length (take n piece)) x.0 x.1) → Took at taken text (take n piece) reported e r → Took at taken text piece reported e r
took_piece at taken text piece reported n e (Ok x) w h =
    let E : List ℕ → Type 0 = λ y. IfReported x.1 (IsExact (taken ++ y) (report reported piece x.1)) in
    let F : Reported → Type 0 = λ t. IfReported x.1 (IsExact (taken ++ take x.0 (take n piece)) t) in
    let P : List ℕ → Type 0 = λ y. IsAt at (taken ++ y) (report reported piece x.1) e in
    let Q : Reported → Type 0 = λ t. IsAt at (taken ++ take x.0 (take n piece)) t e in
    let cut = take_near x.0 n piece (within_le (length (take n piece)) x.0 x.1 w) in
    let same = report_near reported n x.0 piece x.1 w in
    record { may = h.may; exact = subst E cut (subst F same h.exact); is_at = subst P cut (subst Q same h.is_at) }
took_piece at taken text piece reported n e (Err f) w h = h

-- the bytes before the limit
pub near_is : (at : ℕ) (taken piece : List ℕ) (reported : Reported) (d : State) (n : ℕ) → IsAt at taken reported d → d.position ≤ 2 ^ 48 → n ≡ min (2 ^ 48 - d.position) (length piece) → Near (nat_lt n (length piece)) at (taken ++ piece) (taken ++ take n piece)
unfolding within_limit goes_on
near_is at taken piece reported d n s low size =
    let room : ℕ = 2 ^ 48 - d.position in
    let e : max_archive - at ≡ length taken + room = omega (arith, s.position_is, low) in
    let all : length (taken ++ piece) ≡ length taken + length piece = length-append taken piece in
    record {
      front = ap (λ k. take k (taken ++ piece)) e ∙ take-append-add taken piece room ∙ ap (λ x. taken ++ x) (sym (ap (λ k. take k piece) size ∙ take_min room piece));
      beyond = ⊎_elim
          (λ lt. lt-ltb (max_archive - at) (length (taken ++ piece)) (omega (arith, e, all, lt, size)) ∙ sym (lt-ltb n (length piece) lt))
          (λ ge. false_from_ne_true _ (λ is. absurd (omega (arith, e, all, ge, size, ltb-true _ _ is))) ∙ sym (false_from_ne_true _ (λ is. absurd (omega (arith, ge, ltb-true n (length piece) is)))))
          (cases_lt n (length piece));
    }

pub phases_differ : phases.Block ≡ phases.Head → ⊥
phases_differ e = cc

lies_as : (at : ℕ) (taken : List ℕ) (reported : Reported) (d : State) → IsAt at taken reported d → Lies taken reported
lies_as at taken reported d s =
    let cut = cut_at s.rest reported.unclosed d d.phase s.phase_is in
    record { front = s.front; rest = s.rest; text_is = s.taken_is; spelled = s.spelled; cut = cut.0; unclosed_is = cut.1 }

-- the stream ends in a record
pub finishes_cut : (at : ℕ) (taken : List ℕ) (reported : Reported) (d : State) → IsAt at taken reported d → d.position ≤ 2 ^ 48 → (d.phase ≡ phases.Head → d.kept ≢ []) → Finishes at taken reported (Err (fault kinds.Truncated d.position))
unfolding lies_as
finishes_cut at taken reported d s low some =
    let same : fault kinds.Truncated d.position ≡ fault kinds.Truncated (at + length taken) = ap (fault kinds.Truncated) s.position_is in
    let P : Fault → Type 0 = λ f. IsFrameFault at taken f in
    (same, subst P (sym same) (truncated any_fields at taken reported (omega (arith, s.position_is, low)) (all_reported reported) (lies_as at taken reported d s) (rest_some at taken reported d s some)))

pub gives_ok : {X Y : Type 0} (view : X → Y) (r : Result X Fault) (read : Result Y Fault) (x : X) → r ≡ Ok x → AnswersAs view r read → read ≡ Ok (view x)
gives_ok view r read x e h = subst (λ q. AnswersAs view q read) e h

pub extended : {E : Type 0} (r : Result (Unit {0}) E) (a b x : List ℕ) → is_err r ≡ false → x ≡ (if is_ok r then a else b) → x ≡ a
extended (Ok u) a b x h e = e
extended (Err f) a b x h e = absurd (true_false h)

pub head_none : (kept near : List ℕ) (room m : ℕ) → length kept ≤ 65536 → room ≡ 65536 - length kept → m ≡ min room (length near) → empty_line (kept ++ take m near) ≡ None → head_len (kept ++ near) ≡ None
head_none kept near room m small size cut none = head_len-none (kept ++ near) (kept ++ take m near) (front_is kept near room m small size cut) none
