-- Runs of good records.
use Rattle.std.proofs.Common.{◌≡◌, ◌≢◌, ℕ, ◌+◌, ◌-◌, ◌<◌, ◌≤◌, List, [], ◌∷◌, ◌++◌, length, take, drop, Option, Some, None, IfSome, Result, Ok, Err, refl, sym, ap, subst, ◌∙◌, arith, inl, inr, length-append}
use Rattle.std.proofs.Math.Seq.{take-add}
use Rattle.std.proofs.lemmas.List.{drop-drop, drop-take, drop_all, length-drop, length-take, length-take-le, take-append-drop, take-take}
use Rattle.warc_frame.specs.Faults.{AllAccepted, HasFault, following}
use Rattle.warc_frame.specs.Reading.{empty_line, fault, head_front, head_len, head_of, record_of, version_of}
use Rattle.warc_frame.specs.Record.{Record}
use Rattle.warc_frame.specs.Spelling.{SpellsAll}
use Rattle.warc_frame.specs.declared.fault.Fault.{Fault}
use Rattle.warc_frame.specs.declared.fault.FaultKind.{FaultKind}
use Rattle.warc_frame.specs.declared.fault.FaultKind.TheVariants.{Memory, Read, Truncated}
use Rattle.warc_frame.proofs.LawLemmas.{reading_is_spelling, reading_is_spelling-read}
use Rattle.warc_frame.proofs.SpellLemmas.{nothing}
use Rattle.warc_frame.proofs.StreamBridge.{spells_all_more}
use Rattle.warc_record.specs.Heads.{head_fault}
use Rattle.warc_record.proofs.GoodLemmas.{good_heads_have_no_fault}
use Rattle.warc_reading.specs.Fronts.{BeginsWithNone}
use Rattle.warc_pieces.specs.Judging.{IsTorn, IsFaultAt, IsUnreadAt, MissesBy}
use Rattle.warc_pieces.specs.Pieces.{BeginsWithOne, IsRun, near}
use Rattle.warc_pieces.specs.Run.{RunEndsBy, IsRead}
use Rattle.warc_pieces.proofs.CutLemmas.{cut_record, truncated_at}

-- what is judged to be a good record is one
pub begins_with_one : (t : List ℕ) (r : Record) (n : ℕ) → record_of head_fault t ≡ Ok (r, n) → BeginsWithOne t
begins_with_one t r n is =
    let found = reading_is_spelling head_fault t r n is in
    record {
      content = r;
      front = take n t;
      rest = drop n t;
      text_is = sym (take-append-drop n t);
      spelled = found.1;
      good = record { framed = found.1.framed; head = (good_heads_have_no_fault r.fields).1 found.2 };
    }

-- where a fault is found there is none
pub begins_with_none : (t : List ℕ) (g : Fault) → record_of head_fault t ≡ Err g → BeginsWithNone t
begins_with_none t g is = λ r text more whole spelled good.
    let read : record_of head_fault t ≡ Ok (r, length text) =
    ap (record_of head_fault) whole ∙ reading_is_spelling-read head_fault r text more spelled ((good_heads_have_no_fault r.fields).0 good.head) in
    let no : ◌≡◌ {A = Result (Record × ℕ) Fault} (Err g) (Ok (r, length text)) = sym is ∙ read in
    cc no

-- the first `len` bytes of a text are `count` good records
pub record GoesOver (text : List ℕ) (count len : ℕ) : Type 0 where
  pub records : List Record
  pub spelled : SpellsAll records (take len text)
  pub accepted : AllAccepted head_fault records
  pub count_is : count ≡ length records
  pub within : len ≤ length text

accepted_more : (rs : List Record) (r : Record) → AllAccepted head_fault rs → head_fault r.fields ≡ None → AllAccepted head_fault (rs ++ r ∷ [])
accepted_more [] r all one = (one, tt)
accepted_more (x ∷ rs) r (first, all) one = (first, accepted_more rs r all one)

pub goes_start : (text : List ℕ) → GoesOver text 0 0
goes_start text = record { records = []; spelled = refl; accepted = tt; count_is = refl; within = omega arith }

-- one more record
pub goes_more : (text : List ℕ) (count len : ℕ) (r : Record) (n : ℕ) → GoesOver text count len → record_of head_fault (drop len text) ≡ Ok (r, n) → GoesOver text (count + 1) (len + n)
goes_more text count len r n over is =
    let found = reading_is_spelling head_fault (drop len text) r n is in
    let spelled = spells_all_more over.records r (take len text) (take n (drop len text)) over.spelled found.1 in
    record {
      records = over.records ++ r ∷ [];
      spelled = subst (SpellsAll (over.records ++ r ∷ [])) (sym (take-add len n text)) spelled;
      accepted = accepted_more over.records r over.accepted found.2;
      count_is = omega (arith, over.count_is, length-append over.records (r ∷ []));
      within = omega (arith, over.within, found.0, length-drop len text);
    }

-- records at the front of a text are at the front of the text cut after them
pub goes_cut : (text : List ℕ) (count len m : ℕ) → len ≤ m → GoesOver text count len → GoesOver (take m text) count len
goes_cut text count len m low over = record {
  records = over.records;
  spelled = subst (SpellsAll over.records) (sym (take-take len m text low)) over.spelled;
  accepted = over.accepted;
  count_is = over.count_is;
  within = omega (arith, over.within, low, length-take m text);
}

-- the run ends there
pub goes_run : (at : ℕ) (text : List ℕ) (count len : ℕ) (found : Option Fault) → GoesOver text count len → HasFault head_fault (at + len) (drop len text) found → IsRun at text count len found
goes_run at text count len found over has =
    let size : length (take len text) ≡ len = length-take-le len text over.within in
    let P : ℕ → Type 0 = λ k. HasFault head_fault (at + k) (drop len text) found in
    record {
      records = over.records;
      reads = record {
        front = take len text;
        rest = drop len text;
        text = sym (take-append-drop len text);
        spelled = over.spelled;
        accepted = over.accepted;
        fault_is = subst P (sym size) has;
      };
      count_is = over.count_is;
      len_is = sym size;
    }

-- the part of a text from one offset to another
pub part_is : (at m : ℕ) (t : List ℕ) → at ≤ m → drop at (take m t) ≡ take (m - at) (drop at t)
part_is at m t low =
    let sum : m ≡ at + (m - at) = omega arith in
    ap (λ k. drop at (take k t)) sum ∙ drop-take at (m - at) t

-- at a cut
has_cut : (p : ℕ) (rest : List ℕ) → record_of head_fault rest ≡ Err (fault Truncated (length rest)) → (found : Option Fault) × HasFault head_fault p rest found
has_cut p [] is = (None, refl)
has_cut p (b ∷ bs) is =
    let g = fault Truncated (length (b ∷ bs)) in
    let some : b ∷ bs ≢ [] = λ e. cc in
    (Some (following p g), (some, g, is, refl))

only_cut : (at : ℕ) (text : List ℕ) (count len : ℕ) → GoesOver text count len → IsTorn (drop len text) → (found : Option Fault) × IsRun at text count len found
only_cut at text count len over (inl none) = (None, goes_run at text count len None over none)
only_cut at text count len over (inr cut) =
    let (found, has) = has_cut (at + len) (drop len text) cut in
    (found, goes_run at text count len found over has)

-- nothing is read of no bytes
nothing_read : record_of head_fault [] ≡ Err (fault Truncated 0)
unfolding record_of head_of version_of head_len head_front empty_line
nothing_read = refl

-- where a fault is, and not the end, a byte is there
some_rest : (p : ℕ) (rest : List ℕ) (f g : Fault) → record_of head_fault rest ≡ Err g → f ≡ following p g → (f.kind ≡ Truncated → f.offset ≢ p) → rest ≢ []
some_rest p rest f g is same other none =
    let both : ◌≡◌ {A = Result (Record × ℕ) Fault} (Err g) (Err (fault Truncated 0)) = sym is ∙ ap (record_of head_fault) none ∙ nothing_read in
    let g_is : g ≡ fault Truncated 0 = cc in
    let f_is : f ≡ following p (fault Truncated 0) = same ∙ ap (following p) g_is in
    other (ap (λ (x : Fault). x.kind) f_is) (omega (arith, ap (λ (x : Fault). x.offset) f_is))

-- a run ends where no good record follows
pub run_ends : (kind : FaultKind) (at : ℕ) (bytes : List ℕ) (count len : ℕ) (f : Fault) → at ≤ length (near bytes) → GoesOver (drop at (near bytes)) count len
    → (f.kind ≡ Truncated → f.offset ≢ at + len) → MissesBy kind (at + len) bytes f → RunEndsBy kind at bytes count len f
run_ends Read at bytes count len f low over other unread =
    let t = near bytes in
    let part = part_is at f.offset t (omega (arith, unread.after)) in
    let P : List ℕ → Type 0 = λ x. GoesOver x count len in
    let before : GoesOver (drop at (take f.offset t)) count len = subst P (sym part) (goes_cut (drop at t) count len (f.offset - at) (omega (arith, unread.after)) over) in
    let cut = subst IsTorn (sym (drop-drop len at (take f.offset t))) unread.cut in
    let (found, run) = only_cut at (drop at (take f.offset t)) count len before cut in
    (found, run, unread)
run_ends Memory at bytes count len f low over other miss =
    let t = near bytes in
    let (is, some) = miss in
    let part = part_is at f.offset t (omega (arith, is)) in
    let P : List ℕ → Type 0 = λ x. GoesOver x count len in
    let before : GoesOver (drop at (take f.offset t)) count len = subst P (sym part) (goes_cut (drop at t) count len (f.offset - at) (omega (arith, is)) over) in
    let none : drop len (drop at (take f.offset t)) ≡ [] = drop-drop len at (take f.offset t) ∙ drop_all (at + len) (take f.offset t) (omega (arith, is, length-take f.offset t)) in
    (is, omega (arith, is, some), goes_run at (drop at (take f.offset t)) count len None before none)
run_ends kind at bytes count len f low over other miss =
    let t = near bytes in
    let (g, is, same) = miss in
    let rest = drop-drop len at t in
    let read : record_of head_fault (drop len (drop at t)) ≡ Err g = ap (record_of head_fault) rest ∙ is in
    goes_run at (drop at t) count len (Some f) over (some_rest (at + len) (drop len (drop at t)) f g read same other, g, read, same)

-- a fault at which bytes end
abbrev AtEnd : FaultKind → Type 0
AtEnd kind = kind ≡ Truncated

misses_cut : (kind : FaultKind) (at : ℕ) (bytes : List ℕ) (f : Fault) → AtEnd kind → MissesBy kind at bytes f → IsFaultAt at (drop at (near bytes)) f
misses_cut Read at bytes f is miss = absurd (cc)
misses_cut Memory at bytes f is miss = absurd (cc)
misses_cut kind at bytes f is miss = miss

-- a run ends where the bytes do
pub run_whole : (at : ℕ) (bytes : List ℕ) (count len : ℕ) (f : Fault) → GoesOver (drop at (near bytes)) count len → f.kind ≡ Truncated → f.offset ≡ at + len
    → MissesBy f.kind (at + len) bytes f → IsRun at (drop at (near bytes)) count len None
run_whole at bytes count len f over cut end miss =
    let t = near bytes in
    let (g, is, same) = misses_cut f.kind (at + len) bytes f cut miss in
    let kind : g.kind ≡ Truncated = sym (ap (λ (x : Fault). x.kind) same) ∙ cut in
    let place : f.offset ≡ at + len + g.offset = ap (λ (x : Fault). x.offset) same in
    let size = truncated_at (drop (at + len) t) g is kind in
    let none : drop len (drop at t) ≡ [] = drop-drop len at t ∙ nothing (drop (at + len) t) (omega (arith, end, place, size)) in
    goes_run at (drop at t) count len None over none

-- so a run was read
pub run_read : (at : ℕ) (bytes : List ℕ) (count len : ℕ) (f : Fault) (end : Option Fault) → at ≤ length (near bytes) → GoesOver (drop at (near bytes)) count len → MissesBy f.kind (at + len) bytes f
    → (end ≡ None → (f.kind ≡ Truncated) × (f.offset ≡ at + len)) → IfSome end (λ e. (e ≡ f) × (e.kind ≡ Truncated → e.offset ≢ at + len)) → IsRead at bytes count len end
run_read at bytes count len f None low over miss none some = let (cut, end) = none refl in run_whole at bytes count len f over cut end miss
run_read at bytes count len f (Some e) low over miss none (same, other) =
    let P : Fault → Type 0 = λ x. MissesBy x.kind (at + len) bytes x in
    run_ends e.kind at bytes count len e low over other (subst P (sym same) miss)

-- a read that failed in a good record
pub read_cut : (at : ℕ) (bytes : List ℕ) (r : Record) (len offset : ℕ) → at ≤ length (near bytes) → record_of head_fault (drop at (near bytes)) ≡ Ok (r, len) → at ≤ offset → offset < at + len → IsUnreadAt at bytes offset
read_cut at bytes r len offset low is after before =
    let t = near bytes in
    let found = reading_is_spelling head_fault (drop at t) r len is in
    record {
      after = after;
      cut = subst IsTorn (sym (part_is at offset t after)) (cut_record (drop at t) r len (offset - at) is (omega (arith, after, before)));
    }
