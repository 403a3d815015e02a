-- The record at an offset, by what a window shows and by what closes it.
use Rattle.std.proofs.Common.{◌≡◌, ◌≢◌, ℕ, ◌+◌, ◌-◌, ◌*◌, ◌<◌, ◌≤◌, Bool, true, false, List, ◌++◌, length, take, drop, Result, Ok, Err, ◌⊎◌, inr, ⊎_elim, refl, sym, ap, subst, ◌∙◌, arith, length-drop}
use Rattle.std.proofs.lemmas.Bool.{cases_lt}
use Rattle.std.proofs.lemmas.List.{length-take, take-append-drop, take-take}
use Rattle.warc_frame.specs.Faults.{following}
use Rattle.warc_frame.specs.Reading.{fault, head_of, record_of}
use Rattle.warc_frame.specs.Record.{Record, max_head}
use Rattle.warc_frame.specs.Seen.{SeenSource}
use Rattle.warc_frame.specs.declared.fault.Fault.{Fault}
use Rattle.warc_frame.specs.declared.fault.FaultKind.{FaultKind}
use Rattle.warc_frame.specs.declared.fault.FaultKind.TheVariants.{Memory, Read, Truncated}
use Rattle.warc_frame.proofs.LawLemmas.{heads_are_stable}
use Rattle.warc_record.specs.Heads.{head_fault}
use Rattle.warc_pieces.specs.Ends.{ClosesBy, HasBlockEnd, HeadMisses, IsOpenBefore, closed_at}
use Rattle.warc_pieces.specs.Judging.{IsTorn, IsUnreadAt, MissesBy}
use Rattle.warc_pieces.specs.Pieces.{near}
use Rattle.warc_pieces.specs.Reads.{IsNoFurther, goes_on_by, reads_beside}
use Rattle.warc_pieces.specs.Window.{ReadsBy, Shown, Shows, faults_by, reached}
use Rattle.warc_pieces.proofs.CutLemmas.{cut_again}
use Rattle.warc_pieces.proofs.RunLemmas.{part_is}
use Rattle.warc_pieces.proofs.RecordLemmas.{ahead, slack, closed_cut, closed_fault_kind, closed_from, cut_head, cut_off, has_fault, has_record, head_not_read, headless, misses_head, record_stays, shown_fault, shown_front, shown_up_to, unclosed_from}

-- a record that is shown whole
pub good_close : (bytes shown : List ℕ) (at end : ℕ) (w : Shown) → shown ≡ drop (at - w.begin) w.bytes → HasBlockEnd (drop (at - w.begin) w.bytes) end → w.begin ≤ at → at ≤ length (near bytes) → Shows bytes w → closed_at end shown ≡ Ok tt
    → (r : Record) × (record_of head_fault (drop at (near bytes)) ≡ Ok (r, end + 4))
good_close bytes shown at end w is h before there shows closed =
    let seen = drop (at - w.begin) w.bytes in
    let r = has_record seen h.head end h.reads h.end_is (subst (λ xs. closed_at end xs ≡ Ok tt) is closed) in
    (r.0, ap (record_of head_fault) (shown_front bytes at w before there shows) ∙ record_stays seen (drop (length seen) (drop at (near bytes))) r.0 (end + 4) r.1)

-- one that isn't closed
pub fault_close : (bytes shown : List ℕ) (at end : ℕ) (w : Shown) (f : Fault) → shown ≡ drop (at - w.begin) w.bytes → HasBlockEnd (drop (at - w.begin) w.bytes) end → w.begin ≤ at → at ≤ length (near bytes) → Shows bytes w → closed_at end shown ≡ Err f
    → (f.kind ≢ Truncated) ⊎ (w.is_last ≡ true) → MissesBy f.kind at bytes (following at f)
fault_close bytes shown at end w f is h before there shows bad settled =
    let seen = drop (at - w.begin) w.bytes in
    let kinds = closed_fault_kind end shown f bad in
    shown_fault bytes at w f before there shows (has_fault seen h.head end f h.reads h.end_is (subst (λ xs. closed_at end xs ≡ Err f) is bad)) settled kinds.0 kinds.1

head_there : (bytes : List ℕ) (at end : ℕ) (w : Shown) → (h : HasBlockEnd (drop (at - w.begin) w.bytes) end) → w.begin ≤ at → at ≤ length (near bytes) → Shows bytes w → head_of head_fault (drop at (near bytes)) ≡ Ok h.head
head_there bytes at end w h before there shows =
    let seen = drop (at - w.begin) w.bytes in
    ap (head_of head_fault) (shown_front bytes at w before there shows) ∙ heads_are_stable head_fault seen (drop (length seen) (drop at (near bytes))) h.head h.reads

-- a record whose block isn't shown whole
pub good_beyond : (bytes : List ℕ) (at end : ℕ) (w : Shown) → HasBlockEnd (drop (at - w.begin) w.bytes) end → w.begin ≤ at → at ≤ length (near bytes) → Shows bytes w → closed_at (at + end) (near bytes) ≡ Ok tt
    → (r : Record) × (record_of head_fault (drop at (near bytes)) ≡ Ok (r, end + 4))
good_beyond bytes at end w h before there shows closed = has_record (drop at (near bytes)) h.head end (head_there bytes at end w h before there shows) h.end_is (closed_from at end (near bytes) there closed)

-- a read failed after what is shown, which is no whole record
pub unread : (bytes : List ℕ) (at offset : ℕ) (w : Shown) → w.begin ≤ at → at ≤ length (near bytes) → Shows bytes w → IsTorn (drop (at - w.begin) w.bytes) → offset ≡ at + length (drop (at - w.begin) w.bytes) → IsUnreadAt at bytes offset
unread bytes at offset w before there shows cut is = record {
  after = omega (arith, is);
  cut = subst IsTorn (sym (shown_up_to bytes at offset w before there shows is)) cut;
}

-- the bytes before an offset, where less than these or more is shown
cut_before : (bytes : List ℕ) (at offset known : ℕ) (w : Shown) → w.begin ≤ at → at ≤ length (near bytes) → Shows bytes w → known ≡ at + length (drop (at - w.begin) w.bytes) → at ≤ offset → offset < known
    → record_of head_fault (drop (at - w.begin) w.bytes) ≡ Err (fault Truncated (length (drop (at - w.begin) w.bytes)))
    → record_of head_fault (drop at (take offset (near bytes))) ≡ Err (fault Truncated (length (drop at (take offset (near bytes)))))
cut_before bytes at offset known w before there shows known_is after less torn =
    let t = near bytes in
    let seen = drop (at - w.begin) w.bytes in
    let part : drop at (take offset t) ≡ take (offset - at) seen =
    part_is at offset t after ∙ sym (take-take (offset - at) (known - at) (drop at t) (omega (arith, less))) ∙ ap (take (offset - at)) (sym (part_is at known t (omega (arith, after, less))) ∙ shown_up_to bytes at known w before there shows known_is) in
    let P : List ℕ → Type 0 = λ xs. record_of head_fault xs ≡ Err (fault Truncated (length xs)) in
    subst P (sym part) (cut_again seen (offset - at) torn)

cut_beyond : (bytes : List ℕ) (at end offset known : ℕ) (w : Shown) → HasBlockEnd (drop (at - w.begin) w.bytes) end → w.begin ≤ at → at ≤ length (near bytes) → Shows bytes w → known ≡ at + length (drop (at - w.begin) w.bytes)
    → at ≤ offset → known ≤ offset → IsOpenBefore offset (at + end) (near bytes)
    → record_of head_fault (drop at (take offset (near bytes))) ≡ Err (fault Truncated (length (drop at (take offset (near bytes)))))
cut_beyond bytes at end offset known w h before there shows known_is after more unclosed =
    let t = near bytes in
    let seen = drop (at - w.begin) w.bytes in
    let text = drop at (take offset t) in
    let here : at ≤ length (take offset t) = omega (arith, there, after, length-take offset t) in
    let front : take (length seen) text ≡ seen =
    ap (take (length seen)) (part_is at offset t after) ∙ take-take (length seen) (offset - at) (drop at t) (omega (arith, known_is, more)) ∙ ap (λ n. take n (drop at t)) (let e : length seen ≡ known - at = omega (arith, known_is) in e)
    ∙ sym (part_is at known t (omega (arith, known_is))) ∙ shown_up_to bytes at known w before there shows known_is in
    let whole : text ≡ seen ++ drop (length seen) text = sym (take-append-drop (length seen) text) ∙ ap (λ xs. xs ++ drop (length seen) text) front in
    let head : head_of head_fault text ≡ Ok h.head = ap (head_of head_fault) whole ∙ heads_are_stable head_fault seen (drop (length seen) text) h.head h.reads in
    let (x, fails, same) = unclosed_from at end (take offset t) (fault Truncated (length (take offset t))) here unclosed in
    let kind : x.kind ≡ Truncated = sym (ap (λ (f : Fault). f.kind) same) in
    has_fault text h.head end x head h.end_is fails ∙ ap Err (closed_cut end text x fails kind)

beyond_by : (kind : FaultKind) (bytes shown : List ℕ) (at end known : ℕ) (w : Shown) (g f : Fault) → shown ≡ drop (at - w.begin) w.bytes → HasBlockEnd (drop (at - w.begin) w.bytes) end → w.begin ≤ at → at ≤ length (near bytes) → Shows bytes w
    → closed_at end shown ≡ Err g → g.kind ≡ Truncated → known ≡ at + length shown → ClosesBy kind known (at + end) bytes f → f.kind ≡ kind → MissesBy kind at bytes f
beyond_by Read bytes shown at end known w g f is h before there shows short cut known_is bad kind_is =
    let seen = drop (at - w.begin) w.bytes in
    let short_seen = subst (λ xs. closed_at end xs ≡ Err g) is short in
    let torn = has_fault seen h.head end g h.reads h.end_is short_seen ∙ ap Err (closed_cut end seen g short_seen cut) in
    let known_seen : known ≡ at + length seen = known_is ∙ ap (λ xs. at + length xs) is in
    let after : at ≤ f.offset = ⊎_elim (λ (low : known ≤ f.offset). omega (arith, known_is, low)) (λ (low : at + end ≤ f.offset). omega (arith, low)) bad.0 in
    record {
      after = after;
      cut = inr (⊎_elim
          (λ (less : f.offset < known). cut_before bytes at f.offset known w before there shows known_seen after less torn)
          (λ (more : known ≤ f.offset). cut_beyond bytes at end f.offset known w h before there shows known_seen after more bad.1)
          (cases_lt f.offset known));
    }
beyond_by Memory bytes shown at end known w g f is h before there shows short cut known_is bad kind_is = absurd ((closed_fault_kind (at + end) (near bytes) f bad).1 kind_is)
beyond_by kind bytes shown at end known w g f is h before there shows short cut known_is bad kind_is =
    let (x, fails, same) = unclosed_from at end (near bytes) f there bad in
    (x, has_fault (drop at (near bytes)) h.head end x (head_there bytes at end w h before there shows) h.end_is fails, same)

pub fault_beyond : (bytes shown : List ℕ) (at end known : ℕ) (w : Shown) (g f : Fault) → shown ≡ drop (at - w.begin) w.bytes → HasBlockEnd (drop (at - w.begin) w.bytes) end → w.begin ≤ at → at ≤ length (near bytes) → Shows bytes w
    → closed_at end shown ≡ Err g → g.kind ≡ Truncated → known ≡ at + length shown → ClosesBy f.kind known (at + end) bytes f → MissesBy f.kind at bytes f
fault_beyond bytes shown at end known w g f is h before there shows short cut known_is bad = beyond_by f.kind bytes shown at end known w g f is h before there shows short cut known_is bad refl

pub not_raised : (kind : FaultKind) (n : ℕ) → kind ≢ Read → faults_by kind n ≡ n
not_raised Read n never = absurd (never refl)
not_raised kind n never = refl

head_kind_not : (kind : FaultKind) (t : List ℕ) (f : Fault) → f.kind ≡ kind → HeadMisses kind t f → kind ≢ Read
head_kind_not Memory t f is bad read = absurd (cc read)
head_kind_not kind t f is bad read = (head_not_read t f bad.reads).0 (is ∙ read)

pub misses_not_read : (t : List ℕ) (f : Fault) → HeadMisses f.kind t f → f.kind ≢ Read
misses_not_read t f bad = head_kind_not f.kind t f refl bad

-- a fault that isn't of a read
pub read_fault : (m k : ℕ) (f : Fault) (w now : Shown) (old new : SeenSource) → f.kind ≢ Read → ReadsBy {X = Unit {0}} m (Ok tt) w now old new → m ≤ k → ReadsBy {X = ℕ} k (Err f) w now old new
read_fault m k f w now old new other reads le = record {
  kept = reads.kept;
  watched = reads.watched;
  cause = reads.cause ∙ sym (not_raised f.kind old.faults other);
  near = reads.near;
  bound = omega (arith, reads.bound, le);
  forward = reads.forward;
}

pub no_read : (k : ℕ) (f : Fault) (s : SeenSource) → f.kind ≢ Read → (w : Shown) → ReadsBy {X = ℕ} k (Err f) w w s s
no_read k f s other = λ w. record { kept = refl; watched = refl; cause = sym (not_raised f.kind s.faults other); near = λ off. refl; bound = omega arith; forward = omega arith }

-- a head that is cut, and a read after it that failed
pub unread_more : (bytes shown : List ℕ) (at offset : ℕ) (w now : Shown) (f : Fault) → shown ≡ drop (at - w.begin) w.bytes → w.begin ≤ at → at ≤ length (near bytes) → Shows bytes w → HeadMisses f.kind shown f → f.kind ≡ Truncated
    → offset ≡ reached now → IsNoFurther w now at → IsUnreadAt at bytes offset
unread_more bytes shown at offset w now f is before there shows bad cut offset_is far =
    let seen = drop (at - w.begin) w.bytes in
    let bad_seen = subst (λ xs. HeadMisses f.kind xs f) is bad in
    let head = subst (λ k. HeadMisses k seen f) cut bad_seen in
    unread bytes at offset w before there shows (cut_off seen f (headless seen f head.reads) (cut_head seen f bad_seen cut).is)
    (omega (arith, offset_is, far, length-drop (at - w.begin) w.bytes, before))

-- how far is read to judge a head
pub room_for : (shown : List ℕ) (at : ℕ) (w : Shown) (f : Fault) → shown ≡ drop (at - w.begin) w.bytes → w.begin ≤ at → HeadMisses f.kind shown f → f.kind ≡ Truncated → reached w ≤ at + max_head
room_for shown at w f is before bad cut = omega (arith, (cut_head shown f bad cut).short, ap length is, length-drop (at - w.begin) w.bytes, before)

pub seen_misses : (bytes shown : List ℕ) (at : ℕ) (w : Shown) (f : Fault) → shown ≡ drop (at - w.begin) w.bytes → w.begin ≤ at → at ≤ length (near bytes) → Shows bytes w → HeadMisses f.kind shown f → (f.kind ≢ Truncated) ⊎ (w.is_last ≡ true)
    → MissesBy f.kind at bytes (following at f)
seen_misses bytes shown at w f is before there shows bad settled = misses_head bytes at w f before there shows (subst (λ xs. HeadMisses f.kind xs f) is bad) settled

pub slack_most : (b : Bool) → slack b ≤ 1
slack_most true = omega arith
slack_most false = omega arith

pub slack_none : (b : Bool) → b ≡ false → slack b ≡ 0
slack_none b is = ap slack is

pub slack_by : (w now : Shown) (at : ℕ) (b : Bool) → goes_on_by w now at b → reads_beside (Ok b) ≤ slack now.is_last
slack_by w now at true goes = omega arith
slack_by w now at false goes = omega (arith, ap slack goes.0)

ahead_most : (b : Bool) → ahead b ≤ 1
ahead_most true = omega arith
ahead_most false = omega arith

-- a window that goes on comes closer to the limit, or to its last read
pub closer : (m : ℕ) (w now : Shown) (at : ℕ) (b : Bool) → goes_on_by w now at b → w.is_last ≡ false → reached w ≤ reached now → reached now ≤ m → 2 * (m - reached now) + ahead now.is_last < 2 * (m - reached w) + ahead w.is_last
closer m w now at true goes unended far low = omega (arith, goes.0, ap ahead unended, low, ahead_most now.is_last)
closer m w now at false goes unended far low = omega (arith, ap ahead goes.0, ap ahead unended, low, far)

pub reads_more : {X : Type 0} (m k : ℕ) (answer : Result X Fault) (w now : Shown) (old new : SeenSource) → ReadsBy m answer w now old new → m ≤ k → ReadsBy k answer w now old new
reads_more m k answer w now old new reads le = record {
  kept = reads.kept;
  watched = reads.watched;
  cause = reads.cause;
  near = reads.near;
  bound = omega (arith, reads.bound, le);
  forward = reads.forward;
}
