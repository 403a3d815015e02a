-- Reading on in a source after records that are kept.
use Rattle.std.proofs.Common.{◌≡◌, ◌≢◌, ℕ, ◌+◌, ◌-◌, ◌^◌, ◌<◌, ◌≤◌, inl, inr, Bool, true, false, List, [], ◌∷◌, ◌++◌, length, take, drop, if◌then◌else◌, Option, None, Some, Result, Ok, Err, MatchResult, IfErr, IfOk, IfSome, OnErr, refl, sym, ap, subst, ◌∙◌, arith, length-append}
use Rattle.std.proofs.Math.Nat.{min-eq_left}
use Rattle.std.proofs.Math.Seq.{drop-append_seam, take-add, take-append_seam, take-append-add}
use Rattle.std.proofs.lemmas.List.{append_assoc, append-nil, drop-drop, length-drop, length-map, length-take, take-append-drop, take_all}
use Rattle.warc_field.specs.Area.{Pair}
use Rattle.warc_frame.specs.Count.{capped, raised}
use Rattle.warc_frame.specs.Decoding.{Finishes, IsAt, PhaseIs, State}
use Rattle.warc_frame.specs.Device.{Gives}
use Rattle.warc_frame.specs.Ranges.{IsReadAt}
use Rattle.warc_frame.specs.Reading.{fault}
use Rattle.warc_frame.specs.Record.{Record, max_archive}
use Rattle.warc_frame.specs.Spelling.{SpellsAll}
use Rattle.warc_frame.specs.Seen.{GoesOn, InOrder, SeenSource}
use Rattle.warc_frame.specs.Reported.{Lies, Reported, nothing}
use Rattle.warc_frame.specs.declared.fault.Fault.{Fault}
use Rattle.warc_frame.specs.declared.fault.FaultKind.TheVariants.{Memory, Read, Truncated}
use Rattle.warc_frame.proofs.JudgedLemmas.{judged_cut}
use Rattle.warc_frame.proofs.LawLemmas.{no_fault_where_spelled}
use Rattle.warc_record.specs.Heads.{head_fault}
use Rattle.warc_reading.specs.Archive.{IsArchiveOf, IsFaultOf, SpellsFrom, contents}
use Rattle.warc_reading.specs.Fronts.{AreFrontRows, IsLongestFront, reach_of}
use Rattle.warc_reading.specs.Growing.{Grows, IsDeviceFault, grown}
use Rattle.warc_reading.specs.Opening.{Opens, OpensFrom, faults_after, without_source}
use Rattle.warc_reading.specs.Row.{Placed, Row, row_of}
use Rattle.warc_reading.specs.Stream.{BeginsSince, Extends, Follows, HasGiven, HasGivenFrom, HasRead, IsKeptOf, IsLeft, Matches, Since, IsReadSoFar, StaysRefused, Stops, WantsSince}
use Rattle.warc_reading.specs.declared.stream.Current.{Current}
use Rattle.warc_reading.specs.declared.stream.StreamState.{StreamState}
use Rattle.warc_reading.proofs.FrontLemmas.{longest_cut, none_read}
use Rattle.warc_reading.proofs.GoodLemmas.{accepted}
use Rattle.warc_reading.proofs.IndexedLemmas.{opens_with, refuses_with}
use Rattle.warc_reading.proofs.OpeningLemmas.{near_more, opens_ended, opens_refused, opens_unread, read_there}
use Rattle.warc_reading.proofs.SourceLemmas.{ends, front_grows, not_raised, raised_by_one}
use Rattle.warc_reading.proofs.StreamLemmas.{accepts_reported, kept_whole, spells_all}

-- ---- lists that go on

pub extends_none : {X : Type 0} (xs : List X) → Extends xs xs
extends_none xs = ([], sym (append-nil xs))

pub extends_same : {X : Type 0} (xs ys : List X) → ys ≡ xs → Extends xs ys
extends_same xs ys same = ([], same ∙ sym (append-nil xs))

pub extends_more : {X : Type 0} (xs ys zs : List X) → Extends xs ys → Extends ys zs → Extends xs zs
extends_more xs ys zs (one, first) (two, second) = (one ++ two, second ∙ ap (λ l. l ++ two) first ∙ append_assoc xs one two)

pub extends_front : {X : Type 0} (n : ℕ) (xs ys : List X) → n ≡ length xs → Extends xs ys → take n ys ≡ xs
extends_front n xs ys size (more, is) = ap (λ k. take k ys) size ∙ ap (take (length xs)) is ∙ take-append_seam xs more

no_more : {X : Type 0} (xs ys : List X) → [] ≡ xs ++ ys → ys ≡ []
no_more [] ys is = sym is
no_more (x ∷ xs) ys is = absurd (cc is)

empty : {X : Type 0} (xs : List X) → length xs ≡ 0 → xs ≡ []
empty [] none = refl
empty (x ∷ xs) none = let e : length xs + 1 ≡ 0 = omega (arith, none) in absurd (omega (arith, e))

-- ---- what is kept of records that begin with others

pub since_left : {L : Type 0} (K : L → List Placed → Type 0) (was : List Placed) (l : L) (records : List Placed) → Since K was l records → IsLeft K was l
since_left K was l records (kept, (more, is)) = let P : List Placed → Type 0 = λ rs. K l rs in (more, subst P is kept)

pub left_by : {L : Type 0} (K : L → List Placed → Type 0) (was : List Placed) (l m : L) (records : List Placed) → Since K was l records → K m records → IsLeft K was m
left_by K was l m records (kept, (more, is)) now = let P : List Placed → Type 0 = λ rs. K m rs in (more, subst P is now)

pub since_more : {L : Type 0} (K : L → List Placed → Type 0) (was : List Placed) (l m : L) (records : List Placed) (p : Placed) → Since K was l records → K m (records ++ p ∷ []) → Since K was m (records ++ p ∷ [])
since_more K was l m records p (kept, (more, is)) now = (now, (more ++ p ∷ [], ap (λ rs. rs ++ p ∷ []) is ∙ append_assoc was more (p ∷ [])))

-- ---- where reading begins

-- records that begin with others have no fewer bytes
shorter : (q : ℕ) (ps more : List Placed) (a b : List ℕ) → SpellsFrom q ps a → SpellsFrom q (ps ++ more) b → length a ≤ length b
shorter q [] more a b none all = omega (arith, ap length none)
shorter q (p ∷ ps) more a b (front, rest, one, at, start, is, tail) (front2, rest2, one2, at2, start2, is2, tail2) =
    let same : q + length front2 ≡ q + length front = omega (arith, start, start2) in
    let P : ℕ → Type 0 = λ n. SpellsFrom n (ps ++ more) rest2 in
    omega (arith, shorter (q + length front) ps more rest rest2 tail (subst P same tail2), same, ap length is ∙ length-append front rest, ap length is2 ∙ length-append front2 rest2)

-- the record that is being read begins after those that were kept
begins_after : {A B L : Type 0} {Sees : B → List Pair → List ℕ → Type 0} (K : L → List Placed → Type 0) (bytes text : List ℕ) (was : List Row × L) (is : IsKeptOf K bytes was) (reported : Reported) (r : StreamState A L B) → HasRead Sees (Since K is.listed.are.records) text reported r
    → length bytes ≤ r.begin
begins_after K bytes text was is reported r has =
    let on = has.beside.1 in
    let P : List Placed → Type 0 = λ rs. SpellsFrom 0 rs has.front in
    omega (arith, has.begin_is, shorter 0 is.listed.are.records on.0 bytes has.front is.listed.are.spelled (subst P on.1 has.spelled))

-- so memory is wanted after them
wants_after : {A B L : Type 0} {Sees : B → List Pair → List ℕ → Type 0} (K : L → List Placed → Type 0) (bytes taken : List ℕ) (was : List Row × L) (is : IsKeptOf K bytes was) (reported : Reported) (r : StreamState A L B) (offset : ℕ)
    → HasRead Sees (Since K is.listed.are.records) (bytes ++ taken) reported r → BeginsSince (bytes ++ taken) r.begin offset → length bytes ≤ offset
wants_after K bytes taken was is reported r offset has (inl same) = omega (arith, same, begins_after K bytes (bytes ++ taken) was is reported r has)
wants_after K bytes taken was is reported r offset has (inr after) = omega (arith, after, length-append bytes taken)

-- a decoder that begins after records might have taken them
pub at_after : (at start : ℕ) (bytes : List ℕ) (records : List Record) (d : State) → SpellsAll records bytes → start ≡ at + length bytes
    → IsAt start [] nothing d → IsAt at bytes (record { records = records; unclosed = None }) d
at_after at start bytes records d spelled begins is =
    let none : is.rest ≡ [] = no_more is.front is.rest is.taken_is in
    let P : List ℕ → Type 0 = λ rest. PhaseIs rest None d d.phase in
    record {
      front = bytes;
      rest = [];
      taken_is = sym (append-nil bytes);
      spelled = spelled;
      position_is = omega (arith, begins, is.position_is);
      phase_is = subst P none is.phase_is;
    }

-- what is kept of records is where the decoder begins after them
pub kept_is_present : {A B L : Type 0} {Sees : B → List Pair → List ℕ → Type 0} (K : L → List Placed → Type 0) (bytes : List ℕ) (d : State) (r : StreamState A L B) → IsKeptOf K bytes (r.rows, r.beside) → r.begin ≡ length bytes → r.current ≡ None
    → IsAt r.begin [] nothing d → IsReadSoFar Sees K bytes d r
kept_is_present {A} {B} {L} {Sees} K bytes d r is at none start =
    let records = is.listed.are.records in
    let M : Option (Current A B) → Type 0 = λ c. Matches Sees (length bytes) [] None c in
    record {
      reported = record { records = contents records; unclosed = None };
      is_at = at_after 0 r.begin bytes (contents records) d (spells_all 0 records bytes is.listed.are.spelled) (omega (arith, at)) start;
      has = record {
        records = records;
        front = bytes;
        rest = [];
        text_is = sym (append-nil bytes);
        spelled = is.listed.are.spelled;
        reported_is = refl;
        good = accepted (contents records) is.listed.are.good;
        rows_are = is.listed.are.rows_are;
        beside = is.beside;
        begin_is = at;
        current = subst M (sym none) tt;
      };
    }

pub begun : {A B L : Type 0} {Sees : B → List Pair → List ℕ → Type 0} (K : L → List Placed → Type 0) (bytes : List ℕ) (d : State) (r : StreamState A L B) (is : IsKeptOf K bytes (r.rows, r.beside)) → r.begin ≡ length bytes → r.current ≡ None
    → IsAt r.begin [] nothing d → IsReadSoFar Sees (Since K is.listed.are.records) (bytes ++ []) d r
begun {A} {B} {L} {Sees} K bytes d r is at none start =
    let was = is.listed.are.records in
    let since : IsKeptOf (Since K was) bytes (r.rows, r.beside) = record { listed = is.listed; beside = (is.beside, extends_none was) } in
    let P : List ℕ → Type 0 = λ t. IsReadSoFar Sees (Since K was) t d r in
    subst P (sym (append-nil bytes)) (kept_is_present (Since K was) bytes d r since at none start)

-- ---- what a source gives from an offset on

pub given_none : (start : ℕ) (old : SeenSource) → HasGivenFrom start old old []
given_none start old = record {
  part = λ bytes held. refl;
  kept = refl;
  sound = refl;
  cost = omega arith;
  watched = refl;
  near = λ these. refl;
}

pub given_on : (start : ℕ) (old mid new : SeenSource) (taken buf : List ℕ) (n at len : ℕ) → HasGivenFrom start old mid taken → IsReadAt (start + length taken) len false mid new → start + length taken + len ≤ max_archive + 1 → 0 < length (take n buf)
    → length (taken ++ take n buf) ≡ length taken + n → at ≡ start + length taken → ((bytes : List ℕ) → old.holds ≡ Some bytes → Gives bytes at buf n) → HasGivenFrom start old new (taken ++ take n buf)
given_on start old mid new taken buf n at len has read fits some size here gives = record {
  part = λ bytes held.
      let there : drop at bytes ≡ drop (length taken) (drop start bytes) = ap (λ k. drop k bytes) here ∙ sym (drop-drop (length taken) start bytes) in
      ap (λ t. t ++ take n buf) (has.part bytes held) ∙ ap (λ t. take (length taken) (drop start bytes) ++ t) ((gives bytes held).same ∙ ap (take n) there)
      ∙ sym (take-add (length taken) n (drop start bytes)) ∙ ap (λ k. take k (drop start bytes)) (sym size);
  kept = read.kept ∙ has.kept;
  sound = read.cause ∙ has.sound;
  cost = omega (arith, has.cost, read.counted, raised_by_one mid.reads, length-append taken (take n buf), some);
  watched = read.watched ∙ has.watched;
  near = near_more old mid new (start + length taken) len false fits has.watched read has.near;
}

-- ---- in which order it was read

if_some : {X : Type 0} (o : Option X) (P : X → Type 0) → ((x : X) → o ≡ Some x → P x) → IfSome o P
if_some None P h = tt
if_some (Some x) P h = h x refl

goes_on : {E : Type 0} (at : ℕ) (answer : Result ℕ E) (old new : SeenSource) → GoesOn at answer old new → old.next ≡ Some at
    → (new.jumps ≡ old.jumps) × IfOk answer (λ n. new.next ≡ Some (capped (at + n)))
goes_on {E} at answer old new goes is =
    let P : Option ℕ → Type 0 = λ o. IfSome o (λ next. at ≡ next → (new.jumps ≡ old.jumps) × IfOk answer (λ n. new.next ≡ Some (capped (at + n)))) in
    subst P is goes refl

pub in_order : (from : ℕ) (old new : SeenSource) → (old.next ≡ Some from → new.jumps ≡ old.jumps) → InOrder from old new
in_order from old new h = if_some old.next _ (λ next is same. h (is ∙ ap Some (sym same)))

-- without a read
pub unread_in_order : (from : ℕ) (old : SeenSource) → InOrder from old old
unread_in_order from old = in_order from old old (λ _. refl)

pub order_from : (a b : ℕ) (old new : SeenSource) → a ≡ b → InOrder a old new → InOrder b old new
order_from a b old new same order = let P : ℕ → Type 0 = λ from. InOrder from old new in subst P same order

pub follows_none : (start : ℕ) (old : SeenSource) → Follows start [] old old
follows_none start old = λ is. (refl, is ∙ ap Some (let e : start ≡ start + 0 = omega arith in e))

-- one more read, which failed or not
module _ {E : Type 0} (start at : ℕ) (answer : Result ℕ E) (old mid new : SeenSource) (taken : List ℕ) (here : at ≡ start + length taken) (follows : Follows start taken old mid) (goes : GoesOn at answer mid new) where
  pub still_in_order : InOrder start old new
  still_in_order = in_order start old new (λ is.
      let was = follows is in
      (goes_on at answer mid new goes (was.1 ∙ ap Some (sym here))).0 ∙ was.0)

pub follows_on : (E : Type 0) (start at n : ℕ) (old mid new : SeenSource) (taken buf : List ℕ) → at ≡ start + length taken → length (taken ++ take n buf) ≡ length taken + n → at + n ≤ 2 ^ 48 + 1
    → Follows start taken old mid → GoesOn {E = E} at (Ok n) mid new → Follows start (taken ++ take n buf) old new
follows_on E start at n old mid new taken buf here size low follows goes = λ is.
    let was = follows is in
    let on = goes_on {E = E} at (Ok n) mid new goes (was.1 ∙ ap Some (sym here)) in
    let small : at + n ≤ 2 ^ 64 - 1 = omega (arith, low) in
    let e : capped (at + n) ≡ start + length (taken ++ take n buf) = omega (arith, here, size, low, min-eq_left small) in
    (on.0 ∙ was.0, on.1 ∙ ap Some e)

-- a piece was taken
pub part_grows : {A B L : Type 0} {Sees : B → List Pair → List ℕ → Type 0} (K : L → List Placed → Type 0) (was : List Placed) (bytes taken part : List ℕ) (d : State) (r : StreamState A L B) → IsReadSoFar Sees (Since K was) ((bytes ++ taken) ++ part) d r → IsReadSoFar Sees (Since K was) (bytes ++ (taken ++ part)) d r
part_grows {A} {B} {L} {Sees} K was bytes taken part d r is_present = let P : List ℕ → Type 0 = λ t. IsReadSoFar Sees (Since K was) t d r in subst P (append_assoc bytes taken part) is_present

pub on_err : {X E P : Type 0} (r : Result X E) → P → OnErr r P
on_err (Ok x) p = tt
on_err (Err e) p = p

-- after the bytes that a source begins with, it gives the others
more_given : (start : ℕ) (old new : SeenSource) (taken bytes more : List ℕ) → HasGivenFrom start old new taken → start ≡ length bytes → old.holds ≡ Some (bytes ++ more) → taken ≡ take (length taken) more
more_given start old new taken bytes more has at held =
    has.part (bytes ++ more) held ∙ ap (λ n. take (length taken) (drop n (bytes ++ more))) at ∙ ap (take (length taken)) (drop-append_seam bytes more)

whole_given : (start : ℕ) (old new : SeenSource) (taken bytes more : List ℕ) → HasGivenFrom start old new taken → start ≡ length bytes → old.holds ≡ Some (bytes ++ more) → HasGiven old new (bytes ++ taken)
whole_given start old new taken bytes more has at held = record {
  part = λ all is.
      let same : bytes ++ more ≡ all = cc (sym held ∙ is) in
      ap (λ t. bytes ++ t) (more_given start old new taken bytes more has at held) ∙ sym (take-append-add bytes more (length taken))
      ∙ ap (λ n. take n (bytes ++ more)) (sym (length-append bytes taken)) ∙ ap (take (length (bytes ++ taken))) same;
  kept = has.kept;
  sound = has.sound;
  cost = omega (arith, has.cost, length-append bytes taken);
  watched = has.watched;
  near = has.near;
}

-- ---- how it ends

-- the stream ends where the source does
finished : {A B L : Type 0} {Sees : B → List Pair → List ℕ → Type 0} (K : L → List Placed → Type 0) (was : List Placed) (text : List ℕ) (reported : Reported) (r : StreamState A L B) (result : Result (Unit {0}) Fault) → HasRead Sees (Since K was) text reported r → Lies text reported
    → length text ≤ max_archive → Finishes 0 text reported result → MatchResult (grown result (r.rows, r.beside)) (IsKeptOf K text) (λ f. (f.kind ≡ Truncated) × IsFaultOf text f)
finished K was text reported r (Ok u) has lies short (none, spelled) =
    let kept = kept_whole text reported r has spelled short in
    record { listed = kept.listed; beside = kept.beside.0 }
finished K was text reported r (Err f) has lies short (is, frame) =
    (ap (λ (g : Fault). g.kind) is, judged_cut head_fault 0 text reported f lies (accepts_reported text reported r has) (omega (arith, short)) frame)

module _ (start : ℕ) (old mid new : SeenSource) (taken : List ℕ) (has : HasGivenFrom start old mid taken) (failed : Bool) (len : ℕ) (read : IsReadAt (start + length taken) len failed mid new) (short : start + length taken ≤ max_archive) (fits : start + length taken + len ≤ max_archive + 1) (order : InOrder start old new) where
  bound : new.reads ≤ old.reads + max_archive + 1
  bound = omega (arith, has.cost, read.counted, raised_by_one mid.reads, short)

  cost : (bytes more : List ℕ) → start ≡ length bytes → old.holds ≡ Some (bytes ++ more) → new.reads ≤ old.reads + length more + 1
  cost bytes more at held =
      omega (arith, has.cost, read.counted, raised_by_one mid.reads, ap length (more_given start old mid taken bytes more has at held) ∙ length-take (length taken) more)

  none : (bytes held : List ℕ) → start ≡ length bytes → old.holds ≡ Some held → length held ≤ length bytes → taken ≡ []
  none bytes held at is less =
      empty taken (omega (arith, at, less, ap length (has.part held is) ∙ length-take (length taken) (drop start held), length-drop start held))

  sound : failed ≡ false → new.faults ≡ old.faults
  sound well = read.cause ∙ ap (λ b. if b then raised mid.faults else mid.faults) well ∙ has.sound

  size : (bytes : List ℕ) → start ≡ length bytes → start + length taken ≡ length (bytes ++ taken)
  size bytes at = omega (arith, at, length-append bytes taken)

  tried_by : {X : Type 0} (answer : Result X Fault) → IfErr answer (λ f. f.kind ≡ Read → f.offset ≡ start + length taken) → IfErr answer (λ f. f.kind ≡ Read → new.reads ≤ old.reads + f.offset + 1)
  tried_by (Ok x) there = tt
  tried_by (Err f) there = λ is. omega (arith, has.cost, read.counted, raised_by_one mid.reads, there is)

  tried_on : {X : Type 0} (bytes : List ℕ) → start ≡ length bytes → (answer : Result X Fault) → IfErr answer (λ f. f.kind ≡ Read → f.offset ≡ start + length taken)
      → IfErr answer (λ f. f.kind ≡ Read → new.reads + length bytes ≤ old.reads + f.offset + 1)
  tried_on bytes at (Ok x) there = tt
  tried_on bytes at (Err f) there = λ is. omega (arith, has.cost, read.counted, raised_by_one mid.reads, there is, at)

  grows_by : {X : Type 0} {Is : List ℕ → X → Type 0} (was : X) (answer : Result X Fault) → ((bytes : List ℕ) → Is bytes was → start ≡ length bytes)
      → ((bytes more : List ℕ) → Is bytes was → old.holds ≡ Some (bytes ++ more) → OpensFrom (length bytes) Is old new answer)
      → ((bytes held : List ℕ) → Is bytes was → old.holds ≡ Some held → length held ≤ length bytes → MatchResult answer (Is bytes) IsDeviceFault)
      → MatchResult answer (λ x. new.faults ≡ old.faults) (λ f. new.faults ≡ faults_after f.kind old.faults) → IfErr answer (λ f. f.kind ≡ Read → f.offset ≡ new.asked)
      → IfErr answer (λ f. f.kind ≡ Read → f.offset ≡ start + length taken) → ((bytes : List ℕ) → Is bytes was → IfOk answer (λ x. (more : List ℕ) × Is (bytes ++ more) x))
      → ((bytes : List ℕ) → Is bytes was → IfErr answer (λ f. f.kind ≡ Memory → length bytes ≤ f.offset)) → Grows Is was old new answer
  grows_by was answer at whole less cause asked there some following = record {
    whole = whole;
    less = less;
    some = some;
    following = following;
    cost = λ bytes more is held. cost bytes more (at bytes is) held;
    order = λ bytes is. order_from start (length bytes) old new (at bytes is) order;
    tried = λ bytes is. tried_on bytes (at bytes is) answer there;
    reads = record {
      kept = read.kept ∙ has.kept;
      cause = cause;
      asked = asked;
      near = near_more old mid new (start + length taken) len failed fits has.watched read has.near;
      watched = read.watched ∙ has.watched;
      bound = bound;
      tried = tried_by answer there;
    };
  }

  module _ {A B L : Type 0} {Sees : B → List Pair → List ℕ → Type 0} (K : L → List Placed → Type 0) (was : List Row × L) (at : (bytes : List ℕ) → IsKeptOf K bytes was → start ≡ length bytes) (d : State) (r : StreamState A L B)
      (is_present : (bytes : List ℕ) (is : IsKeptOf K bytes was) → IsReadSoFar Sees (Since K is.listed.are.records) (bytes ++ taken) d r) (lies : (text : List ℕ) (reported : Reported) → IsAt 0 text reported d → Lies text reported) where
    short_of : (bytes : List ℕ) → start ≡ length bytes → length (bytes ++ taken) ≤ max_archive
    short_of bytes here = omega (arith, size bytes here, short)

    fits_of : (bytes : List ℕ) → start ≡ length bytes → length (bytes ++ taken) + len ≤ max_archive + 1
    fits_of bytes here = omega (arith, size bytes here, fits)

    read_of : (bytes : List ℕ) → start ≡ length bytes → IsReadAt (length (bytes ++ taken)) len failed mid new
    read_of bytes here = read_there (size bytes here) read

    order_of : (bytes : List ℕ) → start ≡ length bytes → InOrder (length bytes) old new
    order_of bytes here = order_from start (length bytes) old new here order

    -- a read failed
    pub grows_unread : failed ≡ true → Grows (IsKeptOf K) was old new (Err (fault Read (start + length taken)))
    grows_unread fails =
        grows_by was (Err (fault Read (start + length taken))) at
        (λ bytes more is held.
        let here = at bytes is in
        let s = is_present bytes is in
        let P : ℕ → Type 0 = λ n. OpensFrom (length bytes) (IsKeptOf K) old new (Err (fault Read n)) in
        subst P (sym (size bytes here)) (opens_unread (length bytes) old mid new (bytes ++ taken) (whole_given start old mid taken bytes more has here held) failed len (read_of bytes here) (short_of bytes here) (fits_of bytes here) (order_of bytes here) s.reported r fails
        (lies (bytes ++ taken) s.reported s.is_at) s.has))
        (λ bytes held is holds less. inl refl)
        (read.cause ∙ ap (λ b. if b then raised mid.faults else mid.faults) fails ∙ ap raised has.sound)
        (λ is. sym read.asked) (λ is. refl)
        (λ bytes is. tt) (λ bytes is memory. cc memory)

    -- a piece was refused
    pub grows_refused : (buf : List ℕ) (n place : ℕ) (f : Fault) → failed ≡ false → place ≡ start + length taken → 0 < n → f.kind ≢ Read → ((bytes : List ℕ) → old.holds ≡ Some bytes → Gives bytes place buf n)
        → ((bytes : List ℕ) (is : IsKeptOf K bytes was) → StaysRefused ((bytes ++ taken) ++ take n buf) f) → ((bytes : List ℕ) (is : IsKeptOf K bytes was) → WantsSince (bytes ++ taken) (take n buf) r.begin f)
        → Grows (IsKeptOf K) was old new (Err f)
    grows_refused buf n place f well there some never gives stays wants =
        grows_by was (Err f) at
        (λ bytes more is held.
        let here = at bytes is in
        let s = is_present bytes is in
        let given = whole_given start old mid taken bytes more has here held in
        opens_refused (length bytes) old mid new (bytes ++ taken) given failed len (read_of bytes here) (short_of bytes here) (fits_of bytes here) (order_of bytes here) s.reported r (take n buf) (length (bytes ++ taken) + n) f well (lies (bytes ++ taken) s.reported s.is_at) s.has
        (λ all holds. front_grows all (bytes ++ taken) buf place n (there ∙ size bytes here) (given.part all holds) (gives all holds))
        (stays bytes is) (wants bytes is))
        (λ bytes held is holds less. absurd (omega (arith, some, less, there, at bytes is, (gives held holds).within)))
        (sound well ∙ sym (not_raised f.kind old.faults never))
        (λ is. absurd (never is)) (λ is. absurd (never is))
        (λ bytes is. tt)
        (λ bytes is memory. let s = is_present bytes is in wants_after K bytes taken was is s.reported r f.offset s.has (wants bytes is memory).0)

    ended : (bytes more buf : List ℕ) (n place : ℕ) (result : Result (Unit {0}) Fault) → failed ≡ false → place ≡ start + length taken → n ≡ 0 → 0 < length buf
        → ((all : List ℕ) → old.holds ≡ Some all → Gives all place buf n) → ((at : ℕ) (text : List ℕ) (reported : Reported) → IsAt at text reported d → Finishes at text reported result)
        → IsKeptOf K bytes was → old.holds ≡ Some (bytes ++ more) → OpensFrom (length bytes) (IsKeptOf K) old new (grown result (r.rows, r.beside))
    ended bytes more buf n place result well there zero room gives ends_so is held =
        let here = at bytes is in
        let s = is_present bytes is in
        let given = whole_given start old mid taken bytes more has here held in
        opens_ended (length bytes) old mid new (bytes ++ taken) given failed len (read_of bytes here) (short_of bytes here) (fits_of bytes here) (order_of bytes here) (grown result (r.rows, r.beside)) well
        (λ all holds. ends all (bytes ++ taken) buf place n (there ∙ size bytes here) (given.part all holds) (gives all holds) room zero)
        (finished K is.listed.are.records (bytes ++ taken) s.reported r result s.has (lies (bytes ++ taken) s.reported s.is_at) (short_of bytes here) (ends_so 0 (bytes ++ taken) s.reported s.is_at))

    -- nothing comes after the bytes
    unchanged : (bytes held : List ℕ) (result : Result (Unit {0}) Fault) → ((at : ℕ) (text : List ℕ) (reported : Reported) → IsAt at text reported d → Finishes at text reported result)
        → IsKeptOf K bytes was → old.holds ≡ Some held → length held ≤ length bytes → MatchResult (grown result (r.rows, r.beside)) (IsKeptOf K bytes) IsDeviceFault
    unchanged bytes held (Ok u) ends_so is holds less =
        let here = at bytes is in
        let s = is_present bytes is in
        let same : bytes ++ taken ≡ bytes = ap (λ t. bytes ++ t) (none bytes held here holds less) ∙ append-nil bytes in
        let P : List ℕ → Type 0 = λ t. IsKeptOf K t (r.rows, r.beside) in
        subst P same (finished K is.listed.are.records (bytes ++ taken) s.reported r (Ok u) s.has (lies (bytes ++ taken) s.reported s.is_at) (short_of bytes here) (ends_so 0 (bytes ++ taken) s.reported s.is_at))
    unchanged bytes held (Err f) ends_so is holds less =
        let here = at bytes is in
        let s = is_present bytes is in
        let same : bytes ++ taken ≡ bytes = ap (λ t. bytes ++ t) (none bytes held here holds less) ∙ append-nil bytes in
        let (kind, first) = finished K is.listed.are.records (bytes ++ taken) s.reported r (Err f) s.has (lies (bytes ++ taken) s.reported s.is_at) (short_of bytes here) (ends_so 0 (bytes ++ taken) s.reported s.is_at) in
        let P : List ℕ → Type 0 = λ t. IsFaultOf t f in
        let was_of = is.listed.are.records in
        absurd (no_fault_where_spelled head_fault 0 bytes (contents was_of) f (omega (arith, is.listed.short)) (spells_all 0 was_of bytes is.listed.are.spelled) (accepted (contents was_of) is.listed.are.good)
        (subst P same first))

    -- the source ended
    pub grows_ended : (reported : Reported) (buf : List ℕ) (n place : ℕ) (result : Result (Unit {0}) Fault) → IsAt start taken reported d → failed ≡ false → place ≡ start + length taken → n ≡ 0 → 0 < length buf
        → ((all : List ℕ) → old.holds ≡ Some all → Gives all place buf n) → ((at : ℕ) (text : List ℕ) (reported : Reported) → IsAt at text reported d → Finishes at text reported result)
        → Grows (IsKeptOf K) was old new (grown result (r.rows, r.beside))
    grows_ended reported buf n place (Ok u) is_at well there zero room gives ends_so =
        grows_by was (Ok (r.rows, r.beside)) at
        (λ bytes more is held. ended bytes more buf n place (Ok u) well there zero room gives ends_so is held)
        (λ bytes held is holds less. unchanged bytes held (Ok u) ends_so is holds less)
        (sound well) tt tt
        (λ bytes is.
        let here = at bytes is in
        let s = is_present bytes is in (
          taken,
          finished K is.listed.are.records (bytes ++ taken) s.reported r (Ok u) s.has (lies (bytes ++ taken) s.reported s.is_at) (short_of bytes here) (ends_so 0 (bytes ++ taken) s.reported s.is_at),
        ))
        (λ bytes is. tt)
    grows_ended reported buf n place (Err f) is_at well there zero room gives ends_so =
        let kind : f.kind ≡ Truncated = ap (λ (g : Fault). g.kind) (ends_so start taken reported is_at).0 in
        let never : f.kind ≢ Read = λ (is : f.kind ≡ Read). let no : Truncated ≡ Read = sym kind ∙ is in cc no in
        grows_by was (Err f) at
        (λ bytes more is held. ended bytes more buf n place (Err f) well there zero room gives ends_so is held)
        (λ bytes held is holds less. unchanged bytes held (Err f) ends_so is holds less)
        (sound well ∙ sym (not_raised f.kind old.faults never))
        (λ is. absurd (never is)) (λ is. absurd (never is))
        (λ bytes is. tt)
        (λ bytes is (memory : f.kind ≡ Memory). let no : Truncated ≡ Memory = sym kind ∙ memory in cc no)

-- ---- the front that was read

module _ (start : ℕ) (old mid : SeenSource) (taken : List ℕ) (has : HasGivenFrom start old mid taken) (short : start + length taken ≤ max_archive) {A B L : Type 0} {Sees : B → List Pair → List ℕ → Type 0} (K : L → List Placed → Type 0) (was : List Row × L)
    (at : (bytes : List ℕ) → IsKeptOf K bytes was → start ≡ length bytes) (d : State) (r : StreamState A L B)
    (is_present : (bytes : List ℕ) (is : IsKeptOf K bytes was) → IsReadSoFar Sees (Since K is.listed.are.records) (bytes ++ taken) d r) (lies : (text : List ℕ) (reported : Reported) → IsAt 0 text reported d → Lies text reported) where
  -- what was read is a front of less than one more record
  cut_there : (bytes : List ℕ) → IsKeptOf K bytes was → IsLongestFront (bytes ++ taken) r.rows
  cut_there bytes is = let s = is_present bytes is in longest_cut (bytes ++ taken) s.reported r s.has r.rows refl (omega (arith, at bytes is, short, length-append bytes taken)) (lies (bytes ++ taken) s.reported s.is_at)

  -- a read failed
  pub stops_unread : (bytes more : List ℕ) → IsKeptOf K bytes was → old.holds ≡ Some (bytes ++ more) → IsLongestFront (take (start + length taken) (bytes ++ more)) r.rows
  stops_unread bytes more is held =
      let here = at bytes is in
      let given = whole_given start old mid taken bytes more has here held in
      let size : length (bytes ++ taken) ≡ start + length taken = omega (arith, here, length-append bytes taken) in
      let front : bytes ++ taken ≡ take (start + length taken) (bytes ++ more) = given.part (bytes ++ more) held ∙ ap (λ n. take n (bytes ++ more)) size in
      let P : List ℕ → Type 0 = λ t. IsLongestFront t r.rows in
      subst P front (cut_there bytes is)

  -- a piece was refused
  pub stops_refused : (buf : List ℕ) (n place : ℕ) (rows : List Row) (f : Fault) → place ≡ start + length taken → ((all : List ℕ) → old.holds ≡ Some all → Gives all place buf n)
      → ((bytes : List ℕ) (is : IsKeptOf K bytes was) → Stops ((bytes ++ taken) ++ take n buf) rows f) → (bytes more : List ℕ) → IsKeptOf K bytes was → old.holds ≡ Some (bytes ++ more)
      → IsLongestFront (take (reach_of f) (bytes ++ more)) rows
  stops_refused buf n place rows f there gives stops bytes more is held =
      let here = at bytes is in
      let all : List ℕ = bytes ++ more in
      let given = whole_given start old mid taken bytes more has here held in
      let size : place ≡ length (bytes ++ taken) = omega (arith, there, here, length-append bytes taken) in
      let m : ℕ = length (bytes ++ taken) + n in
      let front : (bytes ++ taken) ++ take n buf ≡ take m all = front_grows all (bytes ++ taken) buf place n size (given.part all held) (gives all held) in
      let whole : ((bytes ++ taken) ++ take n buf) ++ drop m all ≡ all = ap (λ t. t ++ drop m all) front ∙ take-append-drop m all in
      let P : List ℕ → Type 0 = λ t. IsLongestFront (take (reach_of f) t) rows in
      subst P whole (stops bytes is (drop m all))

  -- the source ended
  pub stops_ended : (buf : List ℕ) (n place : ℕ) (result : Result (Unit {0}) Fault) → place ≡ start + length taken → n ≡ 0 → 0 < length buf → ((all : List ℕ) → old.holds ≡ Some all → Gives all place buf n)
      → ((at : ℕ) (text : List ℕ) (reported : Reported) → IsAt at text reported d → Finishes at text reported result) → (bytes more : List ℕ) → IsKeptOf K bytes was → old.holds ≡ Some (bytes ++ more)
      → IfErr result (λ f. IsLongestFront (take (reach_of f) (bytes ++ more)) r.rows)
  stops_ended buf n place (Ok u) there zero room gives ends_so bytes more is held = tt
  stops_ended buf n place (Err f) there zero room gives ends_so bytes more is held =
      let here = at bytes is in
      let s = is_present bytes is in
      let all : List ℕ = bytes ++ more in
      let given = whole_given start old mid taken bytes more has here held in
      let size : place ≡ length (bytes ++ taken) = omega (arith, there, here, length-append bytes taken) in
      let whole : bytes ++ taken ≡ all = ends all (bytes ++ taken) buf place n size (given.part all held) (gives all held) room zero in
      let f_is : f ≡ fault Truncated (0 + length (bytes ++ taken)) = (ends_so 0 (bytes ++ taken) s.reported s.is_at).0 in
      let low : length (bytes ++ taken) ≤ max_archive = omega (arith, size, there, short) in
      let reach : reach_of f ≡ max_archive = ap reach_of f_is in
      let cut : bytes ++ taken ≡ take (reach_of f) all = sym (take_all max_archive (bytes ++ taken) low) ∙ ap (take max_archive) whole ∙ ap (λ k. take k all) (sym reach) in
      let P : List ℕ → Type 0 = λ t. IsLongestFront t r.rows in
      subst P cut (cut_there bytes is)

-- ---- the whole answer

-- an allocation failed before the first read
pub grows_untried : {X : Type 0} {Is : List ℕ → X → Type 0} (start : ℕ) (was : X) (old : SeenSource) → ((bytes : List ℕ) → Is bytes was → start ≡ length bytes) → Grows Is was old old (Err (fault Memory start))
grows_untried start was old at = record {
  whole = λ bytes more is held. record {
    accepted = λ all holds. tt;
    refused = λ all holds. inl (record { front = at bytes is; same = refl });
    some = tt;
    reads = record {
      kept = refl;
      cause = refl;
      asked = λ is. cc is;
      near = λ these. refl;
      watched = refl;
      bound = omega arith;
      tried = λ is. cc is;
    };
    cost = λ all holds. omega arith;
    order = unread_in_order (length bytes) old;
  };
  less = λ bytes held is holds less. inr refl;
  some = λ bytes is. tt;
  following = λ bytes is memory. omega (arith, at bytes is);
  cost = λ bytes more is held. omega arith;
  order = λ bytes is. unread_in_order (length bytes) old;
  tried = λ bytes is not. cc not;
  reads = record {
    kept = refl;
    cause = refl;
    asked = λ is. cc is;
    near = λ these. refl;
    watched = refl;
    bound = omega arith;
    tried = λ is. cc is;
  };
}

pub opens_as : {X Y : Type 0} {Is : List ℕ → X → Type 0} {Gives : List ℕ → Y → Type 0} {start : ℕ} {old new : SeenSource} (x : X) (y : Y) (r : Result (Unit {0}) Fault) → ((bytes : List ℕ) → Is bytes x → Gives bytes y)
    → OpensFrom start Is old new (grown r x) → OpensFrom start Gives old new (grown r y)
opens_as x y (Ok u) gives o = opens_with x y gives o
opens_as x y (Err f) gives o = refuses_with f o

match_as : {X Y : Type 0} (x : X) (y : Y) (r : Result (Unit {0}) Fault) (P : X → Type 0) (Q : Y → Type 0) (R : Fault → Type 0) → (P x → Q y) → MatchResult (grown r x) P R → MatchResult (grown r y) Q R
match_as x y (Ok u) P Q R gives m = gives m
match_as x y (Err f) P Q R gives m = m

asked_as : {X Y : Type 0} (x : X) (y : Y) (r : Result (Unit {0}) Fault) (R : Fault → Type 0) → IfErr (grown r x) R → IfErr (grown r y) R
asked_as x y (Ok u) R m = tt
asked_as x y (Err f) R m = m

some_as : {X Y : Type 0} (Is : List ℕ → X → Type 0) (Gives : List ℕ → Y → Type 0) (bytes : List ℕ) (x : X) (y : Y) (r : Result (Unit {0}) Fault) → ((bytes : List ℕ) → Is bytes x → Gives bytes y)
    → IfOk (grown r x) (λ z. (more : List ℕ) × Is (bytes ++ more) z) → IfOk (grown r y) (λ z. (more : List ℕ) × Gives (bytes ++ more) z)
some_as Is Gives bytes x y (Ok u) gives (more, is) = (more, gives (bytes ++ more) is)
some_as Is Gives bytes x y (Err f) gives some = tt

-- what grows, by what is made of what it keeps
pub grows_as : {X Y : Type 0} {Is : List ℕ → X → Type 0} {Gives : List ℕ → Y → Type 0} {old new : SeenSource} (was x : X) (seen y : Y) (r : Result (Unit {0}) Fault) → ((bytes : List ℕ) → Gives bytes seen → Is bytes was)
    → ((bytes : List ℕ) → Is bytes x → Gives bytes y) → Grows Is was old new (grown r x) → Grows Gives seen old new (grown r y)
grows_as {X} {Y} {Is} {Gives} {old} {new} was x seen y r begins gives grows = record {
  whole = λ bytes more is held. opens_as x y r gives (grows.whole bytes more (begins bytes is) held);
  less = λ bytes held is holds less. match_as x y r (Is bytes) (Gives bytes) IsDeviceFault (gives bytes) (grows.less bytes held (begins bytes is) holds less);
  cost = λ bytes more is held. grows.cost bytes more (begins bytes is) held;
  order = λ bytes is. grows.order bytes (begins bytes is);
  some = λ bytes is. some_as Is Gives bytes x y r gives (grows.some bytes (begins bytes is));
  following = λ bytes is. asked_as x y r (λ f. f.kind ≡ Memory → length bytes ≤ f.offset) (grows.following bytes (begins bytes is));
  tried = λ bytes is. asked_as x y r (λ f. f.kind ≡ Read → new.reads + length bytes ≤ old.reads + f.offset + 1) (grows.tried bytes (begins bytes is));
  reads = record {
    kept = grows.reads.kept;
    cause = match_as x y r (λ z. new.faults ≡ old.faults) (λ z. new.faults ≡ old.faults) (λ f. new.faults ≡ faults_after f.kind old.faults) (λ same. same) grows.reads.cause;
    asked = asked_as x y r (λ f. f.kind ≡ Read → f.offset ≡ new.asked) grows.reads.asked;
    near = grows.reads.near;
    watched = grows.reads.watched;
    bound = grows.reads.bound;
    tried = asked_as x y r (λ f. f.kind ≡ Read → new.reads ≤ old.reads + f.offset + 1) grows.reads.tried;
  };
}

pub grows_made : {S X Y : Type 0} {Is : List ℕ → X → Type 0} {Gives : List ℕ → Y → Type 0} {old new : SeenSource} (was x : X) (seen y : Y) (r : Result (Unit {0}) (Fault × S)) → ((bytes : List ℕ) → Gives bytes seen → Is bytes was)
    → ((bytes : List ℕ) → Is bytes x → Gives bytes y) → Grows Is was old new (without_source (λ _. x) r) → Grows Gives seen old new (without_source (λ _. y) r)
grows_made was x seen y (Ok u) begins gives grows = grows_as was x seen y (Ok u) begins gives grows
grows_made was x seen y (Err refused) begins gives grows = grows_as was x seen y (Err refused.0) begins gives grows

-- opening is growing of nothing
pub opens_new : {X : Type 0} {Is : List ℕ → X → Type 0} {old new : SeenSource} (was : X) (answer : Result X Fault) → Is [] was → Grows Is was old new answer → Opens Is old new answer
opens_new was answer is grows = record {
  accepted = λ bytes held. (grows.whole [] bytes is held).accepted bytes held;
  refused = λ bytes held. (grows.whole [] bytes is held).refused bytes held;
  some = grows.some [] is;
  reads = grows.reads;
  cost = λ bytes held. (grows.whole [] bytes is held).cost bytes held;
  order = grows.order [] is;
}

abbrev pub none_listed : IsArchiveOf [] []
none_listed = record {
  short = omega arith;
  are = record { records = []; spelled = refl; good = tt; rows_are = refl };
}

pub none_kept : {L : Type 0} (K : L → List Placed → Type 0) (l : L) → K l [] → IsKeptOf K [] ([], l)
none_kept K l is = record { listed = none_listed; beside = is }

-- the rows that reading from nothing gives
pub front_rows : {L : Type 0} {K : L → List Placed → Type 0} (old new : SeenSource) (l : L) (none rows : List Row) (answer : Result (Unit {0}) Fault) → none ≡ [] → K l [] → Opens IsArchiveOf old new (grown answer rows)
    → ((bytes more : List ℕ) → IsKeptOf K bytes (none, l) → old.holds ≡ Some (bytes ++ more) → IfErr answer (λ f. IsLongestFront (take (reach_of f) (bytes ++ more)) rows))
    → (bytes : List ℕ) → old.holds ≡ Some bytes → AreFrontRows bytes answer rows
front_rows old new l none rows (Ok u) empty_rows begins opens stops bytes held = opens.accepted bytes held
front_rows {L} {K} old new l none rows (Err f) empty_rows begins opens stops bytes held =
    let P : List Row → Type 0 = λ xs. IsKeptOf K [] (xs, l) in
    stops [] bytes (subst P (sym empty_rows) (none_kept K l begins)) held

-- an allocation failed before the first read
pub front_untried : (bytes : List ℕ) (rows : List Row) → rows ≡ [] → AreFrontRows bytes (Err (fault Memory 0)) rows
front_untried bytes rows none = let P : List Row → Type 0 = λ xs. IsLongestFront (take 0 bytes) xs in subst P (sym none) none_read

pub grows_from : {L : Type 0} {Is : List ℕ → List Row × L → Type 0} {old new : SeenSource} (rows now : List Row) (l m : L) (answer : Result (List Row × L) Fault) → rows ≡ now → l ≡ m → Grows Is (rows, l) old new answer → Grows Is (now, m) old new answer
grows_from {L} {Is} {old} {new} rows now l m answer same also grows =
    let P : List Row → Type 0 = λ xs. Grows Is (xs, l) old new answer in
    let Q : L → Type 0 = λ x. Grows Is (now, x) old new answer in
    subst Q also (subst P same grows)

-- what was kept before is kept, once all after it is forgotten
pub kept_again : {L : Type 0} (K : L → List Placed → Type 0) (bytes : List ℕ) (rows now : List Row) (l m k : L) (n : ℕ) (is : IsKeptOf K bytes (rows, l)) → now ≡ rows → n ≡ length rows
    → IsLeft K is.listed.are.records m → ((records : List Placed) → K m records → K k (take n records)) → IsKeptOf K bytes (now, k)
kept_again K bytes rows now l m k n is same size (more, left) forgets =
    let was = is.listed.are.records in
    let count : n ≡ length was = size ∙ ap length is.listed.are.rows_are ∙ length-map was row_of in
    let P : List Placed → Type 0 = λ rs. K k rs in
    record {
      listed = record {
        short = is.listed.short;
        are = record { records = was; spelled = is.listed.are.spelled; good = is.listed.are.good; rows_are = same ∙ is.listed.are.rows_are };
      };
      beside = subst P (extends_front n was (was ++ more) count (more, refl)) (forgets (was ++ more) left);
    }

pub when_err : {X E P : Type 0} (r : Result X E) (e : E) → OnErr r P → r ≡ Err e → P
when_err {X} {E} {P} r e p is = let Q : Result X E → Type 0 = λ x. OnErr x P in subst Q is p

pub kept_by_rows : {L : Type 0} (K : L → List Placed → Type 0) (bytes : List ℕ) (rows kept : List Row) (l : L) → kept ≡ rows → (is : IsArchiveOf bytes rows) → K l is.are.records → IsKeptOf K bytes (kept, l)
kept_by_rows K bytes rows kept l same is beside = record {
  listed = record {
    short = is.short;
    are = record { records = is.are.records; spelled = is.are.spelled; good = is.are.good; rows_are = same ∙ is.are.rows_are };
  };
  beside = beside;
}

-- what grows, by equal rows and an equal answer
pub grows_by_answer : {L : Type 0} {K : L → List Placed → Type 0} {old new : SeenSource} (kept was rows : List Row) (l m : L) (r answer : Result (Unit {0}) Fault) → kept ≡ was → r ≡ answer
    → Grows (IsKeptOf K) (kept, l) old new (grown r (rows, m)) → Grows (IsKeptOf K) (was, l) old new (grown answer (rows, m))
grows_by_answer {L} {K} {old} {new} kept was rows l m r answer same is grows =
    let P : List Row → Type 0 = λ xs. Grows (IsKeptOf K) (xs, l) old new (grown r (rows, m)) in
    let Q : Result (Unit {0}) Fault → Type 0 = λ x. Grows (IsKeptOf K) (was, l) old new (grown x (rows, m)) in
    subst Q is (subst P same grows)

-- what opening gives
pub opens_made : {L Y : Type 0} {K : L → List Placed → Type 0} {Gives : List ℕ → Y → Type 0} {old new : SeenSource} (l m : L) (none rows : List Row) (y : Y) (r answer : Result (Unit {0}) Fault) → r ≡ answer → none ≡ [] → K l []
    → ((bytes : List ℕ) → IsKeptOf K bytes (rows, m) → Gives bytes y) → Grows (IsKeptOf K) (none, l) old new (grown r (rows, m)) → Opens Gives old new (grown answer y)
opens_made {L} {Y} {K} {Gives} {old} {new} l m none rows y r answer is empty_rows begins gives grows =
    opens_as (rows, m) y answer gives (opens_new ([], l) (grown answer (rows, m)) (none_kept K l begins) (grows_by_answer none [] rows l m r answer empty_rows is grows))

pub on_err_by : {X E P Q : Type 0} (r : Result X E) → (P → Q) → OnErr r P → OnErr r Q
on_err_by (Ok x) gives p = tt
on_err_by (Err e) gives p = gives p
