-- The record at the front of a text, by what closes it.
use Rattle.std.proofs.Common.{◌≡◌, ◌≢◌, ℕ, suc, ◌+◌, ◌-◌, ◌<◌, ◌≤◌, ◌&&◌, ◌==◌, Bool, true, false, not, nat_le, nat_lt, is_none, slice_range, List, [], ◌∷◌, ◌++◌, length, take, drop, min, max, Option, Some, None, Result, Ok, Err, IfErr, if◌then◌else◌, ◌⊎◌, inl, inr, ⊎_elim, refl, sym, ap, subst, ◌∙◌, arith, append_assoc, length-append, length-drop}
use Rattle.std.specs.List.{starts_with}
use Rattle.std.proofs.lemmas.Bool.{le-leb, leb-false, lt-leb, cases_lt}
use Rattle.std.proofs.lemmas.List.{append-nil, drop-drop, drop-take, drop_all, length-take, length-take-le, take-append-drop, take-take, take_all}
use Rattle.warc_field.specs.Area.{Pair, area_of, count_of, first_value}
use Rattle.warc_field.specs.Lines.{crlf}
use Rattle.warc_frame.specs.Faults.{following}
use Rattle.warc_frame.specs.Names.{content_length}
use Rattle.warc_frame.specs.Reading.{◌>>=◌, Head, OrMemory, accepts, any_fields, at_front, begins, block_at, fault, fields_or_line, head_len, head_of, needs, record_of, refuses, version_of}
use Rattle.warc_frame.specs.Record.{Record, block_len, block_number, canonical_len, head_text, max_head, or_length}
use Rattle.warc_frame.specs.Spelling.{Spells}
use Rattle.warc_frame.specs.declared.fault.Fault.{Fault}
use Rattle.warc_frame.specs.declared.fault.FaultKind.{FaultKind}
use Rattle.warc_frame.specs.declared.fault.FaultKind.TheVariants.{Version as NoVersion, End, HeadTooLong, Memory, Missing, Read, Repeated, Truncated}
use Rattle.warc_frame.specs.declared.fault.Mandatory.TheVariants.{ContentLength}
use Rattle.warc_frame.specs.declared.version.Version.{Version}
use Rattle.warc_frame.specs.declared.version.Version.TheVariants.{V1_1}
use Rattle.warc_frame.proofs.StableLemmas.{unfinished}
use Rattle.warc_frame.proofs.StreamHeads.{begins-not}
use Rattle.warc_frame.proofs.StreamState.{empty_head}
use Rattle.warc_frame.proofs.LawLemmas.{faults_are_stable-record, reading_is_spelling, reading_is_spelling-read}
use Rattle.warc_record.specs.Heads.{head_fault}
use Rattle.warc_reading.proofs.KindLemmas.{head_kind, is_of_head}
use Rattle.warc_pieces.specs.Ends.{HeadMisses, IsFrontOpen, IsOpenBefore, closed_at}
use Rattle.warc_pieces.specs.Judging.{IsTorn, IsFaultAt, MissesBy}
use Rattle.warc_pieces.specs.Pieces.{near}
use Rattle.warc_pieces.specs.Window.{Shown, Shows}
use Rattle.warc_pieces.proofs.WindowLemmas.{from_shows}

-- what is left to do after the head, as one test
together : {A : Type 0} (r s : Result (Unit {0}) Fault) (x : A) → (r >>= λ _. (s >>= λ _. Ok x)) ≡ ((r >>= λ _. s) >>= λ _. Ok x)
together (Ok u) s x = refl
together (Err f) s x = refl

block_closed : (place n : ℕ) (t : List ℕ) → block_at place n t ≡ (closed_at (place + n) t >>= λ _. Ok (slice_range t place (place + n)))
unfolding block_at closed_at
block_closed place n t = together (refuses (not (begins (drop (place + n) t) (crlf ++ crlf))) (fault End (place + n))) (refuses (nat_lt (length t) (place + n + 4)) (fault Truncated (length t))) (slice_range t place (place + n))

record_for : Head → List ℕ → Record
record_for head t = record { version = head.version; fields = head.fields; block = slice_range t head.len (head.len + head.block_len) }

-- a good head, and a block that is closed
closed_record : (t : List ℕ) (head : Head) → head_of head_fault t ≡ Ok head → closed_at (head.len + head.block_len) t ≡ Ok tt → record_of head_fault t ≡ Ok (record_for head t, head.len + head.block_len + 4)
unfolding record_of record_for
closed_record t head reads closed = rw (reads, block_closed head.len head.block_len t, closed) refl

unclosed_record : (t : List ℕ) (head : Head) (f : Fault) → head_of head_fault t ≡ Ok head → closed_at (head.len + head.block_len) t ≡ Err f → record_of head_fault t ≡ Err f
unfolding record_of
unclosed_record t head f reads bad = rw (reads, block_closed head.len head.block_len t, bad) refl

pub has_record : (t : List ℕ) (head : Head) (end : ℕ) → head_of head_fault t ≡ Ok head → end ≡ head.len + head.block_len → closed_at end t ≡ Ok tt → (r : Record) × (record_of head_fault t ≡ Ok (r, end + 4))
has_record t head end reads is closed =
    (record_for head t, closed_record t head reads (subst (λ e. closed_at e t ≡ Ok tt) is closed) ∙ ap (λ e. Ok (record_for head t, e + 4)) (sym is))

pub has_fault : (t : List ℕ) (head : Head) (end : ℕ) (f : Fault) → head_of head_fault t ≡ Ok head → end ≡ head.len + head.block_len → closed_at end t ≡ Err f → record_of head_fault t ≡ Err f
has_fault t head end f reads is bad = unclosed_record t head f reads (subst (λ e. closed_at e t ≡ Err f) is bad)

pub headless : (t : List ℕ) (f : Fault) → head_of head_fault t ≡ Err f → record_of head_fault t ≡ Err f
unfolding record_of
headless t f bad = rw bad refl

-- a record stays, whatever follows
pub record_stays : (t more : List ℕ) (r : Record) (n : ℕ) → record_of head_fault t ≡ Ok (r, n) → record_of head_fault (t ++ more) ≡ Ok (r, n)
record_stays t more r n reads =
    let (within, spelled, good) = reading_is_spelling head_fault t r n reads in
    let whole : t ++ more ≡ take n t ++ (drop n t ++ more) = ap (λ xs. xs ++ more) (sym (take-append-drop n t)) ∙ append_assoc (take n t) (drop n t) more in
    ap (record_of head_fault) whole ∙ reading_is_spelling-read head_fault r (take n t) (drop n t ++ more) spelled good ∙ ap (λ k. Ok (r, k)) (length-take-le n t within)

-- what a spelled front of a text is read as
pub spelled_record : (t more : List ℕ) (r : Record) (n : ℕ) → n ≤ length t → Spells r (take n t) → head_fault r.fields ≡ None → record_of head_fault (t ++ more) ≡ Ok (r, n)
spelled_record t more r n within spelled good =
    let whole : t ++ more ≡ take n t ++ (drop n t ++ more) = ap (λ xs. xs ++ more) (sym (take-append-drop n t)) ∙ append_assoc (take n t) (drop n t) more in
    ap (record_of head_fault) whole ∙ reading_is_spelling-read head_fault r (take n t) (drop n t ++ more) spelled good ∙ ap (λ k. Ok (r, k)) (length-take-le n t within)

pub spelled_some : (r : Record) (text : List ℕ) → Spells r text → 0 < length text
spelled_some r text s = omega (arith, ap length s.text_is, length-append (head_text r.version s.area ++ r.block ++ crlf) crlf)

-- what is shown from an offset on is a front of the source's bytes from there on
pub shown_front : (bytes : List ℕ) (at : ℕ) (w : Shown) → w.begin ≤ at → at ≤ length (near bytes) → Shows bytes w → drop at (near bytes) ≡ drop (at - w.begin) w.bytes ++ drop (length (drop (at - w.begin) w.bytes)) (drop at (near bytes))
shown_front bytes at w before there shows =
    let s = from_shows bytes at w before there shows in
    let seen = drop (at - w.begin) w.bytes in
    sym (ap (λ xs. xs ++ drop (length seen) (drop at (near bytes))) s.same ∙ take-append-drop (length seen) (drop at (near bytes)))

pub shown_within : (bytes : List ℕ) (at : ℕ) (w : Shown) → w.begin ≤ at → at ≤ length (near bytes) → Shows bytes w → at + length (drop (at - w.begin) w.bytes) ≤ length (near bytes)
shown_within bytes at w before there shows = (from_shows bytes at w before there shows).within

-- what is shown up to an offset
pub shown_up_to : (bytes : List ℕ) (at known : ℕ) (w : Shown) → w.begin ≤ at → at ≤ length (near bytes) → Shows bytes w → known ≡ at + length (drop (at - w.begin) w.bytes) → drop at (take known (near bytes)) ≡ drop (at - w.begin) w.bytes
shown_up_to bytes at known w before there shows is =
    let seen = drop (at - w.begin) w.bytes in
    ap (λ k. drop at (take k (near bytes))) is ∙ drop-take at (length seen) (near bytes) ∙ sym (from_shows bytes at w before there shows).same

-- a source that ends with what is shown
pub shown_all : (bytes : List ℕ) (at : ℕ) (w : Shown) → w.begin ≤ at → at ≤ length (near bytes) → Shows bytes w → w.is_last ≡ true → drop at (near bytes) ≡ drop (at - w.begin) w.bytes
shown_all bytes at w before there shows last =
    let seen = drop (at - w.begin) w.bytes in
    let rest = drop at (near bytes) in
    let size : length rest ≤ length seen = omega (arith, shows.last last, length-drop (at - w.begin) w.bytes, length-drop at (near bytes), before, there) in
    shown_front bytes at w before there shows ∙ ap (λ xs. seen ++ xs) (drop_all (length seen) rest size) ∙ append-nil seen

-- what closing finds
by_tests : (first second : Bool) (a b f : Fault) → ◌≡◌ {A = Result (Unit {0}) Fault} (refuses first a >>= λ _. refuses second b) (Err f) → (f ≡ a) ⊎ (f ≡ b)
by_tests true second a b f is = inl (let e : a ≡ f = cc is in sym e)
by_tests false true a b f is = inr (let e : b ≡ f = cc is in sym e)
by_tests false false a b f is = absurd (cc is)

pub closed_cases : (end : ℕ) (t : List ℕ) (f : Fault) → closed_at end t ≡ Err f → (f ≡ fault End end) ⊎ (f ≡ fault Truncated (length t))
unfolding closed_at
closed_cases end t f bad = by_tests (not (begins (drop end t) (crlf ++ crlf))) (nat_lt (length t) (end + 4)) _ _ f bad

-- a result of what begins at an offset, whose fault is from there
abbrev moved_by : ℕ → Result (Unit {0}) Fault → Result (Unit {0}) Fault
moved_by at (Ok u) = Ok u
moved_by at (Err f) = Err (following at f)

by_moved : (first second : Bool) (at : ℕ) (a b c d : Fault) → c ≡ following at a → d ≡ following at b → (refuses first c >>= λ _. refuses second d) ≡ moved_by at (refuses first a >>= λ _. refuses second b)
by_moved true second at a b c d first_is second_is = ap Err first_is
by_moved false true at a b c d first_is second_is = ap Err second_is
by_moved false false at a b c d first_is second_is = refl

same_test : (m n k j : ℕ) → (m < n → k < j) → (n ≤ m → j ≤ k) → nat_lt m n ≡ nat_lt k j
same_test m n k j up down = ⊎_elim
    (λ less. le-leb (suc m) n (omega (arith, less)) ∙ sym (le-leb (suc k) j (omega (arith, up less))))
    (λ more. lt-leb (suc m) n (omega (arith, more)) ∙ sym (lt-leb (suc k) j (omega (arith, down more))))
    (cases_lt m n)

closed_moved : (at end : ℕ) (t : List ℕ) → at ≤ length t → closed_at (at + end) t ≡ moved_by at (closed_at end (drop at t))
unfolding closed_at
closed_moved at end t within =
    let rest : drop end (drop at t) ≡ drop (at + end) t = drop-drop end at t in
    let size : length (drop at t) ≡ length t - at = length-drop at t in
    let test = same_test (length t) (at + end + 4) (length (drop at t)) (end + 4) (λ less. omega (arith, less, size, within)) (λ more. omega (arith, more, size, within)) in
    rw (test, ← rest) (by_moved (not (begins (drop end (drop at t)) (crlf ++ crlf))) (nat_lt (length (drop at t)) (end + 4)) at (fault End end) (fault Truncated (length (drop at t))) (fault End (at + end)) (fault Truncated (length t)) refl (ap (fault Truncated) (let e : length t ≡ at + length (drop at t) = omega (arith, size, within) in e)))

moved_ok : (at : ℕ) (r : Result (Unit {0}) Fault) → moved_by at r ≡ Ok tt → r ≡ Ok tt
moved_ok at (Ok u) is = refl
moved_ok at (Err f) is = absurd (cc is)

moved_err : (at : ℕ) (r : Result (Unit {0}) Fault) (f : Fault) → moved_by at r ≡ Err f → (g : Fault) × (r ≡ Err g) × (f ≡ following at g)
moved_err at (Ok u) f is = absurd (cc is)
moved_err at (Err g) f is = (g, refl, let e : following at g ≡ f = cc is in sym e)

pub closed_from : (at end : ℕ) (t : List ℕ) → at ≤ length t → closed_at (at + end) t ≡ Ok tt → closed_at end (drop at t) ≡ Ok tt
closed_from at end t within is = moved_ok at (closed_at end (drop at t)) (sym (closed_moved at end t within) ∙ is)

pub unclosed_from : (at end : ℕ) (t : List ℕ) (f : Fault) → at ≤ length t → closed_at (at + end) t ≡ Err f → (g : Fault) × (closed_at end (drop at t) ≡ Err g) × (f ≡ following at g)
unclosed_from at end t f within is = moved_err at (closed_at end (drop at t)) f (sym (closed_moved at end t within) ∙ is)

-- what the four bytes after a block say
first_four : (end n : ℕ) (t buf : List ℕ) → take n buf ≡ take 4 (drop end t) → begins (take n buf) (crlf ++ crlf) ≡ begins (drop end t) (crlf ++ crlf)
first_four end n t buf is = ap (λ xs. begins xs (crlf ++ crlf)) is ∙ ap (λ xs. starts_with Rattle.std.proofs.Common.nat_eq (crlf ++ crlf) xs) (take-take 4 4 (drop end t) (omega arith))

four_len : (end n : ℕ) (t buf : List ℕ) → take n buf ≡ take 4 (drop end t) → n ≤ length buf → n ≡ min 4 (length t - end)
four_len end n t buf is few = sym (length-take-le n buf few) ∙ ap length is ∙ length-take 4 (drop end t) ∙ ap (min 4) (length-drop end t)

pub closing_wrong : (end : ℕ) (t front : List ℕ) → front ≡ take (length front) (drop end t) → begins front (crlf ++ crlf) ≡ false → closed_at end t ≡ Err (fault End end)
unfolding closed_at
closing_wrong end t front same bad =
    let rest = drop (length front) (drop end t) in
    let whole : drop end t ≡ front ++ rest = sym (take-append-drop (length front) (drop end t)) ∙ ap (λ xs. xs ++ rest) (sym same) in
    let no : begins (drop end t) (crlf ++ crlf) ≡ false = ap (λ xs. begins xs (crlf ++ crlf)) whole ∙ sym (begins-not front rest (crlf ++ crlf) bad) in
    rw no refl

pub closing_whole : (end n : ℕ) (t buf : List ℕ) → take n buf ≡ take 4 (drop end t) → n ≤ length buf → begins (take n buf) (crlf ++ crlf) ≡ true → n ≡ 4 → closed_at end t ≡ Ok tt
unfolding closed_at
closing_whole end n t buf is few good four =
    let size = four_len end n t buf is few in
    rw (sym (first_four end n t buf is) ∙ good, lt-leb (suc (length t)) (end + 4) (omega (arith, size, four))) refl

pub closing_cut : (end n m : ℕ) (t buf : List ℕ) → take n buf ≡ take 4 (drop end t) → n ≤ length buf → begins (take n buf) (crlf ++ crlf) ≡ true → n < 4 → m ≡ length t → closed_at end t ≡ Err (fault Truncated m)
unfolding closed_at
closing_cut end n m t buf is few good short same =
    let size = four_len end n t buf is few in
    rw (sym (first_four end n t buf is) ∙ good, le-leb (suc (length t)) (end + 4) (omega (arith, size, short)), same) refl

-- the bytes before an offset don't close a block that ends there or after it
pub closing_before : (place end : ℕ) (t : List ℕ) → place ≤ end → IsOpenBefore place end t
closing_before place end t low =
    let none : drop end (take place t) ≡ [] = drop_all end (take place t) (omega (arith, low, length-take place t)) in
    closing_cut end 0 (length (take place t)) (take place t) [] (sym (ap (take 4) none)) (omega arith) refl (omega arith) refl

-- nor do fewer than four bytes after it that are as wanted
pub closing_open : (place end : ℕ) (t buf : List ℕ) → end ≤ place → place < end + 4 → length buf ≡ 4 → IsFrontOpen end t (take (place - end) buf) → IsOpenBefore place end t
closing_open place end t buf low few room wanted =
    let k : ℕ = place - end in
    let front = take k buf in
    let sum : place ≡ end + k = omega (arith, low) in
    let size : length front ≡ k = length-take-le k buf (omega (arith, few, room)) in
    let rest : drop end (take place t) ≡ take k (drop end t) = ap (λ n. drop end (take n t)) sum ∙ drop-take end k t in
    let same : front ≡ take k (drop end t) = wanted.same ∙ ap (λ n. take n (drop end t)) size in
    let four : take 4 (drop end (take place t)) ≡ front = ap (take 4) rest ∙ ap (take 4) (sym same) ∙ take_all 4 front (omega (arith, size, few)) in
    let all : take k front ≡ front = take_all k front (omega (arith, size)) in
    closing_cut end k (length (take place t)) (take place t) front (all ∙ sym four) (omega (arith, size)) (ap (λ xs. begins xs (crlf ++ crlf)) all ∙ wanted.begins_as) (omega (arith, few, low)) refl

pub some_left : (end n : ℕ) (t buf : List ℕ) → take n buf ≡ take 4 (drop end t) → n ≤ length buf → 0 < n → n < 4 → end + n ≡ length t
some_left end n t buf is few some short = omega (arith, four_len end n t buf is few, some, short)

pub none_left : (end n : ℕ) (t buf : List ℕ) → take n buf ≡ take 4 (drop end t) → n ≤ length buf → n ≡ 0 → length t ≤ end
none_left end n t buf is few none = omega (arith, four_len end n t buf is few, none)

-- a fault that bytes settle: neither truncation, nor of a source or of memory
abbrev pub is_settled : FaultKind → Bool
is_settled Truncated = false
is_settled Read = false
is_settled Memory = false
is_settled kind = true

-- a head that is cut, or a fault that is settled
pub record IsHeadCut (t : List ℕ) (f : Fault) : Type 0 where
  pub is : f ≡ fault Truncated (length t)
  pub short : length t < max_head

abbrev pub HeadFaultOf : List ℕ → Fault → Type 0
HeadFaultOf t f = (is_settled f.kind ≡ true) ⊎ IsHeadCut t f

then_err : {A B : Type 0} (P : Fault → Type 0) (r : Result A Fault) (f : A → Result B Fault) → IfErr r P → ((x : A) → r ≡ Ok x → IfErr (f x) P) → IfErr (r >>= f) P
then_err P (Ok x) f first second = second x refl
then_err P (Err e) f first second = first

needs_err : {A : Type 0} (P : Fault → Type 0) (o : Option A) (f : Fault) → (o ≡ None → P f) → IfErr (needs o f) P
needs_err P None f is = is refl
needs_err P (Some x) f is = tt

refuses_err : (P : Fault → Type 0) (test : Bool) (f : Fault) → P f → IfErr (refuses test f) P
refuses_err P true f is = is
refuses_err P false f is = tt

passes : (test : Bool) (f : Fault) (u : Unit {0}) → refuses test f ≡ Ok u → test ≡ false
passes true f u is = absurd (cc is)
passes false f u is = refl

fields_err : (P : Fault → Type 0) (r : Result (List Pair) ℕ) → ((at : ℕ) → P (fault Rattle.warc_frame.specs.declared.fault.FaultKind.TheVariants.Field (10 + at))) → IfErr (fields_or_line r) P
fields_err P (Ok fields) is = tt
fields_err P (Err at) is = is at

or_length_err : (o : Option ℕ) → IfErr (or_length o) (λ kind. is_settled kind ≡ true)
or_length_err None = refl
or_length_err (Some n) = tt

if_err : {A E : Type 0} (P : E → Type 0) (test : Bool) (x y : Result A E) → IfErr x P → IfErr y P → IfErr (if test then x else y) P
if_err P true x y first second = first
if_err P false x y first second = second

block_len_err : (fields : List Pair) → IfErr (block_len fields) (λ kind. is_settled kind ≡ true)
unfolding block_len
block_len_err fields =
    let last = or_length (block_number (first_value content_length fields)) in
    let second : Result ℕ FaultKind = if nat_le 2 (count_of content_length fields) then Err (Repeated ContentLength) else last in
    if_err {A = ℕ} {E = FaultKind} (λ kind. is_settled kind ≡ true) (count_of content_length fields == 0) (Err (Missing ContentLength)) second refl
    (if_err {A = ℕ} {E = FaultKind} (λ kind. is_settled kind ≡ true) (nat_le 2 (count_of content_length fields)) (Err (Repeated ContentLength)) last refl
    (or_length_err (block_number (first_value content_length fields))))

at_front_err : (t : List ℕ) (r : Result ℕ FaultKind) → IfErr r (λ kind. is_settled kind ≡ true) → IfErr (at_front r) (HeadFaultOf t)
at_front_err t (Ok n) is = tt
at_front_err t (Err kind) is = inl is

of_head_settled : (kind : FaultKind) → is_of_head kind ≡ true → is_settled kind ≡ true
of_head_settled Truncated is = absurd (cc is)
of_head_settled Read is = absurd (cc is)
of_head_settled Memory is = absurd (cc is)
of_head_settled kind is = refl

accepts_err : (t : List ℕ) (o : Option FaultKind) → ((kind : FaultKind) → o ≡ Some kind → is_settled kind ≡ true) → IfErr (accepts o) (HeadFaultOf t)
accepts_err t None is = tt
accepts_err t (Some kind) is = inl (is kind refl)

cut_short : (t : List ℕ) → is_none (head_len t) && nat_le max_head (length t) ≡ false → head_len t ≡ None → IsHeadCut t (fault Truncated (length t))
cut_short t passed none = record {
  is = refl;
  short = leb-false max_head (length t) (sym (ap (λ (o : Option ℕ). is_none o && nat_le max_head (length t)) none) ∙ passed);
}

head_err : (t : List ℕ) → IfErr (head_of head_fault t) (HeadFaultOf t)
unfolding head_of
head_err t =
    let P = HeadFaultOf t in
    let long = is_none (head_len t) && nat_le max_head (length t) in
    then_err {A = Version} {B = Head} P (needs (version_of t) (fault NoVersion 0)) _ (needs_err P (version_of t) (fault NoVersion 0) (λ none. inl refl)) (λ version version_is.
    then_err {A = Unit {0}} {B = Head} P (refuses long (fault HeadTooLong 0)) _ (refuses_err P long (fault HeadTooLong 0) (inl refl)) (λ u passed.
    then_err {A = ℕ} {B = Head} P (needs (head_len t) (fault Truncated (length t))) _ (needs_err P (head_len t) (fault Truncated (length t)) (λ none. inr (cut_short t (passes long (fault HeadTooLong 0) u passed) none))) (λ len len_is.
    then_err {A = List Pair} {B = Head} P (fields_or_line (area_of (slice_range t 10 (len - 2)))) _ (fields_err P (area_of (slice_range t 10 (len - 2))) (λ at. inl refl)) (λ fields fields_is.
    then_err {A = Unit {0}} {B = Head} P (refuses (nat_lt max_head (canonical_len version fields)) (fault HeadTooLong 0)) _
    (refuses_err P (nat_lt max_head (canonical_len version fields)) (fault HeadTooLong 0) (inl refl)) (λ v v_is.
    then_err {A = ℕ} {B = Head} P (at_front (block_len fields)) _ (at_front_err t (block_len fields) (block_len_err fields)) (λ n n_is.
    then_err {A = Unit {0}} {B = Head} P (accepts (head_fault fields)) _ (accepts_err t (head_fault fields) (λ kind found. of_head_settled kind (head_kind fields kind found))) (λ w w_is. tt)))))))

by_err : (P : Fault → Type 0) (r : Result Head Fault) (f : Fault) → IfErr r P → r ≡ Err f → P f
by_err P (Ok x) f err same = absurd (cc same)
by_err P (Err e) f err same = let e_is : e ≡ f = cc same in subst P e_is err

head_cases : (t : List ℕ) (f : Fault) → head_of head_fault t ≡ Err f → HeadFaultOf t f
head_cases t f is = by_err (HeadFaultOf t) (head_of head_fault t) f (head_err t) is

settled_not : (kind : FaultKind) → is_settled kind ≡ true → (kind ≢ Truncated) × (kind ≢ Read) × (kind ≢ Memory)
settled_not kind is =
    let settled : (k : FaultKind) → is_settled k ≡ false → kind ≢ k = λ k no same. let bad : false ≡ true = sym no ∙ sym (ap is_settled same) ∙ is in cc bad in
    (settled Truncated refl, settled Read refl, settled Memory refl)

-- a head that is cut is shorter than a head may be, and cut off
pub head_cut : (t : List ℕ) (f : Fault) → head_of head_fault t ≡ Err f → f.kind ≡ Truncated → IsHeadCut t f
head_cut t f is cut = ⊎_elim
    (λ settled. absurd ((settled_not f.kind settled).0 cut))
    (λ (short : IsHeadCut t f). short)
    (head_cases t f is)

pub head_not_read : (t : List ℕ) (f : Fault) → head_of head_fault t ≡ Err f → (f.kind ≢ Read) × (f.kind ≢ Memory)
head_not_read t f is = ⊎_elim
    (λ settled. ((settled_not f.kind settled).1, (settled_not f.kind settled).2))
    (λ (short : IsHeadCut t f). let k : f.kind ≡ Truncated = ap (λ (g : Fault). g.kind) short.is in
    ((λ read. let bad : Truncated ≡ Read = sym k ∙ read in cc bad), λ memory. let bad : Truncated ≡ Memory = sym k ∙ memory in cc bad))
    (head_cases t f is)

misses : (kind : FaultKind) (at : ℕ) (bytes : List ℕ) (f : Fault) → kind ≢ Read → kind ≢ Memory → IsFaultAt at (drop at (near bytes)) f → MissesBy kind at bytes f
misses Read at bytes f read memory is = absurd (read refl)
misses Memory at bytes f read memory is = absurd (memory refl)
misses kind at bytes f read memory is = is

-- the fault of the record at an offset, by what is shown of it
pub shown_fault : (bytes : List ℕ) (at : ℕ) (w : Shown) (f : Fault) → w.begin ≤ at → at ≤ length (near bytes) → Shows bytes w → record_of head_fault (drop (at - w.begin) w.bytes) ≡ Err f → (f.kind ≢ Truncated) ⊎ (w.is_last ≡ true)
    → f.kind ≢ Read → f.kind ≢ Memory → MissesBy f.kind at bytes (following at f)
shown_fault bytes at w f before there shows bad settled read memory = misses f.kind at bytes (following at f) read memory (
  f,
  ⊎_elim
      (λ other. ap (record_of head_fault) (shown_front bytes at w before there shows) ∙ faults_are_stable-record head_fault (drop (at - w.begin) w.bytes) (drop (length (drop (at - w.begin) w.bytes)) (drop at (near bytes))) f bad other)
      (λ last. ap (record_of head_fault) (shown_all bytes at w before there shows last) ∙ bad)
      settled,
  refl,
)

-- why no head was read
head_misses : (kind : FaultKind) (bytes : List ℕ) (at : ℕ) (w : Shown) (f : Fault) → f.kind ≡ kind → w.begin ≤ at → at ≤ length (near bytes) → Shows bytes w → HeadMisses kind (drop (at - w.begin) w.bytes) f → (f.kind ≢ Truncated) ⊎ (w.is_last ≡ true)
    → MissesBy kind at bytes (following at f)
head_misses Memory bytes at w f is before there shows (front, some) settled = (ap (λ n. at + n) front ∙ (let e : at + 0 ≡ at = omega arith in e), omega (arith, shown_within bytes at w before there shows, some))
head_misses Read bytes at w f is before there shows bad settled = absurd ((head_not_read (drop (at - w.begin) w.bytes) f bad.reads).0 is)
head_misses kind bytes at w f is before there shows bad settled =
    let not_these = head_not_read (drop (at - w.begin) w.bytes) f bad.reads in
    subst (λ k. MissesBy k at bytes (following at f)) is (shown_fault bytes at w f before there shows (headless (drop (at - w.begin) w.bytes) f bad.reads) settled not_these.0 not_these.1)

pub misses_head : (bytes : List ℕ) (at : ℕ) (w : Shown) (f : Fault) → w.begin ≤ at → at ≤ length (near bytes) → Shows bytes w → HeadMisses f.kind (drop (at - w.begin) w.bytes) f → (f.kind ≢ Truncated) ⊎ (w.is_last ≡ true)
    → MissesBy f.kind at bytes (following at f)
misses_head bytes at w f before there shows bad settled = head_misses f.kind bytes at w f refl before there shows bad settled

-- a head that is cut
pub cut_head : (t : List ℕ) (f : Fault) → HeadMisses f.kind t f → f.kind ≡ Truncated → IsHeadCut t f
cut_head t f bad cut = head_cut t f (subst (λ k. HeadMisses k t f) cut bad).reads cut

pub cut_off : (t : List ℕ) (f : Fault) → record_of head_fault t ≡ Err f → f ≡ fault Truncated (length t) → IsTorn t
cut_off t f bad is = inr (bad ∙ ap Err is)

-- a record that is closed or isn't, by its end
pub closed_fault_kind : (end : ℕ) (t : List ℕ) (f : Fault) → closed_at end t ≡ Err f → (f.kind ≢ Read) × (f.kind ≢ Memory)
closed_fault_kind end t f bad = ⊎_elim
    (λ (ends : f ≡ fault End end). let k : f.kind ≡ End = ap (λ (g : Fault). g.kind) ends in
    ((λ read. let no : End ≡ Read = sym k ∙ read in cc no), λ memory. let no : End ≡ Memory = sym k ∙ memory in cc no))
    (λ (cut : f ≡ fault Truncated (length t)). let k : f.kind ≡ Truncated = ap (λ (g : Fault). g.kind) cut in
    ((λ read. let no : Truncated ≡ Read = sym k ∙ read in cc no), λ memory. let no : Truncated ≡ Memory = sym k ∙ memory in cc no))
    (closed_cases end t f bad)

pub closed_cut : (end : ℕ) (t : List ℕ) (f : Fault) → closed_at end t ≡ Err f → f.kind ≡ Truncated → f ≡ fault Truncated (length t)
closed_cut end t f bad cut = ⊎_elim
    (λ (ends : f ≡ fault End end). absurd (let no : End ≡ Truncated = sym (ap (λ (g : Fault). g.kind) ends) ∙ cut in cc no))
    (λ (is : f ≡ fault Truncated (length t)). is)
    (closed_cases end t f bad)

-- how many reads a window may have been given besides those by which it has gone on
abbrev pub slack : Bool → ℕ
slack true = 1
slack false = 0

abbrev pub ahead : Bool → ℕ
ahead true = 0
ahead false = 1

-- what a judgement adds to a head that framing has read
judged : Head → Result Head Fault
judged head = accepts (head_fault head.fields) >>= λ _. Ok head

carried : {A B C : Type 0} (r : Result A Fault) (f : A → Result B Fault) (k : B → Result C Fault) (g : A → Result C Fault) → ((x : A) → g x ≡ (f x >>= k)) → (r >>= g) ≡ ((r >>= f) >>= k)
carried (Ok x) f k g same = same x
carried (Err z) f k g same = refl

head_judged : (t : List ℕ) → head_of head_fault t ≡ (head_of any_fields t >>= judged)
unfolding head_of judged
head_judged t =
    carried (needs (version_of t) (fault NoVersion 0)) _ judged _
    (λ version. carried (refuses (is_none (head_len t) && nat_le max_head (length t)) (fault HeadTooLong 0)) _ judged _
    (λ _. carried (needs (head_len t) (fault Truncated (length t))) _ judged _
    (λ len. carried (fields_or_line (area_of (slice_range t 10 (len - 2)))) _ judged _
    (λ fields. carried (refuses (nat_lt max_head (canonical_len version fields)) (fault HeadTooLong 0)) _ judged _
    (λ _. carried (at_front (block_len fields)) _ judged _
    (λ n. refl))))))

pub judged_good : (t : List ℕ) (head : Head) → head_of any_fields t ≡ Ok head → head_fault head.fields ≡ None → head_of head_fault t ≡ Ok head
unfolding judged
judged_good t head reads good = head_judged t ∙ ap (λ (r : Result Head Fault). r >>= judged) reads ∙ (rw good refl)

pub judged_bad : (t : List ℕ) (head : Head) (kind : FaultKind) → head_of any_fields t ≡ Ok head → head_fault head.fields ≡ Some kind → head_of head_fault t ≡ Err (fault kind 0)
unfolding judged
judged_bad t head kind reads bad = head_judged t ∙ ap (λ (r : Result Head Fault). r >>= judged) reads ∙ (rw bad refl)

pub unread_head : (t : List ℕ) (f : Fault) → head_of any_fields t ≡ Err f → head_of head_fault t ≡ Err f
unread_head t f bad = head_judged t ∙ ap (λ (r : Result Head Fault). r >>= judged) bad

-- why reading a head failed
head_fails : (kind : FaultKind) (t : List ℕ) (f : Fault) → 0 < length t → OrMemory kind f.offset (head_of any_fields t ≡ Err f) → HeadMisses kind t f
head_fails Memory t f some is = (is, some)
head_fails kind t f some is = record { reads = unread_head t f is }

pub fails_head : (t : List ℕ) (f : Fault) → 0 < length t → OrMemory f.kind f.offset (head_of any_fields t ≡ Err f) → HeadMisses f.kind t f
fails_head t f some is = head_fails f.kind t f some is

bad_head : (kind : FaultKind) (t : List ℕ) (f : Fault) → is_of_head kind ≡ true → head_of head_fault t ≡ Err f → HeadMisses kind t f
bad_head Memory t f of is = absurd (cc of)
bad_head kind t f of is = record { reads = is }

pub refused_head : (t : List ℕ) (head : Head) (kind : FaultKind) → head_of any_fields t ≡ Ok head → head_fault head.fields ≡ Some kind → HeadMisses kind t (fault kind 0)
refused_head t head kind reads bad = bad_head kind t (fault kind 0) (head_kind head.fields kind bad) (judged_bad t head kind reads bad)

version_nil : version_of [] ≡ Some V1_1
unfolding version_of
version_nil = refl

nil_of : (t : List ℕ) → length t ≡ 0 → t ≡ []
nil_of [] is = refl
nil_of (b ∷ bs) is = absurd (let no : suc (length bs) ≡ 0 = is in omega (arith, no))

pub empty_misses : (t : List ℕ) (f : Fault) → length t ≡ 0 → f ≡ fault Truncated 0 → HeadMisses f.kind t f
empty_misses t f none is =
    let nil = nil_of t none in
    let bad : head_of head_fault [] ≡ Err (fault Truncated 0) = unfinished head_fault [] V1_1 version_nil empty_head refl in
    let P : Fault → Type 0 = λ g. HeadMisses g.kind t g in
    subst P (sym is) (record { reads = ap (head_of head_fault) nil ∙ bad })

pub quick_judged : (bytes shown : List ℕ) (at : ℕ) (w : Shown) (r : Record) (n : ℕ) → shown ≡ drop (at - w.begin) w.bytes → n ≤ length shown → Spells r (take n shown) → head_fault r.fields ≡ None → w.begin ≤ at → at ≤ length (near bytes)
    → Shows bytes w → (s : Record) × (record_of head_fault (drop at (near bytes)) ≡ Ok (s, n))
quick_judged bytes shown at w r n is within spelled good before there shows =
    let rest = drop (length (drop (at - w.begin) w.bytes)) (drop at (near bytes)) in
    (r, ap (record_of head_fault) (shown_front bytes at w before there shows ∙ ap (λ xs. xs ++ rest) (sym is)) ∙ spelled_record shown rest r n within spelled good)
