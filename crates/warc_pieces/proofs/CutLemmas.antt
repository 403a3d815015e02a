-- A text that ends before the record at its front does.
use Rattle.std.proofs.Common.{◌≡◌, ◌≢◌, ℕ, ◌+◌, ◌<◌, Bool, true, false, ◌==◌, ◌-◌, ◌&&◌, not, nat_le, nat_lt, List, ◌++◌, length, take, drop, append_assoc, Option, Some, None, Result, Ok, Err, IfErr, if◌then◌else◌, refl, sym, ap, subst, ◌∙◌, arith, inl, inr, ◌⊎◌, ⊎_elim}
use Rattle.std.specs.Prelude.{is_none}
use Rattle.std.specs.List.{slice_range}
use Rattle.std.proofs.lemmas.List.{take-append-drop, length-take, length-take-le}
use Rattle.warc_field.specs.Area.{Pair, area_of, count_of, first_value}
use Rattle.warc_field.specs.Lines.{crlf}
use Rattle.warc_frame.specs.Names.{content_length}
use Rattle.warc_frame.specs.Reading.{◌>>=◌, Head, accepts, at_front, begins, block_at, fault, fields_or_line, head_len, head_of, needs, record_of, refuses, version_of}
use Rattle.warc_frame.specs.Record.{Record, block_len, block_number, canonical_len, max_head, or_length}
use Rattle.warc_frame.specs.declared.fault.Fault.{Fault}
use Rattle.warc_frame.specs.declared.fault.FaultKind.{FaultKind}
use Rattle.warc_frame.specs.declared.fault.FaultKind.TheVariants.{Version as NoVersion, End, HeadTooLong, Missing, Repeated, Truncated}
use Rattle.warc_frame.specs.declared.fault.Mandatory.TheVariants.{ContentLength}
use Rattle.warc_frame.specs.declared.version.Version.{Version}
use Rattle.warc_frame.proofs.LawLemmas.{faults_are_stable-record, reading_is_spelling, reading_is_spelling-read}
use Rattle.warc_frame.proofs.RowLemmas.{result_cases}
use Rattle.warc_frame.proofs.SpellLemmas.{ok_parts}
use Rattle.warc_record.specs.Heads.{head_fault}
use Rattle.warc_reading.proofs.KindLemmas.{head_kind, is_of_head}
use Rattle.warc_pieces.specs.Judging.{IsTorn}

-- truncation is reported at the end of the text
abbrev at_end : FaultKind → ℕ → List ℕ → Type 0
at_end Truncated offset t = offset ≡ length t
at_end kind offset t = Unit {0}

abbrev EndsWell : List ℕ → Fault → Type 0
EndsWell t f = at_end f.kind f.offset t

pub then_err : {A B : Type 0} (P : Fault → Type 0) (r : Result A Fault) (f : A → Result B Fault) → IfErr r P → ((x : A) → IfErr (f x) P) → IfErr (r >>= f) P
then_err P (Ok x) f first second = second x
then_err P (Err e) f first second = first

needs_err : {A : Type 0} (P : Fault → Type 0) (o : Option A) (f : Fault) → P f → IfErr (needs o f) P
needs_err P None f is = is
needs_err P (Some x) f is = tt

pub refuses_err : (P : Fault → Type 0) (test : Bool) (f : Fault) → P f → IfErr (refuses test f) P
refuses_err P true f is = is
refuses_err P false f is = tt

fields_err : (t : List ℕ) (r : Result (List Pair) ℕ) → IfErr (fields_or_line r) (EndsWell t)
fields_err t (Ok fields) = tt
fields_err t (Err at) = tt

-- a kind of fault other than truncation
abbrev IsOther : List ℕ → FaultKind → Type 0
IsOther t kind = at_end kind 0 t

pub if_err : {A E : Type 0} (P : E → Type 0) (test : Bool) (x y : Result A E) → IfErr x P → IfErr y P → IfErr (if test then x else y) P
if_err P true x y first second = first
if_err P false x y first second = second

or_length_err : (t : List ℕ) (o : Option ℕ) → IfErr (or_length o) (IsOther t)
or_length_err t None = tt
or_length_err t (Some n) = tt

block_len_err : (t : List ℕ) (fields : List Pair) → IfErr (block_len fields) (IsOther t)
unfolding block_len
block_len_err t fields =
    let last = or_length (block_number (first_value content_length fields)) in
    let second : Result ℕ FaultKind = if nat_le 2 (count_of content_length fields) then Err (Repeated ContentLength) else last in
    if_err {A = ℕ} {E = FaultKind} (IsOther t) (count_of content_length fields == 0) (Err (Missing ContentLength)) second tt
    (if_err {A = ℕ} {E = FaultKind} (IsOther t) (nat_le 2 (count_of content_length fields)) (Err (Repeated ContentLength)) last tt
    (or_length_err t (block_number (first_value content_length fields))))

at_front_err : (t : List ℕ) (r : Result ℕ FaultKind) → IfErr r (IsOther t) → IfErr (at_front r) (EndsWell t)
at_front_err t (Ok n) is = tt
at_front_err t (Err kind) is = is

of_head_other : (t : List ℕ) (kind : FaultKind) → is_of_head kind ≡ true → IsOther t kind
of_head_other t Truncated is = absurd (let no : false ≡ true = is in cc)
of_head_other t kind is = tt

accepts_err : (t : List ℕ) (o : Option FaultKind) → ((kind : FaultKind) → o ≡ Some kind → is_of_head kind ≡ true) → IfErr (accepts o) (EndsWell t)
accepts_err t None of = tt
accepts_err t (Some kind) of = of_head_other t kind (of kind refl)

head_err : (t : List ℕ) → IfErr (head_of head_fault t) (EndsWell t)
unfolding head_of
head_err t =
    let P = EndsWell t in
    then_err {A = Version} {B = Head} P (needs (version_of t) (fault NoVersion 0)) _ (needs_err P (version_of t) (fault NoVersion 0) tt) (λ version.
    then_err {A = Unit {0}} {B = Head} P (refuses (is_none (head_len t) && nat_le max_head (length t)) (fault HeadTooLong 0)) _
    (refuses_err P (is_none (head_len t) && nat_le max_head (length t)) (fault HeadTooLong 0) tt) (λ u.
    then_err {A = ℕ} {B = Head} P (needs (head_len t) (fault Truncated (length t))) _ (needs_err P (head_len t) (fault Truncated (length t)) refl) (λ len.
    then_err {A = List Pair} {B = Head} P (fields_or_line (area_of (slice_range t 10 (len - 2)))) _ (fields_err t (area_of (slice_range t 10 (len - 2)))) (λ fields.
    then_err {A = Unit {0}} {B = Head} P (refuses (nat_lt max_head (canonical_len version fields)) (fault HeadTooLong 0)) _
    (refuses_err P (nat_lt max_head (canonical_len version fields)) (fault HeadTooLong 0) tt) (λ v.
    then_err {A = ℕ} {B = Head} P (at_front (block_len fields)) _ (at_front_err t (block_len fields) (block_len_err t fields)) (λ n.
    then_err {A = Unit {0}} {B = Head} P (accepts (head_fault fields)) _ (accepts_err t (head_fault fields) (head_kind fields)) (λ w. tt)))))))

block_err : (place n : ℕ) (t : List ℕ) → IfErr (block_at place n t) (EndsWell t)
unfolding block_at
block_err place n t =
    let P = EndsWell t in
    then_err {A = Unit {0}} {B = List ℕ} P (refuses (not (begins (drop (place + n) t) (crlf ++ crlf))) (fault End (place + n))) _
    (refuses_err P (not (begins (drop (place + n) t) (crlf ++ crlf))) (fault End (place + n)) tt) (λ u.
    then_err {A = Unit {0}} {B = List ℕ} P (refuses (nat_lt (length t) (place + n + 4)) (fault Truncated (length t))) _
    (refuses_err P (nat_lt (length t) (place + n + 4)) (fault Truncated (length t)) refl) (λ v. tt))

record_err : (t : List ℕ) → IfErr (record_of head_fault t) (EndsWell t)
unfolding record_of
record_err t =
    let P = EndsWell t in
    then_err {A = Head} {B = Record × ℕ} P (head_of head_fault t) _ (head_err t) (λ head.
    then_err {A = List ℕ} {B = Record × ℕ} P (block_at head.len head.block_len t) _ (block_err head.len head.block_len t) (λ block. tt))

by_err : (t : List ℕ) (r : Result (Record × ℕ) Fault) (f : Fault) → IfErr r (EndsWell t) → r ≡ Err f → EndsWell t f
by_err t (Ok x) f err same = absurd cc
by_err t (Err e) f err same =
    let e_is : e ≡ f = cc same in
    subst (EndsWell t) e_is err

ends_at : (t : List ℕ) (kind : FaultKind) (offset : ℕ) → kind ≡ Truncated → at_end kind offset t → offset ≡ length t
ends_at t kind offset is at = let P : FaultKind → Type 0 = λ k. at_end k offset t in subst P is at

-- truncation is reported at the end of the text
pub truncated_at : (t : List ℕ) (f : Fault) → record_of head_fault t ≡ Err f → f.kind ≡ Truncated → f.offset ≡ length t
truncated_at t f is cut = ends_at t f.kind f.offset cut (by_err t (record_of head_fault t) f (record_err t) is)

fault_is : (f : Fault) (kind : FaultKind) (offset : ℕ) → f.kind ≡ kind → f.offset ≡ offset → f ≡ fault kind offset
fault_is f kind offset k o = ap (λ (x : FaultKind). fault x f.offset) k ∙ ap (fault kind) o

-- so a text that is cut off has that fault
pub truncated_is : (t : List ℕ) (f : Fault) → record_of head_fault t ≡ Err f → f.kind ≡ Truncated → record_of head_fault t ≡ Err (fault Truncated (length t))
truncated_is t f is cut =
    is ∙ ap Err (fault_is f Truncated (length t) cut (truncated_at t f is cut))

kind_cases : (k : FaultKind) → (k ≡ Truncated) ⊎ (k ≢ Truncated)
kind_cases Truncated = inl refl
kind_cases k = inr (λ e. cc)

-- less than a text that is cut off is cut off
pub cut_again : (t : List ℕ) (m : ℕ) → record_of head_fault t ≡ Err (fault Truncated (length t)) → record_of head_fault (take m t) ≡ Err (fault Truncated (length (take m t)))
cut_again t m is =
    let cut = take m t in
    let whole : t ≡ cut ++ drop m t = sym (take-append-drop m t) in
    ⊎_elim
    (λ (good : (x : Record × ℕ) × (record_of head_fault cut ≡ Ok x)).
    let k = good.0.1 in
    let found = reading_is_spelling head_fault cut good.0.0 k good.1 in
    let again : cut ++ drop m t ≡ take k cut ++ (drop k cut ++ drop m t) =
    ap (λ c. c ++ drop m t) (sym (take-append-drop k cut)) ∙ append_assoc (take k cut) (drop k cut) (drop m t) in
    let read = reading_is_spelling-read head_fault good.0.0 (take k cut) (drop k cut ++ drop m t) found.1 found.2 in
    let no : ◌≡◌ {A = Result (Record × ℕ) Fault} (Err (fault Truncated (length t))) (Ok (good.0.0, length (take k cut))) = sym is ∙ ap (record_of head_fault) (whole ∙ again) ∙ read in
    absurd (cc no))
    (λ (bad : (f : Fault) × (record_of head_fault cut ≡ Err f)). ⊎_elim
    (λ (truncated : bad.0.kind ≡ Truncated). truncated_is cut bad.0 bad.1 truncated)
    (λ (other : bad.0.kind ≢ Truncated).
    let stays = faults_are_stable-record head_fault cut (drop m t) bad.0 bad.1 other in
    let both : ◌≡◌ {A = Result (Record × ℕ) Fault} (Err (fault Truncated (length t))) (Err bad.0) = sym is ∙ ap (record_of head_fault) whole ∙ stays in
    let same : fault Truncated (length t) ≡ bad.0 = cc both in
    absurd (other (sym (ap (λ (f : Fault). f.kind) same))))
    (kind_cases bad.0.kind))
    (result_cases (record_of head_fault cut))

-- less than the good record at the front of a text is cut off
pub cut_record : (t : List ℕ) (r : Record) (n m : ℕ) → record_of head_fault t ≡ Ok (r, n) → m < n → IsTorn (take m t)
cut_record t r n m is less =
    let cut = take m t in
    let whole : t ≡ cut ++ drop m t = sym (take-append-drop m t) in
    ⊎_elim
    (λ (good : (x : Record × ℕ) × (record_of head_fault cut ≡ Ok x)).
    let k = good.0.1 in
    let found = reading_is_spelling head_fault cut good.0.0 k good.1 in
    let short : length (take k cut) ≡ k = length-take-le k cut found.0 in
    let again : cut ++ drop m t ≡ take k cut ++ (drop k cut ++ drop m t) =
    ap (λ c. c ++ drop m t) (sym (take-append-drop k cut)) ∙ append_assoc (take k cut) (drop k cut) (drop m t) in
    let read = reading_is_spelling-read head_fault good.0.0 (take k cut) (drop k cut ++ drop m t) found.1 found.2 in
    let same = ok_parts r good.0.0 n (length (take k cut)) (sym is ∙ ap (record_of head_fault) (whole ∙ again) ∙ read) in
    absurd (omega (arith, short, same.1, found.0, length-take m t, less)))
    (λ (bad : (f : Fault) × (record_of head_fault cut ≡ Err f)). ⊎_elim
    (λ (truncated : bad.0.kind ≡ Truncated). inr (truncated_is cut bad.0 bad.1 truncated))
    (λ (other : bad.0.kind ≢ Truncated).
    let stays = faults_are_stable-record head_fault cut (drop m t) bad.0 bad.1 other in
    let no : ◌≡◌ {A = Result (Record × ℕ) Fault} (Ok (r, n)) (Err bad.0) = sym is ∙ ap (record_of head_fault) whole ∙ stays in
    absurd (cc))
    (kind_cases bad.0.kind))
    (result_cases (record_of head_fault cut))
