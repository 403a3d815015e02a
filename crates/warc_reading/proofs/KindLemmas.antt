-- The faults of bytes and of heads are no faults of a source.
use Rattle.std.proofs.Common.{◌≡◌, ◌≢◌, ℕ, ◌+◌, Bool, true, false, true≢false, ◌==◌, ◌-◌, ◌&&◌, not, nat_le, nat_lt, is_none, slice_range, List, ◌++◌, length, drop, Option, Some, None, Result, Ok, Err, IfErr, if◌then◌else◌, refl, sym, ap, ◌∙◌}
use Rattle.std.specs.Option.{option_map_or, option_or}
use Rattle.warc_field.specs.Area.{Pair, area_of, count_of, first_value}
use Rattle.warc_field.specs.Lines.{crlf}
use Rattle.warc_frame.specs.Faults.{HasFault, limited, or_too_long}
use Rattle.warc_frame.specs.FaultText.{name_of}
use Rattle.warc_frame.specs.Reading.{◌>>=◌, Head, any_fields, at_front, begins, block_at, fault, fields_or_line, head_len, head_of, needs, record_of, refuses, version_of}
use Rattle.warc_frame.specs.Names.{content_length}
use Rattle.warc_frame.specs.Record.{Record, block_len, block_number, canonical_len, max_archive, max_head, or_length}
use Rattle.warc_frame.specs.declared.fault.Fault.{Fault}
use Rattle.warc_frame.specs.declared.fault.FaultKind.{FaultKind}
use Rattle.warc_frame.specs.declared.fault.FaultKind.TheVariants.{Version as NoVersion, BadType, Date, End, HeadTooLong, Id, Missing, Read, Repeated, TooLong, Truncated}
use Rattle.warc_frame.specs.declared.fault.Mandatory.{Mandatory}
use Rattle.warc_frame.specs.declared.fault.Mandatory.TheVariants.{ContentLength, «Type», RecordId, Date as DateField}
use Rattle.warc_record.specs.Heads.{count_fault, date_fault, head_fault, id_fault, is_date, type_fault, value_fault}
use Rattle.warc_record.specs.Ids.{is_id}
use Rattle.warc_field.specs.Text.{is_name}
use Rattle.warc_frame.specs.declared.version.Version.{Version}

-- a fault that reading bytes gives, and not a source
abbrev is_of_bytes : FaultKind → Bool
is_of_bytes Read = false
is_of_bytes TooLong = false
is_of_bytes kind = true

abbrev IsOfBytes : Fault → Type 0
IsOfBytes f = is_of_bytes f.kind ≡ true

then_err : {A B : Type 0} (r : Result A Fault) (f : A → Result B Fault) → IfErr r IsOfBytes → ((x : A) → IfErr (f x) IsOfBytes) → IfErr (r >>= f) IsOfBytes
then_err (Ok x) f first second = second x
then_err (Err e) f first second = first

needs_err : {A : Type 0} (o : Option A) (f : Fault) → IsOfBytes f → IfErr (needs o f) IsOfBytes
needs_err None f is = is
needs_err (Some x) f is = tt

refuses_err : (test : Bool) (f : Fault) → IsOfBytes f → IfErr (refuses test f) IsOfBytes
refuses_err test f is = elim test as (λ b. IfErr (refuses b f) IsOfBytes) [ true ↦ is | false ↦ tt ]

fields_err : (r : Result (List Pair) ℕ) → IfErr (fields_or_line r) IsOfBytes
fields_err (Ok fields) = tt
fields_err (Err at) = refl

or_length_err : (o : Option ℕ) → IfErr (or_length o) (λ kind. is_of_bytes kind ≡ true)
or_length_err None = refl
or_length_err (Some n) = tt

if_err : {A E : Type 0} (P : E → Type 0) (test : Bool) (x y : Result A E) → IfErr x P → IfErr y P → IfErr (if test then x else y) P
if_err P true x y first second = first
if_err P false x y first second = second

block_len_err : (fields : List Pair) → IfErr (block_len fields) (λ kind. is_of_bytes kind ≡ true)
unfolding block_len
block_len_err fields =
    let last = or_length (block_number (first_value content_length fields)) in
    let second : Result ℕ FaultKind = if nat_le 2 (count_of content_length fields) then Err (Repeated ContentLength) else last in
    if_err {A = ℕ} {E = FaultKind} (λ kind. is_of_bytes kind ≡ true) (count_of content_length fields == 0) (Err (Missing ContentLength)) second refl
    (if_err {A = ℕ} {E = FaultKind} (λ kind. is_of_bytes kind ≡ true) (nat_le 2 (count_of content_length fields)) (Err (Repeated ContentLength)) last refl
    (or_length_err (block_number (first_value content_length fields))))

at_front_err : (r : Result ℕ FaultKind) → IfErr r (λ kind. is_of_bytes kind ≡ true) → IfErr (at_front r) IsOfBytes
at_front_err (Ok n) is = tt
at_front_err (Err kind) is = is

head_err : (t : List ℕ) → IfErr (head_of any_fields t) IsOfBytes
unfolding head_of
head_err t =
    then_err {A = Version} {B = Head} (needs (version_of t) (fault NoVersion 0)) _ (needs_err (version_of t) (fault NoVersion 0) refl) (λ version.
    then_err {A = Unit {0}} {B = Head} (refuses (is_none (head_len t) && nat_le max_head (length t)) (fault HeadTooLong 0)) _
    (refuses_err (is_none (head_len t) && nat_le max_head (length t)) (fault HeadTooLong 0) refl) (λ u.
    then_err {A = ℕ} {B = Head} (needs (head_len t) (fault Truncated (length t))) _ (needs_err (head_len t) (fault Truncated (length t)) refl) (λ len.
    then_err {A = List Pair} {B = Head} (fields_or_line (area_of (slice_range t 10 (len - 2)))) _ (fields_err (area_of (slice_range t 10 (len - 2)))) (λ fields.
    then_err {A = Unit {0}} {B = Head} (refuses (nat_lt max_head (canonical_len version fields)) (fault HeadTooLong 0)) _
    (refuses_err (nat_lt max_head (canonical_len version fields)) (fault HeadTooLong 0) refl) (λ v.
    then_err {A = ℕ} {B = Head} (at_front (block_len fields)) _ (at_front_err (block_len fields) (block_len_err fields)) (λ n. tt))))))

block_err : (place n : ℕ) (t : List ℕ) → IfErr (block_at place n t) IsOfBytes
unfolding block_at
block_err place n t =
    then_err {A = Unit {0}} {B = List ℕ} (refuses (not (begins (drop (place + n) t) (crlf ++ crlf))) (fault End (place + n))) _
    (refuses_err (not (begins (drop (place + n) t) (crlf ++ crlf))) (fault End (place + n)) refl) (λ u.
    then_err {A = Unit {0}} {B = List ℕ} (refuses (nat_lt (length t) (place + n + 4)) (fault Truncated (length t))) _
    (refuses_err (nat_lt (length t) (place + n + 4)) (fault Truncated (length t)) refl) (λ v. tt))

record_err : (t : List ℕ) → IfErr (record_of any_fields t) IsOfBytes
unfolding record_of
record_err t =
    then_err {A = Head} {B = Record × ℕ} (head_of any_fields t) _ (head_err t) (λ head.
    then_err {A = List ℕ} {B = Record × ℕ} (block_at head.len head.block_len t) _ (block_err head.len head.block_len t) (λ block. tt))

by_err : (r : Result (Record × ℕ) Fault) (f : Fault) → IfErr r IsOfBytes → r ≡ Err f → is_of_bytes f.kind ≡ true
by_err (Ok x) f err same = cc same
by_err (Err e) f err same =
    let e_is : e ≡ f = cc same in
    sym (ap (λ (g : Fault). is_of_bytes g.kind) e_is) ∙ err

of_bytes : (t : List ℕ) (f : Fault) → record_of any_fields t ≡ Err f → is_of_bytes f.kind ≡ true
of_bytes t f is = by_err (record_of any_fields t) f (record_err t) is

kind_not_read : (kind : FaultKind) → is_of_bytes kind ≡ true → kind ≢ Read
kind_not_read kind of read = true≢false (sym of ∙ ap is_of_bytes read)

found_kind : (t : List ℕ) (q : ℕ) (g : Fault) → HasFault any_fields q t (Some g) → is_of_bytes g.kind ≡ true
found_kind t q g (some, h, read, is) = ap (λ (x : Fault). is_of_bytes x.kind) is ∙ of_bytes t h read

long_kind : (kind : FaultKind) (offset : ℕ) (f : Fault) → is_of_bytes kind ≡ true → or_too_long kind (fault kind offset) ≡ f → f.kind ≢ Read
long_kind Truncated offset f of is read = cc (ap (λ (x : Fault). x.kind) is ∙ read)
long_kind kind offset f of is read = kind_not_read kind of (ap (λ (x : Fault). x.kind) is ∙ read)

-- so is the frame fault of bytes, as far as an archive goes
pub limited_kind : (goes : Bool) (found : Option Fault) (t : List ℕ) (q : ℕ) (f : Fault) → HasFault any_fields q t found → limited goes found ≡ Some f → f.kind ≢ Read
limited_kind false None t q f has is read = cc is
limited_kind true None t q f has is read =
    let same : fault TooLong max_archive ≡ f = cc is in
    cc (ap (λ (x : Fault). x.kind) same ∙ read)
limited_kind false (Some g) t q f has is read =
    let same : g ≡ f = cc is in
    kind_not_read g.kind (found_kind t q g has) (ap (λ (x : Fault). x.kind) same ∙ read)
limited_kind true (Some g) t q f has is read =
    let same : or_too_long g.kind g ≡ f = cc is in
    long_kind g.kind g.offset f (found_kind t q g has) same read

-- a fault of a head
abbrev pub is_of_head : FaultKind → Bool
is_of_head (Missing field) = true
is_of_head (Repeated field) = true
is_of_head BadType = true
is_of_head Id = true
is_of_head Date = true
is_of_head kind = false

abbrev AllOfHead : Option FaultKind → Type 0
AllOfHead None = Unit {0}
AllOfHead (Some kind) = is_of_head kind ≡ true

if_of : (test : Bool) (x y : Option FaultKind) → AllOfHead x → AllOfHead y → AllOfHead (if test then x else y)
if_of true x y first second = first
if_of false x y first second = second

or_of : (x y : Option FaultKind) → AllOfHead x → AllOfHead y → AllOfHead (option_or x y)
or_of None y first second = second
or_of (Some kind) y first second = first

count_of_head : (field : Mandatory) (fields : List Pair) → AllOfHead (count_fault field fields)
count_of_head field fields =
    let again : Option FaultKind = if nat_lt 1 (count_of (name_of field) fields) then Some (Repeated field) else None in
    if_of (is_none (first_value (name_of field) fields)) (Some (Missing field)) again refl
    (if_of (nat_lt 1 (count_of (name_of field) fields)) (Some (Repeated field)) None refl tt)

value_of_head : (field : Mandatory) (reads : List ℕ → Bool) (kind : FaultKind) (fields : List Pair) → is_of_head kind ≡ true → AllOfHead (value_fault field reads kind fields)
value_of_head field reads kind fields of = if_of (option_map_or reads (first_value (name_of field) fields) false) None (Some kind) tt of

all_of_head : (fields : List Pair) → AllOfHead (head_fault fields)
all_of_head fields =
    or_of (type_fault fields) (option_or (id_fault fields) (date_fault fields))
    (or_of (count_fault «Type» fields) (value_fault «Type» is_name BadType fields) (count_of_head «Type» fields) (value_of_head «Type» is_name BadType fields refl))
    (or_of (id_fault fields) (date_fault fields)
    (or_of (count_fault RecordId fields) (value_fault RecordId is_id Id fields) (count_of_head RecordId fields) (value_of_head RecordId is_id Id fields refl))
    (or_of (count_fault DateField fields) (value_fault DateField is_date Date fields) (count_of_head DateField fields) (value_of_head DateField is_date Date fields refl)))

by_head : (o : Option FaultKind) (kind : FaultKind) → AllOfHead o → o ≡ Some kind → is_of_head kind ≡ true
by_head None kind all is = cc is
by_head (Some k) kind all is = let same : k ≡ kind = cc is in ap is_of_head (sym same) ∙ all

pub head_kind : (fields : List Pair) (kind : FaultKind) → head_fault fields ≡ Some kind → is_of_head kind ≡ true
head_kind fields kind is = by_head (head_fault fields) kind (all_of_head fields) is
