-- Where no good record begins within a head: by what is wrong with the record there.
use Rattle.std.proofs.Common.{◌≡◌, ℕ, ◌+◌, ◌-◌, ◌<◌, ◌≤◌, Bool, true, false, not, ◌==◌, nat_le, nat_lt, List, ◌∷◌, ◌++◌, length, take, drop, append_assoc, length-append, Option, Some, None, Result, Ok, Err, IfErr, if◌then◌else◌, refl, sym, ap, subst, ◌∙◌, arith, inl, inr, ◌⊎◌, ⊎_elim}
use Rattle.std.specs.Prelude.{slice_range}
use Rattle.std.proofs.lemmas.List.{length-take-le, take-append-drop}
use Rattle.warc_field.specs.Area.{Pair, area_of, count_of, first_value}
use Rattle.warc_field.specs.Lines.{crlf}
use Rattle.warc_frame.specs.Reading.{◌>>=◌, Head, accepts, at_front, begins, block_at, fault, fields_or_line, head_len, head_of, record_of, refuses, version_of}
use Rattle.warc_frame.specs.Record.{Record, block_len, block_number, canonical_len, head_text, max_head, or_length}
use Rattle.warc_frame.specs.Names.{content_length}
use Rattle.warc_frame.specs.Spelling.{Spells}
use Rattle.warc_frame.specs.declared.fault.Fault.{Fault}
use Rattle.warc_frame.specs.declared.fault.FaultKind.{FaultKind}
use Rattle.warc_frame.specs.declared.fault.FaultKind.TheVariants.{HeadTooLong, Field, Missing, Repeated, End, Truncated}
use Rattle.warc_frame.specs.declared.fault.Mandatory.TheVariants.{ContentLength}
use Rattle.warc_frame.specs.declared.version.Version.{Version}
use Rattle.warc_frame.proofs.CanonicalLemmas.{head_size}
use Rattle.warc_frame.proofs.HeadLemmas.{head_within}
use Rattle.warc_frame.proofs.SpellLemmas.{block-read}
use Rattle.warc_frame.proofs.StableLemmas.{record_of-is, after_head}
use Rattle.warc_reading.specs.Fronts.{BeginsWithNone}
use Rattle.warc_reading.proofs.KindLemmas.{head_kind, is_of_head}
use Rattle.warc_pieces.specs.Skip.{IsShared}
use Rattle.warc_record.specs.Heads.{head_fault}
use Rattle.warc_record.proofs.GoodLemmas.{good_heads_have_no_fault}
use Rattle.warc_pieces.proofs.CutLemmas.{if_err, refuses_err, then_err}
use Rattle.warc_pieces.proofs.InsideLemmas.{IsInside, inside}
use Rattle.warc_pieces.proofs.SharedLemmas.{IsRepeated, faults_shared, length_shared}
use Rattle.warc_pieces.proofs.SuffixLemmas.{last_fields, bad_before}

either : (v : Bool) → (v ≡ true) ⊎ (v ≡ false)
either true = inl refl
either false = inr refl

-- what comes after the fields of a head that ends
unfoldable after_fields : Version → ℕ → List Pair → Result Head Fault
after_fields v len fields =
    refuses (nat_lt max_head (canonical_len v fields)) (fault HeadTooLong 0) >>= λ _.
    at_front (block_len fields) >>= λ n.
    accepts (head_fault fields) >>= λ _.
    Ok (record { version = v; fields = fields; len = len; block_len = n })

head_is : (t : List ℕ) (v : Version) (len : ℕ) → version_of t ≡ Some v → head_len t ≡ Some len → head_of head_fault t ≡ (fields_or_line (area_of (slice_range t 10 (len - 2))) >>= after_fields v len)
unfolding head_of after_fields
head_is t v len version ends = rw (version, ends) refl

record_by : (t : List ℕ) (v : Version) (len : ℕ) (area : Result (List Pair) ℕ) → version_of t ≡ Some v → head_len t ≡ Some len → area_of (slice_range t 10 (len - 2)) ≡ area
    → record_of head_fault t ≡ ((fields_or_line area >>= after_fields v len) >>= after_head t)
record_by t v len area version ends is =
    record_of-is head_fault t ∙ ap (λ r. r >>= after_head t) (head_is t v len version ends)
    ∙ ap (λ r. (fields_or_line r >>= after_fields v len) >>= after_head t) is

pub unshared_at : {X : Type 0} (kind : FaultKind) (offset : ℕ) (g : Fault) (r : Result X Fault) → r ≡ Err g → r ≡ Err (fault kind offset) → IsShared g.kind → IsShared kind
unshared_at {X} kind offset g r one two shared =
    let e : ◌≡◌ {A = Result X Fault} (Err g) (Err (fault kind offset)) = sym one ∙ two in
    let same : g ≡ fault kind offset = cc in
    subst IsShared (ap (λ (f : Fault). f.kind) same) shared

pub unshared : {X : Type 0} (kind : FaultKind) (g : Fault) (r : Result X Fault) → r ≡ Err g → r ≡ Err (fault kind 0) → IsShared g.kind → IsShared kind
unshared kind g r one two shared = unshared_at kind 0 g r one two shared

-- the block of a record that begins within a head is closed, and so is the block of the head if it is as long
closed_inside : (t : List ℕ) (len k : ℕ) (r : Record) (text more : List ℕ) (spelled : Spells r text) → k ≤ length t → len ≡ k + length spelled.area + 12 → drop k t ≡ text ++ more
    → block_at len (length r.block) t ≡ Ok r.block
closed_inside t len k r text more spelled within size whole =
    let head = take k t ++ head_text r.version spelled.area in
    let parts : t ≡ head ++ (r.block ++ 13 ∷ 10 ∷ 13 ∷ 10 ∷ more) =
    sym (take-append-drop k t) ∙ ap (λ xs. take k t ++ xs) (whole ∙ ap (λ x. x ++ more) spelled.text_is) ∙ simp append_assoc in
    let long : len ≡ length head = omega (arith, size, length-append (take k t) (head_text r.version spelled.area), length-take-le k t within, head_size r.version spelled.area) in
    ap (block_at len (length r.block)) parts ∙ block-read len (length r.block) head r.block more long refl

record_ok : (t : List ℕ) (head : Head) (block : List ℕ) → block_at head.len head.block_len t ≡ Ok block
    → after_head t head ≡ Ok (record { version = head.version; fields = head.fields; block = block }, head.len + head.block_len + 4)
unfolding after_head
record_ok t head block is = rw is refl

ok_or_err : {X : Type 0} (r : Result X Fault) (x : X) (g : Fault) → r ≡ Err g → r ≡ Ok x → ⊥
ok_or_err {X} r x g one two = let no : ◌≡◌ {A = Result X Fault} (Err g) (Ok x) = sym one ∙ two in absurd cc

module _ (t : List ℕ) (v : Version) (len n : ℕ) (fs : List Pair) (block : List ℕ) (g : Fault)
    (shared : IsShared g.kind)
    (bad : (((fields_or_line (Ok fs)) >>= after_fields v len) >>= after_head t) ≡ Err g)
    (closed : block_at len n t ≡ Ok block) where
  -- its number and its fields are good too, or one of the four is repeated
  refuted : (block_len fs ≡ Ok n) ⊎ (block_len fs ≡ Err (Repeated ContentLength)) → (head_fault fs ≡ None) ⊎ IsRepeated (head_fault fs) → ⊥
  unfolding after_fields IsRepeated
  refuted number judged = ⊎_elim
      (λ (long : nat_lt max_head (canonical_len v fs) ≡ true). unshared HeadTooLong g _ bad (rw long refl) shared)
      (λ (short : nat_lt max_head (canonical_len v fs) ≡ false). ⊎_elim
      (λ (is : block_len fs ≡ Ok n). ⊎_elim
      (λ (none : head_fault fs ≡ None).
      ok_or_err (((fields_or_line (Ok fs)) >>= after_fields v len) >>= after_head t) (record { version = v; fields = fs; block = block }, len + n + 4) g bad
      (rw (short, is, none) (record_ok t (record { version = v; fields = fs; len = len; block_len = n }) block closed)))
      (λ (some : IsRepeated (head_fault fs)). unshared (Repeated some.0) g _ bad (rw (short, is, some.1) refl) shared)
      judged)
      (λ (more : block_len fs ≡ Err (Repeated ContentLength)). unshared (Repeated ContentLength) g _ bad (rw (short, more) refl) shared)
      number)
      (either (nat_lt max_head (canonical_len v fs)))

by_area : (t : List ℕ) (v : Version) (len k : ℕ) (g : Fault) (r : Record) {text : List ℕ} (spelled : Spells r text) (is : IsInside t len k spelled.area) → version_of t ≡ Some v → head_len t ≡ Some len → record_of head_fault t ≡ Err g → IsShared g.kind
    → block_at len (length r.block) t ≡ Ok r.block → head_fault r.fields ≡ None → (area : Result (List Pair) ℕ) → area_of (slice_range t 10 (len - 2)) ≡ area → ⊥
by_area t v len k g r spelled is version ends bad shared closed none (Err at) read =
    unshared_at Field (10 + at) g (record_of head_fault t) bad (record_by t v len (Err at) version ends read) shared
by_area t v len k g r spelled is version ends bad shared closed none (Ok fs) read =
    let last = last_fields is.before spelled.area fs r.fields spelled.fields (ap area_of (sym is.lines) ∙ read) in
    let number = length_shared last.0 r.fields (length r.block) spelled.framed.number in
    let judged = faults_shared last.0 r.fields none in
    refuted t v len (length r.block) fs r.block g shared (sym (record_by t v len (Ok fs) version ends read) ∙ bad) closed
    (subst (λ f. (block_len f ≡ Ok (length r.block)) ⊎ (block_len f ≡ Err (Repeated ContentLength))) (sym last.1) number)
    (subst (λ f. (head_fault f ≡ None) ⊎ IsRepeated (head_fault f)) (sym last.1) judged)

-- no good record begins within a head, where the fault of its record is one that they would share
pub none_shared : (t : List ℕ) (v : Version) (len k : ℕ) (g : Fault) → version_of t ≡ Some v → head_len t ≡ Some len → record_of head_fault t ≡ Err g → IsShared g.kind → 0 < k → k < len → BeginsWithNone (drop k t)
none_shared t v len k g version ends bad shared some below = λ r text more whole spelled good.
    let is = inside t v len k r text more version ends some below whole spelled in
    let within = head_within t len ends in
    let closed = closed_inside t len k r text more spelled (omega (arith, below, within)) is.size whole in
    let none = (good_heads_have_no_fault r.fields).0 good.head in
    by_area t v len k g r spelled is version ends bad shared closed none (area_of (slice_range t 10 (len - 2))) refl

-- no good record begins before a bad line within a head, but perhaps at its front
pub none_before_line : (t : List ℕ) (v : Version) (len k at : ℕ) → version_of t ≡ Some v → head_len t ≡ Some len → area_of (slice_range t 10 (len - 2)) ≡ Err at → 0 < k → k < len → k ≤ at → BeginsWithNone (drop k t)
none_before_line t v len k at version ends bad some below before = λ r text more whole spelled good.
    let is = inside t v len k r text more version ends some below whole spelled in
    let first = bad_before is.before spelled.area r.fields at spelled.fields (ap area_of (sym is.lines) ∙ bad) in
    omega (arith, first, is.place, before)

-- the record of a head with a line that is no field
pub bad_line : (t : List ℕ) (v : Version) (len at : ℕ) → version_of t ≡ Some v → head_len t ≡ Some len → area_of (slice_range t 10 (len - 2)) ≡ Err at
    → record_of head_fault t ≡ Err (fault Field (10 + at))
bad_line t v len at version ends is = record_by t v len (Err at) version ends is

-- ---- a line that is no field

-- a kind of fault that isn't that of a line
abbrev IsNoLine : FaultKind → Type 0
IsNoLine Field = ⊥
IsNoLine kind = Unit {0}

abbrev IsOfNoLine : Fault → Type 0
IsOfNoLine f = IsNoLine f.kind

or_length_other : (o : Option ℕ) → IfErr (or_length o) IsNoLine
or_length_other None = tt
or_length_other (Some n) = tt

block_len_other : (fields : List Pair) → IfErr (block_len fields) IsNoLine
unfolding block_len
block_len_other fields =
    let last = or_length (block_number (first_value content_length fields)) in
    let second : Result ℕ FaultKind = if nat_le 2 (count_of content_length fields) then Err (Repeated ContentLength) else last in
    if_err {A = ℕ} {E = FaultKind} IsNoLine (count_of content_length fields == 0) (Err (Missing ContentLength)) second tt
    (if_err {A = ℕ} {E = FaultKind} IsNoLine (nat_le 2 (count_of content_length fields)) (Err (Repeated ContentLength)) last tt
    (or_length_other (block_number (first_value content_length fields))))

at_front_other : (r : Result ℕ FaultKind) → IfErr r IsNoLine → IfErr (at_front r) IsOfNoLine
at_front_other (Ok n) is = tt
at_front_other (Err kind) is = is

of_head_other : (kind : FaultKind) → is_of_head kind ≡ true → IsNoLine kind
of_head_other Field is = absurd (let no : false ≡ true = is in cc)
of_head_other kind is = tt

accepts_other : (o : Option FaultKind) → ((kind : FaultKind) → o ≡ Some kind → is_of_head kind ≡ true) → IfErr (accepts o) IsOfNoLine
accepts_other None of = tt
accepts_other (Some kind) of = of_head_other kind (of kind refl)

after_other : (v : Version) (len : ℕ) (fields : List Pair) → IfErr (after_fields v len fields) IsOfNoLine
unfolding after_fields
after_other v len fields =
    then_err {A = Unit {0}} {B = Head} IsOfNoLine (refuses (nat_lt max_head (canonical_len v fields)) (fault HeadTooLong 0)) _
    (refuses_err IsOfNoLine (nat_lt max_head (canonical_len v fields)) (fault HeadTooLong 0) tt) (λ u.
    then_err {A = ℕ} {B = Head} IsOfNoLine (at_front (block_len fields)) _ (at_front_other (block_len fields) (block_len_other fields)) (λ n.
    then_err {A = Unit {0}} {B = Head} IsOfNoLine (accepts (head_fault fields)) _ (accepts_other (head_fault fields) (head_kind fields)) (λ w. tt)))

following_other : (t : List ℕ) (head : Head) → IfErr (after_head t head) IsOfNoLine
unfolding after_head block_at
following_other t head =
    let P = IsOfNoLine in
    let place = head.len in
    let n = head.block_len in
    then_err {A = List ℕ} {B = Record × ℕ} P (block_at place n t) _
    (then_err {A = Unit {0}} {B = List ℕ} P (refuses (not (begins (drop (place + n) t) (crlf ++ crlf))) (fault End (place + n))) _
    (refuses_err P (not (begins (drop (place + n) t) (crlf ++ crlf))) (fault End (place + n)) tt) (λ u.
    then_err {A = Unit {0}} {B = List ℕ} P (refuses (nat_lt (length t) (place + n + 4)) (fault Truncated (length t))) _
    (refuses_err P (nat_lt (length t) (place + n + 4)) (fault Truncated (length t)) tt) (λ v. tt)))
    (λ block. tt)

by_other : {X : Type 0} (r : Result X Fault) (g : Fault) → IfErr r IsOfNoLine → r ≡ Err g → IsNoLine g.kind
by_other {X} (Ok x) g err is = let no : ◌≡◌ {A = Result X Fault} (Ok x) (Err g) = is in absurd cc
by_other {X} (Err f) g err is =
    let e : ◌≡◌ {A = Result X Fault} (Err f) (Err g) = is in
    let same : f ≡ g = cc in
    subst IsOfNoLine same err

line_by : (t : List ℕ) (v : Version) (len : ℕ) (g : Fault) → version_of t ≡ Some v → head_len t ≡ Some len → record_of head_fault t ≡ Err g → g.kind ≡ Field → (area : Result (List Pair) ℕ) → area_of (slice_range t 10 (len - 2)) ≡ area
    → (at : ℕ) × (area ≡ Err at) × (g.offset ≡ 10 + at)
line_by t v len g version ends bad kind (Err at) read =
    let same : ◌≡◌ {A = Result (Record × ℕ) Fault} (Err g) (Err (fault Field (10 + at))) = sym bad ∙ record_by t v len (Err at) version ends read in
    let e : g ≡ fault Field (10 + at) = cc in
    (at, refl, ap (λ (f : Fault). f.offset) e)
line_by t v len g version ends bad kind (Ok fs) read =
    let rest = then_err {A = Head} {B = Record × ℕ} IsOfNoLine (after_fields v len fs) (after_head t) (after_other v len fs) (following_other t) in
    let other = by_other {X = Record × ℕ} (after_fields v len fs >>= after_head t) g rest (sym (record_by t v len (Ok fs) version ends read) ∙ bad) in
    absurd (subst IsNoLine kind other)

-- where the first line is that is no field
pub field_place : (t : List ℕ) (v : Version) (len : ℕ) (g : Fault) → version_of t ≡ Some v → head_len t ≡ Some len → record_of head_fault t ≡ Err g → g.kind ≡ Field
    → (at : ℕ) × (area_of (slice_range t 10 (len - 2)) ≡ Err at) × (g.offset ≡ 10 + at)
field_place t v len g version ends bad kind = line_by t v len g version ends bad kind (area_of (slice_range t 10 (len - 2))) refl
