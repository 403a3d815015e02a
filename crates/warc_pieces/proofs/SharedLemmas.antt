-- What the fields of a head have in common with those of a head that begins within it.
use Rattle.std.proofs.Common.{◌≡◌, ℕ, zero, suc, ◌+◌, ◌<◌, ◌≤◌, Bool, true, false, ◌==◌, nat_lt, nat_le, List, [], ◌∷◌, ◌++◌, Option, Some, None, Ok, Err, refl, sym, ap, ◌∙◌, arith, inl, inr, ◌⊎◌, ⊎_elim, if◌then◌else◌}
use Rattle.std.specs.Prelude.{is_none}
use Rattle.std.specs.Option.{option_or}
use Rattle.std.proofs.lemmas.Bool.{eqb-true, false_from_ne_true, le-leb, lt-ltb}
use Rattle.std.proofs.lemmas.List.Sums.{sum_by-cons}
use Rattle.warc_field.specs.Area.{Pair, count_of, first_value}
use Rattle.warc_field.specs.Text.{same}
use Rattle.warc_frame.specs.FaultText.{name_of}
use Rattle.warc_frame.specs.Record.{block_len, block_number, or_length}
use Rattle.warc_frame.specs.Names.{content_length}
use Rattle.warc_frame.specs.declared.fault.FaultKind.{FaultKind}
use Rattle.warc_frame.specs.declared.fault.FaultKind.TheVariants.{Missing, Repeated, BadType, Id, Date}
use Rattle.warc_frame.specs.declared.fault.Mandatory.{Mandatory}
use Rattle.warc_frame.specs.declared.fault.Mandatory.TheVariants.{ContentLength, «Type», RecordId, Date as DateField}
use Rattle.warc_record.specs.Heads.{count_fault, date_fault, head_fault, id_fault, is_date, type_fault, value_fault}
use Rattle.warc_record.specs.Ids.{is_id}
use Rattle.warc_field.specs.Text.{is_name}

either : (v : Bool) → (v ≡ true) ⊎ (v ≡ false)
either true = inl refl
either false = inr refl

-- fields before others: none of a name, so that count and first value are those of the others; or one, so that there
-- are more
abbrev Adds : List ℕ → List Pair → List Pair → Type 0
Adds name front gs =
    ((count_of name (front ++ gs) ≡ count_of name gs) × (first_value name (front ++ gs) ≡ first_value name gs))
    ⊎ ((count_of name gs < count_of name (front ++ gs)) × (is_none (first_value name (front ++ gs)) ≡ false))

count_cons : (name : List ℕ) (f : Pair) (fs : List Pair) → count_of name (f ∷ fs) ≡ (if same f.0 name then 1 else 0) + count_of name fs
count_cons name f fs = sum_by-cons (λ (x : Pair). if same x.0 name then 1 else 0) f fs

value_cons : (name : List ℕ) (f : Pair) (fs : List Pair) → first_value name (f ∷ fs) ≡ (if same f.0 name then Some f.1 else first_value name fs)
value_cons name f fs = ⊎_elim
    (λ is. rw is refl)
    (λ other. rw other refl)
    (either (same f.0 name))

count_other : (name : List ℕ) (f : Pair) (fs : List Pair) → same f.0 name ≡ false → count_of name (f ∷ fs) ≡ count_of name fs
count_other name f fs other = count_cons name f fs ∙ ap (λ b. (if b then 1 else 0) + count_of name fs) other ∙ omega arith

value_other : (name : List ℕ) (f : Pair) (fs : List Pair) → same f.0 name ≡ false → first_value name (f ∷ fs) ≡ first_value name fs
value_other name f fs other = value_cons name f fs ∙ ap (λ b. if b then Some f.1 else first_value name fs) other

count_one : (name : List ℕ) (f : Pair) (fs : List Pair) → same f.0 name ≡ true → count_of name (f ∷ fs) ≡ 1 + count_of name fs
count_one name f fs is = count_cons name f fs ∙ ap (λ b. (if b then 1 else 0) + count_of name fs) is

value_one : (name : List ℕ) (f : Pair) (fs : List Pair) → same f.0 name ≡ true → is_none (first_value name (f ∷ fs)) ≡ false
value_one name f fs is = ap is_none (value_cons name f fs ∙ ap (λ b. if b then Some f.1 else first_value name fs) is)

adds_other : (name : List ℕ) (f : Pair) (front gs : List Pair) → same f.0 name ≡ false → Adds name front gs → Adds name (f ∷ front) gs
adds_other name f front gs other (inl none) = inl (count_other name f (front ++ gs) other ∙ none.0, value_other name f (front ++ gs) other ∙ none.1)
adds_other name f front gs other (inr some) = inr (omega (arith, some.0, count_other name f (front ++ gs) other), ap is_none (value_other name f (front ++ gs) other) ∙ some.1)

adds_one : (name : List ℕ) (f : Pair) (front gs : List Pair) → same f.0 name ≡ true → Adds name front gs → Adds name (f ∷ front) gs
adds_one name f front gs is (inl none) = inr (omega (arith, none.0, count_one name f (front ++ gs) is), value_one name f (front ++ gs) is)
adds_one name f front gs is (inr some) = inr (omega (arith, some.0, count_one name f (front ++ gs) is), value_one name f (front ++ gs) is)

adds : (name : List ℕ) (front gs : List Pair) → Adds name front gs
adds name [] gs = inl (refl, refl)
adds name (f ∷ front) gs = ⊎_elim
    (λ is. adds_one name f front gs is (adds name front gs))
    (λ other. adds_other name f front gs other (adds name front gs))
    (either (same f.0 name))

-- there are no fewer of a name
pub count_grows : (name : List ℕ) (front gs : List Pair) → count_of name gs ≤ count_of name (front ++ gs)
count_grows name front gs = ⊎_elim
    (λ none. omega (arith, none.0))
    (λ some. omega (arith, some.0))
    (adds name front gs)

lengths_more : (few more : ℕ) (v w : Option (List ℕ)) (n : ℕ)
    → (if few == 0 then Err (Missing ContentLength) else if nat_le 2 few then Err (Repeated ContentLength) else or_length (block_number v)) ≡ Ok n → few < more
    → (if more == 0 then Err (Missing ContentLength) else if nat_le 2 more then Err (Repeated ContentLength) else or_length (block_number w)) ≡ Err (Repeated ContentLength)
lengths_more zero more v w n is below = absurd cc
lengths_more (suc few) more v w n is below =
    let some : (more == 0) ≡ false = false_from_ne_true (more == 0) (λ is2. absurd (omega (arith, eqb-true more 0 is2, below))) in
    let two : nat_le 2 more ≡ true = le-leb 2 more (omega (arith, below)) in
    rw (some, two) refl

some_counted : (name : List ℕ) (gs : List Pair) → is_none (first_value name gs) ≡ false → 0 < count_of name gs
some_counted name [] is = absurd cc
some_counted name (g ∷ gs) is = ⊎_elim
    (λ one. omega (arith, count_one name g gs one))
    (λ other. omega (arith, count_other name g gs other, some_counted name gs (ap is_none (sym (value_other name g gs other)) ∙ is)))
    (either (same g.0 name))

none_missing : (field : Mandatory) (none : Bool) (two : Bool) (later : Option FaultKind) → option_or (if none then Some (Missing field) else if two then Some (Repeated field) else None) later ≡ None → none ≡ false
none_missing field true two later is = absurd cc
none_missing field false two later is = refl

names_more : (field : Mandatory) (rest : Option FaultKind) (more : ℕ) (other : Bool) → 1 < more → other ≡ false
    → option_or (if other then Some (Missing field) else if nat_lt 1 more then Some (Repeated field) else None) rest ≡ Some (Repeated field)
names_more field rest more other two some =
    let second : nat_lt 1 more ≡ true = lt-ltb 1 more two in
    rw (some, second) refl

-- the only Content-Length of a head's fields is in the fields before which others come, unless there are more
pub length_shared : (front gs : List Pair) (n : ℕ) → block_len gs ≡ Ok n → (block_len (front ++ gs) ≡ Ok n) ⊎ (block_len (front ++ gs) ≡ Err (Repeated ContentLength))
unfolding block_len
length_shared front gs n is = ⊎_elim
    (λ (none : (count_of content_length (front ++ gs) ≡ count_of content_length gs) × (first_value content_length (front ++ gs) ≡ first_value content_length gs)).
    inl (rw (none.0, none.1) is))
    (λ (some : (count_of content_length gs < count_of content_length (front ++ gs)) × (is_none (first_value content_length (front ++ gs)) ≡ false)).
    inr (lengths_more (count_of content_length gs) (count_of content_length (front ++ gs)) (first_value content_length gs) (first_value content_length (front ++ gs)) n is some.0))
    (adds content_length front gs)

-- the only type, id or date of a head's fields is in the fields before which others come, unless there are more
name_shared : (field : Mandatory) (reads : List ℕ → Bool) (fault : FaultKind) (front gs : List Pair) → option_or (count_fault field gs) (value_fault field reads fault gs) ≡ None
    → (option_or (count_fault field (front ++ gs)) (value_fault field reads fault (front ++ gs)) ≡ None)
    ⊎ (option_or (count_fault field (front ++ gs)) (value_fault field reads fault (front ++ gs)) ≡ Some (Repeated field))
name_shared field reads fault front gs is = ⊎_elim
    (λ (none : (count_of (name_of field) (front ++ gs) ≡ count_of (name_of field) gs) × (first_value (name_of field) (front ++ gs) ≡ first_value (name_of field) gs)).
    inl (rw (none.0, none.1) is))
    (λ (some : (count_of (name_of field) gs < count_of (name_of field) (front ++ gs)) × (is_none (first_value (name_of field) (front ++ gs)) ≡ false)).
    let stated = none_missing field (is_none (first_value (name_of field) gs)) (nat_lt 1 (count_of (name_of field) gs)) (value_fault field reads fault gs) is in
    let counted = some_counted (name_of field) gs stated in
    inr (names_more field (value_fault field reads fault (front ++ gs)) (count_of (name_of field) (front ++ gs)) (is_none (first_value (name_of field) (front ++ gs))) (omega (arith, counted, some.0)) some.1))
    (adds (name_of field) front gs)

-- the first fault of type, id and date is none, or that one of them is repeated
unfoldable pub IsRepeated : Option FaultKind → Type 0
IsRepeated o = (field : Mandatory) × (o ≡ Some (Repeated field))

first_or : (a b : Option FaultKind) → (a ≡ None) ⊎ IsRepeated a → (b ≡ None) ⊎ IsRepeated b → (option_or a b ≡ None) ⊎ IsRepeated (option_or a b)
unfolding IsRepeated
first_or a b (inl none) (inl last) = inl (rw none last)
first_or a b (inl none) (inr some) = inr (some.0, rw none some.1)
first_or a b (inr some) other = inr (some.0, ap (λ o. option_or o b) some.1)

repeats : (field : Mandatory) (o : Option FaultKind) → (o ≡ None) ⊎ (o ≡ Some (Repeated field)) → (o ≡ None) ⊎ IsRepeated o
unfolding IsRepeated
repeats field o (inl none) = inl none
repeats field o (inr some) = inr (field, some)

nones : (a b : Option FaultKind) → option_or a b ≡ None → (a ≡ None) × (b ≡ None)
nones None b is = (refl, is)
nones (Some x) b is = absurd cc

pub faults_shared : (front gs : List Pair) → head_fault gs ≡ None → (head_fault (front ++ gs) ≡ None) ⊎ IsRepeated (head_fault (front ++ gs))
faults_shared front gs is =
    let one = nones (type_fault gs) (option_or (id_fault gs) (date_fault gs)) is in
    let two = nones (id_fault gs) (date_fault gs) one.1 in
    let types = repeats «Type» (type_fault (front ++ gs)) (name_shared «Type» is_name BadType front gs one.0) in
    let ids = repeats RecordId (id_fault (front ++ gs)) (name_shared RecordId is_id Id front gs two.0) in
    let dates = repeats DateField (date_fault (front ++ gs)) (name_shared DateField is_date Date front gs two.1) in
    first_or (type_fault (front ++ gs)) (option_or (id_fault (front ++ gs)) (date_fault (front ++ gs))) types
    (first_or (id_fault (front ++ gs)) (date_fault (front ++ gs)) ids dates)
