-- The value of the first field of each name, after one more field.
use Rattle.std.proofs.Common.{◌≡◌, ◌≢◌, ℕ, ◌+◌, ◌<◌, ◌≤◌, Bool, true, false, not, ◌&&◌, List, [], ◌∷◌, ◌++◌, length, length-append, append_assoc, nat_lt, cond, find, get_or, set, Option, Some, None, is_some, option_map, refl, sym, ap, ◌∙◌, arith}
use Rattle.std.specs.Borrow.{Bor}
use Rattle.std.proofs.lemmas.List.{get_or-set_same, get_or-set_other}
use Rattle.std.proofs.Math.ListN.{length-set}
use Rattle.std.proofs.lemmas.List.Sums.{sum_by-append, sum_by-cons}
use Rattle.std.proofs.lemmas.Bool.{le-ltb, lt-ltb, ltb-false}
use Rattle.warc_field.specs.Area.{Pair, first_value, count_of}
use Rattle.warc_field.specs.Text.{same}
use Rattle.warc_frame.specs.FieldNames.{AreFieldNames, name_place, name_text}
use Rattle.warc_frame.specs.declared.field_name.FieldName.{FieldName}
use Rattle.warc_record.specs.Table.{may_repeat}
use Rattle.warc_quick.specs.Fronts.{AreValues, BeginsWithFields, BeginsWithLine, IsValueOf}
use Rattle.warc_quick.specs.declared.lines.Line.{Line}
use Rattle.warc_quick.proofs.LineLemmas.{some_bytes, spells_more}
use Rattle.warc_quick.proofs.NameLemmas.{same_as_itself}

-- the value of the first field of a name, where one more field has another name, or is the first of the name
first_past : (name : List ℕ) (fields : List Pair) (field : Pair) → same field.0 name ≡ false
    → first_value name (fields ++ field ∷ []) ≡ first_value name fields
first_past name [] field other = rw other refl
first_past name (f ∷ fs) field other = by (same f.0 name) (first_past name fs field other)
  where
    rest : List Pair → Option Pair
    rest xs = find (λ (x : Pair). same x.0 name) xs

    by : (b : Bool) → option_map (λ (x : Pair). x.1) (rest (fs ++ field ∷ [])) ≡ option_map (λ (x : Pair). x.1) (rest fs)
        → option_map (λ (x : Pair). x.1) (cond b (Some f) (rest (fs ++ field ∷ []))) ≡ option_map (λ (x : Pair). x.1) (cond b (Some f) (rest fs))
    by true is = refl
    by false is = is

first_new : (name : List ℕ) (fields : List Pair) (field : Pair) → same field.0 name ≡ true
    → None ≡ first_value name fields → first_value name (fields ++ field ∷ []) ≡ Some field.1
first_new name [] field hit none = rw hit refl
first_new name (f ∷ fs) field hit none = by (same f.0 name) (first_new name fs field hit) none
  where
    rest : List Pair → Option Pair
    rest xs = find (λ (x : Pair). same x.0 name) xs

    by : (b : Bool) → (None ≡ option_map (λ (x : Pair). x.1) (rest fs) → option_map (λ (x : Pair). x.1) (rest (fs ++ field ∷ [])) ≡ Some field.1)
        → None ≡ option_map (λ (x : Pair). x.1) (cond b (Some f) (rest fs))
        → option_map (λ (x : Pair). x.1) (cond b (Some f) (rest (fs ++ field ∷ []))) ≡ Some field.1
    by true is none = absurd (cc)
    by false is none = is none

-- one more field doesn't change the first of a name that has one
first_stays : (name : List ℕ) (fields : List Pair) (field : Pair) → is_some (first_value name fields) ≡ true
    → first_value name (fields ++ field ∷ []) ≡ first_value name fields
first_stays name [] field some = absurd (cc)
first_stays name (f ∷ fs) field some = by (same f.0 name) (first_stays name fs field) some
  where
    rest : List Pair → Option Pair
    rest xs = find (λ (x : Pair). same x.0 name) xs

    by : (b : Bool) → (is_some (option_map (λ (x : Pair). x.1) (rest fs)) ≡ true
        → option_map (λ (x : Pair). x.1) (rest (fs ++ field ∷ [])) ≡ option_map (λ (x : Pair). x.1) (rest fs))
        → is_some (option_map (λ (x : Pair). x.1) (cond b (Some f) (rest fs))) ≡ true
        → option_map (λ (x : Pair). x.1) (cond b (Some f) (rest (fs ++ field ∷ []))) ≡ option_map (λ (x : Pair). x.1) (cond b (Some f) (rest fs))
    by true is some = refl
    by false is some = is some

abbrev tally : Bool → ℕ
tally b = cond b 1 0

tally_hit : (b : Bool) → b ≡ true → tally b ≡ 1
tally_hit b hit = ap tally hit

tally_miss : (b : Bool) → b ≡ false → tally b ≡ 0
tally_miss b miss = ap tally miss

count_push : (name : List ℕ) (fields : List Pair) (field : Pair) → count_of name (fields ++ field ∷ []) ≡ count_of name fields + tally (same field.0 name)
count_push name fields field = omega (arith, sum_by-append (λ (x : Pair). tally (same x.0 name)) fields (field ∷ []), sum_by-cons (λ (x : Pair). tally (same x.0 name)) field [])

pub some_counts : (name : List ℕ) (fields : List Pair) → is_some (first_value name fields) ≡ nat_lt 0 (count_of name fields)
some_counts name [] = refl
some_counts name (f ∷ fs) = more (same f.0 name) refl (some_counts name fs)
  where
    size : count_of name (f ∷ fs) ≡ tally (same f.0 name) + count_of name fs
    size = sum_by-cons (λ (x : Pair). tally (same x.0 name)) f fs

    more : (b : Bool) → same f.0 name ≡ b → is_some (first_value name fs) ≡ nat_lt 0 (count_of name fs)
        → is_some (option_map (λ (x : Pair). x.1) (cond b (Some f) (find (λ (x : Pair). same x.0 name) fs))) ≡ nat_lt 0 (count_of name (f ∷ fs))
    more true hit is = sym (lt-ltb 0 (count_of name (f ∷ fs)) (omega (arith, size, tally_hit (same f.0 name) hit)))
    more false miss is =
        let same_count : count_of name fs ≡ count_of name (f ∷ fs) = omega (arith, size, tally_miss (same f.0 name) miss) in
        is ∙ ap (nat_lt 0) same_count

-- a field of another name changes nothing
past : (name : FieldName) (fields : List Pair) (field : Pair) (found : Option (Bor (List ℕ))) → same field.0 (name_text name) ≡ false
    → IsValueOf name fields found → IsValueOf name (fields ++ field ∷ []) found
past name fields field found other is = record {
  first = is.first ∙ sym (first_past (name_text name) fields field other);
  alone = λ once.
      omega (arith, is.alone once, count_push (name_text name) fields field, tally_miss (same field.0 (name_text name)) other);
}

-- the first field of a name is the only one so far
new : (name : FieldName) (fields : List Pair) (text : List ℕ) (found : Bor (List ℕ)) → same text (name_text name) ≡ true
    → IsValueOf name fields None → IsValueOf name (fields ++ (text, found.now) ∷ []) (Some found)
new name fields text found hit is =
    let word = name_text name in
    let none : count_of word fields ≤ 0 = ltb-false 0 (count_of word fields) (sym (some_counts word fields) ∙ ap is_some (sym is.first)) in
    record {
      first = sym (first_new word fields (text, found.now) hit is.first);
      alone = λ once. omega (arith, none, count_push word fields (text, found.now), tally_hit (same text word) hit);
    }

-- of a name that may repeat the first value stays
again : (name : FieldName) (fields : List Pair) (field : Pair) (found : Option (Bor (List ℕ))) → may_repeat name ≡ true
    → is_some found ≡ true → IsValueOf name fields found → IsValueOf name (fields ++ field ∷ []) found
again name fields field found may some is =
    let stays = first_stays (name_text name) fields field (ap is_some (sym is.first) ∙ mapped found some) in
    record { first = is.first ∙ sym stays; alone = λ once. absurd (cc (may, once)) }
  where
    mapped : (value : Option (Bor (List ℕ))) → is_some value ≡ true → is_some (option_map (λ (text : Bor (List ℕ)). text.now) value) ≡ true
    mapped None is = absurd (cc)
    mapped (Some text) is = refl

-- a field of none of the names
pub other_added : (fields : List Pair) (text found : List ℕ) (values : List (Option (Bor (List ℕ))))
    → ((name : FieldName) → same text (name_text name) ≡ false) → AreValues fields values
    → AreValues (fields ++ (text, found) ∷ []) values
other_added fields text found values other are = record {
  room = are.room;
  each = λ name. past name fields (text, found) (get_or values (name_place name) None) (other name) (are.each name);
}

-- one more field of a name that may repeat
pub repeat_added : AreFieldNames → (fields : List Pair) (text found : List ℕ) (values : List (Option (Bor (List ℕ)))) (known : FieldName)
    → text ≡ name_text known → is_some (get_or values (name_place known) None) ≡ true → may_repeat known ≡ true
    → AreValues fields values → AreValues (fields ++ (text, found) ∷ []) values
repeat_added names fields text found values known is some may are = record {
  room = are.room;
  each = λ name. by name (same text (name_text name)) refl;
}
  where
    itself : same text (name_text known) ≡ true
    itself = ap (λ t. same t (name_text known)) is ∙ same_as_itself known

    by : (name : FieldName) (b : Bool) → same text (name_text name) ≡ b
        → IsValueOf name (fields ++ (text, found) ∷ []) (get_or values (name_place name) None)
    by name true hit =
        let eq : known ≡ name = names.texts text known name itself hit in
        again name fields (text, found) (get_or values (name_place name) None) (ap may_repeat (sym eq) ∙ may)
        (ap (λ n. is_some (get_or values (name_place n) None)) (sym eq) ∙ some) (are.each name)
    by name false miss = past name fields (text, found) (get_or values (name_place name) None) miss (are.each name)

absent : (found : Option (Bor (List ℕ))) → is_some found ≡ false → found ≡ None
absent None none = refl
absent (Some text) none = absurd (cc)

-- the first field of one of them
module _ (names : AreFieldNames) (fields : List Pair) (text : List ℕ) (found : Bor (List ℕ)) (values : List (Option (Bor (List ℕ)))) (known : FieldName)
    (is : text ≡ name_text known) (none : is_some (get_or values (name_place known) None) ≡ false) (are : AreValues fields values) where
  itself : same text (name_text known) ≡ true
  itself = ap (λ t. same t (name_text known)) is ∙ same_as_itself known

  each_added : (name : FieldName) → IsValueOf name (fields ++ (text, found.now) ∷ []) (get_or (set values (name_place known) (Some found)) (name_place name) None)
  each_added name = by (same text (name_text name)) refl
    where
      Goal : Type 0
      Goal = IsValueOf name (fields ++ (text, found.now) ∷ []) (get_or (set values (name_place known) (Some found)) (name_place name) None)

      by : (b : Bool) → same text (name_text name) ≡ b → Goal
      by true hit =
          let eq : known ≡ name = names.texts text known name itself hit in
          let within : name_place known < length values = omega (arith, are.room, names.within known) in
          let there : get_or (set values (name_place known) (Some found)) (name_place name) None ≡ Some found =
          ap (λ n. get_or (set values (name_place known) (Some found)) (name_place n) None) (sym eq)
          ∙ get_or-set_same values (name_place known) (Some found) None within in
          let before : get_or values (name_place name) None ≡ None =
          ap (λ n. get_or values (name_place n) None) (sym eq) ∙ absent _ none in
          rw there (new name fields text found hit (rw before at (are.each name)))
      by false miss =
          let apart : name_place name ≢ name_place known = λ e. cc (miss, itself, names.places name known e) in
          rw (get_or-set_other values (name_place known) (name_place name) (Some found) None apart)
          (past name fields (text, found.now) (get_or values (name_place name) None) miss (are.each name))

  pub known_added : AreValues (fields ++ (text, found.now) ∷ []) (set values (name_place known) (Some found))
  known_added = record { room = length-set values (name_place known) (Some found) ∙ are.room; each = each_added }

-- the fields so far, and one more
pub fields_more : (text rest : List ℕ) (values : List (Option (Bor (List ℕ)))) (line : Line) (so_far : BeginsWithFields text values rest)
    → BeginsWithLine rest line → (now : List (Option (Bor (List ℕ))))
    → AreValues (so_far.fields ++ (line.name.now, line.value.now) ∷ []) now → BeginsWithFields text now line.more.now
fields_more text rest values line so_far is now are = record {
  fields = so_far.fields ++ (line.name.now, line.value.now) ∷ [];
  area = so_far.area ++ is.bytes;
  spelled = spells_more so_far.fields so_far.area (line.name.now, line.value.now) is.bytes so_far.spelled is.is;
  are = are;
  text_is = so_far.text_is ∙ ap (λ xs. so_far.area ++ xs) is.text_is ∙ sym (append_assoc so_far.area is.bytes line.more.now);
}

-- a line isn't empty
pub less_left : (rest : List ℕ) (line : Line) → BeginsWithLine rest line → length line.more.now < length rest
less_left rest line is =
    omega (arith, some_bytes (line.name.now, line.value.now) is.bytes is.is, ap length is.text_is, length-append is.bytes line.more.now)

-- no field of a plain head occurs again that may not
pub never_again : (name : FieldName) (fields : List Pair) (values : List (Option (Bor (List ℕ)))) → AreValues fields values
    → false ≡ (not (may_repeat name) && nat_lt 1 (count_of (name_text name) fields))
never_again name fields values are = by (may_repeat name) (are.each name).alone
  where
    by : (may : Bool) → (may ≡ false → count_of (name_text name) fields ≤ 1)
        → false ≡ (not may && nat_lt 1 (count_of (name_text name) fields))
    by true few = refl
    by false few = sym (le-ltb 1 (count_of (name_text name) fields) (few refl))
