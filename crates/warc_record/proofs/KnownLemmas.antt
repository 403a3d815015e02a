-- What is kept of the fields of a head, by their names.
use Rattle.std.proofs.Common.{◌≡◌, ◌≢◌, ℕ, ◌+◌, ◌<◌, ◌≤◌, Bool, true, false, List, [], ◌∷◌, ◌++◌, length, length-append, nat_lt, cond, find, get_or, set, replicate, Option, Some, None, is_some, option_map, refl, sym, ap, ◌∙◌, arith, if◌then◌else◌}
use Rattle.std.proofs.lemmas.List.{get_or_append_left, get_or-replicate, get_or-set_same, get_or-set_other}
use Rattle.std.proofs.Math.Seq.{get_or-append_seam}
use Rattle.std.proofs.lemmas.Option.{slice_get-get_or}
use Rattle.std.proofs.lemmas.Bool.{ltb-true, lt-ltb, le-ltb, ltb-false}
use Rattle.std.specs.List.{slice_get}
use Rattle.std.proofs.lemmas.List.Sums.{sum_by-append, sum_by-cons}
use Rattle.warc_field.specs.Area.{Pair, first_value, count_of}
use Rattle.warc_field.specs.Text.{same}
use Rattle.warc_frame.specs.declared.field_name.FieldName.{FieldName}
use Rattle.warc_frame.specs.FieldNames.{AreFieldNames, name_count, name_place, name_text}
use Rattle.warc_record.specs.declared.known.Spot.{Spot}
use Rattle.warc_record.specs.declared.known.Spot.TheVariants.{Absent, Once, Repeated}
use Rattle.warc_record.specs.Known.{next_spot, spot_value, IsSpotOf, IsWithin, AreSpots}

-- what one more field changes
first_push : (name : List ℕ) (fields : List Pair) (field : Pair)
    → first_value name (fields ++ field ∷ []) ≡ (if is_some (first_value name fields) then first_value name fields else if same field.0 name then Some field.1 else None)
first_push name [] field = one (same field.0 name)
  where
    one : (b : Bool) → option_map (λ (f : Pair). f.1) (cond b (Some field) None) ≡ (if b then Some field.1 else None)
    one true = refl
    one false = refl
first_push name (f ∷ fs) field = more (same f.0 name) (first_push name fs field)
  where
    rest : List Pair → Option Pair
    rest xs = find (λ (x : Pair). same x.0 name) xs

    value : Option Pair → Option (List ℕ)
    value o = option_map (λ (x : Pair). x.1) o

    more : (b : Bool) → value (rest (fs ++ field ∷ [])) ≡ (if is_some (value (rest fs)) then value (rest fs) else if same field.0 name then Some field.1 else None)
        → value (cond b (Some f) (rest (fs ++ field ∷ []))) ≡ (if is_some (value (cond b (Some f) (rest fs))) then value (cond b (Some f) (rest fs)) else if same field.0 name then Some field.1 else None)
    more true is = refl
    more false is = is

abbrev tally : Bool → ℕ
tally b = cond b 1 0

tally_hit : (b : Bool) → b ≡ true → tally b ≡ 1
tally_hit b hit = ap tally hit

tally_miss : (b : Bool) → b ≡ false → tally b ≡ 0
tally_miss b miss = ap tally miss

count_push : (name : List ℕ) (fields : List Pair) (field : Pair) → count_of name (fields ++ field ∷ []) ≡ count_of name fields + tally (same field.0 name)
count_push name fields field = omega (arith, sum_by-append (λ (x : Pair). tally (same x.0 name)) fields (field ∷ []), sum_by-cons (λ (x : Pair). tally (same x.0 name)) field [])

some_counts : (name : List ℕ) (fields : List Pair) → is_some (first_value name fields) ≡ nat_lt 0 (count_of name fields)
some_counts name [] = refl
some_counts name (f ∷ fs) = more (same f.0 name) refl (some_counts name fs)
  where
    size : count_of name (f ∷ fs) ≡ tally (same f.0 name) + count_of name fs
    size = sum_by-cons (λ (x : Pair). tally (same x.0 name)) f fs

    more : (b : Bool) → same f.0 name ≡ b → is_some (first_value name fs) ≡ nat_lt 0 (count_of name fs)
        → is_some (option_map (λ (x : Pair). x.1) (cond b (Some f) (find (λ (x : Pair). same x.0 name) fs))) ≡ nat_lt 0 (count_of name (f ∷ fs))
    more true hit is = sym (lt-ltb 0 (count_of name (f ∷ fs)) (omega (arith, size, tally_hit (same f.0 name) hit)))
    more false miss is =
        let same_count : count_of name fs ≡ count_of name (f ∷ fs) = omega (arith, size, tally_miss (same f.0 name) miss) in
        is ∙ ap (nat_lt 0) same_count

get_kept : (xs : List Pair) (x : Pair) (i : ℕ) → i < length xs → slice_get (xs ++ x ∷ []) i ≡ slice_get xs i
get_kept xs x i lt =
    slice_get-get_or (xs ++ x ∷ []) i x (omega (arith, lt, length-append xs (x ∷ [])))
    ∙ ap (λ y. Some y) (get_or_append_left xs (x ∷ []) x i lt) ∙ sym (slice_get-get_or xs i x lt)

get_last : (xs : List Pair) (x : Pair) → slice_get (xs ++ x ∷ []) (length xs) ≡ Some x
get_last xs x =
    slice_get-get_or (xs ++ x ∷ []) (length xs) x (omega (arith, length-append xs (x ∷ [])))
    ∙ ap (λ y. Some y) (get_or-append_seam xs x [] x)

value_kept : (spot : Spot) (fields : List Pair) (field : Pair) → IsWithin spot (length fields) → spot_value spot (fields ++ field ∷ []) ≡ spot_value spot fields
value_kept Absent fields field within = refl
value_kept (Once place) fields field within = ap (option_map (λ (f : Pair). f.1)) (get_kept fields field place within)
value_kept (Repeated place) fields field within = ap (option_map (λ (f : Pair). f.1)) (get_kept fields field place within)

within_more : (spot : Spot) (m n : ℕ) → m ≤ n → IsWithin spot m → IsWithin spot n
within_more Absent m n le within = tt
within_more (Once place) m n le within = omega (arith, le, within)
within_more (Repeated place) m n le within = omega (arith, le, within)

missed : (o : Option (List ℕ)) (v : List ℕ) (b : Bool) → b ≡ false → (if is_some o then o else if b then Some v else None) ≡ o
missed None v true miss = absurd (cc)
missed None v false miss = refl
missed (Some w) v b miss = refl

stays : (o : Option (List ℕ)) (v : List ℕ) (b : Bool) → is_some o ≡ true → (if is_some o then o else if b then Some v else None) ≡ o
stays None v b some = absurd (cc)
stays (Some w) v b some = refl

begins : (o : Option (List ℕ)) (v : List ℕ) (b : Bool) → None ≡ o → b ≡ true → (if is_some o then o else if b then Some v else None) ≡ Some v
begins None v true none hit = refl
begins None v false none hit = absurd (cc)
begins (Some w) v b none hit = absurd (cc)

-- a field of another name leaves the spot
spot_missed : (name : List ℕ) (fields : List Pair) (field : Pair) (spot : Spot) → same field.0 name ≡ false → IsSpotOf name fields spot
    → IsSpotOf name (fields ++ field ∷ []) spot
spot_missed name fields field spot miss is = record {
  within = within_more spot (length fields) (length (fields ++ field ∷ [])) (omega (arith, length-append fields (field ∷ []))) is.within;
  first =
      value_kept spot fields field is.within ∙ is.first
      ∙ sym (first_push name fields field ∙ missed (first_value name fields) field.1 (same field.0 name) miss);
  again =
      let same_count : count_of name fields ≡ count_of name (fields ++ field ∷ []) =
      omega (arith, count_push name fields field, tally_miss (same field.0 name) miss) in
      is.again ∙ ap (nat_lt 1) same_count;
}

-- one more field of the name, where it stood before
spot_again : (name : List ℕ) (fields : List Pair) (field : Pair) (place : ℕ) → same field.0 name ≡ true → place < length fields
    → option_map (λ (f : Pair). f.1) (slice_get fields place) ≡ first_value name fields → IsSpotOf name (fields ++ field ∷ []) (Repeated place)
spot_again name fields field place hit lt is =
    let some : is_some (first_value name fields) ≡ true =
    ap is_some (sym is) ∙ ap (λ (o : Option Pair). is_some (option_map (λ (f : Pair). f.1) o)) (slice_get-get_or fields place field lt) in
    let more = tally_hit (same field.0 name) hit in
    let before : 0 < count_of name fields = ltb-true 0 (count_of name fields) (sym (some_counts name fields) ∙ some) in
    record {
      within = omega (arith, lt, length-append fields (field ∷ []));
      first =
          value_kept (Repeated place) fields field lt ∙ is
          ∙ sym (first_push name fields field ∙ stays (first_value name fields) field.1 (same field.0 name) some);
      again = sym (lt-ltb 1 (count_of name (fields ++ field ∷ [])) (omega (arith, before, more, count_push name fields field)));
    }

spot_hit : (name : List ℕ) (fields : List Pair) (field : Pair) (spot : Spot) → same field.0 name ≡ true → IsSpotOf name fields spot
    → IsSpotOf name (fields ++ field ∷ []) (next_spot spot (length fields))
spot_hit name fields field Absent hit is =
    let more = tally_hit (same field.0 name) hit in
    let before : count_of name fields ≤ 0 = ltb-false 0 (count_of name fields) (sym (some_counts name fields) ∙ ap is_some (sym is.first)) in
    record {
      within = omega (arith, length-append fields (field ∷ []));
      first =
          ap (option_map (λ (f : Pair). f.1)) (get_last fields field)
          ∙ sym (first_push name fields field ∙ begins (first_value name fields) field.1 (same field.0 name) is.first hit);
      again = sym (le-ltb 1 (count_of name (fields ++ field ∷ [])) (omega (arith, before, more, count_push name fields field)));
    }
spot_hit name fields field (Once place) hit is = spot_again name fields field place hit is.within is.first
spot_hit name fields field (Repeated place) hit is = spot_again name fields field place hit is.within is.first

not_true : (b : Bool) → (b ≡ true → ⊥) → b ≡ false
not_true true not = absurd (not refl)
not_true false not = refl

-- a field of none of the names
pub other_added : (fields : List Pair) (name value : List ℕ) (spots : List Spot)
    → ((known : FieldName) → same name (name_text known) ≡ true → ⊥) → AreSpots fields spots → AreSpots (fields ++ (name, value) ∷ []) spots
other_added fields name value spots other are known =
    spot_missed (name_text known) fields (name, value) (get_or spots (name_place known) Absent) (not_true (same name (name_text known)) (other known)) (are known)

-- a field of one of them
pub known_added : AreFieldNames → (fields : List Pair) (name value : List ℕ) (spots : List Spot) (one : FieldName) (spot : Spot)
    → same name (name_text one) ≡ true → ((known : FieldName) → same name (name_text known) ≡ true → one ≡ known)
    → name_place one < length spots → spot ≡ next_spot (get_or spots (name_place one) Absent) (length fields)
    → AreSpots fields spots → AreSpots (fields ++ (name, value) ∷ []) (set spots (name_place one) spot)
known_added names fields name value spots one spot is only lt next are known = by (same name (name_text known)) refl
  where
    Goal : Type 0
    Goal = IsSpotOf (name_text known) (fields ++ (name, value) ∷ []) (get_or (set spots (name_place one) spot) (name_place known) Absent)

    by : (b : Bool) → same name (name_text known) ≡ b → Goal
    by true hit =
        let eq = only known hit in
        let there : get_or (set spots (name_place one) spot) (name_place known) Absent ≡ next_spot (get_or spots (name_place known) Absent) (length fields) =
        ap (λ k. get_or (set spots (name_place one) spot) (name_place k) Absent) (sym eq)
        ∙ get_or-set_same spots (name_place one) spot Absent lt ∙ next
        ∙ ap (λ k. next_spot (get_or spots (name_place k) Absent) (length fields)) eq in
        rw there (spot_hit (name_text known) fields (name, value) (get_or spots (name_place known) Absent) hit (are known))
    by false miss =
        let apart : name_place known ≢ name_place one = λ e. cc (miss, is, names.places known one e) in
        rw (get_or-set_other spots (name_place one) (name_place known) spot Absent apart) (spot_missed (name_text known) fields (name, value) (get_or spots (name_place known) Absent) miss (are known))

absent : (name : List ℕ) → IsSpotOf name [] Absent
absent name = record { within = tt; first = refl; again = refl }

-- of no fields each spot is absent
pub none_added : AreFieldNames → AreSpots [] (replicate name_count Absent)
none_added names known =
    rw (get_or-replicate name_count (name_place known) Absent Absent (names.within known)) (absent (name_text known))
