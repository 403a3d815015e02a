-- What a head without a fault says.
use Rattle.std.proofs.Common.{◌≡◌, ℕ, Bool, true, false, List, codes, Option, Some, None, is_none, is_some, nat_lt, refl, ap, ◌∙◌, if◌then◌else◌}
use Rattle.std.specs.Option.{option_map_or, option_or}
use Rattle.std.specs.Prelude.{option_and_then}
use Rattle.std.proofs.lemmas.Bool.{le-ltb, ltb-false}
use Rattle.warc_field.specs.Text.{is_name}
use Rattle.warc_field.specs.Area.{Pair, count_of, first_value}
use Rattle.warc_value.specs.Dates.{instant_of}
use Rattle.warc_frame.specs.declared.fault.FaultKind.{FaultKind}
use Rattle.warc_frame.specs.declared.fault.FaultKind.TheVariants.{Missing, Repeated, BadType, Id, Date}
use Rattle.warc_frame.specs.declared.fault.Mandatory.TheVariants.{«Type», RecordId, Date as DateField}
use Rattle.warc_record.specs.declared.types.Kind.TheVariants.{Other}
use Rattle.warc_record.specs.Ids.{bare_text, is_id, id_key, key_of}
use Rattle.warc_record.specs.Kinds.{kind_named}
use Rattle.warc_record.specs.Heads.{type_fault, id_fault, date_fault, is_date}
use Rattle.warc_record.specs.Good.{GoodHeadsHaveNoFault, GoodHeadsRead, OccursOnce}
use Rattle.warc_record.proofs.LawLemmas.{key_is}

-- neither of two faults, where the first of them is none
neither : {X : Type 0} (a b : Option X) → option_or a b ≡ None → (a ≡ None) × (b ≡ None)
neither None b e = (refl, e)
neither (Some x) b e = absurd (cc)

passes : (test : Bool) (fault : FaultKind) → (if test then None else Some fault) ≡ None → test ≡ true
passes true fault e = refl
passes false fault e = absurd (cc)

-- a field without a fault is there, and its value reads
is_present_and_reads : (found : Option (List ℕ)) (again : Bool) (reads : List ℕ → Bool) (missing repeated bad : FaultKind)
    → option_or (if is_none found then Some missing else if again then Some repeated else None) (if option_map_or reads found false then None else Some bad) ≡ None
    → (value : List ℕ) × (found ≡ Some value) × (reads value ≡ true)
is_present_and_reads None again reads missing repeated bad e = absurd (cc)
is_present_and_reads (Some value) true reads missing repeated bad e = absurd (cc)
is_present_and_reads (Some value) false reads missing repeated bad e = (value, refl, passes (reads value) bad e)

some_of : {X : Type 0} (o : Option X) → is_some o ≡ true → (x : X) × (o ≡ Some x)
some_of None e = absurd (cc)
some_of (Some x) e = (x, refl)

pub good_heads_read : GoodHeadsRead
good_heads_read fields good =
    let first = neither (type_fault fields) _ good in
    let later = neither (id_fault fields) (date_fault fields) first.1 in
    let kind = is_present_and_reads (first_value (codes "WARC-Type") fields) _ is_name _ _ _ first.0 in
    let id = is_present_and_reads (first_value (codes "WARC-Record-ID") fields) _ is_id _ _ _ later.0 in
    let date = is_present_and_reads (first_value (codes "WARC-Date") fields) _ is_date _ _ _ later.1 in
    let instant = some_of (instant_of date.0) date.2 in
    let key = key_is id.0 id.2 in
    record {
      type_text = kind.0;
      id_text = id.0;
      date_text = date.0;
      id = key_of (bare_text id.0);
      instant = instant.0;
      type_is = kind.1;
      id_text_is = id.1;
      date_text_is = date.1;
      id_is = ap (option_and_then id_key) id.1 ∙ key;
      instant_is = ap (option_and_then instant_of) date.1 ∙ instant.1;
      kind_is = ap (λ text. option_map_or kind_named text Other) kind.1;
      token = kind.2;
      id_reads = key;
      date_reads = instant.1;
    }

-- a field is exactly once and reads, exactly where it has no fault
module _ (name : List ℕ) (reads : List ℕ → Bool) (missing repeated bad : FaultKind) (fields : List Pair) where
  abbrev FaultOf : Option (List ℕ) → Bool → Option FaultKind
  FaultOf found again =
      option_or (if is_none found then Some missing else if again then Some repeated else None) (if option_map_or reads found false then None else Some bad)

  once_by : (found : Option (List ℕ)) (again : Bool) → first_value name fields ≡ found → nat_lt 1 (count_of name fields) ≡ again → FaultOf found again ≡ None → OccursOnce name reads fields
  once_by None again is count e = absurd (cc e)
  once_by (Some value) true is count e = absurd (cc e)
  once_by (Some value) false is count e = record { value = value; is_present = is; alone = ltb-false 1 (count_of name fields) count; reads = passes (reads value) bad e }

  pub once : FaultOf (first_value name fields) (nat_lt 1 (count_of name fields)) ≡ None → OccursOnce name reads fields
  once e = once_by (first_value name fields) (nat_lt 1 (count_of name fields)) refl refl e

  pub no_fault : OccursOnce name reads fields → FaultOf (first_value name fields) (nat_lt 1 (count_of name fields)) ≡ None
  no_fault is = rw (is.is_present, le-ltb 1 (count_of name fields) is.alone, is.reads) refl

pub good_heads_have_no_fault : GoodHeadsHaveNoFault
good_heads_have_no_fault fields = (
  (λ good.
      rw (
        no_fault (codes "WARC-Type") is_name (Missing «Type») (Repeated «Type») BadType fields good.type_is,
        no_fault (codes "WARC-Record-ID") is_id (Missing RecordId) (Repeated RecordId) Id fields good.id_is,
        no_fault (codes "WARC-Date") is_date (Missing DateField) (Repeated DateField) Date fields good.date_is,
      ) refl),
  (λ none.
      let first = neither (type_fault fields) _ none in
      let later = neither (id_fault fields) (date_fault fields) first.1 in
      record {
        type_is = once (codes "WARC-Type") is_name (Missing «Type») (Repeated «Type») BadType fields first.0;
        id_is = once (codes "WARC-Record-ID") is_id (Missing RecordId) (Repeated RecordId) Id fields later.0;
        date_is = once (codes "WARC-Date") is_date (Missing DateField) (Repeated DateField) Date fields later.1;
      }),
)
