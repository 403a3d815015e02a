-- A made record is good.
use Rattle.std.proofs.Common.{◌≡◌, ℕ, ◌^◌, ◌<◌, ◌≤◌, ◌==◌, nat_le, nat_lt, not, Bool, true, false, List}
use Rattle.std.proofs.Common.{length, codes, decimal, Option, Some, None, is_some}
use Rattle.std.proofs.Common.{Result, Ok, Err, refl, sym, ap, subst, ◌∙◌, arith, eq-eqb, true≢false, IsOk}
use Rattle.std.proofs.Common.{IfOk, ◌↔◌, if◌then◌else◌}
use Rattle.std.proofs.lemmas.Bool.{and_parts}
use Rattle.std.proofs.lemmas.Bool.Decides.{nat_tests}
use Rattle.sha1.specs.Sha1.{sha1}
use Rattle.warc_field.specs.Text.{AreFields, is_blank, is_name, is_name_byte, is_value, is_value_byte}
use Rattle.warc_field.specs.Area.{Pair}
use Rattle.warc_field.specs.Decimal.{decimal_of}
use Rattle.std.specs.Str.{bytes_eq}
use Rattle.warc_value.specs.Dates.{Instant, instant_of}
use Rattle.warc_value.proofs.ValueLemmas.{written_digest_is_value}
use Rattle.warc_frame.specs.declared.fault.FaultKind.{FaultKind}
use Rattle.warc_frame.specs.declared.fault.FaultKind.TheVariants.{HeadTooLong, Length}
use Rattle.warc_frame.specs.declared.version.Version.TheVariants.{V1_1}
use Rattle.warc_frame.specs.Record.{Record, IsFramed, block_len, block_number, canonical_len}
use Rattle.warc_frame.specs.Record.{framed_of, max_block, max_head, or_length, with_block}
use Rattle.warc_record.specs.declared.types.Kind.{Kind}
use Rattle.warc_record.proofs.GoodLemmas.{good_heads_have_no_fault}
use Rattle.warc_record.specs.declared.types.Kind.TheVariants.{Warcinfo, Response, Resource, Request, Metadata}
use Rattle.warc_record.specs.declared.types.Kind.TheVariants.{Revisit, Conversion, Continuation, Other}
use Rattle.warc_record.specs.Good.{IsGood}
use Rattle.warc_record.specs.Heads.{head_fault, is_date}
use Rattle.warc_record.specs.Ids.{bare_text}
use Rattle.uuid.specs.Text.{parsed}
use Rattle.warc_write.specs.declared.made.MakeFault.{MakeFault}
use Rattle.warc_write.specs.declared.made.MakeFault.TheVariants.{Date, Text, TooLong, Memory, Kind as BadKind}
use Rattle.warc_write.specs.Making.{Makes, Plan, fitted, made, made_fields, record_1_1, is_target, is_one_text}
use Rattle.warc_write.specs.Making.{is_block, type_of}
use Rattle.warc_write.proofs.TextLemmas.{decimal_is_read, decimal_is_value, id_is_id, id_is_value, sha1_fits}
use Rattle.warc_write.proofs.TextLemmas.{sha1_len}

-- the number of a block's length, written in digits
pub number_of_len : (n : ℕ) → n ≤ max_block → block_number (Some (decimal n)) ≡ Some n
number_of_len n small =
    let read : decimal_of (decimal n) ≡ Some n = decimal_is_read n (omega (arith, small)) in
    let within : nat_le n max_block ≡ true = grind (arith, nat_tests) in
    rw (read, within) refl

pub made_len : (type uuid : List ℕ) (plan : Plan) → length plan.block ≤ max_block → block_len (made_fields type uuid plan) ≡ Ok (length plan.block)
unfolding block_len
made_len type uuid plan small = ap or_length (number_of_len (length plan.block) small)

-- the type of a kind is a name, and a value
abbrev IsType : List ℕ → Type 0
IsType type = (is_name type ≡ true) × (is_value type ≡ true)

pub type_is_name : (kind : Kind) (type : List ℕ) → type_of kind ≡ Some type → (is_name type ≡ true) × (is_value type ≡ true)
unfolding is_name is_name_byte is_value is_value_byte is_blank
type_is_name Resource type e = let is : codes "resource" ≡ type = (cc) in subst IsType is (refl, refl)
type_is_name Metadata type e = let is : codes "metadata" ≡ type = (cc) in subst IsType is (refl, refl)
type_is_name Conversion type e = let is : codes "conversion" ≡ type = (cc) in subst IsType is (refl, refl)
type_is_name Warcinfo type e = absurd (cc)
type_is_name Response type e = absurd (cc)
type_is_name Request type e = absurd (cc)
type_is_name Revisit type e = absurd (cc)
type_is_name Continuation type e = absurd (cc)
type_is_name Other type e = absurd (cc)

pub made_are_fields : (type uuid : List ℕ) (plan : Plan) → is_value type ≡ true → is_value plan.date ≡ true → is_value plan.uri ≡ true → is_value plan.content_type ≡ true
    → length plan.block < 2 ^ 64 → AreFields (made_fields type uuid plan)
unfolding is_name is_name_byte
made_are_fields type uuid plan type_is date_is uri_is content_type_is fits = (
  (refl, type_is),
  (
    (refl, id_is_value uuid),
    (
      (refl, date_is),
      (
        (refl, uri_is),
        (
          (refl, content_type_is),
          ((refl, written_digest_is_value (sha1 plan.block) (sha1_len plan.block) (sha1_fits plan.block)), ((refl, decimal_is_value (length plan.block) fits), tt)),
        ),
      ),
    ),
  ),
)

pub made_head : (type uuid : List ℕ) (plan : Plan) → is_name type ≡ true → is_date plan.date ≡ true → head_fault (made_fields type uuid plan) ≡ None
made_head type uuid plan type_is date_is = rw (type_is, id_is_id uuid, date_is) refl

-- ---- which refusal comes first

pub no_kind : (plan : Plan) → type_of plan.kind ≡ None → made plan ≡ Err BadKind
unfolding made
no_kind plan kind = rw kind refl

pub no_date : (plan : Plan) (type : List ℕ) → type_of plan.kind ≡ Some type → is_date plan.date ≡ false → made plan ≡ Err Date
unfolding made
no_date plan type kind date = rw (kind, date) refl

pub no_target : (plan : Plan) (type : List ℕ) → type_of plan.kind ≡ Some type → is_date plan.date ≡ true → is_target plan.uri ≡ false → made plan ≡ Err Text
unfolding made
no_target plan type kind date target = rw (kind, date, target) refl

pub no_uuid : (plan : Plan) (type : List ℕ) → type_of plan.kind ≡ Some type → is_date plan.date ≡ true → is_target plan.uri ≡ true
    → parsed plan.uuid ≡ None → made plan ≡ Err Text
unfolding made
no_uuid plan type kind date target uuid = rw (kind, date, target, uuid) refl

pub no_content_type : (plan : Plan) (type uuid : List ℕ) → type_of plan.kind ≡ Some type → is_date plan.date ≡ true → is_target plan.uri ≡ true
    → parsed plan.uuid ≡ Some uuid → is_one_text plan.content_type ≡ false → made plan ≡ Err Text
unfolding made
no_content_type plan type uuid kind date target id text = rw (kind, date, target, id, text) refl

pub no_block : (plan : Plan) (type uuid : List ℕ) → type_of plan.kind ≡ Some type → is_date plan.date ≡ true → is_target plan.uri ≡ true
    → parsed plan.uuid ≡ Some uuid → is_one_text plan.content_type ≡ true → is_block plan.block ≡ false → made plan ≡ Err TooLong
unfolding made
no_block plan type uuid kind date target id text block = rw (kind, date, target, id, text, block) refl

pub made_is : (plan : Plan) (type uuid : List ℕ) → type_of plan.kind ≡ Some type → is_date plan.date ≡ true → is_target plan.uri ≡ true
    → parsed plan.uuid ≡ Some uuid → is_one_text plan.content_type ≡ true → is_block plan.block ≡ true
    → made plan ≡ fitted (made_fields type uuid plan) plan.block
unfolding made
made_is plan type uuid kind date target id text block = rw (kind, date, target, id, text, block) refl

-- ---- what framing answers

kept : (fields : List Pair) (block : List ℕ) → block_len fields ≡ Ok (length block) → with_block (record_1_1 fields block) (block_len fields) ≡ Ok (record_1_1 fields block)
kept fields block number =
    ap (with_block (record_1_1 fields block)) number ∙ ap (λ (b : Bool). if b then Ok (record_1_1 fields block) else Err Length) (eq-eqb (length block) (length block) refl)

some_by : (fields : List Pair) (block : List ℕ) (f : Record) (b : Bool) → nat_lt max_head (canonical_len V1_1 fields) ≡ b
    → with_block (record_1_1 fields block) (block_len fields) ≡ Ok (record_1_1 fields block)
    → (if b then Err HeadTooLong else with_block (record_1_1 fields block) (block_len fields)) ≡ Ok f → Ok f ≡ fitted fields block
some_by fields block f true e whole same = absurd (cc)
some_by fields block f false e whole same =
    let room : nat_le (canonical_len V1_1 fields) max_head ≡ true = grind (arith, nat_tests) in
    let is : ◌≡◌ {A = Result Record FaultKind} (Ok (record_1_1 fields block)) (Ok f) = sym whole ∙ same in
    let r : record_1_1 fields block ≡ f = cc in
    rw room (ap Ok (sym r))

none_by : (fields : List Pair) (block : List ℕ) (kind : FaultKind) (b : Bool) → nat_lt max_head (canonical_len V1_1 fields) ≡ b
    → with_block (record_1_1 fields block) (block_len fields) ≡ Ok (record_1_1 fields block)
    → (if b then Err HeadTooLong else with_block (record_1_1 fields block) (block_len fields)) ≡ Err kind → Err TooLong ≡ fitted fields block
none_by fields block kind true e whole same = let past : nat_le (canonical_len V1_1 fields) max_head ≡ false = grind (arith, nat_tests) in rw past refl
none_by fields block kind false e whole same = absurd (both (record_1_1 fields block) kind (sym whole ∙ same))
  where
    both : (r : Record) (k : FaultKind) → ◌≡◌ {A = Result Record FaultKind} (Ok r) (Err k) → ⊥
    both r k e = cc

pub fitted_some : (fields : List Pair) (block : List ℕ) (f : Record) → block_len fields ≡ Ok (length block) → framed_of (record_1_1 fields block) ≡ Ok f → Ok f ≡ fitted fields block
unfolding framed_of
fitted_some fields block f number is = some_by fields block f (nat_lt max_head (canonical_len V1_1 fields)) refl (kept fields block number) is

pub fitted_none : (fields : List Pair) (block : List ℕ) (kind : FaultKind) → block_len fields ≡ Ok (length block) → framed_of (record_1_1 fields block) ≡ Err kind → Err TooLong ≡ fitted fields block
unfolding framed_of
fitted_none fields block kind number is = none_by fields block kind (nat_lt max_head (canonical_len V1_1 fields)) refl (kept fields block number) is

-- ---- what the tests say

pub date_by : (text : List ℕ) (o : Option Instant) (b c : Bool) → o ≡ instant_of text → is_some o ≡ not b → b ≡ c → is_date text ≡ not c
date_by text o b c e some is = ap is_some (sym e) ∙ some ∙ ap not is

pub no_parse : {E : Type 0} (r : Result (List ℕ) E) (o : Option (List ℕ)) → (IsOk r ↔ ((u : List ℕ) × (o ≡ Some u))) → ((x : List ℕ) → r ≡ Ok x → ⊥) → o ≡ None
no_parse (Ok x) o both never = absurd (never x refl)
no_parse (Err e) None both never = refl
no_parse (Err e) (Some u) both never = absurd (true≢false (sym (both.1 (u, refl))))

-- what is read of a target and of a content type
pub target_is_value : (uri : List ℕ) → is_target uri ≡ true → is_value uri ≡ true
target_is_value uri is = (and_parts (is_value uri) (not (length uri == 0)) (and_parts (is_one_text uri) (bytes_eq (bare_text uri) uri) is).0).0

pub text_is_value : (text : List ℕ) → is_one_text text ≡ true → is_value text ≡ true
text_is_value text is = (and_parts (is_value text) (not (length text == 0)) is).0

-- ---- a made record is good

pub made_is_good : (plan : Plan) (type uuid : List ℕ) (r : Record) → type_of plan.kind ≡ Some type → is_date plan.date ≡ true
    → r ≡ record_1_1 (made_fields type uuid plan) plan.block → IsFramed r → IsGood r
made_is_good plan type uuid r kind date is framed = record {
  framed = framed;
  head = (good_heads_have_no_fault r.fields).1
      (ap (λ (r : Record). head_fault r.fields) is ∙ made_head type uuid plan (type_is_name plan.kind type kind).0 date);
}

-- what fits is the record
pub fitted_is : (fields : List Pair) (block : List ℕ) (r : Record) → ◌≡◌ {A = Result Record MakeFault} (Ok r) (fitted fields block) → r ≡ record_1_1 fields block
fitted_is fields block r is = by_room (nat_le (canonical_len V1_1 fields) max_head) is
  where
    by_room : (b : Bool) → ◌≡◌ {A = Result Record MakeFault} (Ok r) (if b then Ok (record_1_1 fields block) else Err TooLong) → r ≡ record_1_1 fields block
    by_room true e = cc
    by_room false e = absurd (cc)

-- what a call answers that is the definition's, and that it is good
pub makes_from : (answer made : Result Record MakeFault) → answer ≡ made → Makes answer made
makes_from (Ok r) made e = sym e
makes_from (Err Memory) made e = tt
makes_from (Err Date) made e = sym e
makes_from (Err Text) made e = sym e
makes_from (Err TooLong) made e = sym e
makes_from (Err BadKind) made e = sym e

pub good_from : (plan : Plan) (type uuid : List ℕ) (fields : List Pair) (block : List ℕ) (answer : Result Record MakeFault) → type_of plan.kind ≡ Some type → is_date plan.date ≡ true
    → fields ≡ made_fields type uuid plan → block ≡ plan.block → answer ≡ fitted fields block → IfOk answer IsFramed → IfOk answer IsGood
good_from plan type uuid fields block (Ok r) kind date fields_is block_is e framed =
    made_is_good plan type uuid r kind date (fitted_is fields block r e ∙ (λ i. record_1_1 (fields_is i) (block_is i))) framed
good_from plan type uuid fields block (Err fault) kind date fields_is block_is e framed = tt
