-- The block of a record that is made.
use Rattle.std.proofs.Common.{◌≡◌, ℕ, List, Bool, true, false, Option, Some, None, ◌<◌, ◌^◌, length, take, drop, Result, Ok, Err, if◌then◌else◌, sym, ap, ◌∙◌, arith, take_all}
use Rattle.std.specs.Option.{ok_or}
use Rattle.warc_field.specs.Area.{Pair, canonical_fields}
use Rattle.warc_frame.specs.Reading.{◌>>=◌}
use Rattle.warc_frame.specs.Record.{Record, head_text}
use Rattle.warc_frame.specs.Spelling.{canonical}
use Rattle.warc_frame.specs.declared.version.Version.{Version}
use Rattle.warc_portions.specs.Portions.{IsPortionOf}
use Rattle.warc_portions.specs.declared.portion.Portion.{Portion}
use Rattle.warc_portions.proofs.PortionLemmas.{portion_text}
use Rattle.uuid.specs.Text.{parsed}
use Rattle.warc_record.specs.Heads.{is_date}
use Rattle.warc_write.specs.Making.{Plan, fitted, is_block, is_one_text, is_target, made, made_fields, record_1_1, type_of}
use Rattle.warc_write.specs.Refusals.{checks}
use Rattle.warc_write.specs.declared.made.MakeFault.{MakeFault}
use Rattle.warc_write.specs.declared.made.MakeFault.TheVariants.{Date, Kind as BadKind, Text, TooLong}

fitted_block : (plan : Plan) (type uuid : List ℕ) (r : Record) → fitted (made_fields type uuid plan) plan.block ≡ Ok r → r.block ≡ plan.block
fitted_block plan type uuid r is = by _ is
  where
    by : (test : Bool) → (if test then Ok (record_1_1 (made_fields type uuid plan) plan.block) else Err TooLong) ≡ Ok r → r.block ≡ plan.block
    by true same = let whole : record_1_1 (made_fields type uuid plan) plan.block ≡ r = cc same in sym (ap (λ (q : Record). q.block) whole)
    by false same = absurd (cc same)

abbrev after_uuid : Plan → List ℕ → List ℕ → Result Record MakeFault
after_uuid plan type uuid = ◌>>=◌ (checks (is_one_text plan.content_type) Text)
    (λ _. ◌>>=◌ (checks (is_block plan.block) TooLong) (λ _. fitted (made_fields type uuid plan) plan.block))

abbrev after_type : Plan → List ℕ → Result Record MakeFault
after_type plan type = ◌>>=◌ (checks (is_date plan.date) Date)
    (λ _. ◌>>=◌ (checks (is_target plan.uri) Text) (λ _. ◌>>=◌ (ok_or (parsed plan.uuid) Text) (λ uuid. after_uuid plan type uuid)))

-- its block is the plan's
pub made_block : (plan : Plan) (r : Record) → made plan ≡ Ok r → r.block ≡ plan.block
unfolding made
made_block plan r is = by_type (type_of plan.kind) is
  where
    by_fit : (type uuid : List ℕ) (text fits : Bool)
        → ◌>>=◌ (checks text Text) (λ _. ◌>>=◌ (checks fits TooLong) (λ _. fitted (made_fields type uuid plan) plan.block)) ≡ Ok r
        → r.block ≡ plan.block
    by_fit type uuid true true same = fitted_block plan type uuid r same
    by_fit type uuid true false same = absurd (cc same)
    by_fit type uuid false fits same = absurd (cc same)

    by_uuid : (type : List ℕ) (o : Option (List ℕ)) → ◌>>=◌ (ok_or o Text) (λ uuid. after_uuid plan type uuid) ≡ Ok r
        → r.block ≡ plan.block
    by_uuid type (Some uuid) same = by_fit type uuid (is_one_text plan.content_type) (is_block plan.block) same
    by_uuid type None same = absurd (cc same)

    by_date : (type : List ℕ) (date target : Bool)
        → ◌>>=◌ (checks date Date) (λ _. ◌>>=◌ (checks target Text) (λ _. ◌>>=◌ (ok_or (parsed plan.uuid) Text) (λ uuid. after_uuid plan type uuid))) ≡ Ok r
        → r.block ≡ plan.block
    by_date type true true same = by_uuid type (parsed plan.uuid) same
    by_date type true false same = absurd (cc same)
    by_date type false target same = absurd (cc same)

    by_type : (o : Option (List ℕ)) → ◌>>=◌ (ok_or o BadKind) (λ type. after_type plan type) ≡ Ok r → r.block ≡ plan.block
    by_type (Some type) same = by_date type (is_date plan.date) (is_target plan.uri) same
    by_type None same = absurd (cc same)

-- its portion
pub gives_made : {A : Type 0} (portion : Portion A) (plan : Plan) (r : Record) (version : Version) (fields : List Pair)
    → made plan ≡ Ok r → portion.head.items ≡ head_text version (canonical_fields fields) → version ≡ r.version
    → fields ≡ r.fields → portion.block_start ≡ 0 → portion.block_len ≡ length plan.block → length plan.block < 2 ^ 64
    → IsPortionOf portion plan.block (canonical r)
gives_made {A} portion plan r version fields is head version_is fields_are start len short =
    let whole : take (length plan.block) (drop 0 plan.block) ≡ plan.block = take_all (length plan.block) plan.block (omega arith) in
    let there : r.block ≡ take portion.block_len (drop portion.block_start plan.block) =
    made_block plan r is ∙ sym whole ∙ ap (λ n. take n (drop 0 plan.block)) (sym len) ∙ ap (λ n. take portion.block_len (drop n plan.block)) (sym start) in
    portion_text portion plan.block r version fields head version_is fields_are there (omega (arith, start, len), short)
