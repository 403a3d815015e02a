-- What is stored of an origin whose own block alone is joined.
use Rattle.std.specs.Prelude.{IfErr, IfOk, IfSome, slice_range, unwrap_or}
use Rattle.std.proofs.Common.{◌≡◌, ℕ, ◌-◌, ◌<◌, Bool, true, false, ◌||◌, List, [], ◌∷◌, ◌++◌, Option, Some, None, Result, Ok, Err, length, map, refl, sym, ap, subst, ◌∙◌}
use Rattle.std.specs.Bool.{MatchBool}
use Rattle.std.specs.Borrow.{Bor}
use Rattle.std.specs.Option.{option_map_or}
use Rattle.std.specs.List.{list_any, slice_get}
use Rattle.warc_field.specs.Area.{Pair, area_of, first_value}
use Rattle.warc_frame.specs.Failing.{MayHaveFailedBy, HasFailedBy}
use Rattle.warc_frame.specs.Seen.{SeenSource}
use Rattle.warc_frame.proofs.EffectLemmas.{fails_after, fails_never}
use Rattle.warc_segment.specs.Kept.{Kept as Parts}
use Rattle.warc_value.specs.declared.hash.Verdict.{Verdict}
use Rattle.warc_value.specs.declared.hash.Verdict.TheVariants.{Good}
use Rattle.warc_frame.specs.Names.{warc_segment_number, warc_type}
use Rattle.warc_frame.specs.Reading.{any_fields}
use Rattle.warc_frame.specs.Record.{Record}
use Rattle.warc_frame.specs.declared.fault.OutFault.{OutFault}
use Rattle.warc_frame.specs.declared.fault.OutFault.TheVariants as outs
use Rattle.warc_frame.proofs.ReadLemmas.{head-has}
use Rattle.warc_record.specs.Kinds.{kind_named}
use Rattle.warc_record.specs.Readings.{reading_of}
use Rattle.warc_record.specs.declared.types.Kind.TheVariants.{Other}
use Rattle.warc_segment.specs.Joined.{ReadRecord, joined_records}
use Rattle.warc_payload.specs.Texts.{media_type}
use Rattle.warc_answer.specs.Payloads.{has_bad_block, is_http_response, is_response, read_record, whole_block}
use Rattle.warc_answer.specs.Seen.{IsEarly, stored_seen}
use Rattle.warc_answer.specs.Stored.{AreMeasures, IsStoredAt, IsStoredBy, IsStoredIn, StoredBody}
use Rattle.warc_answer.specs.declared.answer.Reason.{Reason as Why}
use Rattle.warc_answer.specs.declared.answer.Reason.TheVariants.{BadDigest}
use Rattle.warc_answer.specs.declared.answer.ReplayFault.TheVariants.{Out}
use Rattle.warc_answer.specs.declared.stored.Stored.{Stored}
use Rattle.warc_reading.specs.Archive.{contents}
use Rattle.warc_reading.specs.Rereading.{IsHeadText}
use Rattle.warc_reading.specs.Row.{Placed, Row, row_of}
use Rattle.warc_replay.specs.Capturing.{IsBlockVerdict, JudgesBy}
use Rattle.warc_replay.specs.Lone.{IfLone, IsGoodAt, JudgesLone, own_block}
use Rattle.warc_replay.specs.TypeLines.{IsUnsegmentedType}
use Rattle.warc_replay.proofs.LookLemmas.{content_there}
use Rattle.warc_replay.proofs.OriginLemmas.{preserves_both}
use Rattle.warc_replay.proofs.ReplayLemmas.{asks_both}

-- the field area of a head
pub area_read : (text : List ℕ) (r : Record) (row : Row) → IsHeadText r row text → area_of (slice_range text 10 (length text - 2)) ≡ Ok r.fields
area_read text r row is = (head-has any_fields text _ is).fields

pub typed_head : (found : Option (Bor (List ℕ))) (text : List ℕ) → IfSome found (λ value. (fields : List Pair) → area_of (slice_range text 10 (length text - 2)) ≡ Ok fields → IsUnsegmentedType fields value.now)
    → IfSome found (λ value. (r : Record) (row : Row) → IsHeadText r row text → IsUnsegmentedType r.fields value.now)
typed_head None text is = tt
typed_head (Some value) text is = λ r row head. is r.fields (area_read text r row head)

-- ---- what is joined

alone_joined : (all : List ReadRecord) (c : Record) → first_value warc_segment_number c.fields ≡ None → joined_records all (read_record c) ≡ Ok (read_record c ∷ [])
alone_joined all c is = rw is refl

no_response : (o : Option (List ℕ)) → is_response (kind_named (unwrap_or o [])) ≡ false → is_response (option_map_or kind_named o Other) ≡ false
no_response None is = refl
no_response (Some text) is = is

not_http : (fields : List Pair) → is_response (kind_named (unwrap_or (first_value warc_type fields) [])) ≡ false → is_http_response (reading_of fields) ≡ false
not_http fields is = rw (no_response (first_value warc_type fields) is) refl

or_no : (b : Bool) → b || false ≡ b
or_no true = refl
or_no false = refl

append_nil : (xs : List ℕ) → xs ++ [] ≡ xs
append_nil [] = refl
append_nil (x ∷ xs) = ap (λ l. x ∷ l) (append_nil xs)

stored_alone : (c : Record) (row : Row) (type : List ℕ) → IsUnsegmentedType c.fields type → row.is_truncated ≡ (reading_of c.fields).truncated → row.block_len ≡ length c.block
    → has_bad_block (read_record c) ≡ false → is_http_response (reading_of c.fields) ≡ false → IsStoredBy c (Ok (read_record c ∷ [])) (Ok (own_block row type))
stored_alone c row type is mark size good http =
    let none : list_any has_bad_block (read_record c ∷ []) ≡ false = or_no (has_bad_block (read_record c)) ∙ good in
    let P : Bool → Type 0 = λ b. MatchBool b (◌≡◌ {A = Result StoredBody Why} (Ok (own_block row type)) (Err BadDigest))
    (IsStoredIn (is_http_response (reading_of c.fields)) c.fields (whole_block (read_record c ∷ [])) (Ok (own_block row type)) × AreMeasures (read_record c ∷ []) (Ok (own_block row type))) in
    subst P (sym none) (
      subst (λ b. IsStoredIn b c.fields (whole_block (read_record c ∷ [])) (Ok (own_block row type))) (sym http) (record {
        status_is = refl;
        media_type_is = ap media_type (sym is.type_is);
        codings_are = refl;
        coded_is = refl;
        head_len_is = refl;
      }),
      (mark ∙ sym (or_no (reading_of c.fields).truncated), size ∙ ap length (sym (append_nil c.block))),
    )

pub lone_stored : {A : Type 0} (records : List Placed) (i : ℕ) (p : Placed) (row : Row) (answer : Option (Stored A)) → slice_get records i ≡ Some p → row ≡ row_of p → is_response (kind_named row.kind) ≡ false
    → IsGoodAt (contents records) i → IfLone p.content.fields row answer → IfSome answer (λ s. IsStoredAt (contents records) i (Ok (stored_seen s)))
lone_stored records i p row None there same other good has = tt
lone_stored records i p row (Some s) there same other good (type, is, says) =
    let there' = content_there records i p there in
    let kind : is_response (kind_named (row_of p).kind) ≡ false = subst (λ (r : Row). is_response (kind_named r.kind) ≡ false) same other in
    let alone = stored_alone p.content row type is (ap (λ (r : Row). r.is_truncated) same) (ap (λ (r : Row). r.block_len) same) (good p.content there') (not_http p.content.fields kind) in
    subst (λ (b : StoredBody). IsStoredAt (contents records) i (Ok b)) (sym says) (record {
      content = p.content;
      there = there';
      is = subst (λ j. IsStoredBy p.content j (Ok (own_block row type))) (sym (alone_joined (map read_record (contents records)) p.content is.unsegmented)) alone;
    })

pub lone_answer : {A : Type 0} (records : List Placed) (i : ℕ) (p : Placed) (row : Row) (answer : Result (Option (Stored A)) OutFault) → slice_get records i ≡ Some p → row ≡ row_of p
    → is_response (kind_named row.kind) ≡ false → IsGoodAt (contents records) i → IfOk answer (IfLone p.content.fields row)
    → IfOk answer (λ o. IfSome o (λ s. IsStoredAt (contents records) i (Ok (stored_seen s))))
lone_answer records i p row (Ok o) there same other good has = lone_stored records i p row o there same other good has
lone_answer records i p row (Err e) there same other good has = tt

-- ---- faults

pub memory_early : {X : Type 0} (answer : Result X OutFault) → IfErr answer (λ e. e ≡ outs.Memory 0) → IfErr answer (λ e. IsEarly (Out e))
memory_early (Ok x) is = tt
memory_early (Err e) is = subst (λ (f : OutFault). IsEarly (Out f)) (sym is) refl

pub memory_failed : {X : Type 0} (answer : Result X OutFault) (old new : ℕ) → IfErr answer (λ e. e ≡ outs.Memory 0) → new ≡ old → HasFailedBy answer old new
memory_failed (Ok x) old new is same = same
memory_failed {X} (Err e) old new is same = subst (λ (f : OutFault). HasFailedBy {X = X} (Err f) old new) (sym is) same

pub memory_may : {X : Type 0} (answer : Result X OutFault) (old new : ℕ) → IfErr answer (λ e. e ≡ outs.Memory 0) → new ≡ old → MayHaveFailedBy answer old new
memory_may (Ok x) old new is same = same
memory_may {X} (Err e) old new is same = subst (λ (f : OutFault). MayHaveFailedBy {X = X} (Err f) old new) (sym is) same

-- ---- before what is judged

module _ {A : Type 0} (rows : List Row) (parts : Parts) (position : ℕ) (own joined : Verdict) (lone : Result (Option (Stored A)) OutFault) where
  pub lone_made : {old new : SeenSource} (rests : List Verdict) (s : Stored A) → lone ≡ Ok (Some s) → own ≡ Good → JudgesLone rows position old new lone → JudgesBy {A = A} rows parts position own joined rests rests old new (Ok (Ok s))
  lone_made {old} {new} rests s is good all =
      let has = subst (λ (a : Result (Option (Stored A)) OutFault). JudgesLone rows position old new a) is all in
      record {
        reported = λ bytes held of parts_ one joined_ rests_. has.reported bytes held of (subst (IsBlockVerdict (contents of.are.records) position) good one);
        remembers = λ bytes held of parts_ rests_. rests_;
        early = tt;
        inside = λ bytes of parts_. has.inside bytes of;
        keeps = has.keeps;
        fails = fails_never has.fails.may;
      }

  pub then_judged : {old mid new : SeenSource} {rests again : List Verdict} (answer : Result (Result (Stored A) Why) OutFault) → lone ≡ Ok None → JudgesLone rows position old mid lone → JudgesBy rows parts position own joined rests again mid new answer
      → JudgesBy rows parts position own joined rests again old new answer
  then_judged {old} {mid} {new} answer is all next =
      let has = subst (λ (a : Result (Option (Stored A)) OutFault). JudgesLone rows position old mid a) is all in
      record {
        reported = λ bytes held. next.reported bytes (has.keeps.kept ∙ held);
        remembers = λ bytes held. next.remembers bytes (has.keeps.kept ∙ held);
        early = next.early;
        inside = λ bytes of parts_. asks_both (λ at. at < length bytes) old mid new.watched_reads has.keeps.watched (has.inside bytes of) (next.inside bytes of parts_);
        keeps = preserves_both has.keeps next.keeps;
        fails = fails_after has.keeps.kept has.fails.may next.fails;
      }
