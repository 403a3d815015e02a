-- What the fields of a head say, and that it is the head at the front of a text.
use Rattle.std.proofs.Common.{◌≡◌, ℕ, ◌+◌, ◌-◌, ◌<◌, ◌≤◌, ◌==◌, true, not, List, [], ◌∷◌, ◌++◌, length, length-append, take, drop, replicate, append_assoc, Option, Some, None, Ok, is_some, refl, sym, ap, ◌∙◌, arith}
use Rattle.std.specs.Prelude.{IfSome, unwrap_or, option_and_then}
use Rattle.std.specs.Borrow.{Bor}
use Rattle.std.specs.Option.{option_map_or}
use Rattle.std.proofs.Math.Seq.{take-append_seam}
use Rattle.std.proofs.lemmas.List.{length-replicate, take_all}
use Rattle.std.proofs.lemmas.Bool.{ltb-true}
use Rattle.warc_field.specs.Area.{Pair, SpellsFields, area_of, count_of, first_value}
use Rattle.warc_field.specs.Lines.{crlf}
use Rattle.warc_field.specs.Text.{AreFields, is_name, trimmed}
use Rattle.warc_field.proofs.LineLemmas.{append_nil}
use Rattle.warc_field.proofs.LawLemmas.{spelled_are_fields, spelling_is_read}
use Rattle.warc_value.specs.Digests.{wanted_digest}
use Rattle.warc_value.specs.declared.hash.Wanted.TheVariants.{Unchecked}
use Rattle.warc_frame.specs.declared.version.Version.{Version}
use Rattle.warc_frame.specs.declared.version.Version.TheVariants.{V1_0, V1_1}
use Rattle.warc_frame.specs.Names.{content_length, warc_target_uri, warc_block_digest, warc_payload_digest, warc_truncated, warc_refers_to, warc_refers_to_target_uri, warc_profile, warc_segment_number, warc_segment_origin_id, warc_segment_total_length}
use Rattle.warc_frame.specs.Record.{Record, block_len, block_number, canonical_len, head_text, max_head}
use Rattle.warc_frame.specs.Reading.{any_fields, head_of}
use Rattle.warc_frame.specs.VersionLine.{version_line}
use Rattle.warc_frame.proofs.LengthLemmas.{spelled_head}
use Rattle.warc_frame.proofs.CanonicalLemmas.{head_size}
use Rattle.warc_frame.proofs.ReadLemmas.{head-from}
use Rattle.warc_frame.proofs.SpellLemmas.{head-spelled}
use Rattle.warc_record.specs.Heads.{is_date}
use Rattle.warc_record.specs.Ids.{bare_text, is_id}
use Rattle.warc_record.specs.Readings.{bare_present, no_segment, nothing_named, reference_of, segment_reading, unless_empty}
use Rattle.warc_record.proofs.GoodLemmas.{good_heads_have_no_fault}
use Rattle.warc_record.proofs.TypedLemmas.{present_or_empty, some_bytes, wanted_unless_empty}
use Rattle.warc_quick.specs.declared.head.QuickHead.{QuickHead}
use Rattle.warc_frame.specs.FieldNames.{name_text}
use Rattle.warc_frame.specs.declared.field_name.FieldName.{FieldName}
use Rattle.warc_frame.specs.declared.field_name.FieldName.TheVariants.{«Type», RecordId, Date, ContentLength}
use Rattle.warc_quick.specs.PlainFindings.{AreFindings, all_plain}
use Rattle.warc_quick.specs.Fronts.{BeginsWithFields, IsHeadWith, IsValueOf}
use Rattle.warc_quick.specs.Quick.{AreAlone, Says, max_quick_head}
use Rattle.warc_quick.proofs.ValueLemmas.{some_counts}

-- the number of the only `Content-Length`
block_is : (fields : List Pair) (value : Bor (List ℕ)) (n : ℕ) → IsValueOf ContentLength fields (Some value)
    → block_number (Some value.now) ≡ Some n → block_len fields ≡ Ok n
unfolding block_len
block_is fields value n is number =
    let some : 0 < count_of content_length fields =
    ltb-true 0 (count_of content_length fields) (sym (some_counts content_length fields) ∙ ap is_some (sym is.first)) in
    let one : count_of content_length fields ≡ 1 = omega (arith, some, is.alone refl) in
    rw (one, sym is.first, number) refl

nothing_bare : bare_text [] ≡ []
unfolding bare_text trimmed
nothing_bare = refl

-- an empty text counts as none
or_nothing : (text : List ℕ) → unwrap_or (unless_empty text) [] ≡ text
or_nothing [] = refl
or_nothing (b ∷ bs) = rw (some_bytes b bs) refl

pub target_is : (value : Option (List ℕ)) → unwrap_or (bare_present value) [] ≡ bare_text (unwrap_or value [])
target_is None = sym nothing_bare
target_is (Some []) = sym nothing_bare
target_is (Some (b ∷ bs)) = rw (some_bytes b bs) (or_nothing (bare_text (b ∷ bs)))

digest_is : (value : Option (List ℕ)) → option_map_or wanted_digest (option_and_then unless_empty value) Unchecked ≡ wanted_digest (unwrap_or value [])
digest_is None = refl
digest_is (Some text) = wanted_unless_empty text

mark_is : (value : Option (List ℕ)) → is_some (option_and_then unless_empty value) ≡ not (length (unwrap_or value []) == 0)
mark_is None = refl
mark_is (Some []) = refl
mark_is (Some (b ∷ bs)) = rw (some_bytes b bs) refl

-- what fields say where those of a few names are absent
pub nothing_is_named : (fields : List Pair) → first_value warc_refers_to fields ≡ None → first_value warc_refers_to_target_uri fields ≡ None
    → first_value warc_profile fields ≡ None → reference_of fields ≡ nothing_named
nothing_is_named fields id target profile = rw (id, target, profile) refl

pub nothing_of_segments : (fields : List Pair) → first_value warc_segment_number fields ≡ None
    → first_value warc_segment_origin_id fields ≡ None → first_value warc_segment_total_length fields ≡ None
    → segment_reading fields ≡ no_segment
nothing_of_segments fields number origin total = rw (number, origin, total) refl

listed : (name : FieldName) (fields : List Pair) (value : Bor (List ℕ)) → IsValueOf name fields (Some value)
    → value.now ≡ unwrap_or (first_value (name_text name) fields) []
listed name fields value is = ap (λ o. unwrap_or o []) is.first

-- the values of the fields of a head say this
module _ (fields : List Pair) (found : QuickHead) (size : Bor (List ℕ)) (are : AreFields fields)
    (of_size : IsValueOf ContentLength fields (Some size)) (number : block_number (Some size.now) ≡ Some found.block_len)
    (of_type : IsValueOf «Type» fields (Some found.texts.kind)) (token : is_name found.texts.kind.now ≡ true)
    (of_id : IsValueOf RecordId fields (Some found.texts.id)) (id : is_id found.texts.id.now ≡ true)
    (of_date : IsValueOf Date fields (Some found.texts.date)) (date : is_date found.texts.date.now ≡ true) where
  pub says : found.texts.target.now ≡ bare_text (unwrap_or (first_value warc_target_uri fields) [])
      → found.digest.now ≡ unwrap_or (first_value warc_block_digest fields) []
      → found.texts.is_truncated ≡ not (length (unwrap_or (first_value warc_truncated fields) []) == 0)
      → found.payload_digest.now ≡ unwrap_or (first_value warc_payload_digest fields) []
      → (found.is_alone ≡ true → AreAlone fields)
      → IfSome found.findings (λ listed. AreFindings fields found.block_len (all_plain listed)) → Says fields found
  says target digest mark payload alone findings = record {
    values = are;
    good = (good_heads_have_no_fault fields).0 (record {
      type_is = record { value = found.texts.kind.now; is_present = sym of_type.first; alone = of_type.alone refl; reads = token };
      id_is = record { value = found.texts.id.now; is_present = sym of_id.first; alone = of_id.alone refl; reads = id };
      date_is = record { value = found.texts.date.now; is_present = sym of_date.first; alone = of_date.alone refl; reads = date };
    });
    block = block_is fields size found.block_len of_size number;
    texts = record {
      kind = listed «Type» fields found.texts.kind of_type;
      date = listed Date fields found.texts.date of_date;
      id = listed RecordId fields found.texts.id of_id;
      target = target ∙ sym (target_is (first_value warc_target_uri fields));
      truncated = mark ∙ sym (mark_is (first_value warc_truncated fields));
    };
    digest = sym digest;
    wanted = digest_is (first_value warc_block_digest fields) ∙ ap wanted_digest (sym digest);
    payload = sym (present_or_empty (first_value warc_payload_digest fields)) ∙ ap unless_empty (sym payload);
    alone = alone;
    findings = findings;
  }

area_at : (version : Version) (area : List ℕ) → drop 10 (version_line version ++ area) ≡ area
area_at V1_0 area = refl
area_at V1_1 area = refl

-- fields that a head of at most half the limit spells are short enough when they are written canonically
canonical_fits : (version : Version) (fields : List Pair) (area : List ℕ) → SpellsFields fields area → length area + 12 ≤ max_quick_head
    → canonical_len version fields ≤ max_head
canonical_fits version fields area spelled small =
    let n = length area + 12 in
    let all : take (n - 2 - 10) (drop 10 (version_line version ++ area)) ≡ area =
    ap (take (n - 2 - 10)) (area_at version area) ∙ take_all (n - 2 - 10) area (omega arith) in
    omega (arith, small, spelled_head version fields (version_line version ++ area) n (ap area_of all ∙ (spelling_is_read fields area).0 spelled) (omega arith))

-- the head that fields spell
whole_head : (version : Version) (fields : List Pair) (area : List ℕ) (n : ℕ) → SpellsFields fields area → length area + 12 ≤ max_quick_head
    → block_len fields ≡ Ok n
    → head_of any_fields (head_text version area) ≡ Ok (record { version = version; fields = fields; len = length area + 12; block_len = n })
whole_head version fields area n spelled small number =
    let r : Record = record { version = version; fields = fields; block = replicate n 0 } in
    let size : length r.block ≡ n = length-replicate n 0 in
    let has = head-spelled any_fields r area []
    (record { fields = spelled_are_fields fields area spelled; number = number ∙ ap (λ k. Ok k) (sym size); head = canonical_fits version fields area spelled small })
    refl spelled (omega (arith, head_size version area, small)) in
    let read = head-from any_fields (head_text version area ++ []) _ has in
    ap (head_of any_fields) (sym (append_nil (head_text version area))) ∙ read
    ∙ ap (λ k. Ok (record { version = version; fields = fields; len = length area + 12; block_len = k })) size

-- the head at the front of a text, and the values of its fields
pub is_head_with : (text after rest : List ℕ) (version : Version) (values : List (Option (Bor (List ℕ)))) (found : QuickHead)
    → text ≡ version_line version ++ after → (read : BeginsWithFields after values (crlf ++ rest))
    → found.len ≡ length text - length rest → found.len ≤ max_quick_head → Says read.fields found → IsHeadWith text found values
is_head_with text after rest version values found begins read len small said =
    let area = read.area in
    let head = head_text version area in
    let whole : text ≡ head ++ rest =
    begins ∙ ap (λ xs. version_line version ++ xs) read.text_is
    ∙ sym (append_assoc (version_line version ++ area) crlf rest ∙ append_assoc (version_line version) area (crlf ++ rest)) in
    let size : found.len ≡ length head = omega (arith, len, ap length whole, length-append head rest) in
    let n : length area + 12 ≡ found.len = omega (arith, size, head_size version area) in
    let front : take found.len text ≡ head = ap (take found.len) whole ∙ ap (λ k. take k (head ++ rest)) size ∙ take-append_seam head rest in
    record {
      head = record {
        version = version;
        fields = read.fields;
        within = omega (arith, size, ap length whole, length-append head rest);
        whole =
            ap (head_of any_fields) front ∙ whole_head version read.fields area found.block_len read.spelled (omega (arith, n, small)) said.block
            ∙ ap (λ k. Ok (record { version = version; fields = read.fields; len = k; block_len = found.block_len })) n;
        says = said;
      };
      area = area;
      spelled = read.spelled;
      are = read.are;
      text_is = front;
    }
