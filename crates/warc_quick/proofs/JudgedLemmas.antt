-- What is found of the record of a plain head.
use Rattle.std.proofs.Common.{◌≡◌, ℕ, suc, ◌<◌, Bool, true, false, not, ◌&&◌, List, [], ◌∷◌, ◌++◌, length, append_assoc, cond, filter, map, take, Ok, Option, Some, None, refl, sym, ap, ◌∙◌, subst, arith}
use Rattle.std.specs.Prelude.{IfSome}
use Rattle.std.specs.List.{All}
use Rattle.std.specs.Borrow.{Bor}
use Rattle.std.specs.Str.{IsAscii, is_utf8}
use Rattle.std.proofs.lemmas.List.{append-nil, take_all}
use Rattle.warc_field.specs.Area.{Pair}
use Rattle.warc_field.specs.Lines.{crlf}
use Rattle.warc_value.specs.Digests.{wanted_digest}
use Rattle.warc_value.specs.declared.hash.Wanted.{Wanted}
use Rattle.warc_frame.specs.Record.{head_text}
use Rattle.warc_frame.specs.Reading.{any_fields, head_of}
use Rattle.warc_frame.specs.VersionLine.{version_line}
use Rattle.warc_record.specs.declared.checks.TableCheck.TheVariants.{Lacks, HasForbidden, Repeats}
use Rattle.warc_record.specs.declared.types.Kind.{Kind}
use Rattle.warc_record.specs.Findings.{SeenFinding, Digest, SegmentNumber, IdUsed, NoContentType, Profile, BareId, NoOrigin, by_table, findings_of, findings_by, has_bad_segment, has_bare_id, has_unknown_profile, lacks_content_type, lacks_origin, not_utf8, once}
use Rattle.warc_record.specs.Kinds.{is_known}
use Rattle.warc_record.specs.Readings.{kind_of, reading_of}
use Rattle.warc_quick.specs.declared.head.QuickHead.{QuickHead}
use Rattle.warc_quick.specs.declared.plain_findings.PlainFindings.{PlainFindings}
use Rattle.warc_quick.specs.Fronts.{AreValues, IsHeadWith}
use Rattle.warc_quick.specs.PlainFindings.{AreFindings, IsJudgedHead, after_used, all_plain, before_digest}
use Rattle.warc_quick.specs.Quick.{IsQuickHead, Says}
use Rattle.warc_quick.proofs.AsciiLemmas.{left_ascii, right_ascii, values_utf8}

-- a test that no item passes selects none
none_selected : {X Y : Type 0} (P : X → Type 0) (reported : X → Y) (test : X → Bool) → ((x : X) → P x → test x ≡ false) → (xs : List X) → All P xs
    → map reported (filter test xs) ≡ []
none_selected P reported test never [] all = refl
none_selected P reported test never (x ∷ xs) all =
    ap (λ b. map reported (cond b (x ∷ filter test xs) (filter test xs))) (never x (all 0 x (omega arith)))
    ∙ none_selected P reported test never xs (λ k d inside. all (suc k) d (omega (arith, inside)))

pub all_utf8 : (fields : List Pair) → All (λ (field : Pair). is_utf8 field.1 ≡ true) fields → not_utf8 fields ≡ []
all_utf8 fields all = none_selected (λ (field : Pair). is_utf8 field.1 ≡ true) _ _ (λ field is. ap not is) fields all

-- the findings, one group after another
pub listed : (kind : Kind) (fields : List Pair) (block_len : ℕ) (old table block all : List SeenFinding) → kind ≡ kind_of fields
    → table ≡ old ++ by_table Lacks kind fields ++ by_table HasForbidden kind fields ++ by_table Repeats kind fields
    → block ≡ table ++ once NoContentType (lacks_content_type kind fields block_len) ++ once Profile (has_unknown_profile (reading_of fields) fields)
    → all ≡ block ++ once BareId (has_bare_id (reading_of fields)) ++ once NoOrigin (lacks_origin (reading_of fields) fields)
    → all ≡ old ++ before_digest fields ++ after_used fields block_len
listed kind fields block_len old table block all kind_is table_is block_is all_is =
    rw (all_is, block_is, table_is, kind_is) (simp append_assoc)

-- the findings, each number in turn
joined : (a b c four five six seven eight nine ten eleven digest : List SeenFinding) → four ≡ digest → five ≡ [] → nine ≡ []
    → a ++ b ++ c ++ four ++ five ++ six ++ seven ++ eight ++ nine ++ ten ++ eleven ≡ (a ++ b ++ c) ++ digest ++ six ++ (seven ++ eight ++ ten ++ eleven)
joined a b c four five six seven eight nine ten eleven digest is-4 is-5 is-9 =
    rw (is-4, is-5, is-9) (simp (append-nil, append_assoc))

-- all that is found of a record of one of the eight kinds, with no bad segment number, and with values in UTF-8
pub are_findings : (fields : List Pair) (block_len : ℕ) (kind : Kind) (found none : List SeenFinding) → kind ≡ kind_of fields → is_known kind ≡ true
    → has_bad_segment (reading_of fields) fields ≡ false → not_utf8 fields ≡ [] → none ≡ []
    → found ≡ none ++ before_digest fields ++ after_used fields block_len → AreFindings fields block_len found
unfolding findings_of findings_by
are_findings fields block_len kind found none kind_is is_known_kind number utf8 none_is is =
    let known : is_known (kind_of fields) ≡ true = ap is_known (sym kind_is) ∙ is_known_kind in
    record {
      known = known;
      before = before_digest fields;
      after = after_used fields block_len;
      found_is = is ∙ ap (λ (xs : List SeenFinding). xs ++ before_digest fields ++ after_used fields block_len) none_is;
      among = λ bad_digest used_id.
          joined (by_table Lacks (kind_of fields) fields) (by_table HasForbidden (kind_of fields) fields) (by_table Repeats (kind_of fields) fields)
          (once Digest (is_known (kind_of fields) && bad_digest)) (once SegmentNumber (has_bad_segment (reading_of fields) fields)) (once IdUsed used_id)
          (once NoContentType (lacks_content_type (kind_of fields) fields block_len)) (once Profile (has_unknown_profile (reading_of fields) fields))
          (not_utf8 fields) (once BareId (has_bare_id (reading_of fields))) (once NoOrigin (lacks_origin (reading_of fields) fields)) (once Digest bad_digest)
          (ap (λ known. once Digest (known && bad_digest)) known) (ap (once SegmentNumber) number) utf8;
    }

-- a head that says this, and of which it is said what is found
module _ (text : List ℕ) (found : QuickHead) (values : List (Option (Bor (List ℕ)))) (mark : Option PlainFindings) where
  abbrev marked : QuickHead
  marked = record {
    len = found.len;
    block_len = found.block_len;
    texts = found.texts;
    digest = found.digest;
    payload_digest = found.payload_digest;
    is_alone = found.is_alone;
    findings = mark;
  }

  says_marked : (fields : List Pair) → Says fields found → IfSome mark (λ listed. AreFindings fields found.block_len (all_plain listed)) → Says fields marked
  says_marked fields says findings = record {
    values = says.values;
    good = says.good;
    block = says.block;
    texts = says.texts;
    digest = says.digest;
    wanted = says.wanted;
    payload = says.payload;
    alone = says.alone;
    findings = findings;
  }

  weaker : {P Q : PlainFindings → Type 0} (m : Option PlainFindings) → ((f : PlainFindings) → P f → Q f) → IfSome m P → IfSome m Q
  weaker None to is = tt
  weaker (Some f) to is = to f is

  pub judged : IsHeadWith text found values
      → IfSome mark (λ listed. (fields : List Pair) → AreValues fields values
      → (IsAscii (take found.len text) → not_utf8 fields ≡ []) → AreFindings fields found.block_len (all_plain listed))
      → IsQuickHead text marked
  judged is known =
      let fields = is.head.fields in
      let version = is.head.version in
      let utf8 = λ (ascii : IsAscii (take found.len text)).
      let head_ascii : IsAscii (head_text version is.area) = subst IsAscii is.text_is ascii in
      let area_ascii = right_ascii (version_line version) is.area (left_ascii (version_line version ++ is.area) crlf head_ascii) in
      all_utf8 fields (values_utf8 fields is.area is.spelled area_ascii) in
      record {
        version = version;
        fields = fields;
        within = is.head.within;
        whole = is.head.whole;
        says = says_marked fields is.head.says (weaker mark (λ listed of. of fields is.are utf8) known);
      }

-- a text that is all a head of which it is known what is found
pub is_judged_head : (text : List ℕ) (block_len : ℕ) (head : QuickHead) (wanted : Wanted) (found : PlainFindings) → IsQuickHead text head
    → head.len ≡ length text → head.block_len ≡ block_len → head.findings ≡ Some found → wanted ≡ wanted_digest head.digest.now
    → IsJudgedHead text block_len wanted found
is_judged_head text block_len head wanted found is whole same_block known asks =
    let all : take head.len text ≡ text = take_all head.len text (omega (arith, whole)) in
    let fields = is.fields in
    let version = is.version in
    let found_are : AreFindings fields head.block_len (all_plain found) =
    subst (λ m. IfSome m (λ listed. AreFindings fields head.block_len (all_plain listed))) known is.says.findings in
    record {
      version = version;
      fields = fields;
      reads =
          ap (head_of any_fields) (sym all) ∙ is.whole
          ∙ ap (λ n. Ok (record { version = version; fields = fields; len = n; block_len = head.block_len })) whole
          ∙ ap (λ n. Ok (record { version = version; fields = fields; len = length text; block_len = n })) same_block;
      good = is.says.good;
      wanted_is = is.says.wanted ∙ sym asks;
      found_are = subst (λ n. AreFindings fields n (all_plain found)) same_block found_are;
    }
