-- What the texts of a good head are, and that they are all that it says if it is alone.
use Rattle.std.proofs.Common.{◌≡◌, ℕ, true, List, [], Option, Some, refl, sym, ap, ◌∙◌}
use Rattle.std.specs.Prelude.{unwrap_or}
use Rattle.warc_field.specs.Area.{Pair, first_value}
use Rattle.warc_field.specs.Text.{same}
use Rattle.warc_value.specs.Dates.{instant_of}
use Rattle.warc_frame.specs.Names.{warc_target_uri}
use Rattle.warc_record.specs.Ids.{id_key}
use Rattle.warc_record.specs.Kinds.{kind_named}
use Rattle.warc_record.specs.Readings.{Reading, no_segment, nothing_named, reading_of, unless_empty}
use Rattle.warc_record.specs.Good.{SaysAll}
use Rattle.warc_record.proofs.GoodLemmas.{good_heads_read}
use Rattle.warc_record.proofs.TypedLemmas.{bare_or_empty}
use Rattle.warc_value.specs.Digests.{wanted_digest}
use Rattle.warc_quick.specs.declared.head.QuickHead.{QuickHead}
use Rattle.warc_quick.specs.Quick.{Says}

-- two readings that say the same are the same
same_reading : (a b : Reading) → a.kind ≡ b.kind → a.type_text ≡ b.type_text → a.id_text ≡ b.id_text → a.date_text ≡ b.date_text
    → a.id ≡ b.id → a.instant ≡ b.instant → a.target ≡ b.target → a.reference ≡ b.reference → a.segment ≡ b.segment
    → a.wanted ≡ b.wanted → a.payload_digest ≡ b.payload_digest → a.truncated ≡ b.truncated → a ≡ b
same_reading a b kind type_text id_text date_text id instant target reference segment wanted payload mark =
    let whole :
    (let again : Reading = record {
      kind = a.kind;
      type_text = a.type_text;
      id_text = a.id_text;
      date_text = a.date_text;
      id = a.id;
      instant = a.instant;
      target = a.target;
      reference = a.reference;
      segment = a.segment;
      wanted = a.wanted;
      payload_digest = a.payload_digest;
      truncated = a.truncated;
    } in again ≡ b) =
    rw (kind, type_text, id_text, date_text, id, instant, target, reference, segment, wanted, payload, mark) refl in
    whole

stated : (value : Option (List ℕ)) (text listed : List ℕ) → value ≡ Some text → listed ≡ unwrap_or value [] → listed ≡ text
stated value text listed is same = same ∙ ap (λ o. unwrap_or o []) is

-- the texts of a head are values of its fields, and can be read
module _ (fields : List Pair) (found : QuickHead) (says : Says fields found) where
  pub read : SaysAll (reading_of fields)
  read = good_heads_read fields says.good

  kind_is : found.texts.kind.now ≡ read.type_text
  kind_is = stated _ _ _ read.type_is says.texts.kind

  pub id_is : found.texts.id.now ≡ read.id_text
  id_is = stated _ _ _ read.id_text_is says.texts.id

  date_is : found.texts.date.now ≡ read.date_text
  date_is = stated _ _ _ read.date_text_is says.texts.date

  pub id_found : id_key found.texts.id.now ≡ Some read.id
  id_found = ap id_key id_is ∙ read.id_reads

  pub date_found : instant_of found.texts.date.now ≡ Some read.instant
  date_found = ap instant_of date_is ∙ read.date_reads

  -- a reading of these texts is all that the fields say
  pub reads_all : (typed : Reading) → typed.kind ≡ kind_named found.texts.kind.now → typed.type_text ≡ Some found.texts.kind.now
      → typed.id_text ≡ Some found.texts.id.now → typed.date_text ≡ Some found.texts.date.now → typed.id ≡ id_key found.texts.id.now
      → typed.instant ≡ instant_of found.texts.date.now → typed.target ≡ unless_empty found.texts.target.now
      → typed.reference ≡ nothing_named → typed.segment ≡ no_segment → typed.wanted ≡ wanted_digest found.digest.now
      → typed.payload_digest ≡ unless_empty found.payload_digest.now → typed.truncated ≡ found.texts.is_truncated
      → found.is_alone ≡ true → typed ≡ reading_of fields
  reads_all typed kind type_text id_text date_text id instant target reference segment wanted payload mark alone =
      same_reading typed (reading_of fields) (kind ∙ ap kind_named kind_is ∙ sym read.kind_is)
      (type_text ∙ ap (λ t. Some t) kind_is ∙ sym read.type_is) (id_text ∙ ap (λ t. Some t) id_is ∙ sym read.id_text_is)
      (date_text ∙ ap (λ t. Some t) date_is ∙ sym read.date_text_is) (id ∙ id_found ∙ sym read.id_is)
      (instant ∙ date_found ∙ sym read.instant_is)
      (target ∙ ap unless_empty says.texts.target ∙ bare_or_empty (first_value warc_target_uri fields))
      (reference ∙ sym (says.alone alone).reference) (segment ∙ sym (says.alone alone).segment) (wanted ∙ sym says.wanted)
      (payload ∙ sym says.payload) (mark ∙ says.texts.truncated)
