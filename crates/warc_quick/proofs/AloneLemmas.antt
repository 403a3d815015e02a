-- What a whole head says that names no other record.
use Rattle.std.proofs.Common.{◌≡◌, ℕ, List, [], length, take, Ok, sym, ap, ◌∙◌, arith}
use Rattle.std.specs.Prelude.{unwrap_or}
use Rattle.std.proofs.lemmas.List.{take_all}
use Rattle.warc_field.specs.Area.{first_value}
use Rattle.warc_frame.specs.Names.{content_type as type_name}
use Rattle.warc_frame.specs.Reading.{any_fields, head_of}
use Rattle.warc_record.specs.Readings.{Reading, reading_of}
use Rattle.warc_quick.specs.Alone.{IsWholeHead}
use Rattle.warc_quick.specs.Quick.{IsQuickHead}
use Rattle.warc_quick.specs.declared.head.QuickHead.{QuickHead}

pub whole_head : (text : List ℕ) (block_len : ℕ) (found : QuickHead) (says : Reading) (content_type : List ℕ) (is : IsQuickHead text found)
    → found.len ≡ length text → found.block_len ≡ block_len → says ≡ reading_of is.fields → content_type ≡ unwrap_or (first_value type_name is.fields) []
    → IsWholeHead text block_len says content_type
whole_head text block_len found says content_type is whole same_block said typed =
    let all : take found.len text ≡ text = take_all found.len text (omega (arith, whole)) in
    let fields = is.fields in
    let version = is.version in
    record {
      version = version;
      fields = fields;
      reads =
          ap (head_of any_fields) (sym all) ∙ is.whole
          ∙ ap (λ n. Ok (record { version = version; fields = fields; len = n; block_len = found.block_len })) whole
          ∙ ap (λ n. Ok (record { version = version; fields = fields; len = length text; block_len = n })) same_block;
      good = is.says.good;
      says_is = said;
      type_is = typed;
    }
