use Rattle.std.proofs.Common.{[], ◌∷◌, ◌++◌, codes, length, sym, ap, ◌∙◌}
use Rattle.uuid.specs.Text.{hyphenated_text, lower}
use Rattle.uuid.proofs.TextLemmas.{by_index_length}
use Rattle.warc_field.specs.Text.{is_value}
use Rattle.warc_write.proofs.TextLemmas.{id_is_value}
use Rattle.warc_write.proofs.written.id_text.Goals as goal

pub copy_from_slice-requires : goal.copy_from_slice-requires
copy_from_slice-requires c = sym (ap length (c.as_bytes.ensures.value ∙ c.encode_lower-hyphenated.ensures.text) ∙ by_index_length 36 _)

pub returns-clause-value : goal.returns-clause-value
returns-clause-value c =
    ap (λ l. is_value (codes "<urn:uuid:" ++ (l ++ 62 ∷ [])))
    (c.copy_from_slice.ensures.after ∙ c.as_bytes.ensures.value ∙ c.encode_lower-hyphenated.ensures.text ∙ ap (hyphenated_text lower) c.hyphenated.ensures)
    ∙ id_is_value c.args.uuid.now
