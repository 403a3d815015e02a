use Rattle.std.proofs.Common.{◌≡◌, ◌<◌, ◌++◌, All, codes, length, ap, ◌∙◌}
use Rattle.std.proofs.lemmas.List.{append-nil}
use Rattle.uuid.proofs.TextLemmas.{all_fit}
use Rattle.warc_field.specs.Text.{is_value}
use Rattle.warc_write.proofs.written.digest_text.Goals as goal

pub returns-clause-value : goal.returns-clause-value
returns-clause-value c =
    let len : length c.args.digest.now ≡ 20 = c.told-digest in
    let fits : All (λ b. b < 256) c.args.digest.now = all_fit c.args.digest.now (λ k below. c.fits-digest k) in
    ap (λ l. is_value (codes "sha1:" ++ l)) (append-nil c.copy_from_slice.new.self ∙ c.copy_from_slice.ensures.after ∙ c.base32.ensures)
    ∙ c.written_digest_is_value.ensures c.args.digest.now len fits
