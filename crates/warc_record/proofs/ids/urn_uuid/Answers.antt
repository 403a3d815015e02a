use Rattle.std.proofs.Common.{◌≡◌, length, true≢false, sym, ◌∙◌}
use Rattle.warc_record.proofs.UuidLemmas.{parsed_at_45, none_of}
use Rattle.warc_record.proofs.ids.urn_uuid.Goals as goal

pub returns-in-Err : goal.returns-in-Err
returns-in-Err c =
    let len : length c.args.text.now ≡ 45 = c.if-text-ne45.false in
    none_of _ (λ p. true≢false (sym (c.in-Err.ensures.ok.1 (p.0, parsed_at_45 _ len ∙ p.1))))
