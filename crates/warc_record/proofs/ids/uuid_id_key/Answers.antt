use Rattle.std.proofs.Common.{sym, ◌∙◌}
use Rattle.warc_record.proofs.KeyLemmas.{plain_key}
use Rattle.warc_record.proofs.ids.uuid_id_key.Goals as goal

pub returns : goal.returns
returns c =
    let form = c.has_uuid_brackets.ensures c.if-not-has_uuid_brackets.false in
    plain_key _ _ _ form.0 form.1 form.2 (sym c.in_ok-uuid.was ∙ c.urn_uuid.ensures) c.uuid_key.ensures
