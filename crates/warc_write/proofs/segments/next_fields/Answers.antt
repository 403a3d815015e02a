use Rattle.warc_write.proofs.SplitLemmas.{next_from}
use Rattle.warc_write.proofs.segments.next_fields.Goals as goal

pub returns : goal.returns
returns g c =
    next_from c.args.given.now c.args.uuid.now c.args.part.now _ _ _ _ _ _ c.in_ok-fields.ensures c.in_ok-add_number.ensures
    c.in_ok-add_total.ensures c.in_ok-add_field.ensures c.digest_text.ensures.text c.in_ok-add_number-2.ensures
