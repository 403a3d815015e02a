use Rattle.std.proofs.Common.{ap, sym, subst, ◌∙◌}
use Rattle.warc_answer.specs.Stored.{own_type}
use Rattle.warc_reading.specs.Rereading.{IsHeadText}
use Rattle.warc_reading.specs.Row.{Row}
use Rattle.warc_record.specs.Readings.{reading_of}
use Rattle.warc_record.specs.Seen.{said}
use Rattle.warc_replay.proofs.OriginLemmas.{by_head, made_placed, same_fields, unjoined_early}
use Rattle.warc_replay.proofs.replay.origin.origin_in.Goals as goal

pub returns-in-Some-clause-made : goal.returns-in-Some-clause-made
returns-in-Some-clause-made g c = λ r reads good all are.
    let P : Row → Type 0 = λ row. IsHeadText r row c.args.text.now in
    let whole = c.in-Some.ensures in
    let fields = same_fields c.args.text.now r c.row.inside.block_len _ _ whole (subst P (sym c.row.view_is) reads) in
    by_head all c.args.row.now c.origin_by.result (whole.says_is ∙ ap reading_of fields) (whole.type_is ∙ ap own_type fields) (c.origin_by.ensures.made all are)

pub returns-in-Some-clause-placed : goal.returns-in-Some-clause-placed
returns-in-Some-clause-placed g c = λ all are. made_placed all c.args.row.now (said c.in-Some.head.typed) c.in-Some.head.content_type.now c.origin_by.result (c.origin_by.ensures.made all are)

pub returns-in-Some-clause-early : goal.returns-in-Some-clause-early
returns-in-Some-clause-early g c = unjoined_early c.origin_by.result c.origin_by.ensures.fault
