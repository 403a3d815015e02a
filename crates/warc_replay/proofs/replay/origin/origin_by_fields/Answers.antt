use Rattle.std.proofs.Common.{sym, ap, subst, ◌∙◌}
use Rattle.warc_answer.specs.Stored.{own_type}
use Rattle.warc_frame.specs.Send.{ended_by}
use Rattle.warc_reading.specs.Rereading.{IsHeadText}
use Rattle.warc_reading.specs.Row.{Row}
use Rattle.warc_record.specs.Readings.{reading_of}
use Rattle.warc_record.specs.Seen.{said}
use Rattle.warc_replay.proofs.OriginLemmas.{by_head, ended_early, made_placed, unjoined_early}
use Rattle.warc_replay.proofs.replay.origin.origin_by_fields.Goals as goal

pub returns-in-Err-clause-fault : goal.returns-in-Err-clause-fault
returns-in-Err-clause-fault g c = λ r reads good.
    let P : Row → Type 0 = λ row. IsHeadText r row c.args.text.now in
    c.after.ensures ∙ ap (λ f. ended_by f 0) (c.in-Err.ensures.is r (subst P (sym c.row.view_is) reads) good)

pub returns-in-Err-clause-early : goal.returns-in-Err-clause-early
returns-in-Err-clause-early g c = rw c.after.ensures (ended_early c.in-Err.fault)

pub returns-clause-early : goal.returns-clause-early
returns-clause-early g c = unjoined_early c.origin_by.result c.origin_by.ensures.fault

pub returns-clause-made : goal.returns-clause-made
returns-clause-made g c = λ r reads good all are.
    let P : Row → Type 0 = λ row. IsHeadText r row c.args.text.now in
    let fields = c.in-Ok.ensures.is r (subst P (sym c.row.view_is) reads) good in
    by_head all c.args.row.now c.origin_by.result (c.typed.ensures ∙ ap reading_of fields) (c.own_type.ensures ∙ ap own_type (c.fields.ensures.fields ∙ fields)) (c.origin_by.ensures.made all are)

pub returns-clause-placed : goal.returns-clause-placed
returns-clause-placed g c = λ all are. made_placed all c.args.row.now (said c.typed.result) c.own_type.result.now c.origin_by.result (c.origin_by.ensures.made all are)
