use Rattle.std.proofs.Common.{ap}
use Rattle.warc_record.specs.Readings.{Reading}
use Rattle.warc_replay.proofs.GoodPayloadLemmas.{stated_own}
use Rattle.warc_replay.proofs.record.good_payload.stated_own.Goals as goal

pub returns : goal.returns
returns g c = λ records position content same judged.
    stated_own c.has_one_payload.ensures.block records position content c.args.fields.now c.args.typed.now.kind c.holds_own.result c.payload_value.result.now c.stated.result c.holds_own.ensures
    c.if-not-holds_own.false (ap (λ (h : Reading). h.kind) c.requires) same c.payload_value.ensures c.stated.ensures judged
