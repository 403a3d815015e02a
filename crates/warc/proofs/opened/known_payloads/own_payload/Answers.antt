use Rattle.std.proofs.Common.{ap, ◌∙◌}
use Rattle.warc_answer.specs.Payloads.{is_http_response}
use Rattle.warc_record.specs.Readings.{Reading}
use Rattle.warc.proofs.KnownPayloadLemmas.{own_whole}
use Rattle.warc.proofs.opened.known_payloads.own_payload.Goals as goal

pub returns : goal.returns
returns c = λ content says same.
    own_whole content c.args.typed.now.kind c.holds_own.result c.is_http_response.result c.args.block.now c.holds_own.ensures (ap (λ (h : Reading). h.kind) says)
    c.if-not-holds_own.false (c.is_http_response.ensures ∙ ap is_http_response says) c.if-is_http_response.false same
