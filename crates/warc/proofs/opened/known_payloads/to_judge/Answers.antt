use Rattle.std.proofs.Common.{sym, ◌∙◌}
use Rattle.sha1.specs.Sha1.{sha1}
use Rattle.warc_checking.specs.Batch.{verdict_with}
use Rattle.warc_judged.proofs.SummaryLemmas.{alone_is_no_segment}
use Rattle.warc.proofs.KnownPayloadLemmas.{not_empty, payload_said, right_by}
use Rattle.warc.proofs.opened.known_payloads.to_judge.Goals as goal

pub returns-in-Some : goal.returns-in-Some
returns-in-Some c = λ p start next.
    let payload = c.in-Some.payload.now in
    let value = c.args.found.now.head.payload_digest.now in
    let said = payload_said p.content.fields c.args.found.now.head next.says in
    right_by p (verdict_with c.payload_check.result (sha1 payload)) payload value (c.in-Some.ensures p.content (c.typed.ensures p.content.fields next.says) next.block_is)
    (alone_is_no_segment p.content.fields (next.says.alone c.requires.alone)) said
    (λ none. not_empty value c.is_empty.result c.is_empty.ensures c.if-is_empty.false (sym said ∙ none)) c.payload_check.ensures
