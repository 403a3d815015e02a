use Rattle.std.proofs.Common.{ap, ◌∙◌}
use Rattle.warc_frame.proofs.EffectLemmas.{fails_as, fails_more}
use Rattle.warc_record.specs.Readings.{reading_of}
use Rattle.warc_answer.specs.Payloads.{is_http_response}
use Rattle.warc_reading.specs.Row.{Row}
use Rattle.warc_checking.proofs.JudgeLemmas.{block_there}
use Rattle.warc_replay.proofs.PayloadLemmas.{block_here, own_early, own_made}
use Rattle.warc_replay.proofs.record.comparison.own_verdict.Goals as goal

pub returns-in-Some-clause-reported : goal.returns-in-Some-clause-reported
returns-in-Some-clause-reported g c = λ bytes held is same.
    own_early c.has_one_payload.ensures.block is.placed.content c.args.fields.now c.in-Some.verdict same c.in-Some.ensures

pub returns-in-Ok-clause-reported : goal.returns-in-Ok-clause-reported
returns-in-Ok-clause-reported g c = λ bytes held is same.
    let start = ap (λ (r : Row). r.block_start) c.row.view_is in
    let len = ap (λ (r : Row). r.block_len) c.row.view_is in
    own_made is.placed.content c.args.fields.now _ _ c.algorithm_for-algorithm.result c.in-Ok.digest c.payload_verdict.result same
    (ap is_http_response (c.requires ∙ ap reading_of same)) (block_here c.args.row.now bytes is _ _ start len) c.algorithm_for-algorithm.ensures c.payload_verdict.ensures
    (c.in-Ok.ensures.digest bytes held (block_there c.args.row.now bytes _ _ start len is))

pub returns-in-Err-clause-fails : goal.returns-in-Err-clause-fails
returns-in-Err-clause-fails g c =
    fails_as _ _ (fails_more (λ bytes held is.
    block_there c.args.row.now bytes _ _ (ap (λ (r : Row). r.block_start) c.row.view_is) (ap (λ (r : Row). r.block_len) c.row.view_is) is)
    c.in-Err.ensures.fails)
