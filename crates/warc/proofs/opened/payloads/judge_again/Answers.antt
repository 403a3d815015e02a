use Rattle.std.proofs.Common.{◌<◌, length, ap, ◌∙◌}
use Rattle.std.proofs.lemmas.Result.{err_from_is_err_and}
use Rattle.warc_frame.proofs.EffectLemmas.{fails_after, fails_as}
use Rattle.warc_reading.specs.Archive.{contents}
use Rattle.warc_replay.specs.PayloadVerdicts.{payload_value}
use Rattle.warc_replay.proofs.CaptureLemmas.{memory_early}
use Rattle.warc_replay.proofs.ComparedLemmas.{judged_next, next_memory}
use Rattle.warc_replay.proofs.OriginLemmas.{preserves_both}
use Rattle.warc_replay.proofs.ReplayLemmas.{asks_both}
use Rattle.warc.proofs.KnownPayloadLemmas.{good_judged}
use Rattle.warc.proofs.opened.payloads.judge_again.Goals as goal

pub returns-in_err-learn_origin : goal.returns-in_err-learn_origin
returns-in_err-learn_origin g c =
    let p = err_from_is_err_and c.from_residual.result c.from_residual.ensures.1 in
    let learns = c.in_err-learn_origin.ensures in
    rw (p.1, p.2) (record {
      reported = λ bytes held is are right known judged. tt;
      early = learns.early;
      inside = learns.inside;
      keeps = learns.keeps;
      fails = learns.fails;
    })

pub returns-in_err-next : goal.returns-in_err-next
returns-in_err-next g c =
    let p = err_from_is_err_and c.from_residual-in_err-next.result c.from_residual-in_err-next.ensures.1 in
    let learns = c.in_ok-learn_origin.ensures in
    let next = c.in_err-next.ensures in
    rw (p.1, p.2) (record {
      reported = λ bytes held is are right known judged. tt;
      early = next.early;
      inside = λ bytes is. asks_both (λ q. q < length bytes) (g.S.Source.seen c.args.source.now) (g.S.Source.seen c.learn_origin.new.source) (g.S.Source.seen c.compare_at.new.source).watched_reads learns.keeps.watched (learns.inside bytes is) (next.inside bytes is);
      keeps = preserves_both learns.keeps next.keeps;
      fails = fails_after learns.keeps.kept learns.fails.may (fails_as _ _ next.fails);
    })

pub returns : goal.returns
returns g c =
    let learns = c.in_ok-learn_origin.ensures in
    let next = c.in_ok-next.ensures in
    record {
      reported = λ bytes held is are right known judged.
          let learned = learns.reported bytes held is are right (good_judged (contents is.are.records) c.args.position _ _ c.verdicts-found.ensures judged) known in
          let (at, knows) = next.reported bytes (learns.keeps.kept ∙ held) is are learned in
          judged_next c.add_or_fail.result (contents is.are.records) c.args.position _ _ c.in_ok-next.next.head c.in_ok-next.next.verdict c.payload_value-value.result.now _ knows judged at (c.payload_value-value.ensures ∙ ap payload_value c.fields.ensures.fields) c.add_or_fail.ensures.ok;
      early = memory_early _ c.add_or_fail.ensures.memory;
      inside = λ bytes is. asks_both (λ q. q < length bytes) (g.S.Source.seen c.args.source.now) (g.S.Source.seen c.learn_origin.new.source) (g.S.Source.seen c.compare_at.new.source).watched_reads learns.keeps.watched (learns.inside bytes is) (next.inside bytes is);
      keeps = preserves_both learns.keeps next.keeps;
      fails = next_memory c.add_or_fail.result c.add_or_fail.ensures.memory (next.fails.may ∙ learns.fails.may);
    }
