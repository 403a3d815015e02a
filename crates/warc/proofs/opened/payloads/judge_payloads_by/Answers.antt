use Rattle.std.proofs.Common.{◌≡◌, ◌<◌, length, refl, subst, ◌∙◌, arith}
use Rattle.std.proofs.lemmas.Result.{err_from_is_err_and}
use Rattle.warc_frame.proofs.EffectLemmas.{fails_after, fails_as, fails_more, fails_never}
use Rattle.warc_reading.specs.Archive.{contents}
use Rattle.warc_replay.specs.PayloadVerdicts.{AreJudgedPayloads}
use Rattle.warc_replay.proofs.ComparedLemmas.{none_judged, row_below}
use Rattle.warc_replay.proofs.OriginLemmas.{preserves_both}
use Rattle.warc_replay.proofs.ReplayLemmas.{asks_both}
use Rattle.warc.proofs.opened.payloads.judge_payloads_by.Goals as goal

pub judging-init : goal.judging-init
judging-init g c = record {
  reported = λ bytes held is are right. (c.in-Ok.ensures (contents is.are.records), none_judged (contents is.are.records) _ c.new-payloads.ensures.verdicts c.new-payloads.ensures.digests);
  within = omega arith;
  inside = λ bytes is off. refl;
  keeps = record { kept = refl; watched = refl };
  sound = refl;
}

pub judging-preserved : goal.judging-preserved
judging-preserved g c =
    let old = c.judging.invariant in
    let next = c.in_ok-judge_next.ensures in
    record {
      reported = λ bytes held is are right.
          let (known, judged) = old.reported bytes held is are right in next.reported bytes (old.keeps.kept ∙ held) is are right known judged;
      within = omega (arith, c.judging-test.true, c.len-position-end.ensures);
      inside = λ bytes is. asks_both (λ q. q < length bytes) (g.S.Source.seen c.args.source.now) (g.S.Source.seen c.judging.source) (g.S.Source.seen c.judge_next.new.source).watched_reads old.keeps.watched (old.inside bytes is) (next.inside bytes is);
      keeps = preserves_both old.keeps next.keeps;
      sound = next.fails.may ∙ old.sound;
    }

pub returns : goal.returns
returns g c =
    let old = c.judging.invariant in
    let all : c.judging.position ≡ length c.args.rows.now = omega (arith, c.judging-test.false, c.len-position-end.ensures, old.within) in
    record {
      reported = λ bytes held is are right. subst (λ n. AreJudgedPayloads (contents is.are.records) n c.judging.payloads) all (old.reported bytes held is are right).1;
      early = tt;
      inside = old.inside;
      keeps = old.keeps;
      fails = fails_never old.sound;
    }

pub returns-in_err-judge_next : goal.returns-in_err-judge_next
returns-in_err-judge_next g c =
    let p = err_from_is_err_and c.from_residual.result c.from_residual.ensures.1 in
    let old = c.judging.invariant in
    let next = c.in_err-judge_next.ensures in
    rw (p.1, p.2) (record {
      reported = λ bytes held is are right. tt;
      early = next.early;
      inside = λ bytes is. asks_both (λ q. q < length bytes) (g.S.Source.seen c.args.source.now) (g.S.Source.seen c.judging.source) (g.S.Source.seen c.judge_next.new.source).watched_reads old.keeps.watched (old.inside bytes is) (next.inside bytes is);
      keeps = preserves_both old.keeps next.keeps;
      fails = fails_after old.keeps.kept old.sound
          (fails_more (λ bytes held (is, are). (is, are, row_below bytes c.args.rows.now c.judging.position is (omega (arith, c.judging-test.true, c.len-position-end.ensures)))) (fails_as _ _ next.fails));
    })
