use Rattle.std.proofs.Common.{◌<◌, length, refl, sym, ap, subst, ◌∙◌}
use Rattle.std.proofs.lemmas.Option.{slice_get-get_or}
use Rattle.std.proofs.lemmas.Result.{err_from_is_err_and}
use Rattle.warc_frame.proofs.EffectLemmas.{fails_after, fails_as, fails_never}
use Rattle.warc_reading.specs.Archive.{contents}
use Rattle.warc_replay.specs.BlocksAgain.{AreBlocksAt}
use Rattle.warc_replay.proofs.BlocksAgainLemmas.{blocks_more, none_judged_at, one_longer}
use Rattle.warc_replay.proofs.OriginLemmas.{preserves_both}
use Rattle.warc_replay.proofs.ReplayLemmas.{asks_both}
use Rattle.warc_replay.proofs.record.blocks_again.judge_each_at.Goals as goal

pub judging-init : goal.judging-init
judging-init g c = record {
  reported = λ bytes held is. (none_judged_at (contents is.are.records) c.args.positions.now _ c.new-blocks.ensures, sym (ap length c.new-blocks.ensures));
  inside = λ bytes is off. refl;
  keeps = record { kept = refl; watched = refl };
  sound = refl;
}

pub judging-preserved : goal.judging-preserved
judging-preserved g c =
    let old = c.judging.invariant in
    let next = c.in_ok-add_at.ensures in
    record {
      reported = λ bytes held is.
          let (are, size) = old.reported bytes held is in
          let (v, same, right) = next.reported bytes (old.keeps.kept ∙ held) is in (
            blocks_more (contents is.are.records) c.args.positions.now _ _ c.judging.position-index _ v size (slice_get-get_or c.args.positions.now c.judging.position-index 0 c.judging-test.true) are same right,
            one_longer _ _ c.judging.position-index v size same,
          );
      inside = λ bytes is. asks_both (λ q. q < length bytes) (g.S.Source.seen c.args.source.now) (g.S.Source.seen c.judging.source) (g.S.Source.seen c.add_at.new.source).watched_reads old.keeps.watched (old.inside bytes is) (next.inside bytes is);
      keeps = preserves_both old.keeps next.keeps;
      sound = next.fails.may ∙ old.sound;
    }

pub returns : goal.returns
returns g c =
    let old = c.judging.invariant in
    record {
      reported = λ bytes held is. subst (λ l. AreBlocksAt (contents is.are.records) c.args.positions.now l) (sym c.into_verdicts.ensures) (old.reported bytes held is).0;
      early = tt;
      inside = old.inside;
      keeps = old.keeps;
      fails = fails_never old.sound;
    }

pub returns-in_err-add_at : goal.returns-in_err-add_at
returns-in_err-add_at g c =
    let p = err_from_is_err_and c.from_residual.result c.from_residual.ensures.1 in
    let old = c.judging.invariant in
    let next = c.in_err-add_at.ensures in
    rw (p.1, p.2) (record {
      reported = λ bytes held is. tt;
      early = next.early;
      inside = λ bytes is. asks_both (λ q. q < length bytes) (g.S.Source.seen c.args.source.now) (g.S.Source.seen c.judging.source) (g.S.Source.seen c.add_at.new.source).watched_reads old.keeps.watched (old.inside bytes is) (next.inside bytes is);
      keeps = preserves_both old.keeps next.keeps;
      fails = fails_after old.keeps.kept old.sound (fails_as _ _ next.fails);
    })
