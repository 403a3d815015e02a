use Rattle.std.proofs.Common.{◌<◌, length, refl, ◌∙◌}
use Rattle.std.proofs.lemmas.Result.{err_from_is_err_and}
use Rattle.warc_frame.proofs.EffectLemmas.{fails_after, fails_as, fails_more, fails_never}
use Rattle.warc_replay.proofs.OriginLemmas.{preserves_both}
use Rattle.warc_replay.proofs.ReplayLemmas.{asks_both}
use Rattle.warc.proofs.opened.payloads.judge_payloads.Goals as goal

pub returns-in_default : goal.returns-in_default
returns-in_default g c = record {
  reported = λ bytes held is are right. tt;
  early = refl;
  inside = λ bytes is off. refl;
  keeps = record { kept = refl; watched = refl };
  fails = record { may = refl; failed = λ bytes held is. refl };
}

pub returns-in_err-blocks : goal.returns-in_err-blocks
returns-in_err-blocks g c =
    let p = err_from_is_err_and c.from_residual.result c.from_residual.ensures.1 in
    let first = c.in_err-blocks.ensures in
    rw (p.1, p.2) (record {
      reported = λ bytes held is are right. tt;
      early = first.early;
      inside = λ bytes (is, are). first.inside bytes is;
      keeps = first.keeps;
      fails = fails_more (λ bytes held (is, are). is) (fails_as _ _ first.fails);
    })

pub returns : goal.returns
returns g c =
    let first = c.in_ok-blocks.ensures in
    let judges = c.judge_payloads_by.ensures in
    record {
      reported = λ bytes held is are right. judges.reported bytes (first.keeps.kept ∙ held) is are (right, first.reported bytes held is);
      early = judges.early;
      inside = λ bytes is. asks_both (λ q. q < length bytes) (g.S.Source.seen c.args.source.now) (g.S.Source.seen c.judge_blocks_at.new.source) (g.S.Source.seen c.judge_payloads_by.new.source).watched_reads first.keeps.watched (first.inside bytes is.0) (judges.inside bytes is);
      keeps = preserves_both first.keeps judges.keeps;
      fails = fails_after first.keeps.kept first.fails.may judges.fails;
    }
