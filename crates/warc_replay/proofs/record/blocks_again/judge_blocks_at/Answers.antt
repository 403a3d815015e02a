use Rattle.warc_frame.proofs.EffectLemmas.{fails_never}
use Rattle.warc_replay.proofs.record.blocks_again.judge_blocks_at.Goals as goal

pub returns-in-Ok : goal.returns-in-Ok
returns-in-Ok g c =
    let found = c.in_ok-found.ensures in
    record {
      reported = λ bytes held is. c.in-Ok.ensures is.are.records (found.reported bytes held is);
      early = tt;
      inside = found.inside;
      keeps = found.keeps;
      fails = fails_never found.fails.may;
    }
