use Rattle.std.proofs.Common.{sym, subst}
use Rattle.warc_replay.specs.Capturing.{AreKnownBlocks}
use Rattle.warc_replay.proofs.KnownLemmas.{nothing_known}
use Rattle.warc_replay.proofs.replay.captures.judge_all.Goals as goal

pub returns : goal.returns
returns g c =
    let judged = c.judge_each.ensures in
    record {
      reported = λ bytes held is are. judged.reported bytes held is are (subst (λ l. AreKnownBlocks l is.are.records) (sym c.new-known.ensures) (nothing_known is.are.records));
      early = judged.early;
      inside = judged.inside;
      keeps = judged.keeps;
      fails = judged.fails;
    }
