use Rattle.warc_frame.proofs.EffectLemmas.{fails_more}
use Rattle.warc_reading.specs.Archive.{contents}
use Rattle.warc_replay.proofs.CaptureLemmas.{record_at}
use Rattle.warc_replay.proofs.GoodPayloadLemmas.{block_as, learned_nothing}
use Rattle.warc_replay.proofs.record.good_payload.learn_origin.Goals as goal

pub returns-in_default : goal.returns-in_default
returns-in_default g c = learned_nothing

pub returns-then-knows : goal.returns-then-knows
returns-then-knows g c = learned_nothing

pub returns-then-not-is_good : goal.returns-then-not-is_good
returns-then-not-is_good g c = learned_nothing

pub returns : goal.returns
returns g c =
    let learns = c.learn.ensures in
    record {
      reported = λ bytes held is are blocks good known.
          learns.reported bytes held is are.parts_are (good c.in-Ok.path.given (c.is_good.ensures c.if-not-is_good.false)) (block_as (contents is.are.records) c.in-Ok.path.given _ _ c.at-own.ensures (blocks c.in-Ok.path.given)) known;
      early = learns.early;
      inside = λ bytes (is, are). learns.inside bytes is are.parts_are;
      keeps = learns.keeps;
      fails = fails_more (λ bytes held is. record_at c.paths_end_inside.ensures _ _ _ _ c.in-Ok.path c.in-Ok.ensures bytes is) learns.fails;
    }
