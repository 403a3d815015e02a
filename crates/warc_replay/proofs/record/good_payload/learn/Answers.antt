use Rattle.std.proofs.Common.{◌<◌, length, refl, ◌∙◌}
use Rattle.std.proofs.lemmas.Result.{err_from_is_err_and}
use Rattle.warc_frame.proofs.EffectLemmas.{fails_after, fails_as, fails_more, fails_never}
use Rattle.warc_reading.specs.Archive.{contents}
use Rattle.warc_replay.proofs.GoodPayloadLemmas.{here_known, stated_there}
use Rattle.warc_replay.proofs.OriginLemmas.{preserves_both}
use Rattle.warc_replay.proofs.ReplayLemmas.{asks_both}
use Rattle.warc_replay.proofs.record.good_payload.learn.Goals as goal

pub returns-in_err-stated : goal.returns-in_err-stated
returns-in_err-stated g c =
    let p = err_from_is_err_and c.from_residual.result c.from_residual.ensures.1 in
    let stated = c.in_err-stated.ensures in
    rw (p.1, p.2) (record {
      reported = λ bytes held is parts good block known. tt;
      early = stated.early;
      inside = λ bytes is parts. stated.inside bytes is;
      keeps = stated.keeps;
      fails = fails_more (λ bytes held (is, parts, low). (is, low)) (fails_as _ _ stated.fails);
    })

pub returns-in_default : goal.returns-in_default
returns-in_default g c =
    let stated = c.in_ok-stated.ensures in
    record {
      reported = λ bytes held is parts good block known. known;
      early = tt;
      inside = λ bytes is parts. stated.inside bytes is;
      keeps = stated.keeps;
      fails = fails_never stated.fails.may;
    }

pub returns-in_err-digest : goal.returns-in_err-digest
returns-in_err-digest g c =
    let p = err_from_is_err_and c.from_residual-in_err-digest.result c.from_residual-in_err-digest.ensures.1 in
    let stated = c.in_ok-stated.ensures in
    let digest = c.in_err-digest.ensures in
    rw (p.1, p.2) (record {
      reported = λ bytes held is parts good block known. tt;
      early = digest.early;
      inside = λ bytes is parts. asks_both (λ q. q < length bytes) (g.S.Source.seen c.args.source.now) (g.S.Source.seen c.stated_at.new.source) (g.S.Source.seen c.known_digest.new.source).watched_reads stated.keeps.watched (stated.inside bytes is) (digest.inside bytes is parts);
      keeps = preserves_both stated.keeps digest.keeps;
      fails = fails_after stated.keeps.kept stated.fails.may (fails_as _ _ digest.fails);
    })

pub returns-in-Ok : goal.returns-in-Ok
returns-in-Ok g c =
    let stated = c.in_ok-stated.ensures in
    let digest = c.in_ok-digest.ensures in
    record {
      reported = λ bytes held is parts good block known.
          let here = stated_there (contents is.are.records) c.args.origin _ c.in-Some.stated c.in-Some.is (stated.reported bytes held is good) in
          let has = digest.reported bytes (stated.keeps.kept ∙ held) is parts here block in
          c.in-Ok.ensures (contents is.are.records) known (here_known (contents is.are.records) c.args.origin _ _ _ c.algorithm.ensures has);
      early = tt;
      inside = λ bytes is parts. asks_both (λ q. q < length bytes) (g.S.Source.seen c.args.source.now) (g.S.Source.seen c.stated_at.new.source) (g.S.Source.seen c.known_digest.new.source).watched_reads stated.keeps.watched (stated.inside bytes is) (digest.inside bytes is parts);
      keeps = preserves_both stated.keeps digest.keeps;
      fails = fails_never (digest.fails.may ∙ stated.fails.may);
    }

pub returns-in-Err : goal.returns-in-Err
returns-in-Err g c =
    let stated = c.in_ok-stated.ensures in
    let digest = c.in_ok-digest.ensures in
    record {
      reported = λ bytes held is parts good block known. tt;
      early = refl;
      inside = λ bytes is parts. asks_both (λ q. q < length bytes) (g.S.Source.seen c.args.source.now) (g.S.Source.seen c.stated_at.new.source) (g.S.Source.seen c.known_digest.new.source).watched_reads stated.keeps.watched (stated.inside bytes is) (digest.inside bytes is parts);
      keeps = preserves_both stated.keeps digest.keeps;
      fails = record { may = digest.fails.may ∙ stated.fails.may; failed = λ bytes held is. digest.fails.may ∙ stated.fails.may };
    }
