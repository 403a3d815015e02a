use Rattle.std.proofs.Common.{sym, subst}
use Rattle.std.proofs.lemmas.Result.{err_from_is_err_and}
use Rattle.warc_frame.proofs.EffectLemmas.{fails_as, fails_never}
use Rattle.warc_reading.specs.Archive.{contents}
use Rattle.warc_replay.specs.Capturing.{IsJoinedVerdict, IsBlockVerdict}
use Rattle.warc_replay.proofs.KnownLemmas.{found_now}
use Rattle.warc_replay.proofs.replay.captures.stored_once.Goals as goal

pub returns-in_err-judged-clause-judges : goal.returns-in_err-judged-clause-judges
returns-in_err-judged-clause-judges g c =
    let p = err_from_is_err_and c.from_residual.result c.from_residual.ensures.1 in
    let next = c.in_err-judged.ensures.judges in
    rw (p.1, p.2) (record {
      reported = λ bytes held is parts right. tt;
      remembers = λ bytes held is parts right. record { own = right.own; joined = right.joined; rest = next.remembers bytes held is parts right.rest };
      early = next.early;
      inside = next.inside;
      keeps = next.keeps;
      fails = fails_as _ _ next.fails;
    })

pub returns-clause-judges : goal.returns-clause-judges
returns-clause-judges g c =
    let next = c.in_ok-judged.ensures.judges in
    record {
      reported = λ bytes held is parts right.
          next.reported bytes held is parts (subst (IsBlockVerdict (contents is.are.records) c.args.origin) (sym c.at-own.ensures) (right.own c.args.origin))
          (subst (IsJoinedVerdict (contents is.are.records) c.args.origin) (sym c.at-joined.ensures) (right.joined c.args.origin)) right.rest;
      remembers = λ bytes held is parts right.
          let stored = next.reported bytes held is parts (subst (IsBlockVerdict (contents is.are.records) c.args.origin) (sym c.at-own.ensures) (right.own c.args.origin))
          (subst (IsJoinedVerdict (contents is.are.records) c.args.origin) (sym c.at-joined.ensures) (right.joined c.args.origin)) right.rest in
          found_now _ _ _ is.are.records c.args.origin c.verdict_by.result c.set.ensures (c.verdict_by.ensures (contents is.are.records) c.args.origin stored) right
          (next.remembers bytes held is parts right.rest);
      early = tt;
      inside = next.inside;
      keeps = next.keeps;
      fails = fails_never next.fails.may;
    }
