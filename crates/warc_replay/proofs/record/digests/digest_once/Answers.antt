use Rattle.std.proofs.Common.{refl}
use Rattle.std.proofs.lemmas.Result.{err_from_is_err_and}
use Rattle.warc_reading.specs.Archive.{contents}
use Rattle.warc_replay.proofs.DigestLemmas.{once_known}
use Rattle.warc_replay.proofs.record.digests.digest_once.Goals as goal

pub returns-in-Some : goal.returns-in-Some
returns-in-Some g c = record {
  reported = λ bytes held is parts known. (once_known (contents is.are.records) _ _ c.args.origin c.args.algorithm c.in-Some.one c.deref-2.ensures.value known c.in-Some.ensures, known);
  early = tt;
  inside = λ bytes is parts off. refl;
  keeps = record { kept = refl; watched = refl };
  fails = record { may = refl; failed = λ bytes held is. refl };
}

pub returns-in_err-digest : goal.returns-in_err-digest
returns-in_err-digest g c =
    let p = err_from_is_err_and c.from_residual.result c.from_residual.ensures.1 in
    rw (p.1, p.2) (record {
      reported = λ bytes held is parts known. tt;
      early = c.in_err-digest.ensures.early;
      inside = c.in_err-digest.ensures.inside;
      keeps = c.in_err-digest.ensures.keeps;
      fails = c.in_err-digest.ensures.fails;
    })

pub returns-in-Ok : goal.returns-in-Ok
returns-in-Ok g c = record {
  reported = λ bytes held is parts known.
      let has = c.in_ok-digest.ensures.reported bytes held is parts in (has, c.in-Ok.ensures (contents is.are.records) known has);
  early = tt;
  inside = c.in_ok-digest.ensures.inside;
  keeps = c.in_ok-digest.ensures.keeps;
  fails = c.in_ok-digest.ensures.fails;
}

pub returns-in-Err : goal.returns-in-Err
returns-in-Err g c = record {
  reported = λ bytes held is parts known. tt;
  early = refl;
  inside = c.in_ok-digest.ensures.inside;
  keeps = c.in_ok-digest.ensures.keeps;
  fails = record { may = c.in_ok-digest.ensures.fails.may; failed = λ bytes held is. c.in_ok-digest.ensures.fails.may };
}
