use Rattle.std.proofs.Common.{refl, sym, ◌∙◌}
use Rattle.std.proofs.lemmas.Result.{IfOk-weaker}
use Rattle.warc_frame.proofs.EffectLemmas.{fails_more, fails_never}
use Rattle.warc_reading.specs.Archive.{contents}
use Rattle.warc_replay.proofs.CaptureLemmas.{record_at}
use Rattle.warc_replay.proofs.DigestLemmas.{path_digested, path_undigested}
use Rattle.warc_replay.proofs.ReplayLemmas.{path_by_links}
use Rattle.warc_replay.proofs.record.digests.path_digest.Goals as goal

pub returns-in-Ok : goal.returns-in-Ok
returns-in-Ok g c = record {
  reported = λ bytes held is are known.
      IfOk-weaker c.digest_once.result _ _
      (λ digest (has, knows). (
        path_digested (contents is.are.records) c.args.position c.in-Ok.path c.args.algorithm digest (sym (path_by_links is.are.records c.args.position) ∙ sym (c.in-Ok.ensures is.are.records are)) has,
        knows,
      ))
      (c.digest_once.ensures.reported bytes held is are.parts_are known);
  early = c.digest_once.ensures.early;
  inside = λ bytes (is, are). c.digest_once.ensures.inside bytes is are.parts_are;
  keeps = c.digest_once.ensures.keeps;
  fails = fails_more (λ bytes held is. record_at c.paths_end_inside.ensures _ _ _ _ c.in-Ok.path c.in-Ok.ensures bytes is) c.digest_once.ensures.fails;
}

pub returns-in-Err : goal.returns-in-Err
returns-in-Err g c = record {
  reported = λ bytes held is are known.
      (path_undigested (contents is.are.records) c.args.position _ c.args.algorithm (sym (path_by_links is.are.records c.args.position) ∙ sym (c.in-Err.ensures is.are.records are)), known);
  early = tt;
  inside = λ bytes is off. refl;
  keeps = record { kept = refl; watched = refl };
  fails = fails_never refl;
}
