use Rattle.std.proofs.Common.{refl, sym, ap, subst, ◌∙◌}
use Rattle.std.proofs.lemmas.Result.{err_from_is_err_and}
use Rattle.warc_frame.proofs.EffectLemmas.{fails_after, fails_more}
use Rattle.warc_answer.specs.Places.{LieIn, text_at}
use Rattle.warc_answer.proofs.GiveLemmas.{early_late}
use Rattle.warc_reading.specs.Archive.{contents}
use Rattle.warc_replay.proofs.LookLemmas.{all_sent, asked_within, device_silent, early_sound, fault_fails, front_sent, nothing_sent, origin_read_less, sent_read, sent_within}
use Rattle.warc_replay.proofs.replay.stored.send_origin.Goals as goal

pub returns-in_err-look : goal.returns-in_err-look
returns-in_err-look g c =
    let p = err_from_is_err_and c.from_residual.result c.from_residual.ensures.1 in
    rw (p.1, p.2) (record {
      reported = λ bytes held is parts. nothing_sent (Unit {0}) (contents is.are.records) c.args.position c.in_err-look.field-0.0 _ bytes c.in_err-look.ensures.early (c.in_err-look.ensures.reported bytes held is parts);
      reads = origin_read_less c.in_err-look.ensures;
      inside = asked_within c.in_err-look.ensures;
      silent = (early_late {X = Unit {0}} c.in_err-look.field-0.0 (g.W.Sink.seen c.args.out.now) c.in_err-look.ensures.early).silent;
      keeps = c.in_err-look.ensures.keeps;
      fails = fault_fails (Unit {0}) (Unit {0}) c.in_err-look.field-0.0 c.in_err-look.ensures.fails;
      cause = sym (early_sound c.in_err-look.field-0.0 _ c.in_err-look.ensures.early);
    })

pub returns-in-Ok : goal.returns-in-Ok
returns-in-Ok g c = record {
  reported = λ bytes held is parts.
      let look = c.in_ok-look.ensures.reported bytes held is parts in
      all_sent (contents is.are.records) c.args.position c.in_ok-look.look.stored (text_at c.deref.result.now bytes) _ _ look.0
      (ap (λ l. text_at l bytes) c.deref.ensures.value ∙ look.1)
      (c.in-Ok.ensures.sends.out bytes _ (c.in_ok-look.ensures.keeps.kept ∙ held) (subst (λ l. LieIn l bytes) (sym c.deref.ensures.value) look.2, refl));
  reads = sent_read c.in_ok-look.ensures c.deref.result.now _ c.deref.ensures.value c.in-Ok.ensures.reads;
  inside = sent_within c.in_ok-look.ensures c.deref.result.now _ c.deref.ensures.value c.in-Ok.ensures.reads;
  silent = tt;
  keeps = record {
    kept = c.in-Ok.ensures.reads.kept ∙ c.in_ok-look.ensures.keeps.kept;
    watched = c.in-Ok.ensures.reads.watched ∙ c.in_ok-look.ensures.keeps.watched;
  };
  fails = record {
    may = c.in-Ok.ensures.sends.fails.may ∙ c.in_ok-look.ensures.fails.may;
    failed = λ bytes held is. c.in-Ok.ensures.sends.fails.may ∙ c.in_ok-look.ensures.fails.may;
  };
  cause = c.in-Ok.ensures.sends.cause;
}

pub returns-in-Err : goal.returns-in-Err
returns-in-Err g c = record {
  reported = λ bytes held is parts.
      let look = c.in_ok-look.ensures.reported bytes held is parts in
      front_sent (Unit {0}) (contents is.are.records) c.args.position _ c.in-Err.fault (text_at c.deref.result.now bytes) _ _ look.0
      (ap (λ l. text_at l bytes) c.deref.ensures.value ∙ look.1)
      (c.in-Err.ensures.sends.cut bytes _ (c.in_ok-look.ensures.keeps.kept ∙ held) (subst (λ l. LieIn l bytes) (sym c.deref.ensures.value) look.2, refl));
  reads = sent_read c.in_ok-look.ensures c.deref.result.now _ c.deref.ensures.value c.in-Err.ensures.reads;
  inside = sent_within c.in_ok-look.ensures c.deref.result.now _ c.deref.ensures.value c.in-Err.ensures.reads;
  silent = device_silent (Unit {0}) c.in-Err.fault _ _ c.in-Err.ensures.device;
  keeps = record {
    kept = c.in-Err.ensures.reads.kept ∙ c.in_ok-look.ensures.keeps.kept;
    watched = c.in-Err.ensures.reads.watched ∙ c.in_ok-look.ensures.keeps.watched;
  };
  fails = fails_after c.in_ok-look.ensures.keeps.kept c.in_ok-look.ensures.fails.may
      (fails_more (λ bytes held (is, parts, within).
      let look = c.in_ok-look.ensures.reported bytes (sym c.in_ok-look.ensures.keeps.kept ∙ held) is parts in
      (_, (subst (λ l. LieIn l bytes) (sym c.deref.ensures.value) look.2, refl))) c.in-Err.ensures.sends.fails);
  cause = c.in-Err.ensures.sends.cause;
}
