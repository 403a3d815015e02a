use Rattle.std.proofs.Common.{refl, sym, ap, ◌∙◌}
use Rattle.warc_frame.proofs.EffectLemmas.{fails_as, fails_more, fails_never}
use Rattle.warc_record.specs.Readings.{Reading, reading_of}
use Rattle.warc_reading.specs.Archive.{contents}
use Rattle.warc_replay.proofs.ComparedLemmas.{judged_none, judged_some, revisit_made}
use Rattle.warc_replay.proofs.DigestLemmas.{block_inside, text_at_row, text_there}
use Rattle.warc_replay.proofs.record.comparison.verdict_by_head.Goals as goal

pub returns-in-Nobody : goal.returns-in-Nobody
returns-in-Nobody g c = record {
  reported = λ bytes held is are known at. (
    judged_some (contents is.are.records) c.args.position at.placed.content c.fields-fields.result.now c.typed-typed.result.kind _ (c.fields-fields.ensures.fields ∙ at.fields_are) (c.states_payload.ensures.some c.if-not-states_payload.false)
        (ap (λ (r : Reading). r.kind) (c.typed-typed.ensures ∙ ap reading_of (sym c.fields-fields.ensures.fields))) (c.in-Nobody.ensures (contents is.are.records) c.args.position at.placed.content _ refl),
    known,
  );
  early = tt;
  inside = λ there bytes is off. refl;
  keeps = record { kept = refl; watched = refl };
  fails = λ there. fails_never refl;
}

pub returns-in-Ok : goal.returns-in-Ok
returns-in-Ok g c = record {
  reported = λ bytes held is are known at.
      let (has, knows) = c.in-Ok.ensures.reported bytes held is are known in (
        judged_some (contents is.are.records) c.args.position at.placed.content c.fields-fields.result.now c.typed-typed.result.kind _ (c.fields-fields.ensures.fields ∙ at.fields_are) (c.states_payload.ensures.some c.if-not-states_payload.false)
            (ap (λ (r : Reading). r.kind) (c.typed-typed.ensures ∙ ap reading_of (sym c.fields-fields.ensures.fields)))
            (c.in-Origin.ensures (contents is.are.records) c.args.position at.placed.content _
            (revisit_made (contents is.are.records) c.args.position at.placed.content c.fields-fields.result.now c.algorithm_for-algorithm.result c.in-Ok.digest c.revisit_verdict.result (c.fields-fields.ensures.fields ∙ at.fields_are) c.algorithm_for-algorithm.ensures c.revisit_verdict.ensures has)),
        knows,
      );
  early = tt;
  inside = λ there. c.in-Ok.ensures.inside;
  keeps = c.in-Ok.ensures.keeps;
  fails = λ there. fails_never c.in-Ok.ensures.fails.may;
}

pub returns-in-Err : goal.returns-in-Err
returns-in-Err g c = record {
  reported = λ bytes held is are known at. tt;
  early = c.in-Err.ensures.early;
  inside = λ there. c.in-Err.ensures.inside;
  keeps = c.in-Err.ensures.keeps;
  fails = λ there. fails_as _ _ c.in-Err.ensures.fails;
}

pub returns-in-Ok-own_verdict : goal.returns-in-Ok-own_verdict
returns-in-Ok-own_verdict g c =
    let own = c.in-Ok-own_verdict.ensures in
    record {
      reported = λ bytes held is are known at. (
        judged_some (contents is.are.records) c.args.position at.placed.content c.fields-fields.result.now c.typed-typed.result.kind _ (c.fields-fields.ensures.fields ∙ at.fields_are) (c.states_payload.ensures.some c.if-not-states_payload.false)
            (ap (λ (r : Reading). r.kind) (c.typed-typed.ensures ∙ ap reading_of (sym c.fields-fields.ensures.fields)))
            (c.in-Itself.ensures (contents is.are.records) c.args.position at.placed.content _
            (own.reported bytes held (text_at_row c.head_of_spelled.ensures bytes c.args.rows.now c.args.position c.args.row.now is at.placed at.there at.row_is) (c.fields-fields.ensures.fields ∙ at.fields_are))),
        known,
      );
      early = tt;
      inside = λ there bytes (is, are). block_inside c.head_of_spelled.ensures c.args.rows.now c.args.position c.args.row.now _ there own.reads bytes is;
      keeps = record { kept = own.reads.kept; watched = own.reads.watched };
      fails = λ there. fails_never own.fails.may;
    }

pub returns-in-Err-own_verdict : goal.returns-in-Err-own_verdict
returns-in-Err-own_verdict g c =
    let own = c.in-Err-own_verdict.ensures in
    record {
      reported = λ bytes held is are known at. tt;
      early = own.early;
      inside = λ there bytes (is, are). block_inside c.head_of_spelled.ensures c.args.rows.now c.args.position c.args.row.now _ there own.reads bytes is;
      keeps = record { kept = own.reads.kept; watched = own.reads.watched };
      fails = λ there. fails_more (λ bytes held (is, are, low). text_there c.head_of_spelled.ensures bytes c.args.rows.now c.args.position c.args.row.now is there) (fails_as _ _ own.fails);
    }

pub returns-then-not-states_payload : goal.returns-then-not-states_payload
returns-then-not-states_payload g c = record {
  reported = λ bytes held is are known at.
      (judged_none (contents is.are.records) c.args.position at.placed.content c.fields-fields.result.now (c.fields-fields.ensures.fields ∙ at.fields_are) (c.states_payload.ensures.none c.if-not-states_payload.true), known);
  early = tt;
  inside = λ there bytes is off. refl;
  keeps = record { kept = refl; watched = refl };
  fails = λ there. fails_never refl;
}
