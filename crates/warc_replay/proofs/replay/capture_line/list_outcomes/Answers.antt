use Rattle.std.proofs.Common.{rules, ◌+◌, map, refl, sym, ap, take_all, ◌∙◌}
use Rattle.std.proofs.lemmas.Result.{err_from_is_err_and}
use Rattle.warc_frame.proofs.LawLemmas.{longer, same_out, same_staged}
use Rattle.warc_replay.specs.Captures.{captures_text}
use Rattle.warc_replay.specs.Outcomes.{outcome_seen}
use Rattle.warc_replay.proofs.CaptureLemmas.{text_front, text_next}
use Rattle.warc_replay.proofs.replay.capture_line.list_outcomes.Goals as goal

pub listing-init : goal.listing-init
unfolding captures_text
listing-init g c = record {
  staged = c.new-buffer.ensures.begins ((g.W.Sink.seen c.args.out.now).reports);
  sound = refl;
}

pub listing-preserved : goal.listing-preserved
listing-preserved g c =
    let next = text_next c.args.rows.now c.args.outcomes.now c.listing.outcome-index c.outcome-item.result c.listing-test.true c.outcome-item.is in
    record {
      staged = same_staged next (c.in_ok-put_line.ensures.out _ _ c.listing.invariant.staged);
      sound = c.in_ok-put_line.ensures.cause ∙ c.listing.invariant.sound;
    }

pub returns-in_err-put_line : goal.returns-in_err-put_line
returns-in_err-put_line g c =
    let p = err_from_is_err_and c.from_residual.result c.from_residual.ensures.1 in
    let next = text_next c.args.rows.now c.args.outcomes.now c.listing.outcome-index c.outcome-item.result c.listing-test.true c.outcome-item.is in
    let cut = same_out (sym (text_front c.args.rows.now c.args.outcomes.now (c.listing.outcome-index + 1))) (longer _ (same_out next (c.in_err-put_line.ensures.cut _ _ c.listing.invariant.staged))) in
    rw (p.1, p.2) (record { reported = search rules; cut = search rules; write = search rules; cause = search rules })

pub returns-in_err-flush : goal.returns-in_err-flush
returns-in_err-flush g c =
    let p = err_from_is_err_and c.from_residual-in_err-flush.result c.from_residual-in_err-flush.ensures.1 in
    let text = ap (λ l. captures_text c.args.rows.now (map outcome_seen l)) (take_all _ _ c.listing-test.false) in
    let cut = c.in_err-flush.ensures.cut _ _ (same_staged text c.listing.invariant.staged) in
    rw (p.1, p.2) (record { reported = search rules; cut = search rules; write = search rules; cause = search rules })

pub returns : goal.returns
returns g c =
    let text = ap (λ l. captures_text c.args.rows.now (map outcome_seen l)) (take_all _ _ c.listing-test.false) in
    let reported = c.in_ok-flush.ensures.reported _ _ (same_staged text c.listing.invariant.staged) in
    record { reported = search rules; cut = search rules; write = search rules; cause = search rules }
