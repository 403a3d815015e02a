use Rattle.std.proofs.Common.{[], ◌<◌, length, map, refl, ap, ◌∙◌}
use Rattle.std.proofs.lemmas.Result.{err_from_is_err_and}
use Rattle.warc_frame.specs.Count.{raised}
use Rattle.warc_frame.proofs.EffectLemmas.{fails_after, fails_as, fails_more}
use Rattle.warc_checking.specs.OwnFindings.{all_of}
use Rattle.warc_replay.proofs.OriginLemmas.{preserves_both}
use Rattle.warc_replay.proofs.ReplayLemmas.{asks_both}
use Rattle.warc.specs.Survey.{SurveyKept}
use Rattle.warc.proofs.SurveyLemmas.{captures_inside, early_failed, failed_on, survey_begun, survey_front, survey_judged, survey_known, survey_listed, survey_none, survey_out, summary_as, unread_has, unread_may, writes_as}
use Rattle.warc.proofs.opened.surveyed.write_survey.Goals as goal

pub returns-in_err-payloads : goal.returns-in_err-payloads
returns-in_err-payloads g c =
    let rows = c.args.rows.now in
    let p = c.parts.inside in
    let kept : SurveyKept = record { index = p.lookup.index; parts = p.lookup.parts; judged = p.digests; wanted = p.wanted; segmented = p.segmented.items; findings = map all_of p.findings; known = p.known } in
    let summary = c.summary_of-summary.result in
    let counted = summary_as {rows = rows} {x = summary} c.deref.ensures.value c.verdicts.ensures c.summary_of-summary.ensures in
    let judges = c.in_err-payloads.ensures in
    let e = err_from_is_err_and c.from_residual.result c.from_residual.ensures.1 in
    rw (e.1, e.2) (writes_as kept c.args.parts.now c.parts.view_is (record {
      reported = λ bytes held is has. tt;
      cut = λ bytes held is has. survey_none bytes rows kept is has summary counted _ _ _ judges.early refl;
      inside = judges.inside;
      keeps = judges.keeps;
      fails = fails_as _ _ judges.fails;
      cause = early_failed _ _ _ judges.early refl;
    }))

pub returns-in_err-put_known : goal.returns-in_err-put_known
returns-in_err-put_known g c =
    let rows = c.args.rows.now in
    let p = c.parts.inside in
    let kept : SurveyKept = record { index = p.lookup.index; parts = p.lookup.parts; judged = p.digests; wanted = p.wanted; segmented = p.segmented.items; findings = map all_of p.findings; known = p.known } in
    let summary = c.summary_of-summary.result in
    let counted = summary_as {rows = rows} {x = summary} c.deref.ensures.value c.verdicts.ensures c.summary_of-summary.ensures in
    let start = (g.W.Sink.seen c.args.out.now).reports in
    let payloads = c.in_ok-payloads.payloads in
    let judges = c.in_ok-payloads.ensures in
    let known = c.in_err-put_known.ensures in
    let e = err_from_is_err_and c.from_residual-in_err-put_known.result c.from_residual-in_err-put_known.ensures.1 in
    rw (e.1, e.2) (writes_as kept c.args.parts.now c.parts.view_is (record {
      reported = λ bytes held is has. tt;
      cut = λ bytes held is has.
          let judged = survey_judged bytes rows kept is has summary counted c.head_of_spelled.ensures in
          let found = judges.reported bytes held is has.found (has.known_are, survey_known bytes rows kept is has summary counted) in
          survey_begun bytes rows kept is has summary counted payloads found _ _ _ ((known.puts bytes is.are.records judged).cut start [] (c.new-buffer.ensures.begins start));
      inside = judges.inside;
      keeps = judges.keeps;
      fails = fails_after {mid = g.S.Source.seen c.judge_payloads_by.new.source} judges.keeps.kept judges.fails.may (record { may = unread_may _ _ known.unread; failed = λ bytes held is. unread_has _ _ known.unread });
      cause = known.cause;
    }))

pub returns-in_err-put_outcomes : goal.returns-in_err-put_outcomes
returns-in_err-put_outcomes g c =
    let rows = c.args.rows.now in
    let p = c.parts.inside in
    let kept : SurveyKept = record { index = p.lookup.index; parts = p.lookup.parts; judged = p.digests; wanted = p.wanted; segmented = p.segmented.items; findings = map all_of p.findings; known = p.known } in
    let summary = c.summary_of-summary.result in
    let counted = summary_as {rows = rows} {x = summary} c.deref.ensures.value c.verdicts.ensures c.summary_of-summary.ensures in
    let start = (g.W.Sink.seen c.args.out.now).reports in
    let payloads = c.in_ok-payloads.payloads in
    let judges = c.in_ok-payloads.ensures in
    let known = c.in_ok-put_known.ensures in
    let puts = c.in_err-put_outcomes.ensures in
    let e = err_from_is_err_and c.from_residual-in_err-put_outcomes.result c.from_residual-in_err-put_outcomes.ensures.1 in
    rw (e.1, e.2) (writes_as kept c.args.parts.now c.parts.view_is (record {
      reported = λ bytes held is has. tt;
      cut = λ bytes held is has.
          let judged = survey_judged bytes rows kept is has summary counted c.head_of_spelled.ensures in
          let found = judges.reported bytes held is has.found (has.known_are, survey_known bytes rows kept is has summary counted) in
          let staged = (known.puts bytes is.are.records judged).out start [] (c.new-buffer.ensures.begins start) in
          let outcomes = puts.are bytes (judges.keeps.kept ∙ held) is has.found (survey_known bytes rows kept is has summary counted) in
          survey_listed bytes rows kept is has summary counted payloads found _ _ (length puts.captures) _ puts.captures outcomes (puts.cut start _ staged);
      inside = λ bytes is. asks_both (λ q. q < length bytes) (g.S.Source.seen c.args.source.now) (g.S.Source.seen c.judge_payloads_by.new.source) (g.S.Source.seen c.put_outcomes.new.source).watched_reads judges.keeps.watched (judges.inside bytes is) (puts.inside bytes is);
      keeps = preserves_both judges.keeps puts.keeps;
      fails = fails_after judges.keeps.kept judges.fails.may (fails_more (λ bytes held (is, of). (is, of, captures_inside rows is.are.records is.are.rows_are)) puts.fails);
      cause = puts.cause ∙ failed_on _ known.cause;
    }))

pub returns-in_err-put_judged : goal.returns-in_err-put_judged
returns-in_err-put_judged g c =
    let rows = c.args.rows.now in
    let p = c.parts.inside in
    let kept : SurveyKept = record { index = p.lookup.index; parts = p.lookup.parts; judged = p.digests; wanted = p.wanted; segmented = p.segmented.items; findings = map all_of p.findings; known = p.known } in
    let summary = c.summary_of-summary.result in
    let counted = summary_as {rows = rows} {x = summary} c.deref.ensures.value c.verdicts.ensures c.summary_of-summary.ensures in
    let start = (g.W.Sink.seen c.args.out.now).reports in
    let payloads = c.in_ok-payloads.payloads in
    let judges = c.in_ok-payloads.ensures in
    let known = c.in_ok-put_known.ensures in
    let puts = c.in_ok-put_outcomes.ensures in
    let last = c.in_err-put_judged.ensures in
    let e = err_from_is_err_and c.from_residual-in_err-put_judged.result c.from_residual-in_err-put_judged.ensures.1 in
    rw (e.1, e.2) (writes_as kept c.args.parts.now c.parts.view_is (record {
      reported = λ bytes held is has. tt;
      cut = λ bytes held is has.
          let judged = survey_judged bytes rows kept is has summary counted c.head_of_spelled.ensures in
          let found = judges.reported bytes held is has.found (has.known_are, survey_known bytes rows kept is has summary counted) in
          let staged = puts.out start _ ((known.puts bytes is.are.records judged).out start [] (c.new-buffer.ensures.begins start)) in
          let outcomes = puts.are bytes (judges.keeps.kept ∙ held) is has.found (survey_known bytes rows kept is has summary counted) in
          survey_front bytes rows kept is has summary counted payloads found _ _ (length puts.captures) _ puts.captures outcomes (last.cut start _ staged);
      inside = λ bytes is. asks_both (λ q. q < length bytes) (g.S.Source.seen c.args.source.now) (g.S.Source.seen c.judge_payloads_by.new.source) (g.S.Source.seen c.put_outcomes.new.source).watched_reads judges.keeps.watched (judges.inside bytes is) (puts.inside bytes is);
      keeps = preserves_both judges.keeps puts.keeps;
      fails = record { may = puts.fails.may ∙ judges.fails.may; failed = λ bytes held is. puts.fails.may ∙ judges.fails.may };
      cause = last.cause ∙ ap raised (puts.cause ∙ known.cause);
    }))

pub returns-in_err-flush : goal.returns-in_err-flush
returns-in_err-flush g c =
    let rows = c.args.rows.now in
    let p = c.parts.inside in
    let kept : SurveyKept = record { index = p.lookup.index; parts = p.lookup.parts; judged = p.digests; wanted = p.wanted; segmented = p.segmented.items; findings = map all_of p.findings; known = p.known } in
    let summary = c.summary_of-summary.result in
    let counted = summary_as {rows = rows} {x = summary} c.deref.ensures.value c.verdicts.ensures c.summary_of-summary.ensures in
    let start = (g.W.Sink.seen c.args.out.now).reports in
    let payloads = c.in_ok-payloads.payloads in
    let judges = c.in_ok-payloads.ensures in
    let known = c.in_ok-put_known.ensures in
    let puts = c.in_ok-put_outcomes.ensures in
    let last = c.in_ok-put_judged.ensures in
    let e = err_from_is_err_and c.from_residual-in_err-flush.result c.from_residual-in_err-flush.ensures.1 in
    rw (e.1, e.2) (writes_as kept c.args.parts.now c.parts.view_is (record {
      reported = λ bytes held is has. tt;
      cut = λ bytes held is has.
          let judged = survey_judged bytes rows kept is has summary counted c.head_of_spelled.ensures in
          let found = judges.reported bytes held is has.found (has.known_are, survey_known bytes rows kept is has summary counted) in
          let staged = puts.out start _ ((known.puts bytes is.are.records judged).out start [] (c.new-buffer.ensures.begins start)) in
          let outcomes = puts.are bytes (judges.keeps.kept ∙ held) is has.found (survey_known bytes rows kept is has summary counted) in
          survey_front bytes rows kept is has summary counted payloads found _ _ (length puts.captures) _ puts.captures outcomes (c.in_err-flush.ensures.cut start _ (last.out start _ staged));
      inside = λ bytes is. asks_both (λ q. q < length bytes) (g.S.Source.seen c.args.source.now) (g.S.Source.seen c.judge_payloads_by.new.source) (g.S.Source.seen c.put_outcomes.new.source).watched_reads judges.keeps.watched (judges.inside bytes is) (puts.inside bytes is);
      keeps = preserves_both judges.keeps puts.keeps;
      fails = record { may = puts.fails.may ∙ judges.fails.may; failed = λ bytes held is. puts.fails.may ∙ judges.fails.may };
      cause = c.in_err-flush.ensures.cause ∙ ap raised (last.cause ∙ puts.cause ∙ known.cause);
    }))

pub returns : goal.returns
returns g c =
    let rows = c.args.rows.now in
    let p = c.parts.inside in
    let kept : SurveyKept = record { index = p.lookup.index; parts = p.lookup.parts; judged = p.digests; wanted = p.wanted; segmented = p.segmented.items; findings = map all_of p.findings; known = p.known } in
    let summary = c.summary_of-summary.result in
    let counted = summary_as {rows = rows} {x = summary} c.deref.ensures.value c.verdicts.ensures c.summary_of-summary.ensures in
    let start = (g.W.Sink.seen c.args.out.now).reports in
    let payloads = c.in_ok-payloads.payloads in
    let judges = c.in_ok-payloads.ensures in
    let known = c.in_ok-put_known.ensures in
    let puts = c.in_ok-put_outcomes.ensures in
    let last = c.in_ok-put_judged.ensures in
    writes_as kept c.args.parts.now c.parts.view_is (record {
      reported = λ bytes held is has.
          let judged = survey_judged bytes rows kept is has summary counted c.head_of_spelled.ensures in
          let found = judges.reported bytes held is has.found (has.known_are, survey_known bytes rows kept is has summary counted) in
          let staged = puts.out start _ ((known.puts bytes is.are.records judged).out start [] (c.new-buffer.ensures.begins start)) in
          let outcomes = puts.are bytes (judges.keeps.kept ∙ held) is has.found (survey_known bytes rows kept is has summary counted) in
          survey_out bytes rows kept is has summary counted payloads found _ _ puts.captures outcomes puts.all (c.in_ok-flush.ensures.reported start _ (last.out start _ staged));
      cut = λ bytes held is has. tt;
      inside = λ bytes is. asks_both (λ q. q < length bytes) (g.S.Source.seen c.args.source.now) (g.S.Source.seen c.judge_payloads_by.new.source) (g.S.Source.seen c.put_outcomes.new.source).watched_reads judges.keeps.watched (judges.inside bytes is) (puts.inside bytes is);
      keeps = preserves_both judges.keeps puts.keeps;
      fails = record { may = puts.fails.may ∙ judges.fails.may; failed = λ bytes held is. puts.fails.may ∙ judges.fails.may };
      cause = c.in_ok-flush.ensures.cause ∙ last.cause ∙ puts.cause ∙ known.cause;
    })
