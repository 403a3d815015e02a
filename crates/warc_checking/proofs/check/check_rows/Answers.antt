use Rattle.std.proofs.Common.{rules, ℕ, List, Some, false, true, ◌≡◌, map, refl, sym, ◌∙◌}
use Rattle.std.proofs.lemmas.Result.{IfErr-weaker, IfOk-weaker}
use Rattle.warc_frame.proofs.EffectLemmas.{fails_more}
use Rattle.warc_reading.specs.Archive.{IsArchiveOf}
use Rattle.warc_reading.proofs.HeadLemmas.{fails_ended}
use Rattle.warc_reading.proofs.PlaceLemmas.{checkable_archive}
use Rattle.warc_checking.specs.OwnFindings.{AreJudged, all_of}
use Rattle.warc_checking.proofs.CountLemmas.{counted}
use Rattle.warc_checking.proofs.RecordsLemmas.{fails_unread, none_failed, none_out, none_sent}
use Rattle.warc_checking.proofs.check.check_rows.Goals as goal

pub returns-in-Err : goal.returns-in-Err
returns-in-Err g c = record {
  reported = λ bytes held is. search rules;
  number = λ bytes held is. search rules;
  cut = λ bytes held is. none_out c.in-Err.fault c.after.result c.after.ensures _ _;
  reads = c.row_findings.ensures.reads;
  fails = fails_ended c.in-Err.fault c.after.result 0 c.after.ensures
      (fails_more (λ bytes held is. record { records = is.are.records; can = checkable_archive c.head_of_spelled.ensures bytes _ is _ refl })
      c.in-Err.ensures.fails);
  cause = none_failed c.in-Err.fault c.after.result c.after.ensures _;
  unsent = λ read. (none_sent c.in-Err.fault c.after.result c.after.ensures, refl);
}

pub returns : goal.returns
returns g c =
    let found : (bytes : List ℕ) → (g.S.Source.seen c.args.source.now).holds ≡ Some bytes → (is : IsArchiveOf bytes c.args.rows.now)
    → AreJudged bytes is.are.records c.args.rows.now (map all_of c.in-Ok.findings) =
    λ bytes held is.
    let can = checkable_archive c.head_of_spelled.ensures bytes _ is _ refl in
    record { can = can; found_is = c.in-Ok.ensures.judged bytes held is.are.records can } in
    record {
      reported = λ bytes held is. c.write_findings.ensures.reported bytes is.are.records (found bytes held is);
      number = λ bytes held is.
          IfOk-weaker c.write_findings.result _ _ (λ n e. e ∙ counted bytes _ is) (c.write_findings.ensures.number bytes is.are.records (found bytes held is));
      cut = λ bytes held is. c.write_findings.ensures.cut bytes is.are.records (found bytes held is);
      reads = c.row_findings.ensures.reads;
      fails = fails_unread c.write_findings.result c.write_findings.ensures.unread c.in-Ok.ensures.fails.may;
      cause = c.write_findings.ensures.cause;
      unsent = IfErr-weaker c.write_findings.result _ _ (λ e none is. let no : false ≡ true = sym none ∙ is in absurd (cc no)) c.write_findings.ensures.unread;
    }
