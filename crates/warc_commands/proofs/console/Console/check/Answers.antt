use Rattle.std.proofs.Common.{ℕ, inl, inr, refl, ap, ◌∙◌}
use Rattle.warc_reading.specs.Archive.{contents}
use Rattle.warc_commands.specs.Program.{status_of_count}
use Rattle.warc_commands.proofs.ProgramLemmas.{good_records_of}
use Rattle.warc_checking.proofs.RecordsLemmas.{unread}
use Rattle.warc_commands.proofs.ReadLemmas.{opened_in_order}
use Rattle.warc_commands.proofs.console.Console.check.Goals as goal

pub returns-in-Ok : goal.returns-in-Ok
returns-in-Ok g c = record {
  ends = inl (record {
    is = λ bytes held.
        let archive = c.in_ok-checked.ensures.accepted bytes held in
        let rs = contents archive.listed.are.records in
        let reports = c.in-Ok.ensures.reports bytes archive in
        record {
          records = rs;
          are = good_records_of archive.listed;
          reported = reports.reported;
          status_is = c.status_of_count.ensures.value ∙ ap status_of_count reports.number;
        };
    unfailed = c.in-Ok.ensures.cause;
    sound = ap (λ s. (g.S.Source.seen s).faults) c.into_source.ensures ∙ c.in_ok-checked.ensures.reads.cause;
    silent = refl;
    status_in = c.status_of_count.ensures.cases;
  });
  kept = ap (λ s. (g.S.Source.seen s).holds) c.into_source.ensures ∙ c.in_ok-checked.ensures.reads.kept;
  reads = opened_in_order c.in_ok-checked.ensures (ap (λ s. g.S.Source.seen s) c.into_source.ensures);
}

pub returns-in-Err : goal.returns-in-Err
returns-in-Err g c = record {
  ends =
      let same = ap (λ s. (g.S.Source.seen s).faults) c.into_source-in-Err.ensures ∙ c.in_ok-checked.ensures.reads.cause in
      inr (inr (record {
        cut = record {
          fault = c.in-Err.fault;
          is = λ bytes held.
              let archive = c.in_ok-checked.ensures.accepted bytes held in
              record {
                records = contents archive.listed.are.records;
                are = good_records_of archive.listed;
                front = (c.in-Err.ensures.reports bytes archive).cut;
                source = (unread ℕ c.in-Err.fault _ _ c.in-Err.ensures.unread same).1;
              };
          source = (unread ℕ c.in-Err.fault _ _ c.in-Err.ensures.unread same).0;
          failed = c.in-Err.ensures.cause;
          reported = c.fail.ensures.reported;
          status_is = c.fail.ensures.status;
        };
        unread = c.in-Err.ensures.unread;
        sound = same;
      }));
  kept = ap (λ s. (g.S.Source.seen s).holds) c.into_source-in-Err.ensures ∙ c.in_ok-checked.ensures.reads.kept;
  reads = opened_in_order c.in_ok-checked.ensures (ap (λ s. g.S.Source.seen s) c.into_source-in-Err.ensures);
}
