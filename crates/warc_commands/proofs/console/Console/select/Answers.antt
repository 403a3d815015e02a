use Rattle.std.proofs.Common.{false, true, refl}
use Rattle.warc_commands.specs.Runs.{run_seen}
use Rattle.warc_commands.proofs.ClosedLemmas.{list_refused, select_reads, select_unread, selected_as}
use Rattle.warc_commands.proofs.RunsLemmas.{runs_as}
use Rattle.warc_commands.proofs.console.Console.select.Goals as goal

pub returns-in-Err : goal.returns-in-Err
returns-in-Err g c = record {
  ends = list_refused c.args.of.closed c.args.of.except c.args.of.list.now _ c.in-Err.fault _ _ _ _ _ c.in-Err.ensures c.report_list.ensures.reported c.report_list.ensures.status;
  kept = refl;
  reads = select_unread c.args.of.closed _;
}

pub returns-then-of : goal.returns-then-of
returns-then-of g c =
    runs_as _ _ _ _ _ _ (run_seen g.S.Source.seen c.select_closed.result) (λ last status. selected_as c.args.of.closed true c.args.of.except _ _ _ _ last status c.if-of.true c.in-Ok.ensures)
    (λ last. select_reads c.args.of.closed true _ last c.if-of.true) c.select_closed.ensures

pub returns : goal.returns
returns g c =
    runs_as _ _ _ _ _ _ (run_seen g.S.Source.seen c.select_alone.result) (λ last status. selected_as c.args.of.closed false c.args.of.except _ _ _ _ last status c.if-of.false c.in-Ok.ensures)
    (λ last. select_reads c.args.of.closed false _ last c.if-of.false) c.select_alone.ensures
