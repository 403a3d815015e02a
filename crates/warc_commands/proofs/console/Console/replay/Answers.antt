use Rattle.std.proofs.Common.{refl}
use Rattle.warc_commands.specs.Runs.{run_seen}
use Rattle.warc_commands.specs.Stored.{DatedAs}
use Rattle.warc_commands.proofs.ReadLemmas.{thrice_at_most, unread}
use Rattle.warc_commands.proofs.RunsLemmas.{runs_as}
use Rattle.warc_commands.proofs.WordLemmas.{bad_uri, by_uri}
use Rattle.warc_commands.proofs.console.Console.replay.Goals as goal

pub returns-in-Ok : goal.returns-in-Ok
returns-in-Ok g c =
    runs_as _ _ _ _ _ _ (run_seen g.S.Source.seen c.replay_of.result)
    (λ last status. by_uri (DatedAs c.args.page.as_of.stored c.args.page.as_of.date.now) c.args.page.in_hex _ _ _ _ last status c.in-Ok.ensures c.bytes.ensures) (λ last reads. reads) c.replay_of.ensures

pub returns-in-Err : goal.returns-in-Err
returns-in-Err g c = record {
  ends = bad_uri (DatedAs c.args.page.as_of.stored c.args.page.as_of.date.now) c.args.page.in_hex _ c.in-Err.fault _ _ _ _ _ c.in-Err.ensures c.refuse_word.ensures.reported c.refuse_word.ensures.status;
  kept = refl;
  reads = thrice_at_most (unread _);
}
