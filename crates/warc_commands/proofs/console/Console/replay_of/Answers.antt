use Rattle.std.proofs.Common.{true, false, refl}
use Rattle.warc_commands.specs.Runs.{run_seen}
use Rattle.warc_commands.specs.Stored.{ReplayedAs}
use Rattle.warc_commands.proofs.ReadLemmas.{thrice_at_most, unread}
use Rattle.warc_commands.proofs.RunsLemmas.{runs_as}
use Rattle.warc_commands.proofs.WordLemmas.{bad_word, by_flag}
use Rattle.warc_commands.proofs.console.Console.replay_of.Goals as goal

pub returns-in-Err : goal.returns-in-Err
returns-in-Err g c = record {
  ends = bad_word (ReplayedAs c.args.as_of.stored c.args.uri.now) _ c.in-Err.fault _ _ _ _ _ c.in-Err.ensures c.refuse_word.ensures.reported c.refuse_word.ensures.status;
  kept = refl;
  reads = thrice_at_most (unread _);
}

pub returns-then-as_of : goal.returns-then-as_of
returns-then-as_of g c =
    runs_as _ _ _ _ _ _ (run_seen g.S.Source.seen c.stored_as_of.result) (λ last status. by_flag (λ b. ReplayedAs b c.args.uri.now) c.args.as_of.stored true _ c.in-Ok.moment _ last status c.if-as_of.true c.in-Ok.ensures) (λ last reads. reads) c.stored_as_of.ensures

pub returns : goal.returns
returns g c =
    runs_as _ _ _ _ _ _ (run_seen g.S.Source.seen c.replay_as_of.result) (λ last status. by_flag (λ b. ReplayedAs b c.args.uri.now) c.args.as_of.stored false _ c.in-Ok.moment _ last status c.if-as_of.false c.in-Ok.ensures) (λ last reads. reads) c.replay_as_of.ensures
