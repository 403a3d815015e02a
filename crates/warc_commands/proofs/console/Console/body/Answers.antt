use Rattle.std.proofs.Common.{true, false, refl}
use Rattle.warc_commands.specs.Runs.{run_seen}
use Rattle.warc_commands.specs.Stored.{GivenAs}
use Rattle.warc_commands.proofs.ReadLemmas.{thrice_at_most, unread}
use Rattle.warc_commands.proofs.RunsLemmas.{runs_as}
use Rattle.warc_commands.proofs.WordLemmas.{bad_word, by_flag}
use Rattle.warc_commands.proofs.console.Console.body.Goals as goal

pub returns-in-Err : goal.returns-in-Err
returns-in-Err g c = record {
  ends = bad_word (GivenAs c.args.stored) _ c.in-Err.fault _ _ _ _ _ c.in-Err.ensures c.refuse_word.ensures.reported c.refuse_word.ensures.status;
  kept = refl;
  reads = thrice_at_most (unread _);
}

pub returns-then-stored : goal.returns-then-stored
returns-then-stored g c =
    runs_as _ _ _ _ _ _ (run_seen g.S.Source.seen c.stored_at.result) (λ last status. by_flag GivenAs c.args.stored true _ c.in-Ok.position _ last status c.if-stored.true c.in-Ok.ensures) (λ last reads. reads) c.stored_at.ensures

pub returns : goal.returns
returns g c =
    runs_as _ _ _ _ _ _ (run_seen g.S.Source.seen c.body_at.result) (λ last status. by_flag GivenAs c.args.stored false _ c.in-Ok.position _ last status c.if-stored.false c.in-Ok.ensures) (λ last reads. reads) c.body_at.ensures
