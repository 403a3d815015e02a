use Rattle.std.proofs.Common.{Some, ap, refl, sym, ◌∙◌}
use Rattle.std.specs.Prelude.{option_map}
use Rattle.warc_commands.specs.Captures.{CapturesEnds}
use Rattle.warc_commands.specs.Runs.{run_seen}
use Rattle.warc_commands.specs.Words.{uri_bytes}
use Rattle.warc_commands.proofs.ReadLemmas.{unread}
use Rattle.warc_commands.proofs.RunsLemmas.{runs_as}
use Rattle.warc_commands.proofs.WordLemmas.{bad_uri, by_uri}
use Rattle.warc_commands.proofs.console.Console.captures.Goals as goal

pub returns-in-Ok-Some : goal.returns-in-Ok-Some
returns-in-Ok-Some g c =
    let same = ap Some c.bytes.ensures ∙ sym (ap (option_map uri_bytes) c.in-Ok-Some.field-0-is) in
    runs_as _ _ _ _ _ _ (run_seen g.S.Source.seen c.list_captures_of.result) (λ last status. by_uri CapturesEnds c.args.in_hex _ _ _ _ last status c.in-Ok-Some.ensures same) (λ last reads. reads)
    c.list_captures_of.ensures

pub returns-in-Ok-None : goal.returns-in-Ok-None
returns-in-Ok-None g c =
    let same = sym (ap (option_map uri_bytes) c.in-Ok-None.field-0-is) in
    runs_as _ _ _ _ _ _ (run_seen g.S.Source.seen c.list_captures.result) (λ last status. by_uri CapturesEnds c.args.in_hex _ _ _ _ last status c.in-Ok-None.ensures same) (λ last reads. reads)
    c.list_captures.ensures

pub returns-in-Err : goal.returns-in-Err
returns-in-Err g c = record {
  ends = bad_uri CapturesEnds c.args.in_hex _ c.in-Err.fault _ _ _ _ _ c.in-Err.ensures c.refuse_word.ensures.reported c.refuse_word.ensures.status;
  kept = refl;
  reads = (unread (g.S.Source.seen c.args.source)).near;
}
