use Rattle.std.proofs.Common.{subst}
use Rattle.std.specs.Prelude.{Result}
use Rattle.warc_index.specs.declared.unfound.Unfound.{Unfound}
use Rattle.warc_answer.specs.declared.answer.Path.{Path}
use Rattle.warc_replay.specs.Finding.{IsFoundAt}
use Rattle.warc_replay.specs.declared.replay.body.Found.TheVariants.{Capture}
use Rattle.warc_answer.specs.Answers.{path_at}
use Rattle.warc_replay.proofs.BodyLemmas.{gives_body, gives_fault, gives_no_capture, gives_no_path, gives_no_record, leads_from}
use Rattle.warc_replay.proofs.replay.body.give_body.Goals as goal

pub returns-in-NoRecord : goal.returns-in-NoRecord
returns-in-NoRecord g c = gives_no_record c.args.rows.now c.args.lookup.now.index c.args.lookup.now.parts c.args.position _ _ c.in-NoRecord.ensures

pub returns-in-NoCapture : goal.returns-in-NoCapture
returns-in-NoCapture g c = gives_no_capture c.args.rows.now c.args.lookup.now.index c.args.lookup.now.parts c.args.position _ _ c.in-NoCapture.ensures

pub returns-in-Err : goal.returns-in-Err
returns-in-Err g c = gives_no_path c.args.rows.now c.args.lookup.now.index c.args.lookup.now.parts c.args.position c.reasons_are_answers.ensures _ _ c.in-Err.unfound
    (subst (λ (p : Result Path Unfound). IsFoundAt c.args.rows.now c.args.lookup.now.index c.args.lookup.now.parts c.args.position (Capture p)) c.in-Err.is c.in-Capture.ensures)

pub returns-in-Ok-replay_on : goal.returns-in-Ok-replay_on
returns-in-Ok-replay_on g c =
    let found = subst (λ (p : Result Path Unfound). IsFoundAt c.args.rows.now c.args.lookup.now.index c.args.lookup.now.parts c.args.position (Capture p)) c.in-Ok.is c.in-Capture.ensures in
    gives_body c.args.rows.now c.args.lookup.now.index c.args.lookup.now.parts c.args.position c.in-Ok.path c.in-Ok-replay_on.answer _ _ _ _ found
    (c.in-Ok-replay_on.ensures (λ records. path_at records c.args.position) (leads_from c.args.rows.now c.args.lookup.now.index c.args.lookup.now.parts c.args.position c.paths_end_inside.ensures c.in-Ok.path found))

pub returns-in-Err-replay_on : goal.returns-in-Err-replay_on
returns-in-Err-replay_on g c =
    let found = subst (λ (p : Result Path Unfound). IsFoundAt c.args.rows.now c.args.lookup.now.index c.args.lookup.now.parts c.args.position (Capture p)) c.in-Ok.is c.in-Capture.ensures in
    gives_fault c.args.rows.now c.args.lookup.now.index c.args.lookup.now.parts c.args.position c.in-Ok.path c.in-Err-replay_on.fault _ _ _ _ found
    (c.in-Err-replay_on.ensures (λ records. path_at records c.args.position) (leads_from c.args.rows.now c.args.lookup.now.index c.args.lookup.now.parts c.args.position c.paths_end_inside.ensures c.in-Ok.path found))
