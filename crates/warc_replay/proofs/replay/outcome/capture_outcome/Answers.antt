use Rattle.std.proofs.Common.{subst}
use Rattle.std.specs.Prelude.{Result}
use Rattle.warc_index.specs.declared.unfound.Unfound.{Unfound}
use Rattle.warc_answer.specs.declared.answer.Path.{Path}
use Rattle.warc_replay.specs.Finding.{IsFoundAt}
use Rattle.warc_replay.specs.declared.replay.body.Found.TheVariants.{Capture}
use Rattle.warc_replay.proofs.LookLemmas.{judges_failed, judges_made, judges_no_capture, judges_no_path, judges_no_record}
use Rattle.warc_replay.proofs.replay.outcome.capture_outcome.Goals as goal

pub returns-in-NoRecord : goal.returns-in-NoRecord
returns-in-NoRecord g c = judges_no_record c.args.rows.now c.args.lookup.now.index c.args.lookup.now.parts c.args.position _ c.in-NoRecord.ensures

pub returns-in-NoCapture : goal.returns-in-NoCapture
returns-in-NoCapture g c = judges_no_capture c.args.rows.now c.args.lookup.now.index c.args.lookup.now.parts c.args.position _ c.in-NoCapture.ensures

pub returns-in-Err : goal.returns-in-Err
returns-in-Err g c = judges_no_path c.args.rows.now c.args.lookup.now.index c.args.lookup.now.parts c.args.position _ c.in-Err.unfound
    (subst (λ (p : Result Path Unfound). IsFoundAt c.args.rows.now c.args.lookup.now.index c.args.lookup.now.parts c.args.position (Capture p)) c.in-Err.is c.in-Capture.ensures)

pub returns-in-Ok-stored_of_origin : goal.returns-in-Ok-stored_of_origin
returns-in-Ok-stored_of_origin g c =
    let found = subst (λ (p : Result Path Unfound). IsFoundAt c.args.rows.now c.args.lookup.now.index c.args.lookup.now.parts c.args.position (Capture p)) c.in-Ok.is c.in-Capture.ensures in
    judges_made c.args.rows.now c.args.lookup.now.index c.args.lookup.now.parts c.args.position c.paths_end_inside.ensures c.in-Ok.path c.in-Ok-stored_of_origin.stored _ _ found c.in-Ok-stored_of_origin.ensures

pub returns-in-Err-stored_of_origin : goal.returns-in-Err-stored_of_origin
returns-in-Err-stored_of_origin g c =
    let found = subst (λ (p : Result Path Unfound). IsFoundAt c.args.rows.now c.args.lookup.now.index c.args.lookup.now.parts c.args.position (Capture p)) c.in-Ok.is c.in-Capture.ensures in
    judges_failed c.args.rows.now c.args.lookup.now.index c.args.lookup.now.parts c.args.position c.paths_end_inside.ensures c.in-Ok.path c.in-Err-stored_of_origin.fault _ _ found c.in-Err-stored_of_origin.ensures
