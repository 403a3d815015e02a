use Rattle.std.proofs.Common.{subst}
use Rattle.std.specs.Prelude.{Result}
use Rattle.warc_index.specs.declared.unfound.Unfound.{Unfound}
use Rattle.warc_answer.specs.declared.answer.Path.{Path}
use Rattle.warc_replay.specs.Finding.{IsFoundAt}
use Rattle.warc_replay.specs.declared.replay.body.Found.TheVariants.{Capture}
use Rattle.warc_answer.specs.Answers.{path_at}
use Rattle.warc_replay.proofs.BodyLemmas.{leads_from}
use Rattle.warc_replay.proofs.LocatingLemmas.{body_there, fault_there, no_capture_there, no_path_there, no_record_there}
use Rattle.warc_replay.proofs.replay.location.locate_at.Goals as goal

pub returns-in-NoRecord : goal.returns-in-NoRecord
returns-in-NoRecord g c = no_record_there c.args.rows.now c.args.lookup.now.index c.args.lookup.now.parts c.args.position _ c.in-NoRecord.ensures

pub returns-in-NoCapture : goal.returns-in-NoCapture
returns-in-NoCapture g c = no_capture_there c.args.rows.now c.args.lookup.now.index c.args.lookup.now.parts c.args.position _ c.in-NoCapture.ensures

pub returns-in-Err : goal.returns-in-Err
returns-in-Err g c = no_path_there c.args.rows.now c.args.lookup.now.index c.args.lookup.now.parts c.args.position c.reasons_are_answers.ensures _ c.in-Err.unfound
    (subst (λ (p : Result Path Unfound). IsFoundAt c.args.rows.now c.args.lookup.now.index c.args.lookup.now.parts c.args.position (Capture p)) c.in-Err.is c.in-Capture.ensures)

pub returns-in-Ok-locate_on : goal.returns-in-Ok-locate_on
returns-in-Ok-locate_on g c =
    let found = subst (λ (p : Result Path Unfound). IsFoundAt c.args.rows.now c.args.lookup.now.index c.args.lookup.now.parts c.args.position (Capture p)) c.in-Ok.is c.in-Capture.ensures in
    body_there c.args.rows.now c.args.lookup.now.index c.args.lookup.now.parts c.args.position c.in-Ok.path c.in-Ok-locate_on.body _ _ found
    (c.in-Ok-locate_on.ensures (λ records. path_at records c.args.position) (leads_from c.args.rows.now c.args.lookup.now.index c.args.lookup.now.parts c.args.position c.paths_end_inside.ensures c.in-Ok.path found))

pub returns-in-Err-locate_on : goal.returns-in-Err-locate_on
returns-in-Err-locate_on g c =
    let found = subst (λ (p : Result Path Unfound). IsFoundAt c.args.rows.now c.args.lookup.now.index c.args.lookup.now.parts c.args.position (Capture p)) c.in-Ok.is c.in-Capture.ensures in
    fault_there c.args.rows.now c.args.lookup.now.index c.args.lookup.now.parts c.args.position c.in-Ok.path c.in-Err-locate_on.fault _ _ found
    (c.in-Err-locate_on.ensures (λ records. path_at records c.args.position) (leads_from c.args.rows.now c.args.lookup.now.index c.args.lookup.now.parts c.args.position c.paths_end_inside.ensures c.in-Ok.path found))
