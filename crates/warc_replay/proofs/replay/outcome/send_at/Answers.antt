use Rattle.std.proofs.Common.{subst}
use Rattle.std.specs.Prelude.{Result}
use Rattle.warc_index.specs.declared.unfound.Unfound.{Unfound}
use Rattle.warc_answer.specs.declared.answer.Path.{Path}
use Rattle.warc_replay.specs.Finding.{IsFoundAt}
use Rattle.warc_replay.specs.declared.replay.body.Found.TheVariants.{Capture}
use Rattle.warc_replay.proofs.LookLemmas.{gives_failed, gives_none, gives_other, gives_stored, gives_unfound}
use Rattle.warc_replay.proofs.replay.outcome.send_at.Goals as goal

pub returns-in-NoRecord : goal.returns-in-NoRecord
returns-in-NoRecord g c = gives_none c.args.rows.now c.args.lookup.now.index c.args.lookup.now.parts c.args.position _ _ c.in-NoRecord.ensures

pub returns-in-NoCapture : goal.returns-in-NoCapture
returns-in-NoCapture g c = gives_other c.args.rows.now c.args.lookup.now.index c.args.lookup.now.parts c.args.position _ _ c.in-NoCapture.ensures

pub returns-in-Err : goal.returns-in-Err
returns-in-Err g c = gives_unfound c.args.rows.now c.args.lookup.now.index c.args.lookup.now.parts c.args.position _ _ c.in-Err.unfound
    (subst (λ (p : Result Path Unfound). IsFoundAt c.args.rows.now c.args.lookup.now.index c.args.lookup.now.parts c.args.position (Capture p)) c.in-Err.is c.in-Capture.ensures)

pub returns-in-Ok-send_origin : goal.returns-in-Ok-send_origin
returns-in-Ok-send_origin g c =
    let found = subst (λ (p : Result Path Unfound). IsFoundAt c.args.rows.now c.args.lookup.now.index c.args.lookup.now.parts c.args.position (Capture p)) c.in-Ok.is c.in-Capture.ensures in
    gives_stored c.args.rows.now c.args.lookup.now.index c.args.lookup.now.parts c.args.position c.paths_end_inside.ensures c.in-Ok.path c.in-Ok-send_origin.stored _ _ _ _ found c.in-Ok-send_origin.ensures

pub returns-in-Err-send_origin : goal.returns-in-Err-send_origin
returns-in-Err-send_origin g c =
    let found = subst (λ (p : Result Path Unfound). IsFoundAt c.args.rows.now c.args.lookup.now.index c.args.lookup.now.parts c.args.position (Capture p)) c.in-Ok.is c.in-Capture.ensures in
    gives_failed c.args.rows.now c.args.lookup.now.index c.args.lookup.now.parts c.args.position c.paths_end_inside.ensures c.in-Ok.path c.in-Err-send_origin.fault _ _ _ _ found c.in-Err-send_origin.ensures
