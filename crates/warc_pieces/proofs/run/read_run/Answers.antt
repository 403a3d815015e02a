use Rattle.std.proofs.Common.{◌+◌, ◌*◌, ◌≤◌, Ok, drop, length, refl, ap, ◌∙◌, arith}
use Rattle.std.proofs.lemmas.List.{drop-drop, length-drop}
use Rattle.warc_frame.specs.Reading.{record_of}
use Rattle.warc_record.specs.Heads.{head_fault}
use Rattle.warc_pieces.specs.Pieces.{near}
use Rattle.warc_pieces.proofs.ReadsLemmas.{reads_as, reads_then}
use Rattle.warc_pieces.proofs.RunLemmas.{goes_more, run_read}
use Rattle.warc_pieces.proofs.run.read_run.Goals as goal

pub reading-preserved : goal.reading-preserved
reading-preserved g c =
    let i = c.reading.invariant in
    let at = c.args.at in
    let count = c.reading.count in
    let len = c.reading.len in
    record {
      limit = omega (arith, c.in-Ok.ensures.far);
      begin = omega (arith, c.in-Ok.ensures.begin);
      few = omega (arith, i.few, c.in-Ok.ensures.some);
      none = λ is. absurd (omega (arith, is));
      reads = reads_as (54 * count + 54) (54 * (count + 1)) (Ok c.in-Ok.more) (Ok tt) _ _ _ _ (omega arith) refl
          (reads_then (54 * count) 54 (Ok tt) (Ok c.in-Ok.more) _ _ _ _ _ _ refl i.reads c.in-Ok.ensures.reads);
      held = λ bytes held shows low.
          let (here, over) = i.held bytes held shows low in
          let within : at + len ≤ length (near bytes) = omega (arith, over.within, length-drop at (near bytes), low) in
          let (there, found) = c.in-Ok.ensures.judges bytes (i.reads.kept ∙ held) here within in
          (there, goes_more (drop at (near bytes)) count len found.0 c.in-Ok.more over (ap (record_of head_fault) (drop-drop len at (near bytes)) ∙ found.1));
    }

pub returns-in-Err-clause-run : goal.returns-in-Err-clause-run
returns-in-Err-clause-run g c = λ bytes held shows low.
    let i = c.reading.invariant in
    let at = c.args.at in
    let len = c.reading.len in
    let (here, over) = i.held bytes held shows low in
    let within : at + len ≤ length (near bytes) = omega (arith, over.within, length-drop at (near bytes), low) in
    let (there, miss) = c.in-Err.ensures.judges bytes (i.reads.kept ∙ held) here within in
    (there, run_read at bytes c.reading.count len c.in-Err.fault c.end_at-end.result low over miss c.end_at-end.ensures.none c.end_at-end.ensures.some)
