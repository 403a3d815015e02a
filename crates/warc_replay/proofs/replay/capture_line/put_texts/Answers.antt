use Rattle.std.proofs.Common.{◌++◌}
use Rattle.std.proofs.lemmas.Result.{err_from_is_err_and}
use Rattle.warc_checking.proofs.CheckLemmas.{puts_same}
use Rattle.warc_judged.proofs.ClaimLemmas.{puts_cut, puts_then}
use Rattle.warc_replay.specs.CaptureColumns.{end_columns, middle_columns}
use Rattle.warc_replay.proofs.CaptureLemmas.{parts_are}
use Rattle.warc_replay.proofs.replay.capture_line.put_texts.Goals as goal

pub returns-in_err-put_front : goal.returns-in_err-put_front
returns-in_err-put_front g c =
    let t = c.args.texts.now in
    let e = err_from_is_err_and c.from_residual.result c.from_residual.ensures.1 in
    rw (e.1, e.2)
    (puts_same (parts_are t.chosen.now t.date.now t.front.now t.rest.now t.kind.now t.given.now t.status.now t.media_type.now t.size.now t.name.now t.gap.now t.number.now t.target.now)
    (puts_cut (middle_columns t.rest.now t.kind.now t.given.now t.status.now t.media_type.now t.size.now ++ end_columns t.name.now t.gap.now t.number.now t.target.now) c.in_err-put_front.ensures))

pub returns-in_err-put_middle : goal.returns-in_err-put_middle
returns-in_err-put_middle g c =
    let t = c.args.texts.now in
    let e = err_from_is_err_and c.from_residual-in_err-put_middle.result c.from_residual-in_err-put_middle.ensures.1 in
    rw (e.1, e.2)
    (puts_same (parts_are t.chosen.now t.date.now t.front.now t.rest.now t.kind.now t.given.now t.status.now t.media_type.now t.size.now t.name.now t.gap.now t.number.now t.target.now)
    (puts_then c.in_ok-put_front.ensures (puts_cut (end_columns t.name.now t.gap.now t.number.now t.target.now) c.in_err-put_middle.ensures)))

pub returns : goal.returns
returns g c =
    let t = c.args.texts.now in
    puts_same (parts_are t.chosen.now t.date.now t.front.now t.rest.now t.kind.now t.given.now t.status.now t.media_type.now t.size.now t.name.now t.gap.now t.number.now t.target.now)
    (puts_then c.in_ok-put_front.ensures (puts_then c.in_ok-put_middle.ensures c.put_end.ensures))
