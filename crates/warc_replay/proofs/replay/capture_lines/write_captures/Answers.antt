use Rattle.std.proofs.lemmas.Result.{err_from_is_err_and}
use Rattle.warc_replay.proofs.CaptureLineLemmas.{sends, sends_cut, sends_front}
use Rattle.warc_replay.proofs.replay.capture_lines.write_captures.Goals as goal

pub returns-in_err-put_captures : goal.returns-in_err-put_captures
returns-in_err-put_captures g c =
    let p = err_from_is_err_and c.from_residual.result c.from_residual.ensures.1 in
    rw (p.1, p.2) (sends_front c.new-buffer.ensures.begins c.in_err-put_captures.ensures)

pub returns-in_err-flush : goal.returns-in_err-flush
returns-in_err-flush g c =
    let p = err_from_is_err_and c.from_residual-in_err-flush.result c.from_residual-in_err-flush.ensures.1 in
    rw (p.1, p.2) (sends_cut c.new-buffer.ensures.begins c.in_ok-put_captures.ensures c.in_err-flush.ensures)

pub returns : goal.returns
returns g c = sends c.new-buffer.ensures.begins c.in_ok-put_captures.ensures c.in_ok-flush.ensures
