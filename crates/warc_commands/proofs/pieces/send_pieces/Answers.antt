use Rattle.std.proofs.lemmas.Result.{err_from_is_err_and}
use Rattle.warc_commands.proofs.PiecesLemmas.{sent_all, sent_cut, sent_part}
use Rattle.warc_commands.proofs.pieces.send_pieces.Goals as goal

pub returns : goal.returns
returns g c = sent_all _ _ _ _ _ _ _ _ (c.new-buffer.ensures.begins ((g.W.Sink.seen c.args.out.now).reports)) c.in_ok-flush.field-0 c.in_ok-found.found c.in_ok-found.ensures c.in_ok-flush.ensures

pub returns-in_err-found : goal.returns-in_err-found
returns-in_err-found g c =
    let p = err_from_is_err_and c.from_residual.result c.from_residual.ensures.1 in
    rw (p.1, p.2) (sent_cut _ _ _ _ (g.W.Sink.seen c.put_pieces.new.out) _ _ c.put_pieces.new.buffer (c.new-buffer.ensures.begins ((g.W.Sink.seen c.args.out.now).reports)) c.in_err-found.field-0.0 c.in_err-found.ensures)

pub returns-in_err-flush : goal.returns-in_err-flush
returns-in_err-flush g c =
    let p = err_from_is_err_and c.from_residual-in_err-flush.result c.from_residual-in_err-flush.ensures.1 in
    rw (p.1, p.2) (sent_part _ _ _ _ _ _ _ _ (c.new-buffer.ensures.begins ((g.W.Sink.seen c.args.out.now).reports)) c.in_err-flush.field-0.0 c.in_ok-found.found c.in_ok-found.ensures c.in_err-flush.ensures)
