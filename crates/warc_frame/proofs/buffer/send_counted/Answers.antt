use Rattle.warc_frame.proofs.Sending.{went_out_more}
use Rattle.warc_frame.proofs.buffer.send_counted.Goals as goal

pub returns-in-Err-clause-cut : goal.returns-in-Err-clause-cut
returns-in-Err-clause-cut g c = λ start gone reported number. went_out_more start _ _ gone c.args.piece.now c.args.sent.now c.in-Err.fault.sent _ reported number c.in-Err.ensures.bytes c.in-Err.ensures.bound c.saturating_add-in-Err.ensures
