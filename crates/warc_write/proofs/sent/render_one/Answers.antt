use Rattle.std.proofs.Common.{rules, []}
use Rattle.warc_write.proofs.sent.render_one.Goals as goal

pub returns : goal.returns
returns g c =
    let start = (g.W.Sink.seen c.args.out.now).reports in
    let reported = c.in_ok-flush.ensures.reported start _ (c.in_ok-put_record.ensures.out start [] (c.new-buffer.ensures.begins start)) in
    record { reported = reported; cut = search rules; write = search rules; cause = search rules }

pub returns-in_err-put_record : goal.returns-in_err-put_record
returns-in_err-put_record g c =
    let start = (g.W.Sink.seen c.args.out.now).reports in
    let cut = c.in_err-put_record.ensures.cut start [] (c.new-buffer.ensures.begins start) in
    record { reported = search rules; cut = search rules; write = search rules; cause = search rules }

pub returns-in_err-flush : goal.returns-in_err-flush
returns-in_err-flush g c =
    let start = (g.W.Sink.seen c.args.out.now).reports in
    let cut = c.in_err-flush.ensures.cut start _ (c.in_ok-put_record.ensures.out start [] (c.new-buffer.ensures.begins start)) in
    record { reported = search rules; cut = search rules; write = search rules; cause = search rules }
