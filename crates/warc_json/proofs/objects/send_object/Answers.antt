use Rattle.std.proofs.Common.{rules}
use Rattle.warc_json.proofs.objects.send_object.Goals as goal

pub returns-in_err-put_object : goal.returns-in_err-put_object
returns-in_err-put_object g c =
    let whole = c.in_err-put_object.ensures.cut _ _ (c.new-buffer.ensures.begins ((g.W.Sink.seen c.args.out.now).reports)) in
    record { reported = search rules; cut = search rules; write = search rules; cause = search rules }

pub returns-in_err-flush : goal.returns-in_err-flush
returns-in_err-flush g c =
    let staged = c.in_ok-put_object.ensures.out _ _ (c.new-buffer.ensures.begins ((g.W.Sink.seen c.args.out.now).reports)) in
    let whole = c.in_err-flush.ensures.cut _ _ staged in
    record { reported = search rules; cut = search rules; write = search rules; cause = search rules }

pub returns : goal.returns
returns g c =
    let staged = c.in_ok-put_object.ensures.out _ _ (c.new-buffer.ensures.begins ((g.W.Sink.seen c.args.out.now).reports)) in
    let reported = c.in_ok-flush.ensures.reported _ _ staged in
    record { reported = search rules; cut = search rules; write = search rules; cause = search rules }
