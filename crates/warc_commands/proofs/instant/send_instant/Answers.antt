use Rattle.std.proofs.Common.{rules}
use Rattle.warc_checking.proofs.CheckLemmas.{puts_same}
use Rattle.warc_commands.proofs.InstantLemmas.{instant_text}
use Rattle.warc_commands.proofs.instant.send_instant.Goals as goal

pub returns-in_err-put_parts : goal.returns-in_err-put_parts
returns-in_err-put_parts g c =
    let line = instant_text c.args.date.now c.date_front-front.result.now c.date_rest.result.now c.date_front-front.ensures c.date_rest.ensures in
    let whole = (puts_same line c.in_err-put_parts.ensures).cut _ _ (c.new-buffer.ensures.begins ((g.W.Sink.seen c.args.out.now).reports)) in
    record { reported = search rules; cut = search rules; write = search rules; cause = search rules }

pub returns-in_err-flush : goal.returns-in_err-flush
returns-in_err-flush g c =
    let line = instant_text c.args.date.now c.date_front-front.result.now c.date_rest.result.now c.date_front-front.ensures c.date_rest.ensures in
    let staged = (puts_same line c.in_ok-put_parts.ensures).out _ _ (c.new-buffer.ensures.begins ((g.W.Sink.seen c.args.out.now).reports)) in
    let whole = c.in_err-flush.ensures.cut _ _ staged in
    record { reported = search rules; cut = search rules; write = search rules; cause = search rules }

pub returns : goal.returns
returns g c =
    let line = instant_text c.args.date.now c.date_front-front.result.now c.date_rest.result.now c.date_front-front.ensures c.date_rest.ensures in
    let staged = (puts_same line c.in_ok-put_parts.ensures).out _ _ (c.new-buffer.ensures.begins ((g.W.Sink.seen c.args.out.now).reports)) in
    let reported = c.in_ok-flush.ensures.reported _ _ staged in
    record { reported = search rules; cut = search rules; write = search rules; cause = search rules }
