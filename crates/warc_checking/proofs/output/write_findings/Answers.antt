use Rattle.std.proofs.Common.{rules, []}
use Rattle.std.proofs.lemmas.Result.{err_from_is_err_and}
use Rattle.warc_checking.proofs.output.write_findings.Goals as goal

pub returns-in_err-number-clause-cut : goal.returns-in_err-number-clause-cut
returns-in_err-number-clause-cut g c = λ bytes records findings.
    let start = (g.W.Sink.seen c.args.out.now).reports in
    let cut = (c.in_err-number.ensures.puts bytes records findings).cut start [] (c.new-buffer.ensures.begins start) in
    search rules

pub returns-clause-reported : goal.returns-clause-reported
returns-clause-reported g c = λ bytes records findings.
    let start = (g.W.Sink.seen c.args.out.now).reports in
    c.in_ok-flush.ensures.reported start _ ((c.in_ok-number.ensures.puts bytes records findings).out start [] (c.new-buffer.ensures.begins start))

pub returns-in_err-flush-clause-cut : goal.returns-in_err-flush-clause-cut
returns-in_err-flush-clause-cut g c = λ bytes records findings.
    let start = (g.W.Sink.seen c.args.out.now).reports in
    let p = err_from_is_err_and c.from_residual-in_err-flush.result c.from_residual-in_err-flush.ensures.1 in
    rw (p.1, p.2) (c.in_err-flush.ensures.cut start _ ((c.in_ok-number.ensures.puts bytes records findings).out start [] (c.new-buffer.ensures.begins start)))

pub returns-clause-number : goal.returns-clause-number
returns-clause-number g c = λ bytes records findings. (c.in_ok-number.ensures.puts bytes records findings).number
