use Rattle.std.proofs.Common.{rules, []}
use Rattle.std.proofs.lemmas.Result.{err_from_is_err_and}
use Rattle.warc_answer.proofs.blocks.send_through.Goals as goal

pub returns-in_err-put_blocks-clause-sends : goal.returns-in_err-put_blocks-clause-sends
returns-in_err-put_blocks-clause-sends g c =
    let p = err_from_is_err_and c.from_residual.result c.from_residual.ensures.1 in
    rw (p.1, p.2) (record {
      out = λ bytes text held says. tt;
      cut = λ bytes text held says.
          c.in_err-put_blocks.ensures.emits.cut bytes text held says ((g.W.Sink.seen c.args.out.now).reports) []
          (c.new-buffer.ensures.begins ((g.W.Sink.seen c.args.out.now).reports));
      cause = search rules;
      fails = c.in_err-put_blocks.ensures.emits.fails;
    })

pub returns-clause-sends : goal.returns-clause-sends
returns-clause-sends g c = record {
  out = λ bytes text held says.
      c.in_ok-flush.ensures.reported ((g.W.Sink.seen c.args.out.now).reports) _
      (c.in_ok-put_blocks.ensures.emits.out bytes text held says ((g.W.Sink.seen c.args.out.now).reports) []
      (c.new-buffer.ensures.begins ((g.W.Sink.seen c.args.out.now).reports)));
  cut = λ bytes text held says. tt;
  cause = search rules;
  fails = record { may = search rules; failed = λ bytes held has. search rules };
}

pub returns-in_err-flush-clause-sends : goal.returns-in_err-flush-clause-sends
returns-in_err-flush-clause-sends g c =
    let p = err_from_is_err_and c.from_residual-in_err-flush.result c.from_residual-in_err-flush.ensures.1 in
    rw (p.1, p.2) (record {
      out = λ bytes text held says. tt;
      cut = λ bytes text held says.
          c.in_err-flush.ensures.cut ((g.W.Sink.seen c.args.out.now).reports) _
          (c.in_ok-put_blocks.ensures.emits.out bytes text held says ((g.W.Sink.seen c.args.out.now).reports) []
          (c.new-buffer.ensures.begins ((g.W.Sink.seen c.args.out.now).reports)));
      cause = search rules;
      fails = record { may = search rules; failed = λ bytes held has. search rules };
    })
