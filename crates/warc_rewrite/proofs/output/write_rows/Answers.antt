use Rattle.std.proofs.Common.{rules, [], refl}
use Rattle.std.proofs.lemmas.Result.{err_from_is_err_and}
use Rattle.warc_rewrite.proofs.output.write_rows.Goals as goal

pub returns-in_default-clause-sends : goal.returns-in_default-clause-sends
returns-in_default-clause-sends g c = record {
  out = λ bytes text held are. tt;
  cut = λ bytes text held are. search rules;
  cause = refl;
  fails = record { may = refl; failed = λ bytes held is. refl };
}

pub returns-clause-sends : goal.returns-clause-sends
returns-clause-sends g c =
    let start = (g.W.Sink.seen c.args.out.now).reports in
    record {
      out = λ bytes text held are.
          c.in_ok-flush.ensures.reported start _ (c.in_ok-put_records.ensures.emits.out bytes text held are start [] (c.new-buffer.ensures.begins start));
      cut = λ bytes text held are. tt;
      cause = search rules;
      fails = record { may = search rules; failed = λ bytes held is. search rules };
    }

pub returns-in_err-put_records-clause-sends : goal.returns-in_err-put_records-clause-sends
returns-in_err-put_records-clause-sends g c =
    let p = err_from_is_err_and c.from_residual.result c.from_residual.ensures.1 in
    let start = (g.W.Sink.seen c.args.out.now).reports in
    rw (p.1, p.2) (record {
      out = λ bytes text held are. tt;
      cut = λ bytes text held are. c.in_err-put_records.ensures.emits.cut bytes text held are start [] (c.new-buffer.ensures.begins start);
      cause = search rules;
      fails = c.in_err-put_records.ensures.emits.fails;
    })

pub returns-in_err-flush-clause-sends : goal.returns-in_err-flush-clause-sends
returns-in_err-flush-clause-sends g c =
    let p = err_from_is_err_and c.from_residual-in_err-flush.result c.from_residual-in_err-flush.ensures.1 in
    let start = (g.W.Sink.seen c.args.out.now).reports in
    rw (p.1, p.2) (record {
      out = λ bytes text held are. tt;
      cut = λ bytes text held are.
          c.in_err-flush.ensures.cut start _ (c.in_ok-put_records.ensures.emits.out bytes text held are start [] (c.new-buffer.ensures.begins start));
      cause = search rules;
      fails = record { may = search rules; failed = λ bytes held is. search rules };
    })
