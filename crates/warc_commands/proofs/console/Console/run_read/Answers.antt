use Rattle.std.proofs.Common.{inl, inr, refl}
use Rattle.warc_commands.proofs.console.Console.run_read.Goals as goal

pub returns-in-Ok : goal.returns-in-Ok
returns-in-Ok g c = record {
  source = g.Y.Stream.Source.seen c.stream-source.result;
  given = c.stream-source.ensures;
  last = g.Y.Stream.Source.seen c.read_front.new.source;
  given_back = refl;
  ends = inl (record {
    bytes = c.in-Ok.bytes.items;
    are = c.in-Ok.ensures.bytes;
    sound = c.in-Ok.ensures.failed;
    ends = c.run_bytes-status.ensures;
  });
}

pub returns-in-Err : goal.returns-in-Err
returns-in-Err g c = record {
  source = g.Y.Stream.Source.seen c.stream-source.result;
  given = c.stream-source.ensures;
  last = g.Y.Stream.Source.seen c.read_front.new.source;
  given_back = refl;
  ends = inr (record {
    fault = c.in-Err.fault;
    source = c.in-Err.ensures.failed;
    unsent = c.in-Err.ensures.unsent;
    untouched = refl;
    reported = c.fail.ensures.reported;
    status_is = c.fail.ensures.status;
  });
}
