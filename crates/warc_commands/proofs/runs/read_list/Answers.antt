use Rattle.std.proofs.Common.{inl, refl, arith}
use Rattle.warc_commands.specs.Running.{max_input}
use Rattle.warc_commands.proofs.RunLemmas.{all_of, long_of}
use Rattle.warc_commands.proofs.runs.read_list.Goals as goal

pub returns-then-len-gt-MOST_INPUT-clause-cut : goal.returns-then-len-gt-MOST_INPUT-clause-cut
returns-then-len-gt-MOST_INPUT-clause-cut g c = λ out. inl (record {
  long = λ all held. long_of max_input c.in-Ok.list.items all (c.in-Ok.ensures.bytes all held) (omega (arith, c.if-len-gt-MOST_INPUT.true, c.len.ensures));
  sound = c.in-Ok.ensures.failed;
  stopped = record { untouched = refl; reported = c.stop.ensures.reported; status_is = c.stop.ensures.status };
})

pub returns-clause-are : goal.returns-clause-are
returns-clause-are g c = λ all held. all_of max_input c.in-Ok.list.items all (c.in-Ok.ensures.bytes all held) (omega (arith, c.if-len-gt-MOST_INPUT.false, c.len.ensures))
