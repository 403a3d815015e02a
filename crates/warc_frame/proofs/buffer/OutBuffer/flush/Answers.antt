use Rattle.std.proofs.Common.{rules}
use Rattle.warc_frame.proofs.buffer.OutBuffer.flush.Goals as goal

pub returns : goal.returns
returns g c = record {
  out = λ start output is. search rules;
  reported = λ start output is. search rules;
  cut = λ start output is. search rules;
  cause = search rules;
  empty = search rules;
  left = search rules;
}
