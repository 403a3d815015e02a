use Rattle.std.proofs.Common.{rules, arith}
use Rattle.std.proofs.lemmas.Grind.{common_steps}
use Rattle.warc_frame.proofs.TakeLemmas.{reported-more}
use Rattle.warc_frame.proofs.send.send_all.Goals as goal

pub writing-preserved : goal.writing-preserved
writing-preserved g c = record {
  within = grind (arith, common_steps, c.in-Ok.ensures.bound);
  reported = reported-more _ _ _ c.args.piece.now c.writing.sent c.in-Ok.n c.writing.invariant.reported c.in-Ok.ensures.bytes;
  sound = search rules;
}
