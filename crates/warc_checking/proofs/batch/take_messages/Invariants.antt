use Rattle.std.proofs.Common.{◌≡◌, length, map, take}
use Rattle.sha1.specs.Sha1.{sha1}
use Rattle.warc_checking.specs.Batch.{digest_in}
use Rattle.warc_checking.proofs.batch.take_messages.Given as goal

-- the blocks so far are taken
abbrev pub invariant-taking : goal.invariant-taking
invariant-taking l = record {
  places : length l.messages ≡ length l.waiting;
  taken : map (λ message. sha1 message.now) (take l.i l.messages) ≡ map (digest_in l.blocks) (take l.i l.waiting);
}
