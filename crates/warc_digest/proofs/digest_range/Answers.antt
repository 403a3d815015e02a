use Rattle.std.proofs.Common.{[], take, drop}
use Rattle.warc_digest.proofs.digest_range.Goals as goal

pub returns-clause-digest : goal.returns-clause-digest
returns-clause-digest g c = λ bytes held.
    c.finish.ensures (take c.args.len (drop c.args.at bytes)) (c.in_ok-take_range.ensures.taken bytes held tt [] c.new-hash.ensures)
