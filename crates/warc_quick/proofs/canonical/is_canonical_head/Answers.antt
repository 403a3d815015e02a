use Rattle.warc_quick.proofs.CanonicalLemmas.{canonical_head}
use Rattle.warc_quick.proofs.canonical.is_canonical_head.Goals as goal

pub returns-in-Some : goal.returns-in-Some
returns-in-Some c = λ are.
    canonical_head c.args.text.now c.args.block_len _ c.in-Some.ensures.head c.if-head-text.true c.if-head-block_len.true (c.has_canonical_lines.ensures are)
