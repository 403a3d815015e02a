use Rattle.std.proofs.Common.{◌≡◌, ℕ, List, length, take, drop, arith, ap, ◌∙◌}
use Rattle.warc_lanes.proofs.DigestLemmas.{length-block}
use Rattle.warc_lanes.proofs.LaneLemmas.{of_lanes}
use Rattle.warc_lanes.proofs.chain.blocks_of.Goals as goal

pub returns-clause-len : goal.returns-clause-len
returns-clause-len c =
    let group : List ℕ = c.args.group.now in
    of_lanes _ (ap length c.block_at.ensures ∙ length-block group 0 (omega arith))
    (ap length c.block_at-2.ensures ∙ length-block group c.min.result (omega arith))
    (ap length c.block_at-3.ensures ∙ length-block group c.min-2.result (omega arith))
    (ap length c.block_at-4.ensures ∙ length-block group c.min-3.result (omega arith))

same_block : (group block : List ℕ) (at other : ℕ) → block ≡ take 64 (drop at group) → at ≡ other → block ≡ take 64 (drop other group)
same_block group block at other is same = rw (← same) is

pub returns-clause-blocks : goal.returns-clause-blocks
returns-clause-blocks c =
    let group : List ℕ = c.args.group.now in
    of_lanes _ (λ fits. c.block_at.ensures)
    (λ fits. same_block group _ c.min.result 64 c.block_at-2.ensures (omega arith))
    (λ fits. same_block group _ c.min-2.result 128 c.block_at-3.ensures (omega arith))
    (λ fits. same_block group _ c.min-3.result 192 c.block_at-4.ensures (omega arith))
