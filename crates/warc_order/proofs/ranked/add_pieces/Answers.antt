use Rattle.std.proofs.Common.{◌∙◌, ℕ, ◌+◌, ◌<◌, ◌≤◌, ◌∷◌, [], arith, ap, length}
use Rattle.std.proofs.lemmas.List.Elements.{All-same, All-append, All-cons}
use Rattle.warc_order.specs.Ranking.{flattened, lists_of, IsBlock}
use Rattle.warc_order.proofs.BlockLemmas.{piece_is_block, pieces_more}
use Rattle.warc_order.proofs.ranked.add_pieces.Goals as goal

pub loop-from-preserved : goal.loop-from-preserved
loop-from-preserved g c =
    let from : ℕ = c.loop-from.from in
    let to : ℕ = c.loop-from.from + c.min.result in
    let here : c.loop-from.from < length c.args.slots.now = c.loop-from-test.true in
    let within : to ≤ length c.args.slots.now = omega arith in
    let few : to ≤ from + 384 = omega arith in
    let some : from < to = omega arith in
    let block : IsBlock 512 c.in_ok-block.block = piece_is_block c.in_ok-block.block c.args.slots.now from to some within
    few c.in_ok-block.ensures.list c.in_ok-block.ensures.room in
    record {
      bound = within;
      blocks = All-same (IsBlock 512) _ _ c.in_ok-push.ensures.items (All-append (IsBlock 512) c.loop-from.even.items
          (c.in_ok-block.block ∷ []) c.loop-from.invariant.blocks (All-cons (IsBlock 512) c.in_ok-block.block [] block
          (λ k d h. absurd (omega arith))));
      list = ap (λ bs. flattened (lists_of bs)) c.in_ok-push.ensures.items ∙ pieces_more c.loop-from.even.items
          c.in_ok-block.block (flattened (lists_of c.args.even.now.items)) c.args.slots.now from to (omega arith) within
          c.in_ok-block.ensures.list c.loop-from.invariant.list;
    }
