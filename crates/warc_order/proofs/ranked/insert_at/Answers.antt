use Rattle.std.proofs.Common.{arith, ap, ◌∙◌, subst, sym, ◌≡◌, length, take, drop}
use Rattle.std.proofs.lemmas.List.Elements.{All-set, All-same}
use Rattle.warc_order.specs.Ranking.{flattened, lists_of, IsBlock}
use Rattle.warc_order.proofs.BlockLemmas.{put_list, put_list-halved, All-insert, halves_are_blocks}
use Rattle.warc_order.proofs.ranked.insert_at.Goals as goal

pub returns-in-Ok-clause-blocks : goal.returns-in-Ok-clause-blocks
returns-in-Ok-clause-blocks g c =
    let old : IsBlock 512 c.index_mut-block.result.now = subst (IsBlock 512) (sym c.index_mut-block.ensures.value)
    (c.requires.blocks c.args.place.block c.index_mut-block.result.now c.requires.block) in
    let full : length c.insert.new.self.list ≡ 512 = omega (arith, c.insert.ensures.list) in
    let both : IsBlock 512 c.move_tail.new.self × IsBlock 512 c.replace-tail.result =
    halves_are_blocks c.middle_of-middle.result c.insert.new.self c.move_tail.new.self c.replace-tail.result
    c.middle_of-middle.ensures.0 c.middle_of-middle.ensures.1 full c.move_tail.ensures.front (ap (λ v. v.list)
    c.replace-tail.ensures.value ∙ c.move_tail.ensures.back) (let r = old.room in
    omega (arith, c.insert.ensures.room)) (let e = c.replace-tail.ensures.value in rw e (omega arith)) in
    All-same (IsBlock 512) _ _ c.in-Ok.ensures.items
    (All-insert (IsBlock 512) _ _ _ (All-set (IsBlock 512) c.args.blocks.now.items c.args.place.block
    c.move_tail.new.self both.0 c.requires.blocks) both.1)

pub returns-in-Ok-clause-list : goal.returns-in-Ok-clause-list
returns-in-Ok-clause-list g c =
    ap (λ bs. flattened (lists_of bs)) c.in-Ok.ensures.items
    ∙ put_list-halved c.args.blocks.now.items c.args.place.block c.args.place.offset c.args.slot
    c.middle_of-middle.result _ c.move_tail.new.self c.replace-tail.result c.requires.block
    c.index_mut-block.ensures.value c.requires.within
    (c.move_tail.ensures.front ∙ ap (take c.middle_of-middle.result) c.insert.ensures.list)
    (ap (λ v. v.list) c.replace-tail.ensures.value ∙ (c.move_tail.ensures.back
    ∙ ap (drop c.middle_of-middle.result) c.insert.ensures.list))

pub returns-else-len-eq-LIMIT-clause-list : goal.returns-else-len-eq-LIMIT-clause-list
returns-else-len-eq-LIMIT-clause-list g c =
    put_list c.args.blocks.now.items c.args.place.block c.args.place.offset c.args.slot _ c.insert.new.self
    c.requires.block c.index_mut-block.ensures.value c.requires.within c.insert.ensures.list
