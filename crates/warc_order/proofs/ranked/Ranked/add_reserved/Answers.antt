use Rattle.std.proofs.Common.{ap, sym, subst, ◌∙◌, ◌≡◌, ◌∷◌}
use Rattle.std.specs.List.Sorted.{IsPermutation}
use Rattle.warc_order.specs.Ranking.{flattened, placed, lists_of, IsRanked}
use Rattle.warc_order.proofs.RankLemmas.{ranked_placed, placed_members}
use Rattle.warc_order.proofs.ranked.Ranked.add_reserved.Goals as goal

pub returns-clause-ranked : goal.returns-clause-ranked
returns-clause-ranked g c =
    let e : flattened (lists_of c.add_in.new.blocks.items) ≡ placed (g.O.SlotOrder.compare c.args.order.now)
    c.args.self.now.list c.args.slot = c.add_in.ensures.list
    ∙ ap (λ v. placed (g.O.SlotOrder.compare c.args.order.now) v.list c.args.slot) c.self.view_is in
    subst (IsRanked (g.O.SlotOrder.compare c.args.order.now)) (sym e) (ranked_placed (g.O.SlotOrder.compare
    c.args.order.now) (g.met.O.SlotOrder.total c.args.order.now) c.args.self.now.list c.args.slot c.requires.ranked)

pub returns-clause-members : goal.returns-clause-members
returns-clause-members g c =
    let e : flattened (lists_of c.add_in.new.blocks.items) ≡ placed (g.O.SlotOrder.compare c.args.order.now)
    c.args.self.now.list c.args.slot = c.add_in.ensures.list
    ∙ ap (λ v. placed (g.O.SlotOrder.compare c.args.order.now) v.list c.args.slot) c.self.view_is in
    subst (IsPermutation (c.args.slot ∷ c.args.self.now.list)) (sym e) (placed_members (g.O.SlotOrder.compare
    c.args.order.now) c.args.self.now.list c.args.slot)
