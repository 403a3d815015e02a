use Rattle.std.proofs.Common.{arith, ◌≡◌, rules, ap, ◌∙◌, true, false, [], length, ◌<◌}
use Rattle.std.specs.Prelude.{nat_lt}
use Rattle.std.proofs.lemmas.Fn.{filter_same}
use Rattle.std.proofs.lemmas.List.{nil_from_length}
use Rattle.std.proofs.lemmas.List.Elements.{All-same}
use Rattle.std.proofs.lemmas.Bool.Decides.{nat_tests}
use Rattle.warc_order.specs.Ranking.{Held, flattened, lists_of, HoldsSome, IsBlock}
use Rattle.warc_order.proofs.BlockLemmas.{flattened-kept, some_kept, blocks_kept}
use Rattle.warc_order.proofs.ranked.drop_empty.Goals as goal

empty_items : (b : Held) → nat_lt 0 (length b.list) ≡ false → b.list ≡ []
empty_items b e = nil_from_length b.list (grind (arith, nat_tests))

some_items : (b : Held) → nat_lt 0 (length b.list) ≡ true → 0 < length b.list
some_items b e = grind (arith, nat_tests)

pub returns-clause-list : goal.returns-clause-list
returns-clause-list g c =
    ap (λ bs. flattened (lists_of bs)) (filter_same _ (λ b. nat_lt 0 (length b.list)) _ (λ x b f' k. search rules) _ _
    c.retain.ensures.filtered)
    ∙ flattened-kept c.args.blocks.now.items (λ b. nat_lt 0 (length b.list)) empty_items

pub returns-clause-some : goal.returns-clause-some
returns-clause-some g c =
    All-same HoldsSome _ _ (filter_same _ (λ b. nat_lt 0 (length b.list)) _ (λ x b f' k. search rules) _ _
    c.retain.ensures.filtered)
    (some_kept c.args.blocks.now.items (λ b. nat_lt 0 (length b.list)) some_items)

pub returns-clause-few : goal.returns-clause-few
returns-clause-few g c wide =
    All-same (IsBlock 512) _ _ (filter_same _ (λ b. nat_lt 0 (length b.list)) _ (λ x b f' k. search rules) _ _
    c.retain.ensures.filtered)
    (blocks_kept 512 c.args.blocks.now.items (λ b. nat_lt 0 (length b.list)) some_items wide)
