use Rattle.std.proofs.Common.{eqb, sym, subst}
use Rattle.std.specs.List.{Contains}
use Rattle.std.specs.List.Sorted.{IsStrictlyIncreasing}
use Rattle.std.proofs.lemmas.List.Filters.{dedup_is}
use Rattle.std.proofs.lemmas.List.Kept.{Contains-dedup_nat, Contains-from_dedup}
use Rattle.std.proofs.lemmas.List.Sorted.{Contains-permutation, IsPermutation-sym}
use Rattle.std.proofs.lemmas.Map.Keys.{IsStrictlyIncreasing-dedup}
use Rattle.warc_commands.proofs.lists.put_in_order.Goals as goal

pub returns-clause-ascending : goal.returns-clause-ascending
returns-clause-ascending g c = let sorted = c.sort_unstable.new.self.items in
    subst IsStrictlyIncreasing (sym (dedup_is eqb sorted c.dedup.new.self.items c.dedup.ensures.filtered)) (IsStrictlyIncreasing-dedup sorted c.sort_unstable.ensures.sorted)

pub returns-clause-same : goal.returns-clause-same
returns-clause-same g c =
    let old = c.args.positions.now.items in
    let sorted = c.sort_unstable.new.self.items in
    let same = dedup_is eqb sorted c.dedup.new.self.items c.dedup.ensures.filtered in
    λ p. (
      λ in_. Contains-permutation sorted old p (IsPermutation-sym old sorted c.sort_unstable.ensures.permutation) (Contains-from_dedup eqb sorted p (subst (λ l. Contains l p) same in_)),
      λ in_. subst (λ l. Contains l p) (sym same) (Contains-dedup_nat sorted p (Contains-permutation old sorted p c.sort_unstable.ensures.permutation in_)),
    )
