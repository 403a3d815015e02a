use Rattle.std.proofs.lemmas.List.Filters.{dedup_is}
use Rattle.std.proofs.lemmas.List.Kept.{Contains-dedup_nat, Contains-from_dedup}
use Rattle.std.proofs.lemmas.List.Sorted.{Contains-permutation, IsPermutation-sym}
use Rattle.std.proofs.lemmas.Map.Keys.{IsStrictlyIncreasing-dedup}
use Rattle.std.proofs.Common.{subst, sym, ◌≡◌}
use Rattle.std.specs.Prelude.{Contains}
use Rattle.warc_lent.proofs.selections.ascending.Goals as goal

pub returns-clause-rises : goal.returns-clause-rises
returns-clause-rises g c =
    let is = dedup_is _ _ _ c.dedup.ensures.filtered in
    rw is (IsStrictlyIncreasing-dedup _ c.sort_unstable.ensures.sorted)

pub returns-clause-each : goal.returns-clause-each
returns-clause-each g c = λ p.
    let is = dedup_is _ _ _ c.dedup.ensures.filtered in
    let copied : c.in_ok-sorted.sorted.items ≡ c.args.positions.now = c.in_ok-sorted.ensures.items in
    let moved = c.sort_unstable.ensures.permutation in (
      λ h. subst (λ xs. Contains xs p) copied
          (Contains-permutation _ _ p (IsPermutation-sym _ _ moved) (Contains-from_dedup _ _ p (rw is at h))),
      λ h. rw is (Contains-dedup_nat _ p (Contains-permutation _ _ p moved (subst (λ xs. Contains xs p) (sym copied) h))),
    )
