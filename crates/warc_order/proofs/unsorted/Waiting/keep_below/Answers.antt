use Rattle.std.proofs.Common.{rules, ◌∙◌, ap, filter}
use Rattle.std.specs.Prelude.{nat_lt}
use Rattle.std.proofs.lemmas.Fn.{filter_same}
use Rattle.warc_order.specs.declared.slot.Slot.{Slot}
use Rattle.warc_order.proofs.unsorted.Waiting.keep_below.Goals as goal

pub returns : goal.returns
returns g c =
    filter_same _ (λ (s : Slot). nat_lt s.index c.args.count) _ (λ x b f' k. search rules) _ _ c.retain.ensures.filtered
    ∙ ap (λ v. filter (λ (s : Slot). nat_lt s.index c.args.count) v.list) c.self.view_is
