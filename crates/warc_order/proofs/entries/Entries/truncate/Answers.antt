use Rattle.std.proofs.Common.{arith, sym}
use Rattle.std.proofs.lemmas.List.{take_all}
use Rattle.warc_order.specs.Layout.{own_index, no_number}
use Rattle.warc_order.proofs.EntryLemmas.{held, IsFlat-take, IsFlat-seen, seen}
use Rattle.warc_order.proofs.entries.Entries.truncate.Goals as goal

pub invariant_of-self : goal.invariant_of-self
invariant_of-self g c = IsFlat-seen _ _ (IsFlat-take _ _ c.args.self.now c.args.count _ (held _ _ c.self.invariant
    c.self.view_is) c.start-end.ensures c.truncate-then-count-len.ensures.items c.truncate.ensures.items
    (c.truncate-then-count-len-2.ensures no_number) (c.truncate-then-count-len-3.ensures no_number) (c.truncate-then-count-len-4.ensures own_index))

pub returns-then-count-len : goal.returns-then-count-len
returns-then-count-len g c = seen _ _ (IsFlat-take _ _ c.args.self.now c.args.count _ (held _ _ c.self.invariant
    c.self.view_is) c.start-end.ensures c.truncate-then-count-len.ensures.items c.truncate.ensures.items
    (c.truncate-then-count-len-2.ensures no_number) (c.truncate-then-count-len-3.ensures no_number) (c.truncate-then-count-len-4.ensures own_index))

pub returns-else-count-len : goal.returns-else-count-len
returns-else-count-len g c = sym (take_all c.args.count c.args.self.now (omega arith))
