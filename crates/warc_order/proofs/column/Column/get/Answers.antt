use Rattle.std.proofs.Common.{◌∙◌, ap, arith}
use Rattle.std.specs.Prelude.{unwrap_or}
use Rattle.warc_order.proofs.ColumnLemmas.{blank_at, some_at, none_at}
use Rattle.warc_order.proofs.column.Column.get.Goals as goal

pub returns-then-i-self-clause-none : goal.returns-then-i-self-clause-none
returns-then-i-self-clause-none g c =
    blank_at _ c.args.self.now c.args.i (ap (λ s. s.blanks) c.self.view_is) c.if-i-self.true

pub returns-else-i-self-clause-some : goal.returns-else-i-self-clause-some
returns-else-i-self-clause-some g c =
    some_at _ c.deref.result.now c.args.self.now c.args.i c.copied.result (ap (λ s. s.blanks) c.self.view_is)
    (c.deref.ensures.value ∙ ap (λ s. s.items) c.self.view_is) c.if-i-self.false
    (λ d. ap (λ r. unwrap_or r d) c.copied.ensures ∙ c.get.ensures.lookup.4 (omega arith) d)

pub returns-else-i-self-clause-none : goal.returns-else-i-self-clause-none
returns-else-i-self-clause-none g c =
    none_at _ c.deref.result.now c.args.self.now c.args.i c.copied.result (ap (λ s. s.blanks) c.self.view_is)
    (c.deref.ensures.value ∙ ap (λ s. s.items) c.self.view_is) c.if-i-self.false
    (λ d. ap (λ r. unwrap_or r d) c.copied.ensures ∙ c.get.ensures.lookup.4 (omega arith) d)
