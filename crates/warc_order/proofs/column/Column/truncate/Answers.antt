use Rattle.std.proofs.Common.{◌-◌, ◌∙◌, ap, take, min}
use Rattle.warc_order.proofs.ColumnLemmas.{first_of}
use Rattle.warc_order.proofs.column.Column.truncate.Goals as goal

pub returns : goal.returns
returns g c blank =
    first_of c.args.self.now c.args.count c.min-self-inside.result c.saturating_sub-kept.result
    c.truncate.new.self.items blank
    (c.min-self-inside.ensures ∙ ap (λ s. min s.blanks c.args.count) c.self.view_is)
    (c.truncate.ensures.items ∙ ap (λ s. take c.saturating_sub-kept.result s.items) c.self.view_is)
    (c.saturating_sub-kept.ensures ∙ ap (λ s. c.args.count - s.blanks) c.self.view_is)
