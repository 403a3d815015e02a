use Rattle.std.proofs.Common.{rules, ◌≡◌, true, length, ◌∙◌, sym, ap, ◌++◌, ◌∷◌, []}
use Rattle.warc_order.specs.Columns.{is_skipped, values}
use Rattle.warc_order.proofs.ColumnLemmas.{one_more}
use Rattle.warc_order.proofs.column.Column.push_reserved.Goals as goal

pub returns-then-skips : goal.returns-then-skips
returns-then-skips g c blank is =
    let skipped : is_skipped c.args.blank c.args.self.now ≡ true = sym c.skips.ensures ∙ c.if-skips.true in
    let said : c.args.blank ≡ true = search rules in
    let none : length c.self.inside.items.items ≡ 0 = search rules in
    one_more c.self.inside.blanks c.self.inside.items.items c.args.value blank none (is said ∙ ap (λ s. blank (length
    (values blank s))) (sym c.self.view_is)) ∙ ap (λ s. values blank s ++ c.args.value ∷ []) c.self.view_is
