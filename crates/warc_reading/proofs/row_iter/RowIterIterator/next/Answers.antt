use Rattle.std.proofs.Common.{◌≡◌, min, [], length, sym, ap, ap₂, ◌∙◌, arith}
use Rattle.warc_reading.proofs.RowLemmas.{none_left, some_left}
use Rattle.warc_reading.proofs.row_iter.RowIterIterator.next.Goals as goal

pub returns-in_err-row-clause-steps : goal.returns-in_err-row-clause-steps
returns-in_err-row-clause-steps g c =
    let none : c.args.self.now ≡ [] = sym c.self.view_is ∙ none_left c.self.inside.rows.now c.self.inside.position (sym c.get.ensures ∙ c.in_err-row.was) in
    rw c.from_residual.ensures (none, none)

pub returns-clause-steps : goal.returns-clause-steps
returns-clause-steps g c =
    sym c.self.view_is
    ∙ some_left c.self.inside.rows.now c.self.inside.position c.min-self-inside.result 18446744073709551615 c.in_ok-row.row (sym c.get.ensures ∙ c.in_ok-row.was)
    (omega (arith, c.len.ensures, c.len.type_inv)) (c.min-self-inside.ensures ∙ ap₂ min c.len.ensures c.saturating_add.ensures)

pub returns-clause-goes : goal.returns-clause-goes
returns-clause-goes g c =
    let left = sym c.self.view_is
    ∙ some_left c.self.inside.rows.now c.self.inside.position c.min-self-inside.result 18446744073709551615 c.in_ok-row.row (sym c.get.ensures ∙ c.in_ok-row.was)
    (omega (arith, c.len.ensures, c.len.type_inv)) (c.min-self-inside.ensures ∙ ap₂ min c.len.ensures c.saturating_add.ensures) in
    record {
      on = λ finite. (tt, tt, omega (arith, ap length left));
      keeps = tt;
      rests = λ finite. tt;
    }
