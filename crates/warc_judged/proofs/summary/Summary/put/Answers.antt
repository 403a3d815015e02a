use Rattle.std.proofs.Common.{codes, refl, ap, ◌∙◌}
use Rattle.std.proofs.lemmas.Result.{err_from_is_err_and}
use Rattle.std.specs.List.{flat_map}
use Rattle.warc_judged.specs.Summary.{number_line, shown_date, text_line}
use Rattle.warc_checking.proofs.CheckLemmas.{puts_same}
use Rattle.warc_judged.proofs.SummaryLemmas.{all_lines_of, flat, lines_in_turn}
use Rattle.warc_judged.proofs.ClaimLemmas.{puts_cut, puts_then}
use Rattle.warc_judged.proofs.summary.Summary.put.Goals as goal

pub returns-in_err-put_numbers : goal.returns-in_err-put_numbers
returns-in_err-put_numbers g c =
    let numbers = flat number_line (λ n. (n.0.now, n.1)) c.numbers.result ∙ ap (flat_map number_line) c.numbers.ensures in
    let e = err_from_is_err_and c.from_residual.result c.from_residual.ensures.1 in
    rw (e.1, e.2) (puts_same (all_lines_of c.args.self.now _ _ _ numbers refl refl) (puts_cut _ c.in_err-put_numbers.ensures))

pub returns-in_err-put_text : goal.returns-in_err-put_text
returns-in_err-put_text g c =
    let numbers = flat number_line (λ n. (n.0.now, n.1)) c.numbers.result ∙ ap (flat_map number_line) c.numbers.ensures in
    let first = ap (text_line (codes "first date")) c.shown_date.ensures in
    let e = err_from_is_err_and c.from_residual-in_err-put_text.result c.from_residual-in_err-put_text.ensures.1 in
    rw (e.1, e.2) (puts_same (lines_in_turn c.args.self.now _ _ _ numbers first refl) (puts_cut _ (puts_then c.in_ok-put_numbers.ensures c.in_err-put_text.ensures)))

pub returns : goal.returns
returns g c =
    let numbers = flat number_line (λ n. (n.0.now, n.1)) c.numbers.result ∙ ap (flat_map number_line) c.numbers.ensures in
    let first = ap (text_line (codes "first date")) c.shown_date.ensures in
    let last = ap (text_line (codes "last date")) c.shown_date-2.ensures in
    puts_same (lines_in_turn c.args.self.now _ _ _ numbers first last) (puts_then (puts_then c.in_ok-put_numbers.ensures c.in_ok-put_text.ensures) c.put_text-2.ensures)
