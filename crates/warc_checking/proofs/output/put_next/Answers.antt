use Rattle.std.proofs.Common.{ap, sym, ◌++◌, ◌∙◌}
use Rattle.std.proofs.lemmas.Result.{err_from_is_err_and}
use Rattle.warc_frame.proofs.LawLemmas.{same_out, same_staged}
use Rattle.warc_frame.specs.Count.{capped}
use Rattle.warc_reading.specs.Row.{Row}
use Rattle.warc_record.specs.Ids.{id_key}
use Rattle.warc_checking.specs.Checking.{is_used}
use Rattle.warc_checking.specs.Lines.{record_lines}
use Rattle.warc_checking.proofs.NextLemmas.{next_count, next_found}
use Rattle.warc_checking.proofs.output.put_next.Goals as goal

pub add-requires : goal.add-requires
add-requires g c = record {
  bucket = λ key is. c.requires.bucket key (sym (ap (λ (r : Row). id_key r.id) c.row.view_is) ∙ is);
}

pub returns-clause-out : goal.returns-clause-out
returns-clause-out g c = λ before p start output next is.
    let id = ap (λ (r : Row). id_key r.id) c.row.view_is in
    let used = c.in-Ok.ensures.used before next.has (rw id next.lone) ∙ ap (is_used before) id in
    let found = next_found c.good_heads_read.ensures before p _ _ _ next c.in-Ok.used used in
    same_staged (ap (λ l. output ++ record_lines c.args.position l) found) (c.in_ok-put.ensures.puts.out start output is)

pub returns-clause-number : goal.returns-clause-number
returns-clause-number g c = λ before p next.
    let id = ap (λ (r : Row). id_key r.id) c.row.view_is in
    let used = c.in-Ok.ensures.used before next.has (rw id next.lone) ∙ ap (is_used before) id in
    c.in_ok-put.ensures.number ∙ ap capped (next_count c.good_heads_read.ensures before p _ _ _ next c.in-Ok.used used)

pub returns-in_err-put-clause-cut : goal.returns-in_err-put-clause-cut
returns-in_err-put-clause-cut g c = λ before p start output next is.
    let id = ap (λ (r : Row). id_key r.id) c.row.view_is in
    let used = c.in-Ok.ensures.used before next.has (rw id next.lone) ∙ ap (is_used before) id in
    let found = next_found c.good_heads_read.ensures before p _ _ _ next c.in-Ok.used used in
    let p = err_from_is_err_and c.from_residual.result c.from_residual.ensures.1 in
    rw (p.1, p.2) (same_out (ap (λ l. output ++ record_lines c.args.position l) found) (c.in_err-put.ensures.puts.cut start output is))
