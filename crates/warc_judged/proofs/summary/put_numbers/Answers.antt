use Rattle.std.proofs.Common.{rules, [], ◌+◌, ◌++◌, drop, map, ap, ◌∙◌}
use Rattle.std.specs.List.{concat}
use Rattle.warc_frame.proofs.LawLemmas.{longer, same_out, same_staged}
use Rattle.warc_frame.proofs.PieceLemmas.{pieces_more, pieces_rest}
use Rattle.warc_judged.specs.Summary.{number_line}
use Rattle.warc_judged.proofs.summary.put_numbers.Goals as goal

pub returns-in_err-put_number : goal.returns-in_err-put_number
returns-in_err-put_number g c = record {
  out = search rules;
  cut = λ start output is.
      let numbers = c.args.numbers.now in
      let i = c.putting.number-index in
      let cut = c.in_err-put_number.ensures.cut start _ (c.putting.invariant.staged start output is) in
      let more = pieces_more (λ n. number_line (n.0.now, n.1)) output numbers i (record { ref_ptr = (0, 0); now = [] }, 0) c.putting-test.true in
      let whole = same_out (ap (λ l. l ++ concat (map (λ n. number_line (n.0.now, n.1)) (drop (i + 1) numbers))) more ∙ pieces_rest (λ n. number_line (n.0.now, n.1)) output numbers (i + 1)) (longer _ cut) in
      search rules;
  cause = search rules;
  left = search rules;
}

pub putting-preserved : goal.putting-preserved
putting-preserved g c = record {
  staged = λ start output is.
      same_staged (pieces_more (λ n. number_line (n.0.now, n.1)) output c.args.numbers.now c.putting.number-index (record { ref_ptr = (0, 0); now = [] }, 0) c.putting-test.true)
      (c.in_ok-put_number.ensures.out start _ (c.putting.invariant.staged start output is));
  sound = search rules;
}
