use Rattle.std.proofs.Common.{rules, [], ◌+◌, ◌++◌, drop, map, ap, ◌∙◌}
use Rattle.std.specs.List.{concat}
use Rattle.warc_frame.proofs.LawLemmas.{longer, same_out, same_staged}
use Rattle.warc_frame.proofs.PieceLemmas.{ended, pieces_more, pieces_rest}
use Rattle.warc_frame.proofs.buffer.put_columns.Goals as goal

pub returns-in_err-put_ended : goal.returns-in_err-put_ended
returns-in_err-put_ended g c = record {
  out = search rules;
  cut = λ start output is.
      let columns = c.args.columns.now in
      let i = c.putting.column-index in
      let cut = c.in_err-put_ended.ensures.cut start _ (c.putting.invariant.staged start output is) in
      let more = pieces_more ended output columns i (record { ref_ptr = (0, 0); now = [] }, 0) c.putting-test.true in
      let whole = same_out (ap (λ l. l ++ concat (map ended (drop (i + 1) columns))) more ∙ pieces_rest ended output columns (i + 1)) (longer _ cut) in
      search rules;
  cause = search rules;
  left = search rules;
}

pub putting-preserved : goal.putting-preserved
putting-preserved g c = record {
  staged = λ start output is.
      same_staged (pieces_more ended output c.args.columns.now c.putting.column-index (record { ref_ptr = (0, 0); now = [] }, 0) c.putting-test.true)
      (c.in_ok-put_ended.ensures.out start _ (c.putting.invariant.staged start output is));
  sound = search rules;
}
