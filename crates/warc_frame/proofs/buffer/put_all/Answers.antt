use Rattle.std.proofs.Common.{rules, List, ℕ, Bor, [], ◌+◌, ◌++◌, drop, map, ap, ◌∙◌}
use Rattle.std.specs.List.{concat}
use Rattle.warc_frame.proofs.LawLemmas.{longer, same_out, same_staged}
use Rattle.warc_frame.proofs.PieceLemmas.{pieces_more, pieces_rest}
use Rattle.warc_frame.proofs.buffer.put_all.Goals as goal

pub returns-in_err-put : goal.returns-in_err-put
returns-in_err-put g c = record {
  out = search rules;
  cut = λ start output is.
      let pieces = c.args.pieces.now in
      let i = c.putting.piece-index in
      let cut = c.in_err-put.ensures.cut start _ (c.putting.invariant.staged start output is) in
      let more = pieces_more (λ (p : Bor (List ℕ)). p.now) output pieces i (record { ref_ptr = (0, 0); now = [] }) c.putting-test.true in
      let whole = same_out (ap (λ l. l ++ concat (map (λ p. p.now) (drop (i + 1) pieces))) more ∙ pieces_rest (λ (p : Bor (List ℕ)). p.now) output pieces (i + 1)) (longer _ cut) in
      search rules;
  cause = search rules;
  left = search rules;
}

pub putting-preserved : goal.putting-preserved
putting-preserved g c = record {
  staged = λ start output is.
      same_staged (pieces_more (λ (p : Bor (List ℕ)). p.now) output c.args.pieces.now c.putting.piece-index (record { ref_ptr = (0, 0); now = [] }) c.putting-test.true)
      (c.in_ok-put.ensures.out start _ (c.putting.invariant.staged start output is));
  sound = search rules;
}
