use Rattle.std.proofs.Common.{rules, [], ◌∷◌, append_assoc}
use Rattle.warc_frame.proofs.LawLemmas.{longer, same_out}
use Rattle.warc_frame.proofs.buffer.OutBuffer.put_ended.Goals as goal

pub returns-in_err-put : goal.returns-in_err-put
returns-in_err-put g c = record {
  out = search rules;
  cut = λ start output is.
      let cut = c.in_err-put.ensures.cut start output is in
      let whole = same_out (append_assoc output c.args.piece.now (c.args.end ∷ [])) (longer _ cut) in
      search rules;
  cause = search rules;
  left = search rules;
}

pub returns : goal.returns
returns g c = record {
  out = λ start output is.
      rw (← append_assoc output c.args.piece.now (c.args.end ∷ [])) (c.put-2.ensures.out start _ (c.in_ok-put.ensures.out start output is));
  cut = λ start output is.
      rw (← append_assoc output c.args.piece.now (c.args.end ∷ [])) (c.put-2.ensures.cut start _ (c.in_ok-put.ensures.out start output is));
  cause = search rules;
  left = search rules;
}
