use Rattle.std.proofs.Common.{rules, ◌≡◌, [], ◌++◌, append-nil, ap, ◌∙◌}
use Rattle.warc_frame.proofs.LawLemmas.{went_out_of_longer}
use Rattle.warc_frame.proofs.Sending.{sent_is_staged}
use Rattle.warc_frame.proofs.buffer.OutBuffer.put_after.Goals as goal

pub returns-in_err-flush : goal.returns-in_err-flush
returns-in_err-flush g c = record {
  out = search rules;
  cut = λ start output is.
      let cut = c.in_err-flush.ensures.cut start output is in
      let longer = went_out_of_longer start _ output c.args.piece.now _ cut in
      search rules;
  cause = search rules;
  left = search rules;
}

pub returns-then-piece-gt-SIZE : goal.returns-then-piece-gt-SIZE
returns-then-piece-gt-SIZE g c = record {
  out = λ start output is.
      let staged = c.in_ok-flush.ensures.out start output is in
      let empty : c.flush.new.self.bytes ≡ [] = search rules in
      let all : output ≡ staged.gone = staged.whole ∙ ap (λ l. staged.gone ++ l) empty ∙ append-nil staged.gone in
      let sent = c.send_counted.ensures.out start staged.gone staged.reported (search rules) in
      sent_is_staged c.send_counted.result start _ output staged.gone c.args.piece.now _ all (search rules) sent.0 sent.1;
  cut = λ start output is.
      let staged = c.in_ok-flush.ensures.out start output is in
      let empty : c.flush.new.self.bytes ≡ [] = search rules in
      let all : output ≡ staged.gone = staged.whole ∙ ap (λ l. staged.gone ++ l) empty ∙ append-nil staged.gone in
      rw all (c.send_counted.ensures.cut start staged.gone staged.reported (search rules));
  cause = search rules;
  left = search rules;
}
