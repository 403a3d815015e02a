use Rattle.std.proofs.Common.{rules, ◌+◌, ◌++◌, drop, flat_map, ap, sym, ◌∙◌}
use Rattle.std.proofs.lemmas.List.{take_all}
use Rattle.warc_frame.proofs.LawLemmas.{longer, same_out, same_staged}
use Rattle.warc_json.proofs.EachLemmas.{flat_more, flat_rest}
use Rattle.warc_json.proofs.EscapeLemmas.{digits_each, digits_of}
use Rattle.warc_json.proofs.PutLemmas.{puts_same}
use Rattle.warc_json.proofs.strings.put_digits.Goals as goal

pub returns-in_err-put_two : goal.returns-in_err-put_two
returns-in_err-put_two g c = puts_same (sym (digits_each c.args.bytes.now)) (record {
  out = search rules;
  cut = λ start output is.
      let text = c.args.bytes.now in
      let i = c.putting.byte-index in
      let cut = c.in_err-put_two.ensures.cut start _ (c.putting.invariant.staged start output is) in
      let more = flat_more digits_of output text i 0 c.putting-test.true in
      let whole = same_out (ap (λ l. l ++ flat_map digits_of (drop (i + 1) text)) more ∙ flat_rest digits_of output text (i + 1)) (longer _ cut) in
      search rules;
  cause = search rules;
  left = search rules;
})

pub putting-preserved : goal.putting-preserved
putting-preserved g c = record {
  staged = λ start output is.
      same_staged (flat_more digits_of output c.args.bytes.now c.putting.byte-index 0 c.putting-test.true)
      (c.in_ok-put_two.ensures.out start _ (c.putting.invariant.staged start output is));
  sound = search rules;
}

pub returns : goal.returns
returns g c = puts_same (sym (digits_each c.args.bytes.now)) (record {
  out = λ start output is.
      same_staged (ap (λ l. output ++ flat_map digits_of l) (take_all c.putting.byte-index c.args.bytes.now c.putting-test.false))
      (c.putting.invariant.staged start output is);
  cut = λ start output is. tt;
  cause = c.putting.invariant.sound;
  left = tt;
})
