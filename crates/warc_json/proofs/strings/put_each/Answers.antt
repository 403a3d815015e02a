use Rattle.std.proofs.Common.{rules, ◌+◌, ◌++◌, drop, ap, ◌∙◌}
use Rattle.json.specs.Print.{escape, escape_byte}
use Rattle.warc_frame.proofs.LawLemmas.{longer, same_out, same_staged}
use Rattle.warc_json.proofs.EachLemmas.{flat_more, flat_rest}
use Rattle.warc_json.proofs.strings.put_each.Goals as goal

pub returns-in_err-put_escape : goal.returns-in_err-put_escape
returns-in_err-put_escape g c = record {
  out = search rules;
  cut = λ start output is.
      let text = c.args.text.now in
      let i = c.putting.byte-index in
      let cut = c.in_err-put_escape.ensures.cut start _ (c.putting.invariant.staged start output is) in
      let more = flat_more escape_byte output text i 0 c.putting-test.true in
      let whole = same_out (ap (λ l. l ++ escape (drop (i + 1) text)) more ∙ flat_rest escape_byte output text (i + 1)) (longer _ cut) in
      search rules;
  cause = search rules;
  left = search rules;
}

pub putting-preserved : goal.putting-preserved
putting-preserved g c = record {
  staged = λ start output is.
      same_staged (flat_more escape_byte output c.args.text.now c.putting.byte-index 0 c.putting-test.true)
      (c.in_ok-put_escape.ensures.out start _ (c.putting.invariant.staged start output is));
  sound = search rules;
}
