use Rattle.std.proofs.Common.{rules, ◌++◌}
use Rattle.std.proofs.lemmas.Result.{IfErr-weaker, on_ok_weaker}
use Rattle.warc_field.specs.Area.{canonical_fields}
use Rattle.warc_field.specs.Lines.{crlf}
use Rattle.warc_frame.proofs.LawLemmas.{same_out, same_staged}
use Rattle.warc_write.proofs.RenderLemmas.{head_after_line, head_from}
use Rattle.warc_write.proofs.sent.put_head.Goals as goal

pub returns : goal.returns
returns g c = record {
  out = λ start output is.
      let whole = head_from c.args.version c.args.fields.now c.line.result.now c.as_slice.result.now output c.line.ensures.line c.as_slice.ensures in
      on_ok_weaker c.put_all.result (same_staged whole)
      (c.put_all.ensures.out start _ (c.in_ok-put_fields.ensures.out start _ (c.in_ok-put.ensures.out start output is)));
  cut = λ start output is.
      let whole = head_from c.args.version c.args.fields.now c.line.result.now c.as_slice.result.now output c.line.ensures.line c.as_slice.ensures in
      IfErr-weaker c.put_all.result _ _ (λ e out. same_out whole out)
      (c.put_all.ensures.cut start _ (c.in_ok-put_fields.ensures.out start _ (c.in_ok-put.ensures.out start output is)));
  cause = search rules;
  left = search rules;
}

pub returns-in_err-put_fields : goal.returns-in_err-put_fields
returns-in_err-put_fields g c = record {
  out = search rules;
  cut = λ start output is.
      let cut = c.in_err-put_fields.ensures.cut start _ (c.in_ok-put.ensures.out start output is) in
      let longer = c.went_out_of_longer.ensures start _ _ crlf _ cut in
      let whole = same_out (head_from c.args.version c.args.fields.now c.line.result.now c.as_slice.result.now output c.line.ensures.line c.as_slice.ensures) longer in
      search rules;
  cause = search rules;
  left = search rules;
}

pub returns-in_err-put : goal.returns-in_err-put
returns-in_err-put g c = record {
  out = search rules;
  cut = λ start output is.
      let cut = c.in_err-put.ensures.cut start output is in
      let longer = c.went_out_of_longer.ensures start _ _ (canonical_fields c.args.fields.now ++ crlf) _ cut in
      let whole = same_out (head_after_line c.args.version c.args.fields.now c.line.result.now output c.line.ensures.line) longer in
      search rules;
  cause = search rules;
  left = search rules;
}
