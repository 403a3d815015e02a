use Rattle.std.proofs.Common.{rules, refl}
use Rattle.std.proofs.lemmas.Result.{IfErr-weaker, on_ok_weaker}
use Rattle.warc_frame.proofs.LawLemmas.{same_out, same_staged}
use Rattle.warc_write.proofs.RenderLemmas.{after_head, record_from}
use Rattle.warc_write.proofs.sent.put_record.Goals as goal

pub returns : goal.returns
returns g c = record {
  out = λ start output is.
      let whole = record_from c.args.framed.now c.version.result c.fields.result.now c.block.result.now output c.version.ensures c.fields.ensures.fields c.block.ensures.block in
      on_ok_weaker c.put_all.result (same_staged whole) (c.put_all.ensures.out start _ (c.in_ok-put_head.ensures.out start output is));
  cut = λ start output is.
      let whole = record_from c.args.framed.now c.version.result c.fields.result.now c.block.result.now output c.version.ensures c.fields.ensures.fields c.block.ensures.block in
      IfErr-weaker c.put_all.result _ _ (λ e out. same_out whole out) (c.put_all.ensures.cut start _ (c.in_ok-put_head.ensures.out start output is));
  cause = search rules;
  left = search rules;
}

pub returns-in_err-put_head : goal.returns-in_err-put_head
returns-in_err-put_head g c = record {
  out = search rules;
  cut = λ start output is.
      let r = c.args.framed.now in
      let longer = c.went_out_of_longer.ensures start _ _ (after_head r.block) _ (c.in_err-put_head.ensures.cut start output is) in
      let whole = same_out (record_from r c.version.result c.fields.result.now r.block output c.version.ensures c.fields.ensures.fields refl) longer in
      search rules;
  cause = search rules;
  left = search rules;
}
