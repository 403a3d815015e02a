use Rattle.std.proofs.Common.{rules, ◌+◌, ◌++◌, drop, ap, ◌∙◌}
use Rattle.warc_field.specs.Area.{canonical_line, canonical_fields}
use Rattle.warc_frame.proofs.LawLemmas.{same_out, same_staged}
use Rattle.warc_write.proofs.RenderLemmas.{fields_more, texts_rest}
use Rattle.warc_write.proofs.sent.put_fields.Goals as goal

pub returns-in_err-put_line : goal.returns-in_err-put_line
returns-in_err-put_line g c = record {
  out = search rules;
  cut = λ start output is.
      let fields = c.args.fields.now in
      let i = c.putting.field-index in
      let rest = canonical_fields (drop (i + 1) fields) in
      let cut = c.went_out_of_longer.ensures start _ _ rest _ (c.in_err-put_line.ensures.cut start _ (c.putting.invariant.staged start output is)) in
      let more = fields_more output fields i c.field-item.result _ _ c.putting-test.true c.field-item.is c.bytes.ensures.text c.bytes-in-putting.ensures.text in
      let whole = same_out (ap (λ l. l ++ rest) more ∙ texts_rest canonical_line output fields (i + 1)) cut in
      search rules;
  cause = search rules;
  left = search rules;
}

pub putting-preserved : goal.putting-preserved
putting-preserved g c = record {
  staged = λ start output is.
      same_staged (fields_more output c.args.fields.now c.putting.field-index c.field-item.result _ _ c.putting-test.true c.field-item.is c.bytes.ensures.text c.bytes-in-putting.ensures.text)
      (c.in_ok-put_line.ensures.out start _ (c.putting.invariant.staged start output is));
  sound = search rules;
}
