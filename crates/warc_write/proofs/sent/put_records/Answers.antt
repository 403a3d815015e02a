use Rattle.std.proofs.Common.{rules, ◌+◌, ◌++◌, drop, ap, ◌∙◌}
use Rattle.warc_frame.specs.Spelling.{canonical}
use Rattle.warc_write.specs.Rendering.{canonical_texts}
use Rattle.warc_frame.proofs.LawLemmas.{same_out, same_staged}
use Rattle.warc_write.proofs.RenderLemmas.{texts_more, texts_rest}
use Rattle.warc_write.proofs.sent.put_records.Goals as goal

pub returns-in_err-put_record : goal.returns-in_err-put_record
returns-in_err-put_record g c = record {
  out = search rules;
  cut = λ start output is.
      let records = c.args.records.now in
      let i = c.putting.framed-index in
      let rest = canonical_texts (drop (i + 1) records) in
      let cut = c.went_out_of_longer.ensures start _ _ rest _ (c.in_err-put_record.ensures.cut start _ (c.putting.invariant.staged start output is)) in
      let more = texts_more canonical output records i c.framed-item.result c.putting-test.true c.framed-item.is in
      let whole = same_out (ap (λ l. l ++ rest) more ∙ texts_rest canonical output records (i + 1)) cut in
      search rules;
  cause = search rules;
  left = search rules;
}

pub putting-preserved : goal.putting-preserved
putting-preserved g c = record {
  staged = λ start output is.
      same_staged (texts_more canonical output c.args.records.now c.putting.framed-index c.framed-item.result c.putting-test.true c.framed-item.is)
      (c.in_ok-put_record.ensures.out start _ (c.putting.invariant.staged start output is));
  sound = search rules;
}
