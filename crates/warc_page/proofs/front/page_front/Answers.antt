use Rattle.std.proofs.Common.{Some, refl, ap, rules}
use Rattle.warc_page.proofs.PutLemmas.{stops_for}
use Rattle.warc_page.proofs.front.page_front.Goals as goal

pub returns : goal.returns
returns c = record {
  kept = c.open_front-listing.result.0.rows;
  stop = c.open_front-listing.result.1;
  are = c.open_front-listing.ensures.rows_are c.args.bytes.now (ap Some c.new.ensures.bytes);
  refused = stops_for c.args.bytes.now _ _ c.open_front-listing.result.1 c.open_front-listing.result.0.rows (ap Some c.new.ensures.bytes) refl refl c.open_front-listing.ensures.opens;
  rows_are = search rules;
  texts_are = search rules;
  records_is = search rules;
  texts_is = search rules;
  end_is = c.end.ensures.end;
  ends = search rules;
}
