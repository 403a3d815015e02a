use Rattle.std.proofs.Common.{[], refl}
use Rattle.warc_lent.proofs.BufferLemmas.{front_nil}
use Rattle.warc_lent.proofs.rows.put_kept.Goals as goal

pub returns-clause-put : goal.returns-clause-put
returns-clause-put c = record {
  numbers_are = c.row_numbers.ensures;
  texts_are = c.put_row_texts.ensures.front [] refl (front_nil c.args.texts.now);
  rest_stays = c.put_row_texts.ensures.rest [] refl;
  length_is = c.put_row_texts.ensures.end [] refl;
}
