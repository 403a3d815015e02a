use Rattle.std.proofs.Common.{ap, refl, Some}
use Rattle.warc_lent.proofs.FrontLemmas.{front_refused}
use Rattle.warc_lent.proofs.fronts.good_front.Goals as goal

pub returns : goal.returns
returns g c =
    let held = ap Some c.new.ensures.bytes in
    let opens = c.open_front-listing.ensures in
    record {
      rows = c.open_front-listing.result.0.rows;
      are = opens.rows_are c.args.bytes.now held;
      end_is = c.end_of.ensures;
      refused = front_refused _ _ c.args.bytes.now _ _ refl refl held opens.opens;
    }
