use Rattle.std.proofs.Common.{map}
use Rattle.warc_lookup.specs.Indexed.{indexed_record, placed_record}
use Rattle.warc_lookup.proofs.LookupLemmas.{forgotten}
use Rattle.warc_lookup.proofs.lookup.keep_first.Goals as goal

pub returns : goal.returns
returns g c = λ records are. forgotten records c.args.count _ _ (c.truncate.ensures (map indexed_record records) are.index_is) (c.truncate-2.ensures (map placed_record records) are.parts_are)
