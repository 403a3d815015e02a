use Rattle.warc_index.proofs.KeptLemmas.{placed_of}
use Rattle.warc_index.proofs.index.RecordIndex+Order+A+A.by_pair.Goals as goal

pub returns : goal.returns
returns g c all kept =
    c.first_of_pair.ensures all (placed_of all _ _ _ _ c.args.self.now c.self.view_is kept) c.args.moment.now
    c.mark_at.ensures
