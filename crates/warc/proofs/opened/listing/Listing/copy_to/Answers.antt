use Rattle.std.proofs.Common.{sym}
use Rattle.warc.proofs.FrontLemmas.{copies_all, copies_cut}
use Rattle.warc.proofs.opened.listing.Listing.copy_to.Goals.{in-Ok, in-Err}
use Rattle.warc.proofs.opened.listing.Listing.copy_to.Goals as goal

pub returns-clause-copies : goal.returns-clause-copies
returns-clause-copies g c =
    let rows = c.self.inside.opened.rows in
    let end = c.end-end in
    let reads = c.send_range.ensures.reads in
    elim c.match-send_range.branch [
      | in-Ok w ↦ rw (w.result-is, sym c.self.view_is)
          (copies_all rows end.result _ _ _ _ end.ensures.limit end.ensures.end reads w.in-Ok.ensures.sends)
      | in-Err w ↦ rw (w.result-is, sym c.self.view_is)
          (copies_cut rows end.result _ _ _ _ end.ensures.limit end.ensures.end reads w.in-Err.fault w.in-Err.ensures.device w.in-Err.ensures.sends)
    ]
