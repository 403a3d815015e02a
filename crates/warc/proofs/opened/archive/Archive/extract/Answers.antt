use Rattle.std.proofs.Common.{sym, ap}
use Rattle.warc_lookup.specs.Indexed.{Archived}
use Rattle.warc_replay.proofs.ExtractLemmas.{extracts_at}
use Rattle.warc.proofs.opened.archive.Archive.extract.Goals as goal

pub returns-clause-extracts : goal.returns-clause-extracts
returns-clause-extracts g c =
    let listing = ap (λ (a : Archived g.row.S.Denot). a.listing) c.self.view_is in
    extracts_at c.args.self.now c.args.id.now c.in-Some.position _ _ _ _ c.send_part.result (λ records are. sym (c.in-Some.ensures records are)) (rw (← listing) c.send_part.ensures)
