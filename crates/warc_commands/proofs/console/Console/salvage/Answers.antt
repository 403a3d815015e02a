use Rattle.std.proofs.Common.{inl, inr, ap}
use Rattle.warc_commands.proofs.ReadLemmas.{front_read}
use Rattle.warc_commands.proofs.SalvageLemmas.{amount_as, salvage_cut, salvaged}
use Rattle.warc_commands.proofs.console.Console.salvage.Goals as goal

pub returns-in-Ok-clause-ends : goal.returns-in-Ok-clause-ends
returns-in-Ok-clause-ends g c = inl (salvaged _ _ _ _ _ _ _ _ _ _ _ c.open_front-listing.ensures c.in-Ok.bytes c.in-Ok.ensures.copies (ap (λ s. (g.S.Source.seen s).faults) c.into_source.ensures)
    (amount_as _ _ _ _ _ _ _ c.count.ensures c.copy_to.ensures.rows c.report_amount-status.ensures.reported) c.report_amount-status.ensures.status)

pub returns-in-Err-clause-ends : goal.returns-in-Err-clause-ends
returns-in-Err-clause-ends g c = inr (salvage_cut _ _ _ _ _ _ _ _ _ _ _ c.open_front-listing.ensures c.in-Err.fault c.in-Err.ensures.copies (ap (λ s. (g.S.Source.seen s).faults) c.into_source-in-Err.ensures)
    c.fail.ensures.reported c.fail.ensures.status)

pub returns-in-Ok-clause-reads : goal.returns-in-Ok-clause-reads
returns-in-Ok-clause-reads g c = front_read c.open_front-listing.ensures c.in-Ok.ensures.copies (ap (λ s. g.S.Source.seen s) c.into_source.ensures)

pub returns-in-Err-clause-reads : goal.returns-in-Err-clause-reads
returns-in-Err-clause-reads g c = front_read c.open_front-listing.ensures c.in-Err.ensures.copies (ap (λ s. g.S.Source.seen s) c.into_source-in-Err.ensures)
