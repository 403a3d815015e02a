use Rattle.example_library.proofs.MoveLemmas.{read_back_same, rendered_unopened}
use Rattle.example_library.proofs.round_trip.read_back.Goals as goal

pub returns-in-Err-opened-clause-why : goal.returns-in-Err-opened-clause-why
returns-in-Err-opened-clause-why c =
    rendered_unopened c.no_fault_where_spelled.ensures.not_both c.written_opens_as_same.ensures.spells c.in-Ok.text.items c.args.records.now c.in-Err-opened.fault
    c.requires c.in-Ok.ensures c.in-Err-opened.ensures.refused

pub returns-in-Ok-records_of-clause-same : goal.returns-in-Ok-records_of-clause-same
returns-in-Ok-records_of-clause-same c =
    read_back_same c.written_opens_as_same.ensures.same c.in-Ok.text.items c.in-Ok-opened.archive.listing.source.bytes c.args.records.now c.in-Ok-records_of.back.items
    c.in-Ok-opened.archive.listing.rows c.requires c.in-Ok.ensures c.in-Ok-opened.ensures.bytes c.in-Ok-opened.ensures.opened.listed c.in-Ok-records_of.ensures
