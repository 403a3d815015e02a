use Rattle.std.proofs.Common.{◌∙◌}
use Rattle.example_library.proofs.MoveLemmas.{converted_unopened, first_refused, is_moved}
use Rattle.example_library.proofs.migration.migrate.Goals as goal

pub returns-in-Err-clause-refused : goal.returns-in-Err-clause-refused
returns-in-Err-clause-refused g c =
    λ bytes held. first_refused c.in-Err.fault.kind bytes _ _ c.in-Err.fault (c.in-Err.ensures.refused bytes held)

pub returns-in-Err-conversion-clause-refused : goal.returns-in-Err-conversion-clause-refused
returns-in-Err-conversion-clause-refused g c = λ bytes held. (c.in-Ok.listing.rows, c.in-Ok.ensures.accepted bytes held)

pub returns-in-Ok-opened-clause-moved : goal.returns-in-Ok-opened-clause-moved
returns-in-Ok-opened-clause-moved g c = λ bytes held.
    let first = c.in-Ok.ensures.accepted bytes held in
    is_moved c.migration_keeps_answers.ensures.answers bytes c.in-Ok-conversion.text.items c.in-Ok.listing.rows c.in-Ok-opened.archive first
    (c.in-Ok-conversion.ensures bytes (c.in-Ok.ensures.reads.kept ∙ held) first) c.in-Ok-opened.ensures.bytes c.in-Ok-opened.ensures.opened

pub returns-in-Err-opened-clause-refused : goal.returns-in-Err-opened-clause-refused
returns-in-Err-opened-clause-refused g c = λ bytes held.
    let first = c.in-Ok.ensures.accepted bytes held in
    converted_unopened c.no_fault_where_spelled.ensures.not_both c.written_opens_as_same.ensures.spells bytes c.in-Ok-conversion.text.items c.in-Ok.listing.rows
    c.in-Err-opened.fault first (c.in-Ok-conversion.ensures bytes (c.in-Ok.ensures.reads.kept ∙ held) first) c.in-Err-opened.ensures.refused
