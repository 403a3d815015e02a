use Rattle.warc_payload.proofs.Fields.{info_of}
use Rattle.warc_payload.proofs.body_start.Goals as goal

pub returns-in-Ok-Complete-clause-found : goal.returns-in-Ok-Complete-clause-found
returns-in-Ok-Complete-clause-found c =
    let found = rw c.in-Ok-Complete.field-0-is at c.in-Ok-Complete.ensures.complete in
    let within = rw c.in-Ok-Complete.field-0-is at c.in-Ok-Complete.ensures.within in
    info_of _ _ _ _ _ c.parse_response.auto.headers c.requires within.section.len_fits found c.any_names_coding.ensures c.any_names_transfer_coding.ensures
