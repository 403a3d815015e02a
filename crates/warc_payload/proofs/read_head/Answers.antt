use Rattle.std.proofs.Common.{◌∙◌}
use Rattle.warc_payload.proofs.Fields.{stored_of}
use Rattle.warc_payload.proofs.read_head.Goals as goal

pub returns-in-Ok-from_slice-clause-found : goal.returns-in-Ok-from_slice-clause-found
returns-in-Ok-from_slice-clause-found g c =
    let found = rw c.in-Ok-Complete.field-0-is at c.in-Ok-Complete.ensures.complete in
    let within = rw c.in-Ok-Complete.field-0-is at c.in-Ok-Complete.ensures.within in
    stored_of _ _ _ _ _ _ _ c.parse_response.auto.headers c.requires within.section.len_fits found c.any_names_coding.ensures c.any_names_transfer_coding.ensures
    (c.in-Ok-from_slice.ensures.items ∙ c.media_type_in.ensures) c.in-Ok.ensures
