use Rattle.std.proofs.Common.{◌∙◌, Ok, ap, sym}
use Rattle.warc_index.proofs.ReachLemmas.{origin_by_place, settled}
use Rattle.warc_index.proofs.index.RecordIndex+Order+A+A.origin_from.Goals as goal

pub returns-in-Ok-None : goal.returns-in-Ok-None
returns-in-Ok-None g c all kept position reaches =
    sym (origin_by_place all position c.args.place reaches ∙ ap (settled c.args.place) (sym (c.next.ensures all kept)
    ∙ (c.in-Ok-None.is ∙ ap Ok c.in-Ok-None.field-0-is)))

pub returns-in-Ok-Some : goal.returns-in-Ok-Some
returns-in-Ok-Some g c all kept position reaches =
    sym (origin_by_place all position c.args.place reaches ∙ ap (settled c.args.place) (sym (c.next.ensures all kept)
    ∙ (c.in-Ok-Some.is ∙ ap Ok c.in-Ok-Some.field-0-is)))

pub returns-in-Err : goal.returns-in-Err
returns-in-Err g c all kept position reaches =
    sym (origin_by_place all position c.args.place reaches ∙ ap (settled c.args.place) (sym (c.next.ensures all kept)
    ∙ c.in-Err.is))
