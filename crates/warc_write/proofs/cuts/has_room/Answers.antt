use Rattle.std.proofs.Common.{refl}
use Rattle.warc_write.proofs.CutLemmas.{no_room_by, room_by}
use Rattle.warc_write.proofs.cuts.has_room.Goals as goal

pub returns-in-Some : goal.returns-in-Some
returns-in-Some g c =
    room_by c.args.version c.args.fields.now c.line.result.now c.in-Some.lines c.line.ensures.line c.line.ensures.len c.in-Some.ensures.some _ refl

pub returns-in-None : goal.returns-in-None
returns-in-None g c = no_room_by c.args.version c.args.fields.now c.in-None.ensures.none
