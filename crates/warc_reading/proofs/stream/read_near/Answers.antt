use Rattle.std.proofs.Common.{length, drop, ◌∙◌, arith, length-append}
use Rattle.std.proofs.lemmas.List.{length-drop, length-take}
use Rattle.warc_reading.proofs.SourceLemmas.{gives_front, room_left}
use Rattle.warc_reading.proofs.stream.read_near.Goals as goal

pub returns-clause-bytes : goal.returns-clause-bytes
returns-clause-bytes g c = λ bytes held.
    let buf = c.args.buf.now in
    let room = c.min-room.result in
    let part = c.read_at.new.buf in
    gives_front c.read_at.result bytes part (drop room buf) c.args.at c.read_at.ensures.bound
    (λ some. room_left c.args.at (length buf) room (length part) c.requires c.min-room.ensures (c.read_at.auto.buf ∙ length-take room buf)
    (omega (arith, some, length-append part (drop room buf), length-drop room buf)))
    (c.read_at.ensures.bytes bytes held)
