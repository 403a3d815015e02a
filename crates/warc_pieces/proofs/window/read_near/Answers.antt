use Rattle.std.proofs.Common.{length, drop, ◌-◌, ◌∙◌, arith, length-append}
use Rattle.std.proofs.lemmas.List.{length-drop, length-take}
use Rattle.warc_pieces.proofs.WindowLemmas.{gives_near, some_room}
use Rattle.warc_frame.specs.Record.{max_archive}
use Rattle.warc_pieces.proofs.window.read_near.Goals as goal

pub returns-clause-bytes : goal.returns-clause-bytes
returns-clause-bytes g c = λ bytes held.
    let buf = c.args.buf.now in
    let room = c.min-room.result in
    let part = c.read_at.new.buf in
    let size = c.read_at.auto.buf ∙ length-take room buf in
    gives_near c.read_at.result bytes part (drop room buf) c.args.at c.read_at.ensures.bound
    (omega (arith, size, c.min-room.ensures, c.requires.limit))
    (λ some. some_room max_archive c.args.at (length buf) room (length part) (length buf - room) c.requires.limit c.min-room.ensures size (omega arith)
    (omega (arith, some, length-append part (drop room buf), length-drop room buf)))
    (c.read_at.ensures.bytes bytes held)
