use Rattle.std.proofs.Common.{arith}
use Rattle.std.proofs.lemmas.List.{length-take-le}
use Rattle.std.proofs.lemmas.Result.{IfOk-weaker}
use Rattle.warc_stream.proofs.WindowLemmas.{piece_if_read}
use Rattle.warc_stream.proofs.window.read_front.Goals as goal

pub returns-clause-bytes : goal.returns-clause-bytes
returns-clause-bytes g c = λ bytes held.
    piece_if_read bytes c.read_at.new.buf _ c.args.at c.read_at.result c.read_at.ensures.bound (c.read_at.ensures.bytes bytes held)

pub returns-clause-some : goal.returns-clause-some
returns-clause-some g c = λ bytes held.
    let room = length-take-le c.args.most c.args.buf.now c.requires in
    IfOk-weaker c.read_at.result _ _
    (λ n gives before some. gives.some before (omega (arith, some, room, c.read_at.auto.buf)))
    (c.read_at.ensures.bytes bytes held)
