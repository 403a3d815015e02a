use Rattle.std.proofs.Common.{arith}
use Rattle.warc_pieces.proofs.ReaderLemmas.{ends_there, has_failed, too_long_there, unread_there}
use Rattle.warc_pieces.proofs.pieces.end.Goals as goal

pub returns-in-Ok-eq0-clause-gives : goal.returns-in-Ok-eq0-clause-gives
returns-in-Ok-eq0-clause-gives g c = λ bytes held is_present.
    let gives = c.in-Ok-eq0.ensures.bytes bytes held in
    let there = ends_there bytes c.args.walk.now.at c.in-Ok-eq0.field-0 c.read_at.new.buf c.requires.limit is_present.within gives c.in-Ok-eq0.field-0-test (omega (arith, c.read_at.auto.buf)) in
    (is_present, (there, c.requires.sound))

pub returns-in-Ok-clause-gives : goal.returns-in-Ok-clause-gives
returns-in-Ok-clause-gives g c = λ bytes held is_present.
    let some = c.in-Ok.field-0-test in
    has_failed bytes c.args.walk.now c.fail.new.walk c.at.result _ c.fail.result is_present c.fail.ensures.answer c.at.ensures c.fail.ensures.same
    (too_long_there bytes c.args.walk.now.at c.in-Ok.field-0 c.read_at.new.buf c.requires.limit (c.in-Ok.ensures.bytes bytes held) (omega (arith, some)))

pub returns-in-Err-clause-gives : goal.returns-in-Err-clause-gives
returns-in-Err-clause-gives g c = λ bytes held is_present.
    has_failed bytes c.args.walk.now c.fail-in-Err.new.walk c.at-in-Err.result _ c.fail-in-Err.result is_present c.fail-in-Err.ensures.answer c.at-in-Err.ensures c.fail-in-Err.ensures.same
    (unread_there bytes c.args.walk.now.at c.requires.limit is_present.within)
