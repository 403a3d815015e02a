use Rattle.std.proofs.Common.{arith}
use Rattle.warc_replay.proofs.TypeLineLemmas.{no_colon, other_name, too_short}
use Rattle.warc_replay.proofs.replay.type_line.is_named.Goals as goal

pub returns-then-line-len-clause-not : goal.returns-then-line-len-clause-not
returns-then-line-len-clause-not c = λ no_ field is. too_short c.args.line.now c.args.name.now field is (omega (arith, c.if-line-len.true))

pub returns-then-line-len-ne58-clause-not : goal.returns-then-line-len-ne58-clause-not
returns-then-line-len-ne58-clause-not c = λ no_ field is. no_colon c.args.line.now c.args.name.now field is c.if-line-len-ne58.true

pub returns-clause-not : goal.returns-clause-not
returns-clause-not c = λ no_ field is.
    other_name c.args.line.now c.args.name.now field is (λ low. let hit = c.eq_ignore_ascii_case.ensures.test.1 low in cc (hit, no_))
