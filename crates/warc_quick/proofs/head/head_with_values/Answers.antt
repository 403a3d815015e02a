use Rattle.std.proofs.Common.{arith}
use Rattle.warc_field.proofs.LawLemmas.{spelled_are_fields}
use Rattle.warc_quick.proofs.HeadLemmas.{is_head_with}
use Rattle.warc_quick.proofs.head.head_with_values.Goals as goal

pub returns-clause-head : goal.returns-clause-head
returns-clause-head c =
    let read = c.in_ok-rest.ensures in
    let begins = c.in_ok-after_version.ensures in
    let lengths = c.in_ok-head.ensures.lengths in
    is_head_with _ _ _ begins.0 _ c.in_ok-head.head begins.1 read lengths.0 (omega (arith, lengths.0))
    (c.in_ok-head.ensures.says read.fields (spelled_are_fields read.fields read.area read.spelled) read.are)
