use Rattle.std.proofs.lemmas.Bool.{and_parts}
use Rattle.warc_quick.proofs.HeadLemmas.{nothing_of_segments}
use Rattle.warc_quick.proofs.head.has_no_segment.Goals as goal

pub returns : goal.returns
returns c = λ fields are all.
    let two = and_parts _ _ all in
    let one = and_parts _ _ two.0 in
    nothing_of_segments fields (c.is_absent.ensures fields are one.0) (c.is_absent-2.ensures fields are one.1)
    (c.is_absent-3.ensures fields are two.1)
