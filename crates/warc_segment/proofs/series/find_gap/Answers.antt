use Rattle.std.proofs.Common.{◌≡◌, ◌+◌, length, arith}
use Rattle.warc_segment.proofs.ContinuationLemmas.{unfinished, after_end, absent_within, total_reported, whole_series}
use Rattle.warc_segment.proofs.series.find_gap.Goals as goal

pub returns-in_default-find_end-clause-gap : goal.returns-in_default-find_end-clause-gap
returns-in_default-find_end-clause-gap c =
    unfinished c.args.size c.args.series.now c.requires c.in_default.ensures.value c.in_default-find_end.ensures

pub returns-then-next-series-clause-gap : goal.returns-then-next-series-clause-gap
returns-then-next-series-clause-gap c =
    let end = c.in-Some-find_end.end in
    after_end c.args.size c.args.series.now end.index end.total _ c.requires c.in_default.ensures.value
    c.in_default.ensures.none c.in-Some-find_end.ensures.1 c.if-next-series.true

pub returns-in-Some-absent-clause-gap : goal.returns-in-Some-absent-clause-gap
returns-in-Some-absent-clause-gap c =
    let end = c.in-Some-find_end.end in
    let last : end.index + 1 ≡ length c.args.series.now = omega (arith, c.in-Some-find_end.ensures.0) in
    absent_within c.args.size c.args.series.now end.index end.total c.in-Some-absent.number c.requires
    c.in_default.ensures.value c.in-Some-find_end.ensures.1 last c.in-Some-absent.ensures.value

pub returns-then-is_sum-clause-gap : goal.returns-then-is_sum-clause-gap
returns-then-is_sum-clause-gap c =
    let end = c.in-Some-find_end.end in
    let last : end.index + 1 ≡ length c.args.series.now = omega (arith, c.in-Some-find_end.ensures.0) in
    total_reported c.args.size c.args.series.now end.index end.total _ c.requires c.in_default.ensures.value
    c.in-Some-find_end.ensures.1 last c.in_default-absent.ensures.value c.in_default-absent.ensures.none
    c.if-is_sum.ensures

pub returns-then-is_sum-clause-whole : goal.returns-then-is_sum-clause-whole
returns-then-is_sum-clause-whole c =
    let end = c.in-Some-find_end.end in
    let last : end.index + 1 ≡ length c.args.series.now = omega (arith, c.in-Some-find_end.ensures.0) in
    whole_series c.args.series.now end.index end.total c.requires c.in-Some-find_end.ensures.1 last
    c.in_default-absent.ensures.none

pub returns-else-is_sum-clause-gap : goal.returns-else-is_sum-clause-gap
returns-else-is_sum-clause-gap c =
    let end = c.in-Some-find_end.end in
    let last : end.index + 1 ≡ length c.args.series.now = omega (arith, c.in-Some-find_end.ensures.0) in
    total_reported c.args.size c.args.series.now end.index end.total _ c.requires c.in_default.ensures.value
    c.in-Some-find_end.ensures.1 last c.in_default-absent.ensures.value c.in_default-absent.ensures.none
    c.if-is_sum.ensures
