use Rattle.std.proofs.Common.{rules, ◌≡◌, Some}
use Rattle.warc_quick.proofs.JudgedLemmas.{is_judged_head}
use Rattle.warc_quick.proofs.record_findings.text_findings.Goals as goal

pub returns : goal.returns
returns c =
    let known : c.in_ok-head.head.findings ≡ Some c.in_ok-found.found = search rules in
    is_judged_head c.args.text.now c.args.block_len c.in_ok-head.head c.wanted.result c.in_ok-found.found c.in_ok-head.ensures.head
    c.if-head-text.false c.if-head-block_len.false known c.wanted.ensures
