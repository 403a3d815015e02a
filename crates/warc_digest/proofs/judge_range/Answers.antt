use Rattle.std.proofs.Common.{[], take, drop, ◌∙◌}
use Rattle.warc_fixity.specs.Judged.{wanted_stated}
use Rattle.warc_digest.proofs.judge_range.Goals as goal

pub returns-clause-verdict : goal.returns-clause-verdict
returns-clause-verdict g c = λ bytes held.
    let block = take c.args.len (drop c.args.at bytes) in
    let stated = wanted_stated c.args.wanted.now in
    c.verdict.ensures stated block (c.in_ok-take_range.ensures.taken bytes held stated [] c.wanting-judge.ensures)
    ∙ c.wanted_is_judged.ensures c.args.wanted.now block
