use Rattle.std.proofs.Common.{[]}
use Rattle.warc_fixity.specs.Decoded.{stated_digest}
use Rattle.warc_digest.proofs.stated_range.Goals as goal

pub returns-clause-verdict : goal.returns-clause-verdict
returns-clause-verdict g c = λ bytes held.
    let stated = stated_digest c.args.value.now in
    c.verdict.ensures stated _ (c.in_ok-take_range.ensures.taken bytes held stated [] c.stated-judge.ensures)
