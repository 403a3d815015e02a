use Rattle.std.proofs.Common.{ap, arith, get_or, ◌∙◌}
use Rattle.warc_quick.proofs.RunLemmas.{colon_found}
use Rattle.warc_quick.proofs.runs.find_colon.Goals as goal

pub returns-then-run-lt-LANES : goal.returns-then-run-lt-LANES
returns-then-run-lt-LANES c =
    let found = colon_found c.args.text.now 0 16 _ (omega (arith, c.if-text.true)) c.colon_run-run.ensures c.if-run-lt-LANES.true in
    (omega (arith, found.0), ap (λ k. get_or c.args.text.now k 0) (omega arith) ∙ found.1)

pub returns-then-run-lt-LANES-2 : goal.returns-then-run-lt-LANES-2
returns-then-run-lt-LANES-2 c =
    colon_found c.args.text.now 16 16 _ (omega (arith, c.if-text.true)) c.colon_run-run-then-text.ensures c.if-run-lt-LANES-2.true
