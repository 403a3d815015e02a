use Rattle.std.proofs.Common.{◌≡◌, ◌+◌, ◌-◌, length, take, drop, arith, suc}
use Rattle.std.proofs.lemmas.Grind.{common_steps}
use Rattle.warc_field.proofs.LineLemmas.{parts-first, parts-none}
use Rattle.warc_field.proofs.lines.split_part.Goals as goal

pub returns-in_err-at-clause-none : goal.returns-in_err-at-clause-none
returns-in_err-at-clause-none c = rw c.from_residual.ensures (parts-none _ (λ k. c.in_err-at.ensures.none k (omega arith)))

pub returns-clause-part : goal.returns-clause-part
returns-clause-part c =
    let found = c.in_ok-at.ensures in
    let t = c.args.text.now in
    let n = c.in_ok-at.at in
    let e : take (length t - (n + 2)) (drop (n + 2) t) ≡ drop (n + 2) t = grind (arith, common_steps) in
    let two : n + 2 ≡ suc (suc n) = omega arith in
    rw (e, two) (parts-first t n found.found (λ k below. found.first k (omega arith) below))
