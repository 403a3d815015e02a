use Rattle.std.proofs.Common.{◌≡◌, ◌+◌, ◌-◌, length, take, drop, arith, false, get_or}
use Rattle.std.proofs.lemmas.Grind.{common_steps}
use Rattle.warc_field.specs.Text.{is_blank}
use Rattle.warc_field.proofs.LineLemmas.{lines-here, lines-rest, blank-past}
use Rattle.warc_field.proofs.lines.split_line.Goals.{then-at-text-via-then-at-text, then-at-text-via-else-at-text+then-not-is_blank_byte}
use Rattle.warc_field.proofs.lines.split_line.Goals as goal

pub returns-then-at-text-clause-line : goal.returns-then-at-text-clause-line
returns-then-at-text-clause-line c =
    let t = c.args.text.now in
    let n = c.in-Some.at + 2 in
    let e : take (length t - n) (drop n t) ≡ drop n t = grind (arith, common_steps) in
    let other : is_blank (get_or t n 0) ≡ false = elim c.then-at-text.branch [
      | then-at-text-via-then-at-text w ↦ blank-past t n (omega arith)
      | then-at-text-via-else-at-text+then-not-is_blank_byte w ↦ grind (arith, common_steps)
    ] in
    rw e (lines-here t c.loop-at.from c.loop-at.invariant.none c.in-Some.at c.in-Some.ensures.first c.in-Some.ensures.found other)

pub returns-clause-none : goal.returns-clause-none
returns-clause-none c = lines-rest c.args.text.now c.loop-at.from c.loop-at.invariant.none c.in_default.ensures.none
