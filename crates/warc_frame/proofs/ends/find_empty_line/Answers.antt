use Rattle.std.proofs.Common.{◌≡◌, ◌+◌, ◌-◌, length, take, drop, sym, ap, ◌∙◌, false, true, arith}
use Rattle.std.proofs.lemmas.Grind.{common_steps}
use Rattle.warc_field.specs.Lines.{crlf_at}
use Rattle.warc_frame.proofs.EmptyLineLemmas.{empty-here, empty_line-first, empty_line-none, none-past, none-up_to, nowhere}
use Rattle.warc_frame.proofs.ends.find_empty_line.Goals as goal

pub returns-then-begins_with_crlf-clause-value : goal.returns-then-begins_with_crlf-clause-value
returns-then-begins_with_crlf-clause-value c =
    let t = c.args.text.now in
    let at = c.in-Some.at in
    let e : take (length t - (at + 2)) (drop (at + 2) t) ≡ drop (at + 2) t = grind (arith, common_steps) in
    let next : crlf_at (drop (at + 2) t) 0 ≡ true = ap (λ xs. crlf_at xs 0) (sym e) ∙ sym c.begins_with_crlf.ensures ∙ c.if-begins_with_crlf.true in
    sym (empty_line-first t at (empty-here t at c.in-Some.ensures.found next)
    (none-up_to t c.loop-at.from c.loop-at.invariant.none at c.in-Some.ensures.first))

pub loop-at-preserved : goal.loop-at-preserved
loop-at-preserved c =
    let t = c.args.text.now in
    let at = c.in-Some.at in
    let e : take (length t - (at + 2)) (drop (at + 2) t) ≡ drop (at + 2) t = grind (arith, common_steps) in
    let other : crlf_at (drop (at + 2) t) 0 ≡ false = ap (λ xs. crlf_at xs 0) (sym e) ∙ sym c.begins_with_crlf.ensures ∙ c.if-begins_with_crlf.false in
    record {
      within = c.in-Some.ensures.within.1;
      none = none-past t c.loop-at.from c.loop-at.invariant.none at c.in-Some.ensures.first c.in-Some.ensures.found other;
    }

pub returns-clause-value : goal.returns-clause-value
returns-clause-value c =
    sym (empty_line-none c.args.text.now (nowhere c.args.text.now c.loop-at.from c.loop-at.invariant.none c.in_default.ensures.none))
