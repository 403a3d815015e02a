use Rattle.std.proofs.Common.{ℕ, arith, sym, ◌≡◌, ◌-◌, ◌+◌, ◌∙◌, ap, length, if◌then◌else◌}
use Rattle.warc_frame.specs.Count.{capped}
use Rattle.warc_checking.specs.OwnFindings.{found_at, found_by_part}
use Rattle.warc_checking.proofs.OwnFindingLemmas.{part_is, part_len}
use Rattle.warc_checking.proofs.finding_parts.OtherFindings.put.Goals as goal

add_assoc : (a b c : ℕ) → a + b + c ≡ a + (b + c)
add_assoc a b c = omega arith

pub put-requires : goal.put-requires
put-requires g c = part_is _ _ _ _ c.as_slice.ensures.value c.part_at-part.ensures.within c.self.invariant

pub overflow_sub-part : goal.overflow_sub-part
overflow_sub-part g c = (part_is _ _ _ _ c.as_slice.ensures.value c.part_at-part.ensures.within c.self.invariant).order

pub returns-clause-number : goal.returns-clause-number
returns-clause-number g c =
    let findings = c.self.inside.findings in
    let part = c.part_at-part.result in
    let bad = if c.args.facts.bad_digest then 1 else 0 in
    let used = if c.args.facts.used_id then 1 else 0 in
    let within = part_is _ _ _ _ c.as_slice.ensures.value c.part_at-part.ensures.within c.self.invariant in
    let is = c.part_at-part.ensures.is findings ∙ ap (λ l. found_at (found_by_part findings l) c.args.position) c.as_slice.ensures.value
    ∙ ap (λ l. found_at l c.args.position) c.self.view_is in
    let size : part.end - part.start ≡ length (found_at c.args.self.now c.args.position) = part_len findings part within ∙ ap length is in
    c.saturating_add.ensures ∙ ap (λ n. capped (part.end - part.start + (n + c.line_count-2.result))) c.line_count.ensures
    ∙ ap (λ n. capped (part.end - part.start + (bad + n))) c.line_count-2.ensures ∙ ap (λ n. capped (n + (bad + used))) size
    ∙ ap capped (sym (add_assoc (length (found_at c.args.self.now c.args.position)) bad used))
