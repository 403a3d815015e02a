use Rattle.std.proofs.Common.{◌+◌, ◌∙◌, ap, length, if◌then◌else◌, map, sym}
use Rattle.std.proofs.lemmas.Result.{IfOk-weaker}
use Rattle.warc_frame.specs.Count.{capped}
use Rattle.warc_checking.specs.Lines.{record_lines}
use Rattle.warc_checking.specs.OwnFindings.{all_of, bad_at, found_at, with_digest, with_used}
use Rattle.warc_checking.proofs.CheckLemmas.{puts_same}
use Rattle.warc_checking.proofs.OwnFindingLemmas.{digest_len, each_at, without_at}
use Rattle.warc_checking.proofs.own_findings.OwnFindings.put.Goals as goal

pub returns-clause-puts : goal.returns-clause-puts
returns-clause-puts g c =
    let i = c.args.position in
    let others = c.self.inside.others in
    let bad = c.bad_at.ensures ∙ ap (λ l. bad_at l i) c.as_slice.ensures.value in
    let all = ap (with_digest (found_at others i)) bad ∙ sym (each_at others c.self.inside.states.items i c.self.invariant.0)
    ∙ ap (λ l. found_at (map all_of l) i) c.self.view_is in
    puts_same (ap (λ f. record_lines i (with_used f c.args.used)) all) c.put.ensures.puts

pub returns-clause-number : goal.returns-clause-number
returns-clause-number g c =
    let i = c.args.position in
    let others = c.self.inside.others in
    let bad = c.bad_at.ensures ∙ ap (λ l. bad_at l i) c.as_slice.ensures.value in
    let all = ap (with_digest (found_at others i)) bad ∙ sym (each_at others c.self.inside.states.items i c.self.invariant.0)
    ∙ ap (λ l. found_at (map all_of l) i) c.self.view_is in
    let size = sym (digest_len (found_at others i) c.bad_at.result (without_at others i c.self.invariant.1)) ∙ ap length all in
    IfOk-weaker c.put.result _ _ (λ n is. is ∙ ap (λ m. capped (m + (if c.args.used then 1 else 0))) size) c.put.ensures.number
