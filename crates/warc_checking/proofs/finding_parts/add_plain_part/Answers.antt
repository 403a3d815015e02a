use Rattle.std.proofs.Common.{rules, ◌≡◌, ◌++◌, ◌∙◌, [], ◌∷◌, ap}
use Rattle.warc_quick.specs.PlainFindings.{all_plain}
use Rattle.warc_checking.specs.OwnFindings.{found_by_part}
use Rattle.warc_checking.proofs.OwnFindingLemmas.{part_added, part_refused}
use Rattle.warc_checking.proofs.finding_parts.add_plain_part.Goals as goal

pub returns-in_err-add_plain_findings-clause-within : goal.returns-in_err-add_plain_findings-clause-within
returns-in_err-add_plain_findings-clause-within g c =
    let items : c.reserve.new.self.items ≡ c.args.ends.now.items = search rules in
    let (more, is) = c.add_plain_findings.ensures.more in
    rw items (part_refused _ _ _ _ _ more c.as_slice.ensures.value c.forget_rest.ensures.last c.forget_rest.ensures.within
    c.forget_rest.ensures.same is).0

pub returns-in_err-add_plain_findings-clause-err : goal.returns-in_err-add_plain_findings-clause-err
returns-in_err-add_plain_findings-clause-err g c =
    let ends = c.args.ends.now.items in
    let new = c.add_plain_findings.new.findings in
    let items : c.reserve.new.self.items ≡ ends = search rules in
    let (more, is) = c.add_plain_findings.ensures.more in
    let left : found_by_part new c.reserve.new.self.items ≡ found_by_part c.args.findings.now ends =
    ap (found_by_part new) items
    ∙ (part_refused _ _ _ _ _ more c.as_slice.ensures.value c.forget_rest.ensures.last c.forget_rest.ensures.within
    c.forget_rest.ensures.same is).1 in
    search rules

pub returns-clause-within : goal.returns-clause-within
returns-clause-within g c =
    let items : c.push_reserved.new.self.items ≡ c.args.ends.now.items ++ c.len.result ∷ [] = search rules in
    let (more, is) = c.add_plain_findings.ensures.more in
    rw items (part_added _ _ _ _ _ more c.as_slice.ensures.value c.forget_rest.ensures.last c.forget_rest.ensures.within
    c.forget_rest.ensures.same is _ c.len.ensures).0

pub returns-clause-ok : goal.returns-clause-ok
returns-clause-ok g c =
    let items : c.push_reserved.new.self.items ≡ c.args.ends.now.items ++ c.len.result ∷ [] = search rules in
    let own = all_plain c.args.found.now in
    let is = c.in_ok-add_plain_findings.ensures.ok ∙ ap (λ l. c.forget_rest.new.findings ++ l) c.as_slice-2.ensures in
    ap (found_by_part c.add_plain_findings.new.findings) items
    ∙ (part_added _ _ _ _ _ own c.as_slice.ensures.value c.forget_rest.ensures.last c.forget_rest.ensures.within
    c.forget_rest.ensures.same is _ c.len.ensures).1
