use Rattle.std.proofs.Common.{rules, ◌≡◌, ◌++◌, ◌∙◌, [], ◌∷◌, ap, false}
use Rattle.warc_record.specs.Findings.{findings_of}
use Rattle.warc_checking.specs.OwnFindings.{found_by_part}
use Rattle.warc_checking.proofs.OwnFindingLemmas.{part_added, part_refused}
use Rattle.warc_checking.proofs.finding_parts.add_part.Goals as goal

pub returns-in_err-add_others-clause-within : goal.returns-in_err-add_others-clause-within
returns-in_err-add_others-clause-within g c =
    let items : c.reserve.new.self.items ≡ c.args.ends.now.items = search rules in
    let (more, is) = c.add_others.ensures.more in
    rw items (part_refused _ _ _ _ _ more c.as_slice.ensures.value c.forget_rest.ensures.last c.forget_rest.ensures.within
    c.forget_rest.ensures.same is).0

pub returns-in_err-add_others-clause-err : goal.returns-in_err-add_others-clause-err
returns-in_err-add_others-clause-err g c =
    let ends = c.args.ends.now.items in
    let new = c.add_others.new.findings in
    let items : c.reserve.new.self.items ≡ ends = search rules in
    let (more, is) = c.add_others.ensures.more in
    let left : found_by_part new c.reserve.new.self.items ≡ found_by_part c.args.findings.now ends =
    ap (found_by_part new) items
    ∙ (part_refused _ _ _ _ _ more c.as_slice.ensures.value c.forget_rest.ensures.last c.forget_rest.ensures.within
    c.forget_rest.ensures.same is).1 in
    search rules

pub returns-clause-within : goal.returns-clause-within
returns-clause-within g c =
    let items : c.push_reserved.new.self.items ≡ c.args.ends.now.items ++ c.len.result ∷ [] = search rules in
    let (more, is) = c.add_others.ensures.more in
    rw items (part_added _ _ _ _ _ more c.as_slice.ensures.value c.forget_rest.ensures.last c.forget_rest.ensures.within
    c.forget_rest.ensures.same is _ c.len.ensures).0

pub returns-clause-ok : goal.returns-clause-ok
returns-clause-ok g c =
    let items : c.push_reserved.new.self.items ≡ c.args.ends.now.items ++ c.len.result ∷ [] = search rules in
    let own = findings_of c.args.fields.now c.args.block_len false false in
    ap (found_by_part c.add_others.new.findings) items
    ∙ (part_added _ _ _ _ _ own c.as_slice.ensures.value c.forget_rest.ensures.last c.forget_rest.ensures.within
    c.forget_rest.ensures.same c.in_ok-add_others.ensures.ok _ c.len.ensures).1
