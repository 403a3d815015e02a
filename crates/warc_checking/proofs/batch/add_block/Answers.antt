use Rattle.std.proofs.Common.{rules, ◌≡◌, ◌++◌, [], ◌∷◌, ap, ◌∙◌}
use Rattle.warc_checking.specs.Batch.{verdicts_in}
use Rattle.warc_checking.specs.declared.batch.Waiting.{Waiting}
use Rattle.warc_checking.proofs.BatchLemmas.{kept_more, verdicts_more, verdicts_still}
use Rattle.warc_checking.proofs.batch.add_block.Goals as goal

pub returns-in_err-check-clause-err : goal.returns-in_err-check-clause-err
returns-in_err-check-clause-err g c =
    let (more, is) = c.keep_block.ensures.more in
    let items : c.reserve.new.self.items ≡ c.args.waiting.now.items = search rules in
    let same : verdicts_in c.keep_block.new.blocks c.reserve.new.self.items ≡ verdicts_in c.args.blocks.now c.args.waiting.now.items =
    ap (verdicts_in c.keep_block.new.blocks) items ∙ verdicts_still _ _ more _ is c.requires in
    search rules

pub returns-clause-kept : goal.returns-clause-kept
returns-clause-kept g c =
    let (more, is) = c.keep_block.ensures.more in
    let one : Waiting = record { check = c.in_ok-check.check; start = c.len-start.result; end = c.len.result } in
    let items : c.push_reserved.new.self.items ≡ c.args.waiting.now.items ++ one ∷ [] = search rules in
    rw items (kept_more _ _ more _ is c.requires one c.len-start.ensures c.len.ensures)

pub returns-clause-ok : goal.returns-clause-ok
returns-clause-ok g c =
    let (more, is) = c.keep_block.ensures.more in
    let one : Waiting = record { check = c.in_ok-check.check; start = c.len-start.result; end = c.len.result } in
    let items : c.push_reserved.new.self.items ≡ c.args.waiting.now.items ++ one ∷ [] = search rules in
    ap (verdicts_in c.keep_block.new.blocks) items
    ∙ verdicts_more _ _ more _ is c.requires one c.len-start.ensures c.len.ensures _ c.in_ok-check.ensures.verdict
