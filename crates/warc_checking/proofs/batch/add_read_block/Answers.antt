use Rattle.std.proofs.Common.{rules, ◌≡◌, ◌++◌, [], ◌∷◌, refl, ap, ◌∙◌}
use Rattle.warc_checking.specs.Batch.{verdicts_in}
use Rattle.warc_checking.specs.declared.batch.Waiting.{Waiting}
use Rattle.warc_checking.proofs.BatchLemmas.{kept_more, verdicts_more, verdicts_still}
use Rattle.warc_checking.proofs.batch.add_read_block.Goals as goal

pub returns-in-Err-clause-err : goal.returns-in-Err-clause-err
returns-in-Err-clause-err g c =
    let (more, is) = c.read_block.ensures.more in
    let items : c.reserve.new.self.items ≡ c.args.waiting.now.items = search rules in
    ap (verdicts_in c.read_block.new.blocks) items ∙ verdicts_still _ _ more _ is c.requires.kept

pub returns-clause-kept : goal.returns-clause-kept
returns-clause-kept g c =
    let (more, is) = c.read_block.ensures.more in
    let one : Waiting = record { check = c.in-Ok-read_block.check; start = c.len-start.result; end = c.len.result } in
    let items : c.push_reserved.new.self.items ≡ c.args.waiting.now.items ++ one ∷ [] = search rules in
    rw items (kept_more _ _ more _ is c.requires.kept one c.len-start.ensures c.len.ensures)

pub returns-clause-added : goal.returns-clause-added
returns-clause-added g c = λ bytes held.
    let (more, is) = c.read_block.ensures.more in
    let one : Waiting = record { check = c.in-Ok-read_block.check; start = c.len-start.result; end = c.len.result } in
    let items : c.push_reserved.new.self.items ≡ c.args.waiting.now.items ++ one ∷ [] = search rules in
    ap (verdicts_in c.read_block.new.blocks) items
    ∙ verdicts_more _ _ more _ is c.requires.kept one c.len-start.ensures c.len.ensures _ (c.in-Ok-read_block.ensures.verdict bytes held)

pub returns-clause-more : goal.returns-clause-more
returns-clause-more g c =
    let (more, is) = c.read_block.ensures.more in
    let one : Waiting = record { check = c.in-Ok-read_block.check; start = c.len-start.result; end = c.len.result } in
    let items : c.push_reserved.new.self.items ≡ c.args.waiting.now.items ++ one ∷ [] = search rules in (
      _,
      ap (verdicts_in c.read_block.new.blocks) items
          ∙ verdicts_more _ _ more _ is c.requires.kept one c.len-start.ensures c.len.ensures _ refl,
    )
