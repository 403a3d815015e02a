use Rattle.std.proofs.lemmas.Result.{on_ok_weaker}
use Rattle.warc_quick.specs.PlainFindings.{all_plain}
use Rattle.warc_quick.proofs.JudgedLemmas.{listed}
use Rattle.warc_quick.proofs.record_findings.add_findings.Goals as goal

pub returns : goal.returns
returns c = λ fields are kind.
    on_ok_weaker c.add_of_ids.result
    (listed c.args.kind fields c.args.block_len (all_plain c.args.found.now) (all_plain c.add_by_table.new.found) (all_plain c.add_of_block.new.found) (all_plain c.add_of_ids.new.found)
    kind (c.in_ok-add_by_table.ensures fields are) (c.in_ok-add_of_block.ensures fields are kind))
    (c.add_of_ids.ensures fields are kind)
