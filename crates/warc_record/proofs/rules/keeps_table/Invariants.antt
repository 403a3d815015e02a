use Rattle.std.proofs.Common.{◌≡◌, List, [], map, filter, take}
use Rattle.warc_field.specs.Area.{Pair}
use Rattle.warc_record.specs.declared.checks.TableCheck.{TableCheck}
use Rattle.warc_record.specs.Table.{rule_seen}
use Rattle.warc_record.specs.Findings.{broken_rule, is_broken}
use Rattle.warc_record.proofs.rules.keeps_table.Given as goal

-- the rows so far give no finding
abbrev pub invariant-loop-rule : goal.invariant-loop-rule
invariant-loop-rule g l =
    (pairs : List Pair) (check : TableCheck) → g.H.HeadFields.reads l.fields pairs
    → map (broken_rule check) (filter (is_broken check l.kind pairs) (map rule_seen (take l.rule-index l.rule-items))) ≡ []
