use Rattle.std.proofs.Common.{◌≡◌, ◌++◌, List, map, filter, take}
use Rattle.warc_field.specs.Area.{Pair}
use Rattle.warc_record.specs.Table.{rule_seen}
use Rattle.warc_record.specs.Findings.{broken_rule, is_broken}
use Rattle.warc_record.proofs.rules.add_broken.Given as goal

-- the findings of the rows so far are added
abbrev pub invariant-loop-rule : goal.invariant-loop-rule
invariant-loop-rule g l =
    (pairs : List Pair) → g.H.HeadFields.reads l.fields pairs
    → g.S.FindingSink.listed l.found
    ≡ g.S.FindingSink.listed l.fn.found
    ++ map (broken_rule l.check) (filter (is_broken l.check l.kind pairs) (map rule_seen (take l.rule-index l.rule-items)))
