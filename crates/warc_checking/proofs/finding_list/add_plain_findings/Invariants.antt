use Rattle.std.proofs.Common.{◌≡◌, ◌++◌, map, take}
use Rattle.warc_record.specs.Findings.{plain_seen}
use Rattle.warc_checking.proofs.finding_list.add_plain_findings.Given as goal

-- the findings so far are added
abbrev pub invariant-adding : goal.invariant-adding
invariant-adding g l = l.findings ≡ l.fn.findings ++ map plain_seen (take l.one-index l.found)
