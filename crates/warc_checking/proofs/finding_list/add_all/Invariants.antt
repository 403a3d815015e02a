use Rattle.std.proofs.Common.{◌≡◌, ◌++◌, map, take}
use Rattle.warc_record.specs.Findings.{finding_seen}
use Rattle.warc_checking.proofs.finding_list.add_all.Given as goal

-- the findings so far are added
abbrev pub invariant-adding : goal.invariant-adding
invariant-adding g l = l.findings ≡ l.fn.findings ++ map finding_seen (take l.finding-index l.found)
