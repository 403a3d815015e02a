use Rattle.std.proofs.Common.{◌≡◌, ◌++◌, map, filter, take}
use Rattle.warc_field.specs.Area.{Pair}
use Rattle.warc_record.specs.Findings.{NotUtf8, is_not_utf8, finding_seen}
use Rattle.warc_record.proofs.checks.add_not_utf8.Given as goal

-- the findings of the fields so far are added
abbrev pub invariant-loop-name : goal.invariant-loop-name
invariant-loop-name g l =
    map finding_seen l.found.items
    ≡ map finding_seen l.fn.found.items ++ map (λ (field : Pair). NotUtf8 field.0) (filter is_not_utf8 (take l.name-index l.name-items))
