use Rattle.std.proofs.Common.{◌≡◌, take}
use Rattle.warc_checking.proofs.JudgingLemmas.{marked_from}
use Rattle.warc_checking.proofs.findings.mark_last.Given as goal

-- the records so far are marked
abbrev pub invariant-marking : goal.invariant-marking
invariant-marking g l = l.findings ≡ marked_from l.fn.findings l.first (take l.i l.verdicts)
