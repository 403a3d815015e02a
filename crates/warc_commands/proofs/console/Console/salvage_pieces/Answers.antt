use Rattle.std.proofs.Common.{inl, inr}
use Rattle.warc_commands.proofs.SalvageAllLemmas.{all_salvaged, salvaged_in_part}
use Rattle.warc_commands.proofs.console.Console.salvage_pieces.Goals as goal

pub returns-in-Ok-clause-ends : goal.returns-in-Ok-clause-ends
returns-in-Ok-clause-ends g c = inl (all_salvaged _ _ _ _ _ _ _ _ c.in-Ok.found c.in-Ok.ensures c.report_found.ensures.reported c.report_found.ensures.status)

pub returns-in-Err-clause-ends : goal.returns-in-Err-clause-ends
returns-in-Err-clause-ends g c = inr (inl (salvaged_in_part _ _ _ _ _ _ _ _ c.in-Err.fault c.in-Err.ensures c.fail.ensures.reported c.fail.ensures.status))
