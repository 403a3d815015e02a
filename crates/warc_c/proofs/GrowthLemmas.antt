-- Why an archive doesn't grow, whatever rows it has.
use Rattle.std.proofs.Common.{ℕ, List, Result, Ok, Err, inl, inr}
use Rattle.std.specs.Prelude.{IfErr}
use Rattle.warc_reading.specs.Row.{Row}
use Rattle.warc_lent.specs.Growing.{IsNoGrowth, IsUngrown}
use Rattle.warc_lent.specs.declared.problem.Problem.{Problem}

pub no_growth : (grown : Result (Unit {0}) Problem) (rows : List Row) (old new : List ℕ)
    → IfErr grown (IsUngrown rows old new) → IfErr grown IsNoGrowth
no_growth (Ok u) rows old new is = tt
no_growth (Err problem) rows old new (inl changed) = inl changed.0
no_growth (Err problem) rows old new (inr (fault, problem_is, unread, alike)) = inr (fault, problem_is, unread)
