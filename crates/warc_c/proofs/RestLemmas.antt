-- What follows in a buffer stays, by the number that is answered.
use Rattle.std.proofs.Common.{◌≡◌, ℕ, List, Result, Ok, Err, refl, sym, subst}
use Rattle.std.specs.Prelude.{IfOk, OnErr}
use Rattle.warc_c.specs.Answered.{IsAnswered}
use Rattle.warc_lent.specs.Buffers.{KeepsAfter}
use Rattle.warc_lent.specs.declared.problem.Numbers.{Numbers}
use Rattle.warc_lent.specs.declared.problem.Problem.{Problem}

pub rest_stays : {X : Type 0} (answer : Result ℕ Problem) (number : ℕ) (before after : Numbers) (old new : List X)
    → IsAnswered answer number before after → IfOk answer (λ n. KeepsAfter n old new) → OnErr answer (new ≡ old)
    → KeepsAfter number old new
rest_stays (Ok n) number before after old new is rest same = subst (λ k. KeepsAfter k old new) (sym is.0) rest
rest_stays (Err problem) number before after old new is rest same =
    subst (λ l. KeepsAfter number old l) (sym same) refl
