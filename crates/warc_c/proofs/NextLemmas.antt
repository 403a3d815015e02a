-- What a call for a portion answers and puts.
use Rattle.std.proofs.Common.{◌≡◌, ◌∙◌, ℕ, ◌+◌, Bool, true, false, List, [], Result, Ok, Err, refl, sym, subst}
use Rattle.std.specs.Prelude.{IfErr, OnErr, OnOk}
use Rattle.std.proofs.lemmas.Bool.{false≢true}
use Rattle.warc_frame.specs.Effects.{HasRange}
use Rattle.warc_reading.specs.Row.{Row}
use Rattle.warc_c.specs.Answered.{AnswersPortion, IsFlagged, IsThereReported, PutsWhere}
use Rattle.warc_lent.specs.Buffers.{KeepsAfter}
use Rattle.warc_lent.specs.Portions.{PutsWithin}
use Rattle.warc_lent.specs.declared.portions.PortionNumbers.{PortionNumbers}
use Rattle.warc_lent.specs.declared.problem.Numbers.{Numbers}
use Rattle.warc_lent.specs.declared.problem.Problem.{Problem}
use Rattle.warc_lent.specs.declared.problem.Problem.TheVariants as problems

-- where no archive is open
pub none : (Puts : List Row → Result Bool Problem → Type 0) (is_open : Bool) (MayBe : Problem → Type 0) (answer : Bool)
    (before after : Numbers) → false ≡ is_open → IsThereReported (Err problems.NotOpen) answer before after
    → AnswersPortion Puts MayBe is_open answer before after
none Puts is_open MayBe answer before after shut answered = record {
  rows = [];
  result = Err problems.NotOpen;
  answered = answered;
  puts = λ opened. absurd (false≢true (shut ∙ opened));
  opened = λ opened. absurd (false≢true (shut ∙ opened));
  closed = λ _. refl;
}

-- where one is open
pub some : (Puts : List Row → Result Bool Problem → Type 0) (is_open : Bool) (MayBe : Problem → Type 0) (answer : Bool)
    (before after : Numbers) (rows : List Row) (result : Result Bool Problem) → true ≡ is_open
    → IsThereReported result answer before after → Puts rows result → IfErr result MayBe
    → AnswersPortion Puts MayBe is_open answer before after
some Puts is_open MayBe answer before after rows result open_now answered puts may = record {
  rows = rows;
  result = result;
  answered = answered;
  puts = λ _. puts;
  opened = λ _. may;
  closed = λ shut. absurd (false≢true (sym shut ∙ sym open_now));
}

-- what stays, by what is answered
pub put : (lent : List ℕ) (result : Result Bool Problem) (answer : Bool) (before after : Numbers) (old new : PortionNumbers)
    (was now : List ℕ) → IsThereReported result answer before after → PutsWithin lent result old new was now
    → PutsWhere lent answer old new was now
put lent (Ok is_there) answer before after old new was now is puts =
    subst (λ b. PutsWhere lent b old new was now) (sym is.0) puts
put lent (Err problem) answer before after old new was now is puts =
    subst (λ b. PutsWhere lent b old new was now) (sym is.0) puts

pub made : (block : List ℕ) (result : Result (Unit {0}) Problem) (answer : Bool) (before after : Numbers) (old new : PortionNumbers)
    (was now : List ℕ) → IsFlagged result answer before after → OnOk result (HasRange new.offset new.length block)
    → OnOk result (KeepsAfter (new.before + new.after) was now) → OnErr result ((new ≡ old) × (now ≡ was))
    → PutsWhere block answer old new was now
made block (Ok u) answer before after old new was now is range rest same =
    subst (λ b. PutsWhere block b old new was now) (sym is.0) (range, rest)
made block (Err problem) answer before after old new was now is range rest same =
    subst (λ b. PutsWhere block b old new was now) (sym is.0) same
