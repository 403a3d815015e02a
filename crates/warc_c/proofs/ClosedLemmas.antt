-- What a call on a handle answers in which no archive is open.
use Rattle.std.proofs.Common.{◌≡◌, ◌∙◌, Bool, false, Err, refl}
use Rattle.std.proofs.lemmas.Bool.{false≢true}
use Rattle.warc_c.specs.Answered.{AnswersBy, IsAnswered, IsFlagged, IsVerdictReported}
use Rattle.warc_lent.specs.Problems.{problem_numbers}
use Rattle.warc_lent.specs.declared.problem.Numbers.{Numbers}
use Rattle.warc_lent.specs.declared.problem.Problem.{Problem}
use Rattle.warc_lent.specs.declared.problem.Problem.TheVariants as problems

pub no_number : (is_open : Bool) (MayBe : Problem → Type 0) (before after : Numbers) → false ≡ is_open
    → after ≡ problem_numbers problems.NotOpen → AnswersBy IsAnswered MayBe is_open 0 before after
no_number is_open MayBe before after shut numbers = record {
  result = Err problems.NotOpen;
  answered = (refl, numbers);
  opened = λ opened. absurd (false≢true (shut ∙ opened));
  closed = λ _. refl;
}

pub no_verdict : (is_open : Bool) (MayBe : Problem → Type 0) (before after : Numbers) → false ≡ is_open
    → after ≡ problem_numbers problems.NotOpen → AnswersBy IsVerdictReported MayBe is_open 2 before after
no_verdict is_open MayBe before after shut numbers = record {
  result = Err problems.NotOpen;
  answered = (refl, numbers);
  opened = λ opened. absurd (false≢true (shut ∙ opened));
  closed = λ _. refl;
}

pub not_done : (is_open : Bool) (MayBe : Problem → Type 0) (answer : Bool) (before after : Numbers) → false ≡ is_open
    → IsFlagged (Err problems.NotOpen) answer before after → AnswersBy IsFlagged MayBe is_open answer before after
not_done is_open MayBe answer before after shut answered = record {
  result = Err problems.NotOpen;
  answered = answered;
  opened = λ opened. absurd (false≢true (shut ∙ opened));
  closed = λ _. refl;
}
