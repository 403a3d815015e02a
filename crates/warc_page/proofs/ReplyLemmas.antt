-- What a question is answered, by whether an archive is open.
use Rattle.std.proofs.Common.{◌≡◌, ◌∙◌, ℕ, List, Bool, true, false, Result, Err, refl, subst}
use Rattle.std.proofs.lemmas.Bool.{false≢true, true≢false}
use Rattle.std.specs.Prelude.{IfErr}
use Rattle.warc_lent.specs.declared.problem.Problem.{Problem}
use Rattle.warc_lent.specs.declared.problem.Problem.TheVariants as problems
use Rattle.warc_page.specs.Shown.{EndsBy, EndsWith, IsReply}
use Rattle.warc_page.specs.declared.shapes.PageOutcome.{PageOutcome}

-- of an open archive
pub reply : (MayBe : Problem → Type 0) (answered : Result ℕ Problem) (outcome : PageOutcome) (text : List ℕ)
    → EndsWith answered outcome text → IfErr answered MayBe → IsReply MayBe true outcome text
reply MayBe answered outcome text ends may = record {
  answered = answered;
  ends = ends;
  opened = λ _. may;
  closed = λ shut. absurd (true≢false shut);
}

-- of a handle that is open
pub reply_if_open : (MayBe : Problem → Type 0) (is_open : Bool) (outcome : PageOutcome) (text : List ℕ) → true ≡ is_open
    → IsReply MayBe true outcome text → IsReply MayBe is_open outcome text
reply_if_open MayBe is_open outcome text opened is = subst (λ b. IsReply MayBe b outcome text) opened is

-- of one that isn't
pub no_reply : (MayBe : Problem → Type 0) (is_open : Bool) (outcome : PageOutcome) (text : List ℕ) → false ≡ is_open
    → EndsBy problems.NotOpen outcome.state outcome.length text → IsReply MayBe is_open outcome text
no_reply MayBe is_open outcome text shut ends = record {
  answered = Err problems.NotOpen;
  ends = ends;
  opened = λ opened. absurd (false≢true (shut ∙ opened));
  closed = λ _. refl;
}

-- of a date that is none
pub dated : (answered : Result ℕ Problem) (outcome : PageOutcome) (text : List ℕ) → answered ≡ Err problems.BadDate
    → EndsWith answered outcome text → EndsBy problems.BadDate outcome.state outcome.length text
dated answered outcome text is ends = subst (λ a. EndsWith a outcome text) is ends
