-- Which positions a selection puts.
use Rattle.std.proofs.Common.{◌≡◌, ◌∙◌, ◌<◌, ◌↔◌, ℕ, Bool, true, false, List, Result, Ok, Err, refl, sym, ap, subst, arith}
use Rattle.std.specs.Prelude.{All, Contains, IfErr, IfOk}
use Rattle.std.specs.List.Sorted.{IsStrictlyIncreasing}
use Rattle.std.specs.declared.vec.Vec.{Vec}
use Rattle.std.proofs.lemmas.List.Elements.{All-contains, All-contains_itself, All-weaker}
use Rattle.warc_frame.specs.Count.{raised}
use Rattle.warc_frame.specs.Failing.{HasFailedBy}
use Rattle.warc_frame.specs.declared.fault.OutFault.{OutFault}
use Rattle.warc_frame.specs.declared.fault.OutFault.TheVariants as outs
use Rattle.warc_segment.specs.Joined.{ReadRecord}
use Rattle.warc_rewrite.specs.Closing.{AreWithNeeded, AreWithout, IsNeeded, NeedsOneOf}
use Rattle.warc_rewrite.specs.Selecting.{AreOthers}
use Rattle.warc_lent.specs.Problems.{problem_of_out}
use Rattle.warc_lent.specs.Selections.{AreChosen, AreClosedChoice, AreNamedPositions}
use Rattle.warc_lent.specs.declared.problem.Problem.{Problem}
use Rattle.warc_lent.specs.declared.problem.Problem.TheVariants as problems

-- named positions in their order, each once, where all are below the count
pub named_in_order : (count : ℕ) (named positions : List ℕ) → All (λ p. p < count) named → IsStrictlyIncreasing positions
    → ((p : ℕ) → Contains positions p ↔ Contains named p) → AreNamedPositions count named positions
named_in_order count named positions below rises each = record {
  are = record {
    ascending = rises;
    below = All-weaker (Contains positions) (λ p. p < count)
        (λ p has. All-contains (λ p. p < count) named p below ((each p).0 has)) positions (All-contains_itself positions);
  };
  each = each;
}

-- all others are the same of named positions in any order
pub others_of_named : (least count : ℕ) (named positions taken others : List ℕ) → taken ≡ positions
    → AreNamedPositions least named positions → AreOthers count taken others → AreOthers count named others
others_of_named least count named positions taken others same is rest =
    let out : (p : ℕ) → Contains others p ↔ ((p < count) × ¬ Contains positions p) =
    (subst (λ ps. AreOthers count ps others) same rest).each in
    record {
      are = rest.are;
      each = λ p. (
        λ has. (((out p).0 has).0, λ at. ((out p).0 has).1 ((is.each p).1 at)),
        λ not. (out p).1 (not.0, λ at. not.1 ((is.each p).0 at)),
      );
    }

-- without the named ones, all others are chosen
pub others_chosen : (except : Bool) (count : ℕ) (named others : List ℕ) → except ≡ true
    → AreOthers count named others → AreChosen except count named others
others_chosen true count named others is rest = rest
others_chosen false count named others is rest = absurd (cc is)

-- whatever is needed by named positions is needed by the same in their order, and the other way round
needed_by : (all : List ReadRecord) (these those : List ℕ) (q : ℕ) → ((p : ℕ) → Contains these p → Contains those p)
    → IsNeeded all these q → IsNeeded all those q
needed_by all these those q same is = record { by = is.by; named = same is.by is.named; needs = is.needs }

needs_one : (all : List ReadRecord) (these those : List ℕ) (p : ℕ) → ((p : ℕ) → Contains these p → Contains those p)
    → NeedsOneOf all these p → NeedsOneOf all those p
needs_one all these those p same is = record { named = is.named; is = same is.named is.is; needs = is.needs }

-- a closed choice is the same of named positions in any order
pub closed_of_named : (except : Bool) (count : ℕ) (all : List ReadRecord) (named positions taken closed : List ℕ)
    → taken ≡ positions → AreNamedPositions count named positions → AreClosedChoice except all taken closed
    → AreClosedChoice except all named closed
closed_of_named true count all named positions taken closed same is given =
    let rest : AreWithout all positions closed = subst (λ ps. AreWithout all ps closed) same given in
    record {
      are = rest.are;
      each = λ p. (
        λ has. (
          ((rest.each p).0 has).0,
          λ one. ((rest.each p).0 has).1 (needs_one all named positions p (λ q. (is.each q).1) one),
        ),
        λ not. (rest.each p).1 (not.0, λ one. not.1 (needs_one all positions named p (λ q. (is.each q).0) one)),
      );
    }
closed_of_named false count all named positions taken closed same is given =
    let some : AreWithNeeded all positions closed = subst (λ ps. AreWithNeeded all ps closed) same given in
    record {
      are = some.are;
      each = λ q. (
        λ has. needed_by all positions named q (λ p. (is.each p).0) ((some.each q).0 has),
        λ need. (some.each q).1 (needed_by all named positions q (λ p. (is.each p).1) need),
      );
    }

-- what is given of an archive, by what is asked for
pub closed_without : {A : Type 0} (except : Bool) (all : List ReadRecord) (named : List ℕ) (answer : Result (Vec ℕ A) OutFault)
    → except ≡ true → IfOk answer (λ given. AreWithout all named given.items)
    → IfOk answer (λ given. AreClosedChoice except all named given.items)
closed_without {A} true all named answer is right = right
closed_without {A} false all named answer is right = absurd (cc is)

pub closed_with : {A : Type 0} (except : Bool) (all : List ReadRecord) (named : List ℕ) (answer : Result (Vec ℕ A) OutFault)
    → except ≡ false → IfOk answer (λ given. AreWithNeeded all named given.items)
    → IfOk answer (λ given. AreClosedChoice except all named given.items)
closed_with {A} true all named answer is right = absurd (cc is)
closed_with {A} false all named answer is right = right

-- a source that never fails hasn't failed to be read
pub only_memory : {A : Type 0} (answer : Result (Vec ℕ A) OutFault) (old new : ℕ) → old ≡ 0 → new ≡ 0 → HasFailedBy answer old new
    → IfErr answer (λ fault. problem_of_out fault ≡ problems.Memory)
only_memory {A} (Ok given) old new first last is = tt
only_memory {A} (Err (outs.Read sent)) old new first last is =
    let e : 0 ≡ raised 0 = sym last ∙ is ∙ ap raised first in
    absurd (omega (arith, e))
only_memory {A} (Err (outs.Write sent)) old new first last is = refl
only_memory {A} (Err (outs.Memory sent)) old new first last is = refl
