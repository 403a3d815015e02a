-- What calls do one after another: what they read of a source, and who has failed.
use Rattle.std.proofs.Common.{◌≡◌, ℕ, ◌+◌, ◌≤◌, Bool, List, Some, Result, Ok, Err, refl, ap, subst, ◌∙◌, arith}
use Rattle.warc_frame.specs.Effects.{FailsBy, ReadsOnly}
use Rattle.warc_frame.specs.Failing.{HasFailedBy, MayHaveFailedBy}
use Rattle.warc_frame.specs.Seen.{SeenSource}
use Rattle.warc_frame.specs.declared.fault.OutFault.{OutFault}
use Rattle.warc_frame.specs.declared.fault.OutFault.TheVariants.{Read, Write, Memory}

-- ---- reads

pub reads_none : {These : ℕ → Type 0} {s : SeenSource} → ReadsOnly These 0 s s
reads_none {These} {s} = record { kept = refl; watched = refl; near = λ off. refl; bound = omega arith }

pub reads_within : {These Those : ℕ → Type 0} {less most : ℕ} {old new : SeenSource}
    → ((at : ℕ) → These at → Those at) → less ≤ most → ReadsOnly These less old new → ReadsOnly Those most old new
reads_within {These} {Those} {less} {most} {old} {new} are le has = record {
  kept = has.kept;
  watched = has.watched;
  near = λ off. has.near (λ at is. off at (are at is));
  bound = omega (arith, has.bound);
}

pub reads_both : {These : ℕ → Type 0} {most more : ℕ} {old mid new : SeenSource} → ReadsOnly These most old mid
    → ReadsOnly These more mid new → ReadsOnly These (most + more) old new
reads_both {These} {most} {more} {old} {mid} {new} has then = record {
  kept = then.kept ∙ has.kept;
  watched = then.watched ∙ has.watched;
  near = λ off. then.near (λ at is. ap (λ (w : ℕ → Bool). w at) has.watched ∙ off at is) ∙ has.near off;
  bound = omega (arith, has.bound, then.bound);
}

-- ---- failures

pub fails_never : {X : Type 0} {Expected : List ℕ → Type 0} {x : X} {old new : SeenSource} → new.faults ≡ old.faults
    → FailsBy Expected (Ok x) old new
fails_never {X} {Expected} {x} {old} {new} same = record { may = same; failed = λ bytes held is. same }

-- fewer bytes are as expected
pub fails_more : {X : Type 0} {Expected Wanted : List ℕ → Type 0} {answer : Result X OutFault} {old new : SeenSource}
    → ((bytes : List ℕ) → old.holds ≡ Some bytes → Wanted bytes → Expected bytes) → FailsBy Expected answer old new
    → FailsBy Wanted answer old new
fails_more {X} {Expected} {Wanted} {answer} {old} {new} are has =
    record { may = has.may; failed = λ bytes held is. has.failed bytes held (are bytes held is) }

may_from : {X : Type 0} (answer : Result X OutFault) (a b n : ℕ) → b ≡ a → MayHaveFailedBy answer b n
    → MayHaveFailedBy answer a n
may_from {X} answer a b n same has = subst (λ (k : ℕ). MayHaveFailedBy answer k n) same has

from : {X : Type 0} (answer : Result X OutFault) (a b n : ℕ) → b ≡ a → HasFailedBy answer b n → HasFailedBy answer a n
from {X} answer a b n same has = subst (λ (k : ℕ). HasFailedBy answer k n) same has

-- after a call that hasn't failed
pub fails_after : {X : Type 0} {Expected : List ℕ → Type 0} {answer : Result X OutFault} {old mid new : SeenSource}
    → mid.holds ≡ old.holds → mid.faults ≡ old.faults → FailsBy Expected answer mid new
    → FailsBy Expected answer old new
fails_after {X} {Expected} {answer} {old} {mid} {new} kept same has = record {
  may = may_from answer old.faults mid.faults new.faults same has.may;
  failed = λ bytes held is. from answer old.faults mid.faults new.faults same (has.failed bytes (kept ∙ held) is);
}

-- a failure in an answer of one type is a failure in an answer of another
may_as : (X Y : Type 0) (e : OutFault) (a b : ℕ) → MayHaveFailedBy {X = X} (Err e) a b → MayHaveFailedBy {X = Y} (Err e) a b
may_as X Y (Read sent) a b has = has
may_as X Y (Write sent) a b has = has
may_as X Y (Memory sent) a b has = has

has_as : (X Y : Type 0) (e : OutFault) (a b : ℕ) → HasFailedBy {X = X} (Err e) a b → HasFailedBy {X = Y} (Err e) a b
has_as X Y (Read sent) a b has = has
has_as X Y (Write sent) a b has = has
has_as X Y (Memory sent) a b has = has

pub fails_as : (X Y : Type 0) {Expected : List ℕ → Type 0} {e : OutFault} {old new : SeenSource}
    → FailsBy {X = X} Expected (Err e) old new → FailsBy {X = Y} Expected (Err e) old new
fails_as X Y {Expected} {e} {old} {new} has = record {
  may = may_as X Y e old.faults new.faults has.may;
  failed = λ bytes held is. has_as X Y e old.faults new.faults (has.failed bytes held is);
}
