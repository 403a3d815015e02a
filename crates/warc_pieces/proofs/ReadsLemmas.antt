-- What was read of a source, one call after another.
use Rattle.std.proofs.Common.{◌≡◌, ◌≢◌, ℕ, ◌+◌, ◌≤◌, Result, Ok, refl, ap, ◌∙◌, arith}
use Rattle.warc_frame.specs.Seen.{SeenSource}
use Rattle.warc_frame.specs.declared.fault.Fault.{Fault}
use Rattle.warc_frame.specs.declared.fault.FaultKind.{FaultKind}
use Rattle.warc_frame.specs.declared.fault.FaultKind.TheVariants.{Read}
use Rattle.warc_pieces.specs.Window.{ReadsBy, Shown, failures_after, faults_by}

-- another fault than a failed read
pub no_fault_by : (kind : FaultKind) (n : ℕ) → kind ≢ Read → faults_by kind n ≡ n
no_fault_by Read n other = absurd (other refl)
no_fault_by kind n other = refl

pub reads_none : {X : Type 0} (x : X) (w : Shown) (s : SeenSource) → ReadsBy 0 (Ok x) w w s s
reads_none x w s = record { kept = refl; watched = refl; cause = refl; near = λ out. refl; bound = omega arith; forward = omega arith }

pub reads_then : {X Y : Type 0} (a b : ℕ) (x : Result X Fault) (y : Result Y Fault) (w0 w1 w2 : Shown) (s0 s1 s2 : SeenSource) → failures_after x s0.faults ≡ s0.faults → ReadsBy a x w0 w1 s0 s1 → ReadsBy b y w1 w2 s1 s2 → ReadsBy (a + b) y w0 w2 s0 s2
reads_then a b x y w0 w1 w2 s0 s1 s2 same first second = record {
  kept = second.kept ∙ first.kept;
  watched = second.watched ∙ first.watched;
  cause = second.cause ∙ ap (failures_after y) (first.cause ∙ same);
  near = λ out. second.near (λ q low. ap (λ w. w q) first.watched ∙ out q low) ∙ first.near out;
  bound = omega (arith, first.bound, second.bound);
  forward = omega (arith, first.forward, second.forward);
}

-- more reads are allowed, and another answer is given by which the source has failed as often
pub reads_as : {X Y : Type 0} (a b : ℕ) (x : Result X Fault) (y : Result Y Fault) (w now : Shown) (old new : SeenSource) → a ≤ b → failures_after x old.faults ≡ failures_after y old.faults → ReadsBy a x w now old new → ReadsBy b y w now old new
reads_as a b x y w now old new more same reads = record {
  kept = reads.kept;
  watched = reads.watched;
  cause = reads.cause ∙ same;
  near = reads.near;
  bound = omega (arith, reads.bound, more);
  forward = reads.forward;
}
