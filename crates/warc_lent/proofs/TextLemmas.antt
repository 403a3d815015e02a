-- What a sink in memory holds of a text that it took whole, and why lent bytes aren't opened.
use Rattle.std.proofs.Common.{◌≡◌, ◌≢◌, ◌⊎◌, inl, inr, ℕ, List, [], ◌++◌, Some, refl, ap, ◌∙◌, arith}
use Rattle.std.specs.Prelude.{Result, Ok, Err}
use Rattle.std.specs.Io.KnownBytes.{append_known}
use Rattle.warc_frame.specs.Effects.{FailsBy}
use Rattle.warc_frame.specs.Send.{sent_of}
use Rattle.warc_frame.specs.declared.fault.OutFault.{OutFault}
use Rattle.warc_frame.specs.declared.fault.OutFault.TheVariants as outs
use Rattle.warc_frame.specs.Seen.{SeenSource}
use Rattle.warc_frame.specs.declared.fault.Fault.{Fault}
use Rattle.warc_frame.specs.declared.fault.FaultKind.{FaultKind}
use Rattle.warc_frame.specs.declared.fault.FaultKind.TheVariants.{Memory, Read}
use Rattle.warc_reading.specs.Archive.{IsFaultOf}
use Rattle.warc_reading.specs.Opening.{RefusesBy, RefusesFrom, faults_after}
use Rattle.warc_lent.specs.Problems.{problem_of_out, problem_result}
use Rattle.warc_lent.specs.Texts.{IsUnreadable}
use Rattle.warc_lent.specs.declared.problem.Problem.TheVariants as problems

pub taken_whole : (new old text : List ℕ) → Some new ≡ append_known (Some old) text → old ≡ [] → new ≡ text
taken_whole new old text is empty =
    let e : Some new ≡ Some text = is ∙ ap (λ (l : List ℕ). Some (l ++ text)) empty in cc e

-- a source that never fails is refused for its bytes, from an offset on, unless memory runs out
pub refused_from : (start : ℕ) (kind : FaultKind) (bytes : List ℕ) (old new : SeenSource) (f : Fault) → 0 ≡ faults_after kind 0
    → RefusesFrom start kind bytes old new f → (kind ≡ Memory) ⊎ IsFaultOf bytes f
refused_from start Read bytes old new f sound is = absurd (omega (arith, sound))
refused_from start Memory bytes old new f sound is = inl refl
refused_from start kind bytes old new f sound is = inr is

pub refused_for : (kind : FaultKind) (bytes : List ℕ) (old new : SeenSource) (f : Fault) → 0 ≡ faults_after kind 0
    → RefusesBy kind bytes old new f → (kind ≡ Memory) ⊎ IsFaultOf bytes f
refused_for = refused_from 0

-- and not for a failed read
pub not_read : (kind : FaultKind) → 0 ≡ faults_after kind 0 → kind ≢ Read
not_read Read sound = absurd (omega (arith, sound))
not_read kind sound = λ is. absurd (cc is)

-- a source fails as the fault of an output to memory says
pub fails_of_out : {X : Type 0} (E : List ℕ → Type 0) (fault : OutFault) (old new : SeenSource)
    → FailsBy {X = X} E (Err fault) old new → FailsBy E (problem_result {X = X} (Err (problem_of_out fault))) old new
fails_of_out E (outs.Read sent) old new f = record { may = f.may; failed = f.failed }
fails_of_out E (outs.Write sent) old new f = record { may = f.may; failed = f.failed }
fails_of_out E (outs.Memory sent) old new f = record { may = f.may; failed = f.failed }

pub fails_of_none : {X Y : Type 0} (E : List ℕ → Type 0) (x : X) (y : Y) (old new : SeenSource)
    → FailsBy {X = X} E (Ok x) old new → FailsBy E (problem_result {X = Y} (Ok y)) old new
fails_of_none E x y old new f = record { may = f.may; failed = f.failed }

-- an output to memory ends early by a failed allocation, or since the source changed
pub unread_of : (fault : OutFault) → IsUnreadable (problem_of_out fault)
unread_of (outs.Read sent) = inl refl
unread_of (outs.Write sent) = inr refl
unread_of (outs.Memory sent) = inr refl

pub memory_of : (fault : OutFault) → fault ≡ outs.Write (sent_of fault) → problem_of_out fault ≡ problems.Memory
memory_of (outs.Read sent) is = cc
memory_of (outs.Write sent) is = refl
memory_of (outs.Memory sent) is = refl
