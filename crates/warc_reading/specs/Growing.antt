-- What growing reads of a source, and when it is refused.
use Rattle.std.specs.Prelude.{◌≡◌, ℕ, ◌+◌, ◌≤◌, ◌⊎◌, List, ◌++◌, length, Some, Result, Ok, Err, IfErr, IfOk, MatchResult}
use Rattle.warc_frame.specs.Seen.{InOrder, SeenSource}
use Rattle.warc_frame.specs.declared.fault.Fault.{Fault}
use Rattle.warc_frame.specs.declared.fault.FaultKind.TheVariants.{Memory, Read}
use Rattle.warc_reading.specs.Opening.{OpensFrom, ReadsOn}

-- a refusal by a device or by memory
abbrev pub IsDeviceFault : Fault → Type 0
IsDeviceFault f = (f.kind ≡ Read) ⊎ (f.kind ≡ Memory)

-- growing by a source: over one that begins with the bytes of which something was right, it gives what opening it
-- gives, and at most one read is made for each byte after them, and one; before a read fault at most one for each of
-- those before it, and one. A source that isn't longer than those bytes adds nothing. What any source gives is right
-- for those bytes with more after them, a failed allocation is reported at their end or after it, the first read is at
-- their end, and reading is as in opening
pub record Grows {X : Type 0} (Is : List ℕ → X → Type 0) (was : X) (old new : SeenSource) (answer : Result X Fault)
    : Type 0 where
  pub whole : (bytes more : List ℕ) → Is bytes was → old.holds ≡ Some (bytes ++ more)
      → OpensFrom (length bytes) Is old new answer
  pub less : (bytes held : List ℕ) → Is bytes was → old.holds ≡ Some held → length held ≤ length bytes
      → MatchResult answer (Is bytes) IsDeviceFault
  pub cost : (bytes more : List ℕ) → Is bytes was → old.holds ≡ Some (bytes ++ more)
      → new.reads ≤ old.reads + length more + 1
  pub tried : (bytes : List ℕ) → Is bytes was
      → IfErr answer (λ f. f.kind ≡ Read → new.reads + length bytes ≤ old.reads + f.offset + 1)
  pub some : (bytes : List ℕ) → Is bytes was → IfOk answer (λ x. (more : List ℕ) × Is (bytes ++ more) x)
  pub following : (bytes : List ℕ) → Is bytes was → IfErr answer (λ f. f.kind ≡ Memory → length bytes ≤ f.offset)
  pub order : (bytes : List ℕ) → Is bytes was → InOrder (length bytes) old new
  pub reads : ReadsOn old new answer

-- what growing gives, by what is there afterwards
abbrev pub grown : {X : Type 0} → Result (Unit {0}) Fault → X → Result X Fault
grown (Ok u) x = Ok x
grown (Err f) x = Err f
