-- What contracts see of a source and of a sink, before a call and after it.
use Rattle.std.specs.Prelude.{◌≡◌, ℕ, ◌+◌, ◌<◌, ◌≤◌, Bool, false, List, Option, Some, Result, IfSome, IfOk}
use Rattle.warc_frame.specs.Count.{capped}

-- a source: the bytes that it holds, where they are known, how often it has failed and was read, the offset of the last
-- read, the offsets that it watches, how many reads asked for a byte at one of those, the offset at which its next byte
-- is, where it gives its bytes in order, and how many reads asked elsewhere
pub record SeenSource : Type 0 where
  pub holds : Option (List ℕ)
  pub faults : ℕ
  pub reads : ℕ
  pub asked : ℕ
  pub watches : ℕ → Bool
  pub watched_reads : ℕ
  pub next : Option ℕ
  pub jumps : ℕ

-- a fact about the bytes that a source holds, where they are known
abbrev pub IfHeld : Option (List ℕ) → (List ℕ → Type 0) → Type 0
IfHeld holds P = (bytes : List ℕ) → holds ≡ Some bytes → P bytes

-- an offset is one of the `len` offsets from `at` on
abbrev pub IsInRange : ℕ → ℕ → ℕ → Type 0
IsInRange at len q = (at ≤ q) × (q < at + len)

-- a source was asked for no bytes but those at these offsets: one that watches none of them saw no read of a byte that
-- it watches
abbrev pub AsksOnly : (ℕ → Type 0) → SeenSource → SeenSource → Type 0
AsksOnly These old new = ((at : ℕ) → These at → old.watches at ≡ false) → new.watched_reads ≡ old.watched_reads

-- a read at the offset of the next byte is no jump, and the next byte is where it ends
abbrev pub GoesOn : {E : Type 0} → ℕ → Result ℕ E → SeenSource → SeenSource → Type 0
GoesOn at answer old new = IfSome old.next (λ next. at ≡ next
    → (new.jumps ≡ old.jumps) × IfOk answer (λ n. new.next ≡ Some (capped (at + n))))

-- reads that begin at an offset, each where the one before ended
abbrev pub InOrder : ℕ → SeenSource → SeenSource → Type 0
InOrder from old new = IfSome old.next (λ next. from ≡ next → new.jumps ≡ old.jumps)

-- a sink: the bytes that it reports, where they are known, and how often it has failed
pub record Seen : Type 0 where
  pub reports : Option (List ℕ)
  pub faults : ℕ
