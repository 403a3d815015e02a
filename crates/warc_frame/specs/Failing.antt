-- How often a source and a sink have failed after an output that was made from the one and went to the other.
use Rattle.std.specs.Prelude.{◌≡◌, ℕ, ◌⊎◌, Bool, true, false, Result, Ok, Err}
use Rattle.warc_frame.specs.Count.{raised}
use Rattle.warc_frame.specs.declared.fault.OutFault.{OutFault}
use Rattle.warc_frame.specs.declared.fault.OutFault.TheVariants.{Read, Write, Memory}

-- the sink: once more exactly by a failed write
abbrev pub failed_with : OutFault → ℕ → ℕ
failed_with (Read sent) n = n
failed_with (Write sent) n = raised n
failed_with (Memory sent) n = n

abbrev pub failed_by : {X : Type 0} → Result X OutFault → ℕ → ℕ
failed_by (Ok x) n = n
failed_by (Err e) n = failed_with e n

-- the source, over the bytes that it held: once more exactly by a failed read
abbrev pub HasFailedBy : {X : Type 0} → Result X OutFault → ℕ → ℕ → Type 0
HasFailedBy (Ok x) old new = new ≡ old
HasFailedBy (Err (Read sent)) old new = new ≡ raised old
HasFailedBy (Err (Write sent)) old new = new ≡ old
HasFailedBy (Err (Memory sent)) old new = new ≡ old

-- any source: a read fault also says that it doesn't give what it gave
abbrev pub MayHaveFailedBy : {X : Type 0} → Result X OutFault → ℕ → ℕ → Type 0
MayHaveFailedBy (Ok x) old new = new ≡ old
MayHaveFailedBy (Err (Read sent)) old new = (new ≡ old) ⊎ (new ≡ raised old)
MayHaveFailedBy (Err (Write sent)) old new = new ≡ old
MayHaveFailedBy (Err (Memory sent)) old new = new ≡ old

abbrev pub is_read : OutFault → Bool
is_read (Read sent) = true
is_read (Write sent) = false
is_read (Memory sent) = false
