-- When bytes may be those that an archive has become. This project's own notion.
use Rattle.std.specs.Prelude.{◌≡◌, ◌≢◌, ◌⊎◌, ℕ, ◌-◌, Bool, true, false, not, ◌&&◌, nat_lt, min, List, [], length, slice_get, slice_range, Option, Some, None}
use Rattle.std.specs.Str.{bytes_eq}
use Rattle.warc_frame.specs.declared.fault.Fault.{Fault}
use Rattle.warc_frame.specs.declared.fault.FaultKind.TheVariants.{Read}
use Rattle.warc_reading.specs.Row.{Row}
use Rattle.warc_lent.specs.declared.problem.Problem.{Problem}
use Rattle.warc_lent.specs.declared.problem.Problem.TheVariants as problems

-- where a record's head begins and ends
abbrev pub head_range : Option Row → ℕ × ℕ
head_range (Some row) = (row.offset, row.block_start)
head_range None = (0, 0)

-- where the last record's head begins and ends
abbrev pub last_head : List Row → ℕ × ℕ
last_head rows = head_range (slice_get rows (length rows - 1))

-- the bytes from an offset to another, as far as there are any
abbrev pub part : ℕ → ℕ → List ℕ → List ℕ
part from to text = slice_range text (min (min (length text) to) from) (min (length text) to)

-- the new bytes aren't fewer, and have the head of the last record where it was
abbrev pub begins_alike : List Row → List ℕ → List ℕ → Bool
begins_alike rows old new =
    not (nat_lt (length new) (length old))
    && bytes_eq (part (last_head rows).0 (last_head rows).1 old) (part (last_head rows).0 (last_head rows).1 new)

-- why an archive doesn't grow: the bytes are others, or they are refused, and not since a read failed
abbrev pub IsNoGrowth : Problem → Type 0
IsNoGrowth problem =
    (problem ≡ problems.Changed) ⊎ ((fault : Fault) × (problem ≡ problems.Fault fault) × (fault.kind ≢ Read))

-- why an archive of these rows doesn't grow, as `IsNoGrowth`: bytes are others exactly if they don't begin alike
abbrev pub IsUngrown : List Row → List ℕ → List ℕ → Problem → Type 0
IsUngrown rows old new problem =
    ((problem ≡ problems.Changed) × (begins_alike rows old new ≡ false))
    ⊎ ((fault : Fault) × (problem ≡ problems.Fault fault) × (fault.kind ≢ Read) × (begins_alike rows old new ≡ true))
