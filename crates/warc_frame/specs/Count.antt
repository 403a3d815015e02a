-- Counts that stay at the greatest number of 64 bits. This project's own notion.
use Rattle.std.specs.Prelude.{ℕ, ◌+◌, ◌-◌, ◌^◌, nat_lt, min, if◌then◌else◌}

-- one more, up to the greatest number of 64 bits
abbrev pub raised : ℕ → ℕ
raised n = if nat_lt (n + 1) (2 ^ 64) then n + 1 else n

-- a number, up to the greatest of 64 bits
abbrev pub capped : ℕ → ℕ
capped n = min n (2 ^ 64 - 1)
