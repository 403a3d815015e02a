-- What reads give of the bytes that a source holds, and what writes add to those that a sink reports. This project's
-- own notion.
use Rattle.std.specs.Prelude.{◌≡◌, ℕ, ◌-◌, ◌<◌, ◌≤◌, List, length, take, drop, Bool, true, ◌==◌, ◌&&◌, nat_lt, Ok, Err}
use Rattle.std.specs.Prelude.{Result}

-- a read at an offset gave the first n bytes of the buffer: those that the source holds there, at
-- least one before the end where the buffer has room, and none from the end on
pub record Gives (bytes : List ℕ) (at : ℕ) (buf : List ℕ) (n : ℕ) : Type 0 where
  pub same : take n buf ≡ take n (drop at bytes)
  pub within : n ≤ length bytes - at
  pub some : at < length bytes → 0 < length buf → 0 < n

-- how many bytes a write took
abbrev pub taken : {E : Type 0} → Result ℕ E → ℕ
taken (Ok n) = n
taken (Err e) = 0

-- a write failed: it answered so, or took nothing of a piece that isn't empty
abbrev pub failed : {E : Type 0} → Result ℕ E → List ℕ → Bool
failed (Ok n) piece = (n == 0) && nat_lt 0 (length piece)
failed (Err e) piece = true

-- a source in memory: its bytes, the most that one read gives, how often it was read, and the
-- offset asked for last
pub record Stored : Type 0 where
  pub bytes : List ℕ
  pub most : ℕ
  pub reads : ℕ
  pub asked : ℕ

-- a source of lent bytes: these, how often it was read, and the offset asked for last
pub record Lent : Type 0 where
  pub bytes : List ℕ
  pub reads : ℕ
  pub asked : ℕ

-- a file, how often it was read, how often that failed, and the offset asked for last
pub record Opened (F : Type 0) : Type 0 where
  pub file : F
  pub reads : ℕ
  pub faults : ℕ
  pub asked : ℕ

-- a sink in memory: its bytes, the room left before the memory has to grow, and how often that failed
pub record Grown : Type 0 where
  pub bytes : List ℕ
  pub room : ℕ
  pub faults : ℕ

-- a writer, and how often a write to it failed
pub record Written (W : Type 0) : Type 0 where
  pub writer : W
  pub faults : ℕ

-- bytes that wait before a sink, and how many bytes it took
pub record Staged : Type 0 where
  pub bytes : List ℕ
  pub sent : ℕ
