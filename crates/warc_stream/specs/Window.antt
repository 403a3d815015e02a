-- What a source that is read through a window keeps, and what it asks. This project's own notion.
use Rattle.std.specs.Prelude.{◌≡◌, ℕ, ◌+◌, ◌-◌, ◌<◌, ◌≤◌, ◌⊎◌, List, length, take, drop, min}
use Rattle.warc_frame.specs.Count.{raised}
use Rattle.warc_frame.specs.Seen.{SeenSource}

-- a source, the last piece that was read of it, the offset at which this begins, how many bytes a piece may have, how
-- often the window was read, and the offset asked for last
pub record Windowed (S : Type 0) : Type 0 where
  pub source : S
  pub piece : List ℕ
  pub from : ℕ
  pub room : ℕ
  pub reads : ℕ
  pub asked : ℕ

-- a piece that begins at an offset has the bytes that are there
pub record IsPieceOf (bytes : List ℕ) (from : ℕ) (piece : List ℕ) : Type 0 where
  pub same : piece ≡ take (length piece) (drop from bytes)
  pub within : length piece ≤ length bytes - from

-- a read at this offset begins in the piece
abbrev pub BeginsIn : {S : Type 0} → ℕ → Windowed S → Type 0
BeginsIn at w = (w.from ≤ at) × (at < w.from + length w.piece)

-- the front of a buffer is that of these bytes, as long as both allow
pub record IsCopiedFront (bytes old new : List ℕ) (count : ℕ) : Type 0 where
  pub count_is : count ≡ min (length bytes) (length old)
  pub same : take count new ≡ take count bytes

-- the source was read once, at this offset
pub record IsAskedOnce (at : ℕ) (old new : SeenSource) : Type 0 where
  pub counted : new.reads ≡ raised old.reads
  pub asked : new.asked ≡ at

-- it wasn't read, or once
abbrev pub IsAskedAtMostOnce : ℕ → SeenSource → SeenSource → Type 0
IsAskedAtMostOnce at old new = (new ≡ old) ⊎ IsAskedOnce at old new
