-- Sources and a sink that break, each as one value: this project's own notions, for its tests.
use Rattle.std.specs.Prelude.{ℕ, List}

-- the bytes held, how often and where they were read, how many reads come up to the failing one, and how often one
-- failed
pub record Read : Type 0 where
  pub bytes : List ℕ
  pub reads : ℕ
  pub asked : ℕ
  pub left : ℕ
  pub faults : ℕ

-- the bytes taken, and how often a write failed
pub record WriterState : Type 0 where
  pub bytes : List ℕ
  pub faults : ℕ

-- the bytes given at first and those given later, how often and where they were read, and how many reads come up to the
-- first one of the later bytes
pub record Changing : Type 0 where
  pub before : List ℕ
  pub after : List ℕ
  pub reads : ℕ
  pub asked : ℕ
  pub left : ℕ
