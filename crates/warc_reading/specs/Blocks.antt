-- What is known of a block whose bytes came.
use Rattle.std.specs.Prelude.{ℕ, List}
use Rattle.warc_field.specs.Area.{Pair}
use Rattle.warc_fixity.specs.Judged.{JudgeHasTaken, wanted_stated}
use Rattle.warc_record.specs.Readings.{digest_wanted}
use Rattle.warc_reading.specs.declared.block.BlockDigest.{BlockDigest}

-- it is for the digest that a head with these fields asks for, and has taken these bytes of its block
abbrev pub HasSeen : BlockDigest → List Pair → List ℕ → Type 0
HasSeen block fields bytes = JudgeHasTaken block.judge (wanted_stated (digest_wanted fields)) bytes
