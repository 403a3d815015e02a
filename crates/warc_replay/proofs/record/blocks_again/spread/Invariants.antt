use Rattle.std.proofs.Common.{List}
use Rattle.warc_reading.specs.Archive.{contents}
use Rattle.warc_reading.specs.Row.{Placed}
use Rattle.warc_replay.specs.BlocksAgain.{AreBlocksAt}
use Rattle.warc_replay.specs.Capturing.{AreKnownBlocks}
use Rattle.warc_replay.proofs.record.blocks_again.spread.Given as goal

-- what is known so far is right
abbrev pub invariant-spreading : goal.invariant-spreading
invariant-spreading g l = record {
  right : (records : List Placed) → AreBlocksAt (contents records) l.positions l.found → AreKnownBlocks l.all records;
}
