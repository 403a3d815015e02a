use Rattle.std.proofs.Common.{◌-◌, ◌≤◌, length, take}
use Rattle.std.specs.Io.KnownBytes.{Consumes}
use Rattle.warc_stream.proofs.stream.fill.Given as goal

-- the front of the buffer is what the reader gave
abbrev pub invariant-filling : goal.invariant-filling
invariant-filling g l = record {
  within : l.filled ≤ length l.buf;
  bytes : Consumes (g.R.Read.remaining l.fn.reader) (g.R.Read.remaining l.reader) (take l.filled l.buf);
}

abbrev pub decreases-filling : goal.decreases-filling
decreases-filling g l = length l.buf - l.filled
