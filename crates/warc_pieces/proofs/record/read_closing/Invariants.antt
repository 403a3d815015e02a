use Rattle.std.proofs.Common.{◌≡◌, ◌≤◌, ◌<◌, ◌+◌, ◌-◌, ◌++◌, length, take, drop, true, false}
use Rattle.warc_field.specs.Lines.{crlf}
use Rattle.warc_frame.specs.Reading.{begins}
use Rattle.warc_frame.specs.Record.{max_archive}
use Rattle.warc_frame.specs.Seen.{IfHeld}
use Rattle.warc_pieces.specs.Pieces.{near}
use Rattle.warc_pieces.specs.Reads.{ReadsNear}
use Rattle.warc_pieces.proofs.record.read_closing.Given as goal

-- the front of the buffer has the bytes so far, which are as wanted, and no read has failed
abbrev pub invariant-filling : goal.invariant-filling
invariant-filling g l = record {
  within : l.filled ≤ length l.buf;
  limit : 0 < l.filled → l.at + l.filled ≤ max_archive;
  bytes : IfHeld (g.S.Source.seen l.fn.source).holds (λ bytes. take l.filled l.buf ≡ take l.filled (drop l.at (near bytes)));
  begins_as : begins (take l.filled l.buf) (crlf ++ crlf) ≡ true;
  reads : ReadsNear l.filled false (g.S.Source.seen l.fn.source) (g.S.Source.seen l.source);
}

abbrev pub decreases-filling : goal.decreases-filling
decreases-filling g l = length l.buf - l.filled
