use Rattle.std.proofs.Common.{◌≡◌, ℕ, ◌+◌, ◌-◌, ◌^◌, List, ◌++◌, length}
use Rattle.warc_frame.specs.Decoding.{IsAt}
use Rattle.warc_frame.specs.Reported.{Reported}
use Rattle.warc_reading.specs.Stream.{Extends, Follows, HasGivenFrom, IsKeptOf, Since, IsReadSoFar}
use Rattle.warc_reading.proofs.stream.read_through.Given as goal

-- some bytes were read after those of the records that were kept
abbrev pub invariant-reading : goal.invariant-reading
invariant-reading g l = record {
  taken : List ℕ;
  reported : Reported;
  is_at : IsAt l.fn.reading.begin taken reported l.decoder;
  is_present : (bytes : List ℕ) (is : IsKeptOf g.L.Keep.keeps bytes (l.fn.reading.rows, l.fn.reading.beside)) → IsReadSoFar g.L.Block.TakeBlock.has_seen (Since g.L.Keep.keeps is.listed.are.records) (bytes ++ taken) l.decoder l.reading;
  rows : Extends l.fn.reading.rows l.reading.rows;
  given : HasGivenFrom l.fn.reading.begin
      (g.S.Source.seen l.fn.source)
      (g.S.Source.seen l.source)
      taken;
  follows : Follows l.fn.reading.begin taken (g.S.Source.seen l.fn.source) (g.S.Source.seen l.source);
  room : length l.buf ≡ length l.fn.buf;
}

abbrev pub decreases-reading : goal.decreases-reading
decreases-reading g l = 2 ^ 48 + 1 - l.decoder.position
