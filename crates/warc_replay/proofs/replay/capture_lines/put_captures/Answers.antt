use Rattle.std.proofs.Common.{◌+◌, take_all, ◌∙◌}
use Rattle.std.proofs.lemmas.Result.{err_from_is_err_and}
use Rattle.warc_replay.proofs.CaptureLineLemmas.{puts_at, puts_both, puts_front, puts_nothing, puts_unkept, puts_whole}
use Rattle.warc_replay.proofs.KnownLemmas.{nothing_found}
use Rattle.warc_replay.proofs.replay.capture_lines.put_captures.Goals as goal

pub returns-in_default : goal.returns-in_default
returns-in_default g c = puts_unkept c.sent.result c.sent.ensures

pub listing-init : goal.listing-init
listing-init g c = record {
  puts = puts_nothing;
  right = λ bytes held is are known. nothing_found _ _ is.are.records c.in-Ok.ensures known;
  gaps_known = c.new-gaps.ensures c.args.lookup.now.parts;
}

pub listing-preserved : goal.listing-preserved
listing-preserved g c =
    let old = c.listing.invariant in
    record {
      puts = puts_at c.args.positions.now c.listing.position-index c.listing-test.true (puts_both old.puts c.in_ok-put_next.ensures.puts old.right);
      right = λ bytes held is are known. c.in_ok-put_next.ensures.remembers bytes (old.puts.keeps.kept ∙ held) is are (old.right bytes held is are known);
      gaps_known = c.in_ok-put_next.ensures.known;
    }

pub returns-in_err-put_next : goal.returns-in_err-put_next
returns-in_err-put_next g c =
    let p = err_from_is_err_and c.from_residual.result c.from_residual.ensures.1 in
    let old = c.listing.invariant in
    rw (p.1, p.2) (puts_front (c.listing.position-index + 1) (puts_at c.args.positions.now c.listing.position-index c.listing-test.true (puts_both old.puts c.in_err-put_next.ensures.puts old.right)))

pub returns : goal.returns
returns g c = puts_whole (take_all c.listing.position-index c.args.positions.now c.listing-test.false) c.listing.invariant.puts
