use Rattle.std.proofs.Common.{◌≡◌, ℕ, ◌+◌, ◌-◌, ◌%◌, List, length, take, drop, refl, arith, ◌∙◌}
use Rattle.std.proofs.lemmas.List.{length-append, take_at, take_rest}
use Rattle.sha1.proofs.Absorbing.{total_append}
use Rattle.warc_lanes.proofs.OneLemmas.{more_of_text, put_in_buffer, put_rest}
use Rattle.warc_lanes.specs.Digests.{DigestHasTaken}
use Rattle.warc_lanes.proofs.one.OneDigest.update.Goals as goal

pub returns-then-used-piece-lt-BLOCK_LEN : goal.returns-then-used-piece-lt-BLOCK_LEN
unfolding DigestHasTaken
returns-then-used-piece-lt-BLOCK_LEN c taken held =
    let old = c.args.self.now in
    let piece : List ℕ = c.args.piece.now in
    let used : ℕ = c.used-used.result in
    let at : used ≡ length taken % 64 = omega (arith, c.used-used.ensures, held.len_is) in
    record {
      len_is = total_append old.len _ taken piece held.len_is refl;
      absorbed = put_in_buffer old.state old.buffer taken piece _ used _ held.absorbed (omega arith) at (omega arith) c.copy_from_slice.ensures.after;
      short = λ none. omega (arith, held.short none, length-append taken piece);
    }

pub returns : goal.returns
unfolding DigestHasTaken
returns c taken held =
    let old = c.args.self.now in
    let piece : List ℕ = c.args.piece.now in
    let start : ℕ = c.complete-start.result in
    let end : ℕ = start + c.whole_len.result in
    let at : c.used-used.result ≡ length taken % 64 = omega (arith, c.used-used.ensures, held.len_is) in
    let begun = c.complete-start.ensures.absorbed taken held.absorbed at in
    let rest : c.copy_from_slice-2.new.self ≡ drop end piece = c.copy_from_slice-2.ensures.after ∙ take_rest piece end in
    record {
      len_is = total_append old.len _ taken piece held.len_is c.complete-start.ensures.len;
      absorbed = put_rest _ _ taken piece c.copy_from_slice-2.new.self end
          (more_of_text _ taken piece (take (end - start) (drop start piece)) start end (omega arith) refl (c.compress_all.ensures _ begun))
          (omega arith) (omega arith) rest (take_at c.copy_from_slice-2.new.self _ (length c.copy_from_slice-2.new.self) refl);
      short = λ impossible. cc;
    }
