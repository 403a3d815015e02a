use Rattle.std.proofs.Common.{◌≡◌, ◌+◌, ◌++◌, List, ℕ, length, length-take, take, drop, sym, ap, subst, ◌∙◌, arith, append_assoc}
use Rattle.std.proofs.Math.Seq.{take-add}
use Rattle.std.proofs.lemmas.List.{drop-drop}
use Rattle.warc_digest.proofs.RangeLemmas.{reads_more}
use Rattle.warc_digest.proofs.take_range.Goals as goal

pub digesting-preserved : goal.digesting-preserved
digesting-preserved g c =
    let at = c.args.at in
    let done = c.digesting.done in
    let n = c.min-want.result in
    let size : length (take n c.digesting.scratch) ≡ n = omega (arith, length-take n c.digesting.scratch, c.min-want.ensures) in
    record {
      within = omega (arith, c.min-want.ensures, c.digesting-test.true);
      taken = λ bytes held of before has.
          let text = drop at bytes in
          let piece : c.read_range.new.buf ≡ take n (drop (at + done) bytes) =
          c.in_ok-read_range.ensures.bytes bytes (c.digesting.invariant.reads.kept ∙ held) ∙ ap (λ k. take k (drop (at + done) bytes)) size in
          let whole : take done text ++ c.read_range.new.buf ≡ take (done + n) text =
          ap (λ l. take done text ++ l) (piece ∙ ap (take n) (sym (drop-drop done at bytes))) ∙ sym (take-add done n text) in
          let P : List ℕ → Type 0 = λ l. g.T.TakePieces.has_taken c.take_piece.new.self of l in
          let together : (before ++ take done text) ++ c.read_range.new.buf ≡ before ++ take (done + n) text =
          append_assoc before (take done text) c.read_range.new.buf ∙ ap (λ l. before ++ l) whole in
          subst P together (c.take_piece.ensures of (before ++ take done text) (c.digesting.invariant.taken bytes held of before has));
      reads = reads_more at done n _ size c.digesting.invariant.reads c.in_ok-read_range.ensures.reads;
      sound = c.in_ok-read_range.ensures.fails.may ∙ c.digesting.invariant.sound;
    }
