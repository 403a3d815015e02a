use Rattle.std.proofs.Common.{◌+◌, ◌-◌, ◌≤◌, ◌<◌, ◌&&◌, length, slice_range, ap, sym, ◌∙◌, arith}
use Rattle.std.proofs.lemmas.Bool.{le-leb, lt-leb}
use Rattle.warc_pieces.specs.Reads.{from_on}
use Rattle.warc_pieces.proofs.WindowLemmas.{part_from, part_len, part_past, same_shown}
use Rattle.warc_pieces.proofs.window.Window.go_to.Goals as goal
use Rattle.warc_pieces.proofs.window.Window.go_to.Goals.{then-skip-self, else-skip-self}

pub returns : goal.returns
returns g c =
    let w = c.self.inside in
    let k = c.args.at - w.begin in
    let size = part_len w.buf.items w.start w.end c.self.invariant.within in
    elim c.if-skip-self.branch [
      | then-skip-self b ↦
          let fits : k ≤ w.end - w.start = b.if-skip-self.true in
          let reach : c.args.at ≤ w.begin + length (slice_range w.buf.items w.start w.end) = omega (arith, fits, size) in
          rw b.self-inside-is (same_shown _ _ c.args.at _ _ (part_from w.buf.items w.start w.end k fits) (sym (ap (λ t. t && w.is_last) (le-leb _ _ reach))) ∙ ap (from_on c.args.at) c.self.view_is)
      | else-skip-self b ↦
          let past : w.end - w.start < k = b.if-skip-self.false in
          let reach : w.begin + length (slice_range w.buf.items w.start w.end) < c.args.at = omega (arith, past, size) in
          rw b.self-inside-is (same_shown _ _ c.args.at _ _ (part_past w.buf.items w.start w.end k c.self.invariant.within past) (sym (ap (λ t. t && w.is_last) (lt-leb _ _ reach))) ∙ ap (from_on c.args.at) c.self.view_is)
    ]
