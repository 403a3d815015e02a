use Rattle.std.proofs.Common.{◌≤◌, Ok, refl, sym, subst, ◌∙◌, arith}
use Rattle.warc_frame.specs.declared.fault.Fault.{Fault}
use Rattle.warc_pieces.specs.Judging.{MissesBy}
use Rattle.warc_pieces.proofs.ReadsLemmas.{reads_as, reads_then}
use Rattle.warc_pieces.proofs.RunLemmas.{read_cut}
use Rattle.warc_pieces.proofs.run.read_one.Goals as goal

pub returns-then-eq-clause-judges : goal.returns-then-eq-clause-judges
returns-then-eq-clause-judges g c = λ bytes held shows low.
    let found = c.in_ok-len.ensures.judges bytes held shows low in
    let ends = c.in-Err.ensures.fault in
    let P : Fault → Type 0 = λ f. MissesBy f.kind c.args.at bytes f in
    let after : c.args.at ≤ c.in-Err.fault.offset = omega (arith, c.in_ok-len.ensures.shown, c.pass_over.ensures.further, ends.0) in
    let unread = read_cut c.args.at bytes found.1.0 c.in_ok-len.len c.in-Err.fault.offset low found.1.1 after (omega (arith, ends.1, c.in_ok-len.ensures.some)) in
    (c.pass_over.ensures.shows bytes (c.in_ok-len.ensures.reads.kept ∙ held) found.0, subst P (sym c.at.ensures) unread)

pub returns-in-Ok-clause-reads : goal.returns-in-Ok-clause-reads
returns-in-Ok-clause-reads g c =
    reads_as 54 54 (Ok c.in-Ok.field-0) (Ok c.in_ok-len.len) _ _ _ _ (omega arith) refl
    (reads_then 53 1 (Ok c.in_ok-len.len) (Ok c.in-Ok.field-0) _ _ _ _ _ _ refl c.in_ok-len.ensures.reads c.in-Ok.ensures.reads)
