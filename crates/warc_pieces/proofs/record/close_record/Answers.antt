use Rattle.std.proofs.Common.{◌≢◌, ◌≤◌, ◌+◌, length, inl, inr, refl, sym, ap, subst, ◌∙◌, arith}
use Rattle.warc_frame.specs.declared.fault.Fault.{Fault}
use Rattle.warc_frame.specs.declared.fault.FaultKind.TheVariants.{Read}
use Rattle.warc_pieces.specs.Judging.{MissesBy}
use Rattle.warc_pieces.specs.Pieces.{near}
use Rattle.warc_pieces.proofs.CloseLemmas.{fault_beyond, fault_close, good_beyond, good_close, no_read}
use Rattle.warc_pieces.proofs.RecordLemmas.{closed_fault_kind, shown_within}
use Rattle.warc_pieces.proofs.record.close_record.Goals as goal

pub returns-in-Ok-clause-judges : goal.returns-in-Ok-clause-judges
returns-in-Ok-clause-judges g c = λ bytes held shows there.
    good_close bytes c.shown-shown.result.now c.args.at c.args.end c.args.window.now c.shown-shown.ensures.shown c.requires.head c.requires.begin there shows c.in-Ok.ensures.exact

pub returns-then-not-is_cut-clause-judges : goal.returns-then-not-is_cut-clause-judges
returns-then-not-is_cut-clause-judges g c = λ bytes held shows there.
    let P : Fault → Type 0 = λ f. MissesBy f.kind c.args.at bytes f in
    subst P (sym c.at.ensures) (fault_close bytes c.shown-shown.result.now c.args.at c.args.end c.args.window.now c.in-Err.fault c.shown-shown.ensures.shown c.requires.head c.requires.begin there shows c.in-Err.ensures.exact (inl (c.is_cut.ensures.other c.if-not-is_cut.true)))

pub returns-then-not-is_cut-clause-reads : goal.returns-then-not-is_cut-clause-reads
returns-then-not-is_cut-clause-reads g c =
    no_read 52 c.at.result _ (subst (λ (f : Fault). f.kind ≢ Read) (sym c.at.ensures) (closed_fault_kind c.args.end c.shown-shown.result.now c.in-Err.fault c.in-Err.ensures.exact).0)

pub returns-then-not-is_cut-clause-asked : goal.returns-then-not-is_cut-clause-asked
returns-then-not-is_cut-clause-asked g c = λ read.
    absurd ((closed_fault_kind c.args.end c.shown-shown.result.now c.in-Err.fault c.in-Err.ensures.exact).0 (sym (ap (λ (f : Fault). f.kind) c.at.ensures) ∙ read))

pub returns-then-is_last-clause-judges : goal.returns-then-is_last-clause-judges
returns-then-is_last-clause-judges g c = λ bytes held shows there.
    let P : Fault → Type 0 = λ f. MissesBy f.kind c.args.at bytes f in
    subst P (sym c.at-then-is_last.ensures) (fault_close bytes c.shown-shown.result.now c.args.at c.args.end c.args.window.now c.in-Err.fault c.shown-shown.ensures.shown c.requires.head c.requires.begin there shows c.in-Err.ensures.exact (inr (sym c.is_last.ensures ∙ c.if-is_last.true)))

pub returns-in-Ok-check_end_beyond-clause-judges : goal.returns-in-Ok-check_end_beyond-clause-judges
returns-in-Ok-check_end_beyond-clause-judges g c = λ bytes held shows there.
    let within : c.args.at + length c.shown-shown.result.now ≤ length (near bytes) = omega (arith, ap length c.shown-shown.ensures.shown, shown_within bytes c.args.at c.args.window.now c.requires.begin there shows) in
    good_beyond bytes c.args.at c.args.end c.args.window.now c.requires.head c.requires.begin there shows (c.in-Ok-check_end_beyond.ensures.closes bytes held within)

pub returns-in-Err-check_end_beyond-clause-judges : goal.returns-in-Err-check_end_beyond-clause-judges
returns-in-Err-check_end_beyond-clause-judges g c = λ bytes held shows there.
    let within : c.args.at + length c.shown-shown.result.now ≤ length (near bytes) = omega (arith, ap length c.shown-shown.ensures.shown, shown_within bytes c.args.at c.args.window.now c.requires.begin there shows) in
    fault_beyond bytes c.shown-shown.result.now c.args.at c.args.end (c.args.at + length c.shown-shown.result.now) c.args.window.now c.in-Err.fault c.in-Err-check_end_beyond.fault c.shown-shown.ensures.shown c.requires.head c.requires.begin there shows
    c.in-Err.ensures.exact (c.is_cut.ensures.cut c.if-not-is_cut.false) refl (c.in-Err-check_end_beyond.ensures.closes bytes held within)
