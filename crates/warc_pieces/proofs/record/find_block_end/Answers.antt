use Rattle.std.proofs.Common.{◌≢◌, Ok, ap, inl, inr, refl, sym, subst, ◌∙◌, arith}
use Rattle.std.proofs.lemmas.Result.{err_from_is_err_and}
use Rattle.warc_frame.specs.Record.{max_archive}
use Rattle.warc_frame.specs.declared.fault.Fault.{Fault}
use Rattle.warc_frame.specs.declared.fault.FaultKind.{FaultKind}
use Rattle.warc_frame.specs.declared.fault.FaultKind.TheVariants.{Read}
use Rattle.warc_pieces.specs.Judging.{MissesBy}
use Rattle.warc_pieces.specs.Reads.{reads_beside}
use Rattle.warc_pieces.proofs.CloseLemmas.{closer, slack_by, slack_most, slack_none, misses_not_read, read_fault, room_for, seen_misses, unread_more}
use Rattle.warc_pieces.proofs.RecordLemmas.{slack}
use Rattle.warc_pieces.proofs.WindowLemmas.{read_then}
use Rattle.warc_pieces.proofs.record.find_block_end.Goals as goal

pub returns-then-not-is_cut-clause-misses : goal.returns-then-not-is_cut-clause-misses
returns-then-not-is_cut-clause-misses g c = λ bytes held shows there.
    let P : Fault → Type 0 = λ f. MissesBy f.kind c.args.at bytes f in
    subst P (sym c.at.ensures) (seen_misses bytes c.shown.result.now c.args.at c.reading.window c.in-Err.fault c.shown.ensures.shown c.reading.invariant.begin there (c.reading.invariant.shows bytes held shows there) c.in-Err.ensures.exact (inl (c.is_cut.ensures.other c.if-not-is_cut.true)))

pub returns-then-not-is_cut-clause-reads : goal.returns-then-not-is_cut-clause-reads
returns-then-not-is_cut-clause-reads g c =
    read_fault _ 1 c.at.result _ _ _ _ (subst (λ (f : Fault). f.kind ≢ Read) (sym c.at.ensures) (misses_not_read c.shown.result.now c.in-Err.fault c.in-Err.ensures.exact)) c.reading.invariant.reads (slack_most c.reading.window.is_last)

pub returns-then-not-is_cut-clause-asked : goal.returns-then-not-is_cut-clause-asked
returns-then-not-is_cut-clause-asked g c = λ read.
    absurd (misses_not_read c.shown.result.now c.in-Err.fault c.in-Err.ensures.exact (sym (ap (λ (f : Fault). f.kind) c.at.ensures) ∙ read))

pub returns-then-is_last-clause-misses : goal.returns-then-is_last-clause-misses
returns-then-is_last-clause-misses g c = λ bytes held shows there.
    let P : Fault → Type 0 = λ f. MissesBy f.kind c.args.at bytes f in
    subst P (sym c.at-then-is_last.ensures) (seen_misses bytes c.shown.result.now c.args.at c.reading.window c.in-Err.fault c.shown.ensures.shown c.reading.invariant.begin there (c.reading.invariant.shows bytes held shows there) c.in-Err.ensures.exact (inr (sym c.is_last.ensures ∙ c.if-is_last.true)))

pub more-requires-clause-room : goal.more-requires-clause-room
more-requires-clause-room g c = room_for c.shown.result.now c.args.at c.reading.window c.in-Err.fault c.shown.ensures.shown c.reading.invariant.begin c.in-Err.ensures.exact (c.is_cut.ensures.cut c.if-not-is_cut.false)

pub returns-in_err-more-clause-misses : goal.returns-in_err-more-clause-misses
returns-in_err-more-clause-misses g c = λ bytes held shows there.
    let P : FaultKind → Type 0 = λ k. MissesBy k c.args.at bytes c.in_err-more.field-0.0 in
    let p = err_from_is_err_and c.from_residual.result c.from_residual.ensures.1 in
    rw (p.1, p.2)
    (subst P (sym c.in_err-more.ensures.fault.0) (unread_more bytes c.shown.result.now c.args.at c.in_err-more.field-0.0.offset c.reading.window c.more.new.self c.in-Err.fault c.shown.ensures.shown c.reading.invariant.begin there (c.reading.invariant.shows bytes held shows there)
    c.in-Err.ensures.exact (c.is_cut.ensures.cut c.if-not-is_cut.false) c.in_err-more.ensures.fault.1 c.in_err-more.ensures.fault.2))

pub reading-preserved : goal.reading-preserved
reading-preserved g c = record {
  begin = omega (arith, c.in_ok-more.ensures.begin);
  shows = λ bytes held shows there. c.in_ok-more.ensures.shows bytes (c.reading.invariant.reads.kept ∙ held) (c.reading.invariant.shows bytes held shows there) there;
  reads =
      read_then (slack c.reading.window.is_last) (reads_beside (Ok c.in_ok-more.field-0)) (slack c.more.new.self.is_last) tt (Ok c.in_ok-more.field-0) (Ok tt) _ _ _ _ _ _ c.reading.invariant.reads c.in_ok-more.ensures.reads
      (omega (arith, slack_none c.reading.window.is_last (sym c.is_last.ensures ∙ c.if-is_last.false), slack_by c.reading.window c.more.new.self c.args.at c.in_ok-more.field-0 c.in_ok-more.ensures.goes_on)) (λ n. refl);
}

pub reading-smaller : goal.reading-smaller
reading-smaller g c = closer max_archive c.reading.window c.more.new.self c.args.at c.in_ok-more.field-0 c.in_ok-more.ensures.goes_on (sym c.is_last.ensures ∙ c.if-is_last.false) c.in_ok-more.ensures.far.1 c.in_ok-more.ensures.limit
