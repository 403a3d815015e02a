use Rattle.std.proofs.Common.{rules, ◌≡◌, ℕ, ◌≤◌, List, ◌++◌, length, take, inl, inr, refl, sym, ap, ◌∙◌, arith, length-append}
use Rattle.std.proofs.lemmas.Result.{err_from_is_err_and}
use Rattle.std.proofs.lemmas.List.{length-map}
use Rattle.warc_frame.specs.Record.{max_archive}
use Rattle.warc_frame.specs.Reported.{report}
use Rattle.warc_frame.specs.declared.fault.FaultKind.TheVariants.{Memory, Read}
use Rattle.warc_reading.specs.Row.{row_of}
use Rattle.warc_reading.proofs.FrontLemmas.{memory_stops_at, step_stops}
use Rattle.warc_reading.proofs.GrowLemmas.{extends_none, extends_same, left_by, since_left, since_more}
use Rattle.warc_reading.proofs.OpeningLemmas.{step_wants}
use Rattle.warc_reading.proofs.RefusalLemmas.{head_not_read, refuses_not_read, step_refused}
use Rattle.warc_reading.proofs.StepLemmas.{end_is_present, head_is_present, err_then, head_front, head_stops, memory_stops, more_is_present, ok_then, part_is_present}
use Rattle.warc_reading.proofs.stream.take_event.Goals as goal
use Rattle.warc_reading.proofs.stream.take_event.Goals.{in-More, in-Head, in-Part, in-End+in-Ok, in-End+in-Err}

pub returns-in_err-took : goal.returns-in_err-took
returns-in_err-took g c = record {
  history =
      let p = err_from_is_err_and c.from_residual.result c.from_residual.ensures.1 in
      rw (p.1, p.2) (λ was text is_present.
      step_refused text c.args.piece.now is_present.reported c.args.reading.now c.in_err-took.field-0.0 is_present.has (c.in_err-took.ensures.history 0 text is_present.reported is_present.is_at));
  begins =
      let p = err_from_is_err_and c.from_residual.result c.from_residual.ensures.1 in
      rw (p.1, p.2) (λ was text is_present.
      step_wants text c.args.piece.now is_present.reported c.args.reading.now c.in_err-took.field-0.0 is_present.has c.requires (c.in_err-took.ensures.history 0 text is_present.reported is_present.is_at));
  left =
      let p = err_from_is_err_and c.from_residual.result c.from_residual.ensures.1 in
      rw p.1 (λ was text is_present. since_left g.L.Keep.keeps was c.args.reading.now.beside is_present.has.records is_present.has.beside);
  stops =
      let p = err_from_is_err_and c.from_residual.result c.from_residual.ensures.1 in
      rw (p.1, p.2) (λ was text is_present.
      let (at, lies) = c.position-begin.ensures.history 0 text is_present.reported is_present.is_at in
      step_stops text is_present.reported c.args.reading.now is_present.has c.args.reading.now.rows refl (omega (arith, at, c.position-begin.ensures.limit)) c.args.piece.now c.in_err-took.field-0.0 (c.in_err-took.ensures.history 0 text is_present.reported is_present.is_at));
  rows = extends_none c.args.reading.now.rows;
  taken =
      let p = err_from_is_err_and c.from_residual.result c.from_residual.ensures.1 in
      rw (p.1, p.2) (λ at taken reported is. refuses_not_read at (taken ++ c.args.piece.now) reported c.in_err-took.field-0.0 (c.in_err-took.ensures.history at taken reported is));
  within = search rules;
}

pub returns-in-Ok-kept : goal.returns-in-Ok-kept
returns-in-Ok-kept g c = record {
  history = λ was text is_present.
      let takes = c.in_ok-took.ensures.history 0 text is_present.reported is_present.is_at in
      let piece : List ℕ = c.args.piece.now in
      let took : ℕ = c.in_ok-took.took in
      let old = c.args.reading.now in
      let new = c.match-event.reading in
      let at = (c.position-position.ensures.history 0 (text ++ take took piece) _ takes.is_at).0 in
      let here : c.position-position.result ≡ length (text ++ take took piece) = omega (arith, at) in
      elim c.match-event.branch [
        | in-More w ↦ more_is_present text piece is_present.reported c.step.new.self took c.in_ok-took.event takes old new is_present.has w.in-More.is w.reading-is
        | in-Head w ↦
            let (k, current, of, seen, start, len) = ok_then w.begin_block-kept.result c.in-Ok-kept.field-0 w.begin_block-kept.ensures.current (sym w.kept-is ∙ c.in-Ok-kept.is) in
            head_is_present text piece is_present.reported c.step.new.self took c.in_ok-took.event takes old new is_present.has w.in-Head.field-0 w.in-Head.fields w.in-Head.block_len k w.in-Head.is
            (ap (λ r. r.rows) w.reading-is ∙ w.begin_block-kept.ensures.rows) (ap (λ r. r.beside) w.reading-is ∙ w.begin_block-kept.ensures.beside) (ap (λ r. r.begin) w.reading-is ∙ w.begin_block-kept.ensures.begin)
            (ap (λ r. r.current) w.reading-is ∙ current) of seen (start ∙ here) len
        | in-Part w ↦
            part_is_present text piece is_present.reported c.step.new.self took c.in_ok-took.event takes old new is_present.has w.in-Part.from w.in-Part.to w.in-Part.is
            (ap (λ r. r.rows) w.reading-is ∙ w.take_part.ensures.rows) (ap (λ r. r.beside) w.reading-is ∙ w.take_part.ensures.beside) (ap (λ r. r.begin) w.reading-is ∙ w.take_part.ensures.begin)
            (λ k is. let (e, now, typed, start, len, seen) = w.take_part.ensures.current k is in (e, ap (λ r. r.current) w.reading-is ∙ now, typed, start, len, seen))
        | in-End+in-Ok w ↦
            end_is_present text piece is_present.reported c.step.new.self took c.in_ok-took.event takes old new is_present.has w.in-End.is
            (ap (λ r. r.begin) w.reading-is ∙ w.in-Ok.ensures.begin ∙ here) (ap (λ r. r.current) w.reading-is ∙ w.end_record.ensures.current)
            (λ k is. ap (λ r. r.rows) w.reading-is ∙ w.in-Ok.ensures.row k is)
            (λ k records p is kept size next seen. since_more g.L.Keep.keeps was old.beside new.beside records p kept (rw w.reading-is (w.in-Ok.ensures.beside k records p is kept.0 size next seen)))
        | in-End+in-Err w ↦ cc (sym c.in-Ok-kept.is ∙ w.kept-is)
      ];
  begins = λ was text is_present.
      let takes = c.in_ok-took.ensures.history 0 text is_present.reported is_present.is_at in
      let part : List ℕ = take c.in_ok-took.took c.args.piece.now in
      let at = (c.position-position.ensures.history 0 (text ++ part) _ takes.is_at).0 in
      elim c.match-event.branch [
        | in-More w ↦ inl (ap (λ r. r.begin) w.reading-is)
        | in-Head w ↦ inl (ap (λ r. r.begin) w.reading-is ∙ w.begin_block-kept.ensures.begin)
        | in-Part w ↦ inl (ap (λ r. r.begin) w.reading-is ∙ w.take_part.ensures.begin)
        | in-End+in-Ok w ↦ inr (omega (arith, at, ap (λ r. r.begin) w.reading-is ∙ w.in-Ok.ensures.begin, length-append text part))
        | in-End+in-Err w ↦ cc (sym c.in-Ok-kept.is ∙ w.kept-is)
      ];
  left = search rules;
  stops = search rules;
  rows =
      let old = c.args.reading.now in
      let new = c.match-event.reading in
      elim c.match-event.branch [
        | in-More w ↦ extends_same old.rows new.rows (ap (λ r. r.rows) w.reading-is)
        | in-Head w ↦ extends_same old.rows new.rows (ap (λ r. r.rows) w.reading-is ∙ w.begin_block-kept.ensures.rows)
        | in-Part w ↦ extends_same old.rows new.rows (ap (λ r. r.rows) w.reading-is ∙ w.take_part.ensures.rows)
        | in-End+in-Ok w ↦ rw w.reading-is w.end_record.ensures.extends
        | in-End+in-Err w ↦ rw w.reading-is w.end_record.ensures.extends
      ];
  taken = λ at taken reported is.
      (report reported c.args.piece.now c.in_ok-took.event, (c.in_ok-took.ensures.history at taken reported is).is_at);
  within = search rules;
}

pub returns-in-Err-kept : goal.returns-in-Err-kept
returns-in-Err-kept g c = record {
  history = λ was text is_present.
      let takes = c.in_ok-took.ensures.history 0 text is_present.reported is_present.is_at in
      let piece : List ℕ = c.args.piece.now in
      let took : ℕ = c.in_ok-took.took in
      let old = c.args.reading.now in
      let new = c.match-event.reading in
      let at = (c.position-position.ensures.history 0 (text ++ take took piece) _ takes.is_at).0 in
      let here : c.position-position.result ≡ length (text ++ take took piece) = omega (arith, at) in
      rw c.at.ensures (elim c.match-event.branch [
        | in-More w ↦ cc (sym c.in-Err-kept.is ∙ w.kept-is)
        | in-Head w ↦
            head_stops text piece is_present.reported c.step.new.self took c.in_ok-took.event takes old new is_present.has w.in-Head.field-0 w.in-Head.fields w.in-Head.block_len c.in-Err-kept.kind w.in-Head.is
            (err_then _ w.begin_block-kept.result c.in-Err-kept.kind w.begin_block-kept.ensures.fault (sym w.kept-is ∙ c.in-Err-kept.is)) (omega (arith, here, c.position-position.ensures.limit))
        | in-Part w ↦ cc (sym c.in-Err-kept.is ∙ w.kept-is)
        | in-End+in-Ok w ↦ cc (sym c.in-Err-kept.is ∙ w.kept-is)
        | in-End+in-Err w ↦
            memory_stops text piece is_present.reported old is_present.has c.in-Err-kept.kind (cc (sym c.in-Err-kept.is ∙ w.kept-is))
      ]);
  begins = λ was text is_present.
      rw c.at.ensures (λ memory. (
        inl refl,
        omega (arith, c.requires, is_present.has.begin_is, ap length is_present.has.text_is, length-append is_present.has.front is_present.has.rest, length-append text c.args.piece.now),
      ));
  left = λ was text is_present.
      let records = is_present.has.records in
      let old = c.args.reading.now in
      let new = c.match-event.reading in
      elim c.match-event.branch [
        | in-More w ↦ cc (sym c.in-Err-kept.is ∙ w.kept-is)
        | in-Head w ↦
            left_by g.L.Keep.keeps was old.beside new.beside records is_present.has.beside (rw (ap (λ r. r.beside) w.reading-is ∙ w.begin_block-kept.ensures.beside) is_present.has.beside.0)
        | in-Part w ↦ cc (sym c.in-Err-kept.is ∙ w.kept-is)
        | in-End+in-Ok w ↦ cc (sym c.in-Err-kept.is ∙ w.kept-is)
        | in-End+in-Err w ↦
            left_by g.L.Keep.keeps was old.beside new.beside records is_present.has.beside (rw w.reading-is (w.in-Err.ensures.left records is_present.has.beside.0 (ap length is_present.has.rows_are ∙ length-map records row_of)))
      ];
  stops = λ was text is_present.
      let takes = c.in_ok-took.ensures.history 0 text is_present.reported is_present.is_at in
      let piece : List ℕ = c.args.piece.now in
      let took : ℕ = c.in_ok-took.took in
      let old = c.args.reading.now in
      let new = c.match-event.reading in
      let at = (c.position-position.ensures.history 0 (text ++ take took piece) _ takes.is_at).0 in
      let here : c.position-position.result ≡ length (text ++ take took piece) = omega (arith, at) in
      let first = (c.position-begin.ensures.history 0 text is_present.reported is_present.is_at).0 in
      let low : length text ≤ max_archive = omega (arith, first, c.position-begin.ensures.limit) in
      rw c.at.ensures (elim c.match-event.branch [
        | in-More w ↦ cc (sym c.in-Err-kept.is ∙ w.kept-is)
        | in-Head w ↦
            head_front text piece is_present.reported c.step.new.self took c.in_ok-took.event takes old new is_present.has w.in-Head.field-0 w.in-Head.fields w.in-Head.block_len c.in-Err-kept.kind new.rows w.in-Head.is
            (err_then _ w.begin_block-kept.result c.in-Err-kept.kind w.begin_block-kept.ensures.fault (sym w.kept-is ∙ c.in-Err-kept.is)) (omega (arith, here, c.position-position.ensures.limit))
            (ap (λ r. r.rows) w.reading-is ∙ w.begin_block-kept.ensures.rows) low
        | in-Part w ↦ cc (sym c.in-Err-kept.is ∙ w.kept-is)
        | in-End+in-Ok w ↦ cc (sym c.in-Err-kept.is ∙ w.kept-is)
        | in-End+in-Err w ↦
            memory_stops_at text is_present.reported old is_present.has new.rows (ap (λ r. r.rows) w.reading-is ∙ w.in-Err.ensures.untouched) low piece c.in-Err-kept.kind (cc (sym c.in-Err-kept.is ∙ w.kept-is))
      ]);
  rows =
      let old = c.args.reading.now in
      let new = c.match-event.reading in
      elim c.match-event.branch [
        | in-More w ↦ extends_same old.rows new.rows (ap (λ r. r.rows) w.reading-is)
        | in-Head w ↦ extends_same old.rows new.rows (ap (λ r. r.rows) w.reading-is ∙ w.begin_block-kept.ensures.rows)
        | in-Part w ↦ extends_same old.rows new.rows (ap (λ r. r.rows) w.reading-is ∙ w.take_part.ensures.rows)
        | in-End+in-Ok w ↦ rw w.reading-is w.end_record.ensures.extends
        | in-End+in-Err w ↦ rw w.reading-is w.end_record.ensures.extends
      ];
  taken = λ at taken reported is.
      rw c.at.ensures (elim c.match-event.branch [
        | in-More w ↦ cc (sym c.in-Err-kept.is ∙ w.kept-is)
        | in-Head w ↦
            head_not_read w.in-Head.fields c.in-Err-kept.kind (err_then _ w.begin_block-kept.result c.in-Err-kept.kind w.begin_block-kept.ensures.fault (sym w.kept-is ∙ c.in-Err-kept.is))
        | in-Part w ↦ cc (sym c.in-Err-kept.is ∙ w.kept-is)
        | in-End+in-Ok w ↦ cc (sym c.in-Err-kept.is ∙ w.kept-is)
        | in-End+in-Err w ↦ λ read.
            let memory : c.in-Err-kept.kind ≡ Memory = cc (sym c.in-Err-kept.is ∙ w.kept-is) in
            let no : Memory ≡ Read = sym memory ∙ read in
            cc no
      ]);
  within = search rules;
}
