use Rattle.std.proofs.Common.{◌≡◌, ℕ, ◌+◌, ◌≤◌, List, [], ◌∷◌, ◌++◌, length, take, inl, inr, refl, sym, ap, subst, ◌∙◌, arith, length-append}
use Rattle.std.proofs.lemmas.List.{length-map, length-take-le}
use Rattle.warc_frame.specs.Decoding.{IsAt}
use Rattle.warc_frame.specs.Record.{max_archive}
use Rattle.warc_frame.specs.Reported.{nothing}
use Rattle.warc_frame.specs.declared.fault.FaultKind.TheVariants.{Memory, Read}
use Rattle.warc_reading.specs.Row.{row_of}
use Rattle.warc_reading.specs.Stream.{Since, plain_row}
use Rattle.warc_reading.proofs.FrontLemmas.{memory_stops_at}
use Rattle.warc_reading.proofs.GrowLemmas.{extends_same, left_by, since_more}
use Rattle.warc_reading.proofs.PlainLemmas.{next_at, next_plain, placed_at, plain_is_present, pushed, unpushed}
use Rattle.warc_reading.proofs.StepLemmas.{memory_stops}
use Rattle.warc_reading.proofs.stream.take_plain.Goals as goal

pub keep_plain-kept-requires-clause-next : goal.keep_plain-kept-requires-clause-next
keep_plain-kept-requires-clause-next g c =
    let found = c.args.found.now in
    let begin : ℕ = c.position-begin.result in
    (placed_at begin found.head.len c.requires.found.content, next_plain begin c.args.piece.now found c.requires.found (begin + found.head.len) refl)

pub returns-then-is_err : goal.returns-then-is_err
returns-then-is_err g c =
    let old = c.args.reading.now in
    let now = c.keep_plain-kept.new.self in
    let piece : List ℕ = c.args.piece.now in
    let is = c.requires.found in
    let bad = sym c.is_err.ensures.value ∙ c.if-is_err.true in
    let same : now.rows ≡ old.rows = unpushed c.keep_plain-kept.result bad c.keep_plain-kept.ensures.untouched in
    let begin : now.begin ≡ old.begin = c.keep_plain-kept.ensures.begin in
    record {
      history = λ was text is_present. rw (c.at.ensures, begin) (memory_stops text piece is_present.reported old is_present.has Memory refl);
      begins = λ was text is_present.
          rw (c.at.ensures, begin) (λ memory. (
            inl refl,
            omega (arith, is.within, is.end, is_present.has.begin_is, ap length is_present.has.text_is, length-append is_present.has.front is_present.has.rest, length-append text piece),
          ));
      left = λ was text is_present.
          let records = is_present.has.records in
          let count : length old.rows ≡ length records = ap length is_present.has.rows_are ∙ length-map records row_of in
          left_by g.L.Keep.keeps was old.beside now.beside records is_present.has.beside (unpushed c.keep_plain-kept.result bad (c.keep_plain-kept.ensures.left records is_present.has.beside.0 count));
      stops = λ was text is_present.
          let low : length text ≤ max_archive = omega (arith, is_present.is_at.position_is, c.position-begin.ensures.value, c.position-begin.ensures.limit) in
          rw (c.at.ensures, begin) (memory_stops_at text is_present.reported old is_present.has now.rows same low piece Memory refl);
      rows = extends_same old.rows now.rows same;
      taken = λ at taken reported at_is. rw c.at.ensures (λ read. let no : Memory ≡ Read = read in cc no);
      within = tt;
    }

pub returns : goal.returns
returns g c =
    let old = c.args.reading.now in
    let now = c.keep_plain-kept.new.self in
    let piece : List ℕ = c.args.piece.now in
    let d = c.args.decoder.now in
    let after = c.new.result in
    let found = c.args.found.now in
    let is = c.requires.found in
    let at = c.position-begin.ensures.value in
    let begin : ℕ = c.position-begin.result in
    let start : ℕ = begin + found.head.len in
    let good = sym c.is_err.ensures.value ∙ c.if-is_err.false in
    let size : length (take found.len piece) ≡ found.len = length-take-le found.len piece is.within in
    let added = pushed c.keep_plain-kept.result good c.keep_plain-kept.ensures.row in
    let rows : now.rows ≡ old.rows ++ plain_row d.position start found.head ∷ [] = added ∙ ap (λ n. old.rows ++ plain_row n start found.head ∷ []) at in
    let P : ℕ → Type 0 = λ n. IsAt n [] nothing after in
    let anew : IsAt (d.position + found.len) [] nothing after = subst P (ap (λ n. n + found.len) at) c.new.ensures in
    record {
      history = λ was text is_present.
          plain_is_present (Since g.L.Keep.keeps was) text piece d after old _ found is_present is c.requires.between c.requires.limit
          start (ap (λ n. n + found.head.len) at) rows (ap (λ n. n + found.len) at) c.keep_plain-kept.ensures.current
          (λ records p kept count next. since_more g.L.Keep.keeps was old.beside now.beside records p kept (pushed c.keep_plain-kept.result good (c.keep_plain-kept.ensures.beside records p kept.0 count next))) anew;
      begins = λ was text is_present. inr (omega (arith, is_present.is_at.position_is, at));
      left = λ was text is_present. tt;
      stops = λ was text is_present. tt;
      rows = (plain_row d.position start found.head ∷ [], rows);
      taken = λ from taken reported at_is.
          next_at from taken (take found.len piece) reported d after is.content c.requires.between at_is is.spelled (subst P (ap (λ n. d.position + n) (sym size)) anew);
      within = (omega (arith, is.end), is.within);
    }
