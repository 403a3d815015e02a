use Rattle.std.proofs.Common.{ap, ◌++◌, ◌∙◌}
use Rattle.warc_replay.specs.Captures.{date_front}
use Rattle.warc_judged.specs.Listing.{shown}
use Rattle.warc_reading.specs.Row.{Row}
use Rattle.warc_checking.proofs.CheckLemmas.{puts_same}
use Rattle.warc_replay.proofs.CaptureLemmas.{columns_from}
use Rattle.warc_replay.proofs.replay.capture_line.put_shown.Goals as goal

pub returns : goal.returns
returns g c =
    let inside = c.row.view_is in
    let line = columns_from c.args.row.now c.args.shown.now.chosen c.args.shown.now.given c.args.shown.now.status c.args.shown.now.size c.args.shown.now.media_type.now c.args.shown.now.reason
    c.as_bytes.result.now c.row.inside.date.now c.date_front-front.result.now c.date_rest.result.now c.row.inside.kind.now c.number_shown.result.now
    c.number_shown-2.result.now c.shown_as.result.now c.number_shown-3.result.now c.as_bytes-2.result.now c.as_bytes-3.result.now c.digits_shown.result.now
    c.shown_as-2.result.now
    (c.as_bytes.ensures.value ∙ c.format.ensures.text)
    (ap (λ (r : Row). r.date) inside)
    (c.date_front-front.ensures ∙ ap (λ (r : Row). date_front r.date) inside)
    c.date_rest.ensures
    (ap (λ (r : Row). r.kind) inside)
    c.number_shown.ensures
    c.number_shown-2.ensures
    c.shown_as.ensures
    c.number_shown-3.ensures
    ((λ n. c.as_bytes-2.ensures.value n ++ c.as_bytes-3.ensures.value n ++ c.digits_shown.ensures n) ∙ c.reason_parts-number.ensures)
    (c.shown_as-2.ensures ∙ ap (λ (r : Row). shown r.target) inside) in
    puts_same line c.put_texts.ensures
