use Rattle.std.proofs.Common.{◌≡◌, ◌≤◌, length, length-drop, drop, ap, arith}
use Rattle.std.proofs.lemmas.Result.{err_from_is_err_and}
use Rattle.warc_frame.specs.Record.{max_archive}
use Rattle.warc_answer.specs.Payloads.{whole_block}
use Rattle.warc_answer.specs.Places.{len_of, text_at}
use Rattle.warc_answer.specs.declared.body.BodyStart.{BodyStart}
use Rattle.warc_answer.specs.declared.replay.Begun.{Begun}
use Rattle.warc_answer.proofs.GiveLemmas.{places_lie, places_text, places_len, joined_short, replay_of_none, answer_of_body, fails_of_blocks}
use Rattle.warc_answer.proofs.replay.begin_body.Goals as goal

pub returns-in_err-start-clause-refused : goal.returns-in_err-start-clause-refused
returns-in_err-start-clause-refused g c =
    let p = err_from_is_err_and c.from_residual.result c.from_residual.ensures.1 in
    rw (p.1, p.2) (λ bytes held records way is reported.
    let places = c.args.places.now in
    replay_of_none c.one_of_three.ensures bytes records way c.args.path is.origin is.joined places reported
    c.args.http c.in_err-start.field-0.0 is.leads is.places_are is.http_is
    (c.in_err-start.ensures.begun bytes held (places_lie bytes places is.joined is.short is.places_are)))

pub returns-in_err-start-clause-early : goal.returns-in_err-start-clause-early
returns-in_err-start-clause-early g c =
    let p = err_from_is_err_and c.from_residual.result c.from_residual.ensures.1 in
    rw (p.1, p.2) c.in_err-start.ensures.early

pub returns-in_err-start-clause-fails : goal.returns-in_err-start-clause-fails
returns-in_err-start-clause-fails g c =
    let p = err_from_is_err_and c.from_residual.result c.from_residual.ensures.1 in
    rw (p.1, p.2) (fails_of_blocks BodyStart Begun c.in_err-start.field-0.0 c.args.places.now c.in_err-start.ensures.fails)

pub returns-clause-begun : goal.returns-clause-begun
returns-clause-begun g c = λ bytes held records way is.
    let places = c.args.places.now in
    let start = c.in_ok-start.start in
    let lie = places_lie bytes places is.joined is.short is.places_are in
    let text : text_at places bytes ≡ whole_block is.joined = places_text bytes places is.joined is.places_are in
    let fits : len_of places ≤ max_archive =
    joined_short c.joined_has_total.ensures bytes records way c.args.path is.origin is.joined places is.short is.leads is.places_are in
    let len : c.saturating_sub.result ≡ length (drop start.skip (text_at places bytes)) =
    omega (arith, c.saturating_sub.ensures, c.total.ensures, places_len bytes places is.joined is.places_are, ap length text, length-drop start.skip (text_at places bytes)) in
    answer_of_body bytes records way c.args.path is.origin is.joined places c.args.http start
    c.any_truncated.result c.saturating_sub.result is.leads is.places_are is.http_is
    (c.in_ok-start.ensures.begun bytes held lie) c.any_truncated.ensures len
