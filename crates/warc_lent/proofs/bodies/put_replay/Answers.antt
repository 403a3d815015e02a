use Rattle.std.proofs.Common.{◌≡◌, sym, subst, ap, ◌∙◌, Some, Ok, Err}
use Rattle.warc_value.specs.Dates.{instant_of}
use Rattle.warc_reading.specs.Archive.{contents}
use Rattle.warc_lent.specs.Bodies.{PutsReplay, path_numbers}
use Rattle.warc_lent.proofs.BodyLemmas.{fails_of_replay, kept_on, same_path_for}
use Rattle.warc_lent.proofs.bodies.put_replay.Goals as goal

pub returns-in-Ok-clause-puts : goal.returns-in-Ok-clause-puts
returns-in-Ok-clause-puts g c = λ bytes held is.
    let at : instant_of c.args.date.now ≡ Some c.in-Some.moment = sym c.read_date.ensures ∙ c.in-Some.is in
    let rs = contents is.listed.are.records in
    subst (λ o. PutsReplay bytes rs c.args.uri.now o (Ok c.put_located.result) c.args.answer.now c.put_located.new.answer c.put_located.new.spans)
    (sym at) (record {
      body = c.in-Ok.located;
      lies = (c.in-Ok.ensures.locates.held bytes held is.listed is.kept).located;
      put = c.put_located.ensures.put;
    })

pub returns-in-Err-clause-puts : goal.returns-in-Err-clause-puts
returns-in-Err-clause-puts g c = λ bytes held is.
    let at : instant_of c.args.date.now ≡ Some c.in-Some.moment = sym c.read_date.ensures ∙ c.in-Some.is in
    let ps = is.listed.are.records in
    let kept = kept_on ps _ _ _ _ c.in-Err.ensures.unchanged.1 c.in-Err.ensures.unchanged.2 is.kept in
    subst (λ o. PutsReplay bytes (contents ps) c.args.uri.now o (Err c.from.result) c.args.answer.now c.put_path.new.answer c.args.spans.now)
    (sym at) (record {
      fault = c.in-Err.fault;
      is = (c.in-Err.ensures.locates.held bytes held is.listed is.kept).located;
      problem_is = c.from.ensures;
      path =
          c.put_path.ensures
          ∙ ap (λ p. path_numbers p c.args.answer.now) (c.path_for.ensures ps kept ∙ same_path_for ps c.args.uri.now c.in-Some.moment);
    })

pub returns-in-Err-clause-fails : goal.returns-in-Err-clause-fails
returns-in-Err-clause-fails g c =
    rw c.from.ensures (fails_of_replay _ c.in-Err.fault _ _ c.in-Err.ensures.locates.fails)
