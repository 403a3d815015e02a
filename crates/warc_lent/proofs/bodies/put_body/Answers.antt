use Rattle.std.proofs.Common.{ap, ◌∙◌}
use Rattle.warc_lent.specs.Bodies.{path_numbers_at}
use Rattle.warc_lent.proofs.BodyLemmas.{fails_of_body, kept_on, same_path_at}
use Rattle.warc_lent.proofs.bodies.put_body.Goals as goal

pub returns-in-Ok-clause-puts : goal.returns-in-Ok-clause-puts
returns-in-Ok-clause-puts g c = λ bytes held is. record {
  body = c.in-Ok.located;
  lies = c.in-Ok.ensures.locates.located bytes held is.listed is.kept;
  put = c.put_located.ensures.put;
}

pub returns-in-Err-clause-puts : goal.returns-in-Err-clause-puts
returns-in-Err-clause-puts g c = λ bytes held is.
    let ps = is.listed.are.records in
    let kept = kept_on ps _ _ _ _ c.in-Err.ensures.unchanged.1 c.in-Err.ensures.unchanged.2 is.kept in
    record {
      fault = c.in-Err.fault;
      is = c.in-Err.ensures.locates.located bytes held is.listed is.kept;
      problem_is = c.from.ensures;
      path =
          c.put_path_at.ensures
          ∙ ap (λ p. path_numbers_at c.in-Err.fault p c.args.answer.now) (c.path_at.ensures ps kept ∙ same_path_at ps c.args.position);
    }

pub returns-in-Err-clause-fails : goal.returns-in-Err-clause-fails
returns-in-Err-clause-fails g c =
    rw c.from.ensures (fails_of_body _ c.in-Err.fault _ _ c.in-Err.ensures.locates.fails)
