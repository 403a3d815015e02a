use Rattle.std.proofs.Common.{refl}
use Rattle.warc_reading.specs.Stream.{IsKeptOf}
use Rattle.warc_reading.proofs.GrowLemmas.{grows_by_answer, grows_from, when_err}
use Rattle.warc_reading.proofs.opened.Opened.grow.Goals as goal

pub returns-in-Ok-clause-grows : goal.returns-in-Ok-clause-grows
returns-in-Ok-clause-grows g c =
    grows_by_answer _ _ _ _ _ _ _ refl c.in-Ok.is (grows_from _ _ _ _ _ c.replace-rows.ensures.value c.replace-kept.ensures.value c.read_on-answer.ensures.grows)

pub returns-in-Err-clause-grows : goal.returns-in-Err-clause-grows
returns-in-Err-clause-grows g c =
    grows_by_answer _ _ c.read_on-answer.result.1 _ c.read_on-answer.result.2 _ _ refl c.in-Err.is
    (grows_from _ _ _ _ _ c.replace-rows.ensures.value c.replace-kept.ensures.value c.read_on-answer.ensures.grows)

pub returns-in-Err-clause-stays : goal.returns-in-Err-clause-stays
returns-in-Err-clause-stays g c = λ bytes is.
    let begun : IsKeptOf g.K.Keep.keeps bytes (c.replace-rows.result, c.replace-kept.result) = rw (c.replace-rows.ensures.value, c.replace-kept.ensures.value) is in
    when_err _ _ (c.read_on-answer.ensures.beside bytes begun) c.in-Err.is
