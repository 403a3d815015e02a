use Rattle.std.proofs.Common.{sym, subst}
use Rattle.std.proofs.lemmas.Result.{err_from_is_err_and}
use Rattle.warc_answer.proofs.GiveLemmas.{fails_of_fault, none_out, places_lie}
use Rattle.warc_answer.proofs.JudgeLemmas.{reads_once}
use Rattle.warc_answer.specs.Answers.{IsAnswerOn}
use Rattle.warc_answer.specs.Replays.{given}
use Rattle.warc_answer.specs.declared.replay.Begun.{Begun}
use Rattle.warc_answer.specs.Located.{Location}
use Rattle.warc_answer.proofs.located.locate_joined.Goals as goal

pub returns-in_err-begun-clause-located : goal.returns-in_err-begun-clause-located
returns-in_err-begun-clause-located g c =
    let p = err_from_is_err_and c.from_residual.result c.from_residual.ensures.1 in
    rw (p.1, p.2) (λ bytes held records found is reports. c.in_err-begun.ensures.refused bytes held records found is reports)

pub returns-in_err-begun-clause-early : goal.returns-in_err-begun-clause-early
returns-in_err-begun-clause-early g c =
    let p = err_from_is_err_and c.from_residual.result c.from_residual.ensures.1 in
    rw (p.1, p.2) c.in_err-begun.ensures.early

pub returns-in_err-begun-clause-fails : goal.returns-in_err-begun-clause-fails
returns-in_err-begun-clause-fails g c =
    let p = err_from_is_err_and c.from_residual.result c.from_residual.ensures.1 in
    rw (p.1, p.2) (fails_of_fault Begun Location c.in_err-begun.field-0.0 c.in_err-begun.ensures.fails)

pub returns-in_err-begun-clause-reads : goal.returns-in_err-begun-clause-reads
returns-in_err-begun-clause-reads g c = reads_once c.args.http c.args.places.now c.in_err-begun.ensures.reads

pub returns-in-Ok-clause-reads : goal.returns-in-Ok-clause-reads
returns-in-Ok-clause-reads g c = reads_once c.args.http c.args.places.now c.in_ok-begun.ensures.reads

pub returns-in-Err-clause-reads : goal.returns-in-Err-clause-reads
returns-in-Err-clause-reads g c = reads_once c.args.http c.args.places.now c.in_ok-begun.ensures.reads

pub returns-in-Ok-clause-located : goal.returns-in-Ok-clause-located
returns-in-Ok-clause-located g c = λ bytes held records found is.
    let lie = places_lie bytes c.args.places.now is.joined is.short is.places_are in (
      subst (λ l. IsAnswerOn records found (given c.in_ok-begun.begun.answer l)) (sym (c.in-Ok.ensures.text bytes lie))
          (c.in_ok-begun.ensures.begun bytes held records found is),
      c.in-Ok.ensures.within bytes lie,
    )

pub returns-in-Err-clause-located : goal.returns-in-Err-clause-located
returns-in-Err-clause-located g c = λ bytes held records found is reports.
    let begun = c.in_ok-begun.ensures.begun bytes held records found is in (_, begun, none_out reports _)
