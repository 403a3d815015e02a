use Rattle.std.proofs.Common.{refl, ◌∙◌}
use Rattle.std.proofs.lemmas.Result.{err_from_is_err_and}
use Rattle.warc_frame.proofs.EffectLemmas.{fails_after, fails_more}
use Rattle.warc_answer.specs.declared.answer.Answer.{Answer}
use Rattle.warc_answer.specs.declared.replay.Begun.{Begun}
use Rattle.warc_answer.proofs.GiveLemmas.{blocks_lie, early_late, fails_of_fault, places_lie}
use Rattle.warc_answer.proofs.JudgeLemmas.{reads_body, reads_front, reads_once}
use Rattle.warc_answer.proofs.replay.replay_joined.Goals as goal

pub returns-in_err-begun-clause-replayed : goal.returns-in_err-begun-clause-replayed
returns-in_err-begun-clause-replayed g c =
    let p = err_from_is_err_and c.from_residual.result c.from_residual.ensures.1 in
    rw (p.1, p.2) (λ bytes held records way is.
    c.in_err-begun.ensures.refused bytes held records way is ((g.W.Sink.seen c.args.out.now).reports))

pub returns-in_err-begun-clause-late : goal.returns-in_err-begun-clause-late
returns-in_err-begun-clause-late g c =
    let p = err_from_is_err_and c.from_residual.result c.from_residual.ensures.1 in
    rw (p.1, p.2) (early_late c.in_err-begun.field-0.0 (g.W.Sink.seen c.args.out.now) c.in_err-begun.ensures.early)

pub returns-in_err-begun-clause-reads : goal.returns-in_err-begun-clause-reads
returns-in_err-begun-clause-reads g c = reads_front c.args.http c.args.places.now c.in_err-begun.ensures.reads

pub returns-in_err-begun-clause-fails : goal.returns-in_err-begun-clause-fails
returns-in_err-begun-clause-fails g c =
    let p = err_from_is_err_and c.from_residual.result c.from_residual.ensures.1 in
    rw (p.1, p.2) (fails_of_fault Begun Answer c.in_err-begun.field-0.0 c.in_err-begun.ensures.fails)

pub returns-clause-replayed : goal.returns-clause-replayed
returns-clause-replayed g c = λ bytes held records way is. (
  _,
  c.in_ok-begun.ensures.begun bytes held records way is,
  c.in_ok-send_blocks.ensures.sends.out bytes _ ((reads_once c.args.http c.args.places.now c.in_ok-begun.ensures.reads).kept ∙ held)
      (places_lie bytes c.args.places.now is.joined is.short is.places_are, refl),
)

pub returns-clause-reads : goal.returns-clause-reads
returns-clause-reads g c =
    reads_body c.args.http c.args.places.now c.in_ok-begun.ensures.reads c.in_ok-send_blocks.ensures.reads

pub returns-in_err-send_blocks-clause-replayed : goal.returns-in_err-send_blocks-clause-replayed
returns-in_err-send_blocks-clause-replayed g c =
    let p = err_from_is_err_and c.from_residual-in_err-send_blocks.result c.from_residual-in_err-send_blocks.ensures.1 in
    rw (p.1, p.2) (λ bytes held records way is. (
      _,
      c.in_ok-begun.ensures.begun bytes held records way is,
      c.in_err-send_blocks.ensures.sends.cut bytes _ ((reads_once c.args.http c.args.places.now c.in_ok-begun.ensures.reads).kept ∙ held)
          (places_lie bytes c.args.places.now is.joined is.short is.places_are, refl),
    ))

pub returns-in_err-send_blocks-clause-reads : goal.returns-in_err-send_blocks-clause-reads
returns-in_err-send_blocks-clause-reads g c =
    reads_body c.args.http c.args.places.now c.in_ok-begun.ensures.reads c.in_err-send_blocks.ensures.reads

pub returns-in_err-send_blocks-clause-fails : goal.returns-in_err-send_blocks-clause-fails
returns-in_err-send_blocks-clause-fails g c =
    let p = err_from_is_err_and c.from_residual-in_err-send_blocks.result c.from_residual-in_err-send_blocks.ensures.1 in
    rw (p.1, p.2)
    (fails_after (reads_once c.args.http c.args.places.now c.in_ok-begun.ensures.reads).kept c.in_ok-begun.ensures.fails.may
    (fails_more (λ bytes held are. (_, (blocks_lie bytes c.args.places.now are, refl))) c.in_err-send_blocks.ensures.sends.fails))
