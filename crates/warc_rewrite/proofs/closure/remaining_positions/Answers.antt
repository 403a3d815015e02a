use Rattle.std.proofs.Common.{◌≡◌, ℕ, List, length, ap, refl, subst, ◌∙◌, arith}
use Rattle.std.specs.Prelude.{replicate}
use Rattle.std.proofs.lemmas.List.{length-replicate, take_at}
use Rattle.std.proofs.lemmas.Result.{err_from_is_err_and}
use Rattle.warc_frame.proofs.EffectLemmas.{fails_more, fails_never}
use Rattle.warc_reading.proofs.HeadLemmas.{fails_ended}
use Rattle.warc_rewrite.specs.declared.remainder.Status.{Status}
use Rattle.warc_rewrite.specs.declared.remainder.Status.TheVariants.{Open}
use Rattle.warc_rewrite.specs.Marks.{AreWhere}
use Rattle.warc_rewrite.specs.Selecting.{ArePositions}
use Rattle.warc_rewrite.specs.Statuses.{needs_none, status_at}
use Rattle.warc_rewrite.proofs.LeftLemmas.{open_all, others_are}
use Rattle.warc_rewrite.proofs.TakenLemmas.{ended_early}
use Rattle.warc_rewrite.proofs.closure.remaining_positions.Goals as goal

pub returns-in-Ok-kept_positions : goal.returns-in-Ok-kept_positions
returns-in-Ok-kept_positions g c =
    let rows = c.args.rows.now in
    let positions = c.args.positions.now in
    let kept = c.in-Ok-kept_positions.kept.items in
    let first : c.deref_mut.result.now ≡ replicate c.len.result Open = c.deref_mut.ensures.value ∙ c.in-Ok.ensures in
    let left : c.deref.result.now ≡ c.remain.new.statuses = c.deref.ensures.value
    ∙ take_at c.remain.new.statuses _ _ (omega (arith, c.in_ok-remain.ensures.same, c.deref_mut.ensures.len)) in
    let begun : length c.deref_mut.result.now ≡ length rows =
    ap length first ∙ (length-replicate c.len.result Open ∙ c.len.ensures) in
    let long : length c.remain.new.statuses ≡ length rows = c.in_ok-remain.ensures.same ∙ begun in
    let listed : AreWhere (λ p. needs_none (status_at c.remain.new.statuses p)) (length c.remain.new.statuses) kept =
    subst (λ (ss : List Status). AreWhere (λ p. needs_none (status_at ss p)) (length ss) kept) left
    c.in-Ok-kept_positions.ensures in
    record {
      reported = λ bytes held is are.
          others_are bytes rows positions kept c.remain.new.statuses is long
          (c.in_ok-remain.ensures.is_present.reported bytes held is are
          (λ q. open_all c.deref_mut.result.now c.len.result q first)) listed;
      are = subst (λ (n : ℕ). ArePositions n kept) long listed.are;
      reads = c.in_ok-remain.ensures.is_present.reads;
      early = tt;
      fails = fails_never c.in_ok-remain.ensures.is_present.fails.may;
    }

pub returns-in_err-remain : goal.returns-in_err-remain
returns-in_err-remain g c =
    let p = err_from_is_err_and c.from_residual.result c.from_residual.ensures.1 in
    let found = c.in_err-remain.ensures.is_present in
    rw (p.1, p.2) (record {
      reported = λ bytes held is are. tt;
      are = tt;
      reads = found.reads;
      early = ended_early c.in_err-remain.field-0.0;
      fails = fails_ended c.in_err-remain.field-0.0 _ 0 refl (fails_more (λ bytes held (is, are). is) found.fails);
    })
