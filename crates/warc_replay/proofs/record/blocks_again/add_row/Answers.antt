use Rattle.std.proofs.Common.{◌≡◌, [], ◌∷◌, ◌++◌, OnOk, ap, refl, subst, ◌∙◌}
use Rattle.std.proofs.lemmas.Result.{err_from_is_err_and}
use Rattle.warc_frame.proofs.EffectLemmas.{fails_after, fails_as, fails_more}
use Rattle.warc_reading.specs.Row.{Row}
use Rattle.warc_checking.proofs.JudgeLemmas.{block_judged, block_there, reads_again}
use Rattle.warc_replay.proofs.record.blocks_again.add_row.Goals as goal

pub returns-in_err-wanted-clause-fails : goal.returns-in_err-wanted-clause-fails
returns-in_err-wanted-clause-fails g c =
    let p = err_from_is_err_and c.from_residual.result c.from_residual.ensures.1 in
    rw (p.1, p.2) (fails_as _ _ c.in_err-wanted.ensures.fails)

pub returns-clause-added : goal.returns-clause-added
returns-clause-added g c = λ bytes held is.
    let wanted = c.in_ok-wanted.ensures in
    subst (λ v. OnOk c.add_read.result (c.add_read.new.blocks ≡ c.args.blocks.now ++ v ∷ []))
    (block_judged c.args.row.now bytes is _ _ c.in_ok-wanted.wanted is.placed.content.fields (ap (λ (r : Row). r.block_start) c.row.view_is) (ap (λ (r : Row). r.block_len) c.row.view_is) (wanted.read bytes held is) refl)
    (c.add_read.ensures.added bytes (wanted.reads.kept ∙ held))

pub returns-clause-reads : goal.returns-clause-reads
returns-clause-reads g c =
    let wanted = c.in_ok-wanted.ensures in
    reads_again c.args.row.now _ _ c.in_ok-wanted.wanted (ap (λ (r : Row). r.block_start) c.row.view_is) (ap (λ (r : Row). r.block_len) c.row.view_is) wanted.order wanted.reads c.add_read.ensures.reads

pub returns-clause-fails : goal.returns-clause-fails
returns-clause-fails g c =
    let wanted = c.in_ok-wanted.ensures in
    fails_after wanted.reads.kept wanted.fails.may
    (fails_more
    (λ bytes held is. block_there c.args.row.now bytes _ _ (ap (λ (r : Row). r.block_start) c.row.view_is) (ap (λ (r : Row). r.block_len) c.row.view_is) is)
    c.add_read.ensures.fails)
