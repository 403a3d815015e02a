use Rattle.std.proofs.Common.{false, refl, ap, ◌∙◌}
use Rattle.std.proofs.lemmas.Result.{err_from_is_err_and}
use Rattle.warc_frame.proofs.EffectLemmas.{fails_after, fails_more}
use Rattle.warc_record.specs.Blocks.{has_bad_digest}
use Rattle.warc_record.specs.Findings.{findings_of}
use Rattle.warc_value.specs.Digests.{is_bad}
use Rattle.warc_reading.specs.Row.{Row}
use Rattle.warc_checking.proofs.JudgeLemmas.{block_judged, block_there, head_there, reads_again}
use Rattle.warc_checking.specs.OwnFindings.{shown_by}
use Rattle.warc_checking.proofs.JudgingLemmas.{shown_one, shown_then}
use Rattle.warc_checking.proofs.findings.add_reread.Goals as goal

pub returns-in_err-wanted-clause-fails : goal.returns-in_err-wanted-clause-fails
returns-in_err-wanted-clause-fails g c =
    let p = err_from_is_err_and c.from_residual.result c.from_residual.ensures.1 in
    rw (p.1, p.2) (fails_more (λ bytes held is. head_there c.args.row.now bytes is) c.in_err-wanted.ensures.fails)

pub returns-in-Ok-clause-added : goal.returns-in-Ok-clause-added
returns-in-Ok-clause-added g c = λ bytes held is.
    let (wanted_is, one) = c.in_ok-wanted.ensures.read bytes held (head_there c.args.row.now bytes is) in
    let start = ap (λ (r : Row). r.block_start) c.row.view_is in
    let len = ap (λ (r : Row). r.block_len) c.row.view_is in
    let fields = is.placed.content.fields in
    let verdict = block_judged c.args.row.now bytes is _ _ c.in_ok-wanted.wanted fields start len wanted_is refl in
    let size = ap (λ (r : Row). r.block_len) is.row_is in
    shown_one _ _ _ _ (shown_by fields c.args.row.now.block_len false) _ _ one (c.in-Ok.ensures.added bytes (c.in_ok-wanted.ensures.reads.kept ∙ held)) c.requires.last
    (shown_then fields c.args.row.now.block_len _ ∙ ap (λ v. findings_of fields c.args.row.now.block_len (is_bad v) false) verdict
    ∙ ap (λ n. findings_of fields n (has_bad_digest is.placed.content) false) size)

pub returns-in-Ok-clause-reads : goal.returns-in-Ok-clause-reads
returns-in-Ok-clause-reads g c =
    reads_again c.args.row.now _ _ c.in_ok-wanted.wanted (ap (λ (r : Row). r.block_start) c.row.view_is)
    (ap (λ (r : Row). r.block_len) c.row.view_is) c.in_ok-wanted.ensures.size c.in_ok-wanted.ensures.reads c.add_read.ensures.reads

pub returns-in-Err-clause-reads : goal.returns-in-Err-clause-reads
returns-in-Err-clause-reads g c =
    reads_again c.args.row.now _ _ c.in_ok-wanted.wanted (ap (λ (r : Row). r.block_start) c.row.view_is)
    (ap (λ (r : Row). r.block_len) c.row.view_is) c.in_ok-wanted.ensures.size c.in_ok-wanted.ensures.reads c.add_read.ensures.reads

pub returns-in-Err-clause-fails : goal.returns-in-Err-clause-fails
returns-in-Err-clause-fails g c =
    fails_after c.in_ok-wanted.ensures.reads.kept c.in_ok-wanted.ensures.fails.may
    (fails_more
    (λ bytes held is. block_there c.args.row.now bytes _ _ (ap (λ (r : Row). r.block_start) c.row.view_is) (ap (λ (r : Row). r.block_len) c.row.view_is) is)
    c.in-Err.ensures.fails)
