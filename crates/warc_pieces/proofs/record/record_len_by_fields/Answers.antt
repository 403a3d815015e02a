use Rattle.std.proofs.Common.{Err, refl, ◌∙◌, arith}
use Rattle.std.proofs.lemmas.Result.{err_from_is_err_and}
use Rattle.warc_pieces.proofs.CloseLemmas.{reads_more}
use Rattle.warc_pieces.proofs.WindowLemmas.{read_then}
use Rattle.warc_pieces.proofs.record.record_len_by_fields.Goals as goal

pub returns-in_err-end-clause-judges : goal.returns-in_err-end-clause-judges
returns-in_err-end-clause-judges g c = λ bytes held shows there.
    let p = err_from_is_err_and c.from_residual.result c.from_residual.ensures.1 in
    rw (p.1, p.2) (c.in_err-end.ensures.shows bytes held shows there, c.in_err-end.ensures.misses bytes held shows there)

pub returns-in_err-end-clause-reads : goal.returns-in_err-end-clause-reads
returns-in_err-end-clause-reads g c =
    let p = err_from_is_err_and c.from_residual.result c.from_residual.ensures.1 in
    rw (p.1, p.2) (reads_more 1 53 (Err c.in_err-end.field-0.0) _ _ _ _ c.in_err-end.ensures.reads (omega arith))

pub returns-clause-judges : goal.returns-clause-judges
returns-clause-judges g c = λ bytes held shows there.
    let now = c.in_ok-end.ensures.shows bytes held shows there in
    (now, c.close_record.ensures.judges bytes (c.in_ok-end.ensures.reads.kept ∙ held) now there)

pub returns-clause-reads : goal.returns-clause-reads
returns-clause-reads g c = read_then 1 52 53 _ c.close_record.result c.close_record.result _ _ _ _ _ _ c.in_ok-end.ensures.reads (c.close_record.ensures.reads c.find_block_end.new.window) (omega arith) (λ n. refl)
