use Rattle.std.proofs.Common.{◌≡◌, ◌+◌, ◌≤◌, [], length, take, drop, sym, ap, ◌∙◌, arith}
use Rattle.warc_value.specs.Digests.{verdict_of}
use Rattle.warc_fixity.specs.Judged.{wanted_stated}
use Rattle.warc_answer.proofs.JudgeLemmas.{block_taken, reads_rest}
use Rattle.warc_answer.proofs.blocks.judge_block.Goals as goal

pub returns-clause-verdict : goal.returns-clause-verdict
returns-clause-verdict g c = λ bytes held range.
    let front = c.read_bytes.new.buf in
    let done = length front in
    let place = c.args.place.now in
    let same : done ≡ length c.args.front.now = c.read_bytes.auto.buf in
    let le : done ≤ place.len = omega (arith, c.requires.1) in
    let at : c.saturating_add-at.result ≡ place.start + done = omega (arith, c.saturating_add-at.ensures, range.0, range.1) in
    let read = c.in_ok-read_bytes.ensures.bytes bytes held ∙ ap (λ n. take n (drop place.start bytes)) (sym same) in
    let stated = wanted_stated place.wanted in
    let taken = c.in_ok-take_range.ensures.taken bytes (c.in_ok-read_bytes.ensures.reads.kept ∙ held) stated front (c.update.ensures stated [] c.wanting-judge.ensures) in
    c.verdict.ensures stated _ taken ∙ c.wanted_is_judged.ensures place.wanted _
    ∙ ap (verdict_of place.wanted) (block_taken bytes front place.start place.len done c.saturating_add-at.result le at read)

pub returns-clause-reads : goal.returns-clause-reads
returns-clause-reads g c =
    let place = c.args.place.now in
    let same : length c.read_bytes.new.buf ≡ length c.args.front.now = c.read_bytes.auto.buf in
    reads_rest place.wanted place.start place.len (length c.args.front.now) (length c.read_bytes.new.buf) c.saturating_add-at.result _ _ _
    c.requires.1 same (omega (arith, c.saturating_add-at.ensures)) (omega (arith, c.saturating_add-at.ensures)) c.in_default.not-Unchecked c.in_ok-read_bytes.ensures.reads c.in_ok-take_range.ensures.reads
