use Rattle.std.proofs.Common.{◌++◌, length, subst, ap, ◌∙◌}
use Rattle.warc_frame.specs.Count.{capped}
use Rattle.warc_lent.specs.Buffers.{HoldsFront, KeepsAfter}
use Rattle.warc_lent.proofs.BufferLemmas.{rest_further}
use Rattle.warc_lent.proofs.HeadLemmas.{pair_after}
use Rattle.warc_lent.proofs.heads.put_pair.Goals as goal

pub returns-clause-end : goal.returns-clause-end
returns-clause-end g c = λ before at.
    let name = c.bytes.result.now in
    let first = c.put_text_at-after.ensures.end before at in
    c.put_text_at.ensures.end (before ++ name) first
    ∙ ap (λ l. capped (length l)) (pair_after before name c.bytes-2.result.now _ _ c.bytes.ensures.text c.bytes-2.ensures.text)

pub returns-clause-front : goal.returns-clause-front
returns-clause-front g c = λ before at front.
    let name = c.bytes.result.now in
    let first = c.put_text_at-after.ensures.end before at in
    let held = c.put_text_at-after.ensures.front before at front in
    subst (λ l. HoldsFront l c.put_text_at.new.out)
    (pair_after before name c.bytes-2.result.now _ _ c.bytes.ensures.text c.bytes-2.ensures.text)
    (c.put_text_at.ensures.front (before ++ name) first held)

pub returns-clause-rest : goal.returns-clause-rest
returns-clause-rest g c = λ before at.
    let name = c.bytes.result.now in
    let value = c.bytes-2.result.now in
    let first = c.put_text_at-after.ensures.end before at in
    subst (λ l. KeepsAfter (length l) c.args.out.now c.put_text_at.new.out)
    (pair_after before name value _ _ c.bytes.ensures.text c.bytes-2.ensures.text)
    (rest_further (before ++ name) value c.args.out.now c.put_text_at-after.new.out c.put_text_at.new.out
    (c.put_text_at-after.ensures.rest before at) (c.put_text_at.ensures.rest (before ++ name) first))
