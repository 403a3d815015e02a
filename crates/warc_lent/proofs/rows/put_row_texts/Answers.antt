use Rattle.std.proofs.Common.{◌≡◌, ◌≤◌, ◌++◌, drop, length, subst, ap, ◌∙◌, arith}
use Rattle.std.proofs.lemmas.List.{length-append}
use Rattle.warc_frame.specs.Count.{capped}
use Rattle.warc_reading.specs.Row.{Row}
use Rattle.warc_lent.specs.Buffers.{HoldsFront}
use Rattle.warc_lent.specs.Rows.{row_texts}
use Rattle.warc_lent.proofs.BufferLemmas.{drop_further, four_texts}
use Rattle.warc_lent.proofs.rows.put_row_texts.Goals as goal

pub returns-clause-end : goal.returns-clause-end
returns-clause-end c = λ before at.
    let k = c.row.inside.kind.now in
    let d = c.row.inside.date.now in
    let i = c.row.inside.id.now in
    let e1 = c.put_text_at-date.ensures.end before at in
    let e2 = c.put_text_at-id.ensures.end (before ++ k) e1 in
    let e3 = c.put_text_at-target.ensures.end (before ++ k ++ d) e2 in
    c.put_text_at.ensures.end (before ++ k ++ d ++ i) e3
    ∙ ap (λ l. capped (length l)) (four_texts before k d i c.row.inside.target.now)
    ∙ ap (λ (r : Row). capped (length (before ++ row_texts r))) c.row.view_is

pub returns-clause-front : goal.returns-clause-front
returns-clause-front c = λ before at front.
    let k = c.row.inside.kind.now in
    let d = c.row.inside.date.now in
    let i = c.row.inside.id.now in
    let e1 = c.put_text_at-date.ensures.end before at in
    let e2 = c.put_text_at-id.ensures.end (before ++ k) e1 in
    let e3 = c.put_text_at-target.ensures.end (before ++ k ++ d) e2 in
    let f1 = c.put_text_at-date.ensures.front before at front in
    let f2 = c.put_text_at-id.ensures.front (before ++ k) e1 f1 in
    let f3 = c.put_text_at-target.ensures.front (before ++ k ++ d) e2 f2 in
    let f4 = c.put_text_at.ensures.front (before ++ k ++ d ++ i) e3 f3 in
    subst (λ l. HoldsFront l c.put_text_at.new.out)
    (four_texts before k d i c.row.inside.target.now ∙ ap (λ (r : Row). before ++ row_texts r) c.row.view_is) f4

pub returns-clause-rest : goal.returns-clause-rest
returns-clause-rest c = λ before at.
    let k = c.row.inside.kind.now in
    let d = c.row.inside.date.now in
    let i = c.row.inside.id.now in
    let t = c.row.inside.target.now in
    let b1 = before ++ k in
    let b2 = b1 ++ d in
    let b3 = b2 ++ i in
    let e1 = c.put_text_at-date.ensures.end before at in
    let e2 = c.put_text_at-id.ensures.end b1 e1 in
    let e3 = c.put_text_at-target.ensures.end b2 e2 in
    let r1 = c.put_text_at-date.ensures.rest before at in
    let r2 = c.put_text_at-id.ensures.rest b1 e1 in
    let r3 = c.put_text_at-target.ensures.rest b2 e2 in
    let r4 = c.put_text_at.ensures.rest b3 e3 in
    let o0 = c.args.out.now in
    let o1 = c.put_text_at-date.new.out in
    let o2 = c.put_text_at-id.new.out in
    let o3 = c.put_text_at-target.new.out in
    let n = length (b3 ++ t) in
    let l1 : length b1 ≤ n = omega (arith, length-append b3 t, length-append b2 i, length-append b1 d) in
    let l2 : length b2 ≤ n = omega (arith, length-append b3 t, length-append b2 i) in
    let l3 : length b3 ≤ n = omega (arith, length-append b3 t) in
    let all = r4 ∙ drop_further (length b3) n o3 o2 l3 r3 ∙ drop_further (length b2) n o2 o1 l2 r2 ∙ drop_further (length b1) n o1 o0 l1 r1 in
    subst (λ l. drop (length l) c.put_text_at.new.out ≡ drop (length l) o0)
    (four_texts before k d i t ∙ ap (λ (r : Row). before ++ row_texts r) c.row.view_is) all
