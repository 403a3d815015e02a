use Rattle.std.proofs.Common.{◌≡◌, ◌+◌, ◌++◌, [], drop, length, refl, subst, ap, ◌∙◌, arith}
use Rattle.std.proofs.lemmas.List.{length-append}
use Rattle.warc_field.specs.Lines.{crlf}
use Rattle.warc_lent.proofs.BufferLemmas.{front_nil, rest_further}
use Rattle.warc_lent.proofs.portions.put_ends.Goals as goal

pub returns-clause-front : goal.returns-clause-front
returns-clause-front c =
    let head = c.args.head.now in
    let end = c.put_text_at-end.ensures.end [] refl in
    let first = c.put_text_at-end.ensures.front [] refl (front_nil c.args.out.now) in
    c.put_text_at.ensures.front head end first

pub returns-clause-rest : goal.returns-clause-rest
returns-clause-rest c =
    let head = c.args.head.now in
    let end = c.put_text_at-end.ensures.end [] refl in
    let first = c.put_text_at-end.ensures.rest [] refl in
    let second = c.put_text_at.ensures.rest head end in
    let size : length (head ++ (crlf ++ crlf)) ≡ length head + 4 = length-append head (crlf ++ crlf) in
    subst (λ n. drop n c.put_text_at.new.out ≡ drop n c.args.out.now) size
    (rest_further head (crlf ++ crlf) c.args.out.now c.put_text_at-end.new.out c.put_text_at.new.out first second)
