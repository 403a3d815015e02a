use Rattle.std.proofs.Common.{rules, ◌≡◌, ◌-◌, ◌<◌, ◌^◌, drop, length, ap, ◌∙◌}
use Rattle.std.proofs.lemmas.List.{length-drop, take_rest}
use Rattle.warc_lent.proofs.BufferLemmas.{front_put, rest_put}
use Rattle.warc_lent.proofs.buffers.put_text_at.Goals as goal

pub returns-clause-front : goal.returns-clause-front
returns-clause-front c = λ before at front.
    let old = c.args.out.now in
    let short : length old < 2 ^ 64 = search rules in
    let from = c.min-from.result in
    let size : length c.put_text.new.out ≡ length old - from = c.put_text.ensures.room ∙ ap length (take_rest old from) ∙ length-drop from old in
    front_put before c.args.text.now old c.put_text.new.out c.args.at from at c.min-from.ensures short size front
    c.put_text.ensures.front

pub returns-clause-rest : goal.returns-clause-rest
returns-clause-rest c = λ before at.
    let text = c.args.text.now in
    let old = c.args.out.now in
    let short : length old < 2 ^ 64 = search rules in
    let from = c.min-from.result in
    let size : length c.put_text.new.out ≡ length old - from = c.put_text.ensures.room ∙ ap length (take_rest old from) ∙ length-drop from old in
    let same : drop (length text) c.put_text.new.out ≡ drop (length text) (drop from old) =
    c.put_text.ensures.rest ∙ ap (drop (length text)) (take_rest old from) in
    rest_put before text old c.put_text.new.out c.args.at from at c.min-from.ensures short size same
