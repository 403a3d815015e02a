use Rattle.std.proofs.Common.{◌-◌, ◌+◌, ◌≡◌, take, drop, length, length-drop, sym, ap, ◌∙◌, Some, arith}
use Rattle.std.proofs.lemmas.List.{take_all}
use Rattle.warc_field.specs.Area.{Pair}
use Rattle.warc_field.specs.Text.{trimmed}
use Rattle.warc_replay.proofs.TypeLineLemmas.{field_here}
use Rattle.warc_replay.proofs.replay.type_line.value_after.Goals as goal

pub returns : goal.returns
returns c = λ field is.
    let t = c.args.line.now in
    let k = c.args.place in
    let all : take (length t - (k + 1)) (drop (k + 1) t) ≡ drop (k + 1) t = take_all (length t - (k + 1)) (drop (k + 1) t) (omega (arith, length-drop (k + 1) t)) in
    field_here t k field (sym c.in_ok-first_colon.ensures.value ∙ ap (λ n. Some n) c.if-branch-place.false) c.requires is ∙ ap (λ v. let f : Pair = (take k t, v) in f) (sym (c.trim.ensures ∙ ap trimmed all))
