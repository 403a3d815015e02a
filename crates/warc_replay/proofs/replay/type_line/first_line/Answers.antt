use Rattle.std.proofs.Common.{ℕ, suc, ◌-◌, ◌+◌, take, drop, length, length-drop, sym, ap, subst, ◌∙◌, ◌≡◌, Some, arith}
use Rattle.std.proofs.lemmas.List.{take_all}
use Rattle.memchr.specs.Find.{IsFirstByte, is_byte}
use Rattle.warc_replay.proofs.TypeLineLemmas.{cut_here, flat_front}
use Rattle.warc_replay.proofs.replay.type_line.first_line.Goals as goal

pub returns-clause-cut : goal.returns-clause-cut
returns-clause-cut c =
    let t = c.args.area.now in
    let e = c.in_ok-end.end in
    let after : suc (e - 1) ≡ e = omega (arith, c.if-end-eq0.false) in
    let next : e + 1 ≡ suc (suc (e - 1)) = omega (arith, after) in
    let rest : take (length t - (e + 1)) (drop (e + 1) t) ≡ drop (suc (suc (e - 1))) t =
    take_all (length t - (e + 1)) (drop (e + 1) t) (omega (arith, length-drop (e + 1) t)) ∙ ap (λ k. drop k t) next in
    cut_here t (e - 1) (subst (λ (k : ℕ). IsFirstByte (is_byte 10) t (Some k)) (sym after) c.in_ok-end.ensures) _
    c.if-area-end-ne13.false rest (sym c.begins_blank.ensures ∙ c.if-begins_blank.false)

pub returns-clause-flat : goal.returns-clause-flat
returns-clause-flat c =
    let t = c.args.area.now in
    let e = c.in_ok-end.end in
    let after : suc (e - 1) ≡ e = omega (arith, c.if-end-eq0.false) in
    flat_front t (e - 1) (subst (λ (k : ℕ). IsFirstByte (is_byte 10) t (Some k)) (sym after) c.in_ok-end.ensures)
