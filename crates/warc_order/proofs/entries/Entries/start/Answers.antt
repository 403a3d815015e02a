use Rattle.std.proofs.Common.{ℕ, ◌+◌, ◌-◌, List, length, ap, ◌∙◌, ◌≡◌, ◌≤◌, arith, get_or, take}
use Rattle.std.specs.List.{concat}
use Rattle.warc_order.specs.Entries.{Entry}
use Rattle.warc_order.specs.Layout.{Parts, texts_of, IsFlat}
use Rattle.warc_order.proofs.EntryLemmas.{held, length_seen, end_at}
use Rattle.warc_order.proofs.entries.Entries.start.Goals as goal

pub index-requires : goal.index-requires
index-requires g c =
    let n : length c.self.inside.ends.items ≡ length c.args.self.now = length_seen _ _ c.self.invariant
    c.self.view_is in
    omega (arith, n, c.self.inside.ends.ok.0)

end_before : (p : Parts) (es : List Entry) (i d : ℕ) → IsFlat p es → (i ≡ 0 → ⊥) → i ≤ length es →
    get_or p.ends (i - 1) d ≡ length (concat (texts_of (take i es)))
end_before p es i d e some le =
    let n : (i - 1) + 1 ≡ i = omega arith in
    ap (λ (q : Parts). get_or q.ends (i - 1) d) e ∙ (end_at 0 (i - 1) d es (omega arith)
    ∙ (omega arith ∙ ap (λ m. length (concat (texts_of (take m es)))) n))

pub returns-else-i-eq0 : goal.returns-else-i-eq0
returns-else-i-eq0 g c =
    c.index.ensures ∙ end_before _ _ _ _ (held _ _ c.self.invariant c.self.view_is) c.if-i-eq0.false c.requires
