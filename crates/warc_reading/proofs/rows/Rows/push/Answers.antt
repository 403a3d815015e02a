use Rattle.std.proofs.Common.{rules, ◌≡◌, ◌<◌, ◌^◌, ℕ, [], ◌∷◌, ◌++◌, length, map, ap, subst, ◌∙◌}
use Rattle.warc_reading.specs.Row.{Row}
use Rattle.warc_reading.specs.Rows.{AreKept, IsPackedOf, packed_row}
use Rattle.warc_reading.proofs.RowLemmas.{push_kept}
use Rattle.warc_reading.proofs.rows.Rows.push.Given.{Over}
use Rattle.warc_reading.proofs.rows.Rows.push.Goals as goal

-- what is kept with the row after the others
pushed : (g : Over) (c : goal.After-push_reserved g)
    → AreKept (length c.put-4.new.texts.items) c.push_reserved.new.self.items
    × (map (packed_row c.put-4.new.texts.items) c.push_reserved.new.self.items ≡ map (packed_row c.self.inside.texts.items) c.self.inside.entries.items ++ c.args.row.now ∷ [])
pushed g c =
    let t = c.self.inside.texts.items in
    let t1 = c.put.new.texts.items in
    let t2 = c.put-2.new.texts.items in
    let t3 = c.put-3.new.texts.items in
    let t4 = c.put-4.new.texts.items in
    let row = c.row.inside in
    let seen : Row = c.args.row.now in
    let k1 : t1 ≡ t ++ row.kind.now = search rules in
    let k2 : t2 ≡ t1 ++ row.date.now = search rules in
    let k3 : t3 ≡ t2 ++ row.id.now = search rules in
    let k4 : t4 ≡ t3 ++ row.target.now = search rules in
    let h1 : t1 ≡ t ++ seen.kind = k1 ∙ ap (λ (r : Row). t ++ r.kind) c.row.view_is in
    let h2 : t2 ≡ t1 ++ seen.date = k2 ∙ ap (λ (r : Row). t1 ++ r.date) c.row.view_is in
    let h3 : t3 ≡ t2 ++ seen.id = k3 ∙ ap (λ (r : Row). t2 ++ r.id) c.row.view_is in
    let h4 : t4 ≡ t3 ++ seen.target = k4 ∙ ap (λ (r : Row). t3 ++ r.target) c.row.view_is in
    let short : length t4 < 2 ^ 64 = search rules in
    let from : c.len.result ≡ length t = search rules in
    let P : ℕ → Type 0 = λ n. IsPackedOf n seen c.in-Some-of.packed in
    let is = subst P from c.in-Some-of.ensures.is in
    let more : c.push_reserved.new.self.items ≡ c.self.inside.entries.items ++ c.in-Some-of.packed ∷ [] = search rules in
    push_kept t t1 t2 t3 t4 seen c.in-Some-of.packed c.self.inside.entries.items c.push_reserved.new.self.items h1 h2 h3 h4 short is more c.self.invariant

pub invariant_of-self-2 : goal.invariant_of-self-2
invariant_of-self-2 g c = (pushed g c).0

pub returns-clause-ok : goal.returns-clause-ok
returns-clause-ok g c = (pushed g c).1 ∙ ap (λ rows. rows ++ c.args.row.now ∷ []) c.self.view_is
