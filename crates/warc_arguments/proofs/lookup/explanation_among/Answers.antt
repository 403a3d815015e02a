use Rattle.std.proofs.Common.{List, [], ℕ, Bor, option_map, sym, ap, ◌∙◌}
use Rattle.std.specs.Str.{str_eq_ignore_ascii_case}
use Rattle.warc_arguments.proofs.ExplainLemmas.{hit_here, passed_here}
use Rattle.warc_arguments.proofs.lookup.explanation_among.Goals as goal

-- an explanation of no number
abbrev nobody : Bor (List ℕ) × Bor (List ℕ)
nobody = (record { ref_ptr = (0, 0); now = [] }, record { ref_ptr = (0, 0); now = [] })

pub returns-then-is_same : goal.returns-then-is_same
returns-then-is_same c =
    let hit = sym c.is_same.ensures ∙ c.if-is_same.true in
    let found = hit_here (λ (e : Bor (List ℕ) × Bor (List ℕ)). str_eq_ignore_ascii_case e.0.now c.args.number.now) c.args.explanations.now c.loop-name.name-index nobody
    c.loop-name-test.true hit c.loop-name.invariant.left in
    sym (ap (option_map (λ e. e.1.now)) found)

pub loop-name-preserved : goal.loop-name-preserved
loop-name-preserved c = record {
  left =
      let miss = sym c.is_same.ensures ∙ c.if-is_same.false in
      passed_here (λ (e : Bor (List ℕ) × Bor (List ℕ)). str_eq_ignore_ascii_case e.0.now c.args.number.now) c.args.explanations.now c.loop-name.name-index nobody
      c.loop-name-test.true miss c.loop-name.invariant.left;
}
