use Rattle.std.proofs.Common.{List, ℕ, find, option_map, ap, ◌∙◌}
use Rattle.std.specs.Str.{str_eq_ignore_ascii_case}
use Rattle.warc_arguments.specs.Explanations.{explained}
use Rattle.warc_arguments.proofs.ExplainLemmas.{found_seen}
use Rattle.warc_arguments.proofs.lookup.explanation_of.Goals as goal

pub returns : goal.returns
unfolding explained
returns c = c.explanation_among.ensures ∙ found_seen c.table.result.now c.args.number.now
    ∙ ap (λ (l : List (List ℕ × List ℕ)). option_map (λ e. e.1) (find (λ e. str_eq_ignore_ascii_case e.0 c.args.number.now) l)) c.table.ensures
