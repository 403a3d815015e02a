use Rattle.std.proofs.Common.{◌≡◌, drop, find}
use Rattle.std.specs.Str.{str_eq_ignore_ascii_case}
use Rattle.warc_arguments.proofs.lookup.explanation_among.Given as goal

-- the first that has the number is among those that are left
abbrev pub invariant-loop-name : goal.invariant-loop-name
invariant-loop-name l = record {
  left : find (λ e. str_eq_ignore_ascii_case e.0.now l.number) l.explanations
      ≡ find (λ e. str_eq_ignore_ascii_case e.0.now l.number) (drop l.name-index l.explanations);
}
