use Rattle.std.proofs.Common.{fold, sym, ap, take_all, ◌∙◌}
use Rattle.std.proofs.lemmas.List.Folds.{fold-map}
use Rattle.std.proofs.lemmas.List.Sums.{fold_more}
use Rattle.warc_arguments.specs.CommandLine.{layout_seen, with_layout}
use Rattle.warc_arguments.proofs.parser.with_commands.Goals as goal

pub returns : goal.returns
returns c = λ app is.
    c.loop-entry.invariant app is
    ∙ ap (fold (λ a e. with_layout a (layout_seen e)) app) (take_all _ _ c.loop-entry-test.false)
    ∙ sym (fold-map with_layout layout_seen app c.args.entries.now)

pub loop-entry-preserved : goal.loop-entry-preserved
loop-entry-preserved c = λ app is.
    c.in_ok-parser.ensures _ (c.loop-entry.invariant app is)
    ∙ sym (fold_more (λ a e. with_layout a (layout_seen e)) app c.args.entries.now c.loop-entry.entry-index _ c.loop-entry-test.true)
