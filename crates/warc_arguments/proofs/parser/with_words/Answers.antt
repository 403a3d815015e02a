use Rattle.std.proofs.Common.{[], fold, sym, ap, take_all, ◌∙◌}
use Rattle.std.proofs.lemmas.List.Folds.{fold-map}
use Rattle.std.proofs.lemmas.List.Sums.{fold_more}
use Rattle.clap.specs.Simple.{with_rule}
use Rattle.warc_arguments.specs.CommandLine.{rule_as}
use Rattle.warc_arguments.proofs.parser.with_words.Goals as goal

pub returns-clause-app : goal.returns-clause-app
returns-clause-app c = λ app is.
    c.loop-word.invariant.app app is
    ∙ ap (fold (λ a word. with_rule a (rule_as c.args.form word.name.now)) app) (take_all _ _ c.loop-word-test.false)
    ∙ sym (fold-map (λ a word. with_rule a (rule_as c.args.form word)) (λ w. w.name.now) app c.args.words.now)

pub loop-word-preserved : goal.loop-word-preserved
loop-word-preserved c = record {
  app = λ app is. c.in_ok-command.ensures.app _ (c.loop-word.invariant.app app is)
      ∙ sym (fold_more (λ a word. with_rule a (rule_as c.args.form word.name.now)) app c.args.words.now c.loop-word.word-index (record { name = record { ref_ptr = (0, 0); now = [] }; help = record { ref_ptr = (0, 0); now = [] } }) c.loop-word-test.true);
  local = λ old. c.in_ok-command.ensures.local (c.loop-word.invariant.local old);
}
