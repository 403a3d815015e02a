use Rattle.std.proofs.Common.{◌≡◌, false, take, fold}
use Rattle.clap.specs.Simple.{App, app_of, with_rule}
use Rattle.clap.specs.declared.builder.command.Command.TheViews.{out-Command}
use Rattle.warc_arguments.specs.CommandLine.{rule_as}
use Rattle.warc_arguments.proofs.parser.with_words.Given as goal

-- the command has the words so far
abbrev pub invariant-loop-word : goal.invariant-loop-word
invariant-loop-word l = record {
  app : (app : App) → app_of l.fn.command ≡ app
      → app_of l.command ≡ fold (λ a word. with_rule a (rule_as l.form word.name.now)) app (take l.word-index l.words);
  local : (out-Command l.fn.command).has_globals ≡ false → (out-Command l.command).has_globals ≡ false;
}
