use Rattle.std.proofs.Common.{◌≡◌, fold, take}
use Rattle.clap.specs.Simple.{App, app_of}
use Rattle.warc_arguments.specs.CommandLine.{layout_seen, with_layout}
use Rattle.warc_arguments.proofs.parser.with_commands.Given as goal

-- the parser has the commands so far
abbrev pub invariant-loop-entry : goal.invariant-loop-entry
invariant-loop-entry l = (app : App) → app_of l.fn.parser ≡ app
    → app_of l.parser ≡ fold (λ a e. with_layout a (layout_seen e)) app (take l.entry-index l.entries)
