use Rattle.std.proofs.Common.{rules, ◌≡◌, false, ap, ap₂, ◌∙◌}
use Rattle.std.proofs.lemmas.Result.{IfOk-weaker}
use Rattle.clap.specs.Simple.{App, app_of, new_app, with_subcommand}
use Rattle.clap.specs.declared.builder.command.Command.TheViews.{out-Command}
use Rattle.warc_arguments.proofs.parser.with_command.Goals as goal

pub returns : goal.returns
returns c = λ app is.
    let start : app_of c.after_help-plain.result ≡ new_app c.args.entry.now.name.now = search rules in
    let alone : (out-Command c.after_help-plain.result).has_globals ≡ false = search rules in
    let shape = c.in_ok-command.ensures.app _ (c.in_ok-quiet.ensures.app _ (c.in_ok-flagged.ensures.app _ (c.in_ok-optional.ensures.app _ (c.in_ok-required.ensures.app _ start)))) in
    let local = c.in_ok-command.ensures.local (c.in_ok-quiet.ensures.local (c.in_ok-flagged.ensures.local (c.in_ok-optional.ensures.local (c.in_ok-required.ensures.local alone)))) in
    IfOk-weaker c.subcommand.result _ _
    (λ r adds. adds.shape local ∙ ap₂ with_subcommand is (ap (λ (x : App). x.top) shape)) c.subcommand.ensures
