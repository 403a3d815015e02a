-- What reading a command line answers.
use Rattle.std.specs.Prelude.{◌≡◌, true, List, [], Some, Result, IfOk, IfErr}
use Rattle.clap.specs.Faults.{fault_of}
use Rattle.clap.specs.Takes.{takes}
use Rattle.clap.specs.Walk.{Text}
use Rattle.warc_arguments.specs.Command.{asked_by}
use Rattle.warc_arguments.specs.CommandLine.{IsReportedBy, asked_of, warc_app}
use Rattle.warc_arguments.specs.declared.parser.CommandFault.{CommandFault}
use Rattle.warc_arguments.specs.declared.parser.CommandFault.TheVariants.{Memory}
use Rattle.warc_arguments.specs.declared.command.Request.{Request}

-- what words name, as `parse` answers it
pub record IsParsed (words : List Text) (parsed : Result Request CommandFault) : Type 0 where
  pub named : IfOk parsed (λ r. Some (asked_by r) ≡ asked_of words)
  pub accepted : IfOk parsed (λ _. fault_of warc_app words ≡ [])
  pub taken : IfErr parsed (λ e. takes warc_app words ≡ true → e ≡ Memory)
  pub reported : IfErr parsed (IsReportedBy (fault_of warc_app words))

-- a command line that was read: its words, and what they name
pub record ReadLine : Type 0 where
  pub words : List Text
  pub parsed : Result Request CommandFault
