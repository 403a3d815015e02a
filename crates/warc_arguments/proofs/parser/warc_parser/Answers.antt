use Rattle.warc_arguments.proofs.parser.warc_parser.Goals as goal

pub returns-in-Ok : goal.returns-in-Ok
returns-in-Ok c = c.with_commands.ensures _ c.in-Ok.ensures
