use Rattle.warc_arguments.proofs.parser.first_parser.Goals as goal

pub returns : goal.returns
returns c = c.with_commands.ensures _ c.bare_parser.ensures
