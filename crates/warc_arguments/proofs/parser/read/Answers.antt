use Rattle.clap.specs.Matches.{found_of}
use Rattle.clap.specs.Walk.{rows_of}
use Rattle.warc_arguments.proofs.ClapLaws.{asked_is, read_as}
use Rattle.warc_arguments.proofs.parser.read.Goals as goal

pub returns : goal.returns
returns c =
    read_as c.args.matches.now c.in_ok-name.name.now (rows_of (found_of c.in_ok-name.texts.now)) _ c.in_ok-name.ensures.name c.in_ok-name.ensures.rows
    (asked_is c.in_ok-name.name.now (rows_of (found_of c.in_ok-name.texts.now)) (c.read_command.ensures.view _ c.read_path.ensures) c.read_command.ensures.flags c.is_given.ensures c.is_given-2.ensures)
