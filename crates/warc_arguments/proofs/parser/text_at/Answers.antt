use Rattle.std.proofs.Common.{Some, None}
use Rattle.clap.specs.Matches.{found_of}
use Rattle.warc_arguments.proofs.ClapLaws.{text_is}
use Rattle.warc_arguments.proofs.parser.text_at.Goals as goal

pub returns-in-Some : goal.returns-in-Some
returns-in-Some c = text_is (found_of c.args.matches.now) c.args.name.now (Some c.in-Some.text.now) c.in-Some.ensures

pub returns-in-None : goal.returns-in-None
returns-in-None c = text_is (found_of c.args.matches.now) c.args.name.now None c.in-None.ensures
