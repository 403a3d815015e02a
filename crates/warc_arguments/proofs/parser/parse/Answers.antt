use Rattle.std.proofs.Common.{map, Err, Some}
use Rattle.clap.specs.Faults.{fault_of}
use Rattle.clap.specs.Simple.{app_of}
use Rattle.clap.specs.Values.{kind_of}
use Rattle.warc_arguments.specs.CommandLine.{warc_app}
use Rattle.warc_arguments.specs.Command.{asked_by}
use Rattle.warc_arguments.proofs.ClapLaws.{fails_by, no_fault, taken_by, reported_by, words_name}
use Rattle.warc_arguments.proofs.parser.parse.Goals as goal

pub returns-in-Some-clause-named : goal.returns-in-Some-clause-named
returns-in-Some-clause-named g c =
    words_name (app_of c.in-Ok.parser) (map g.S.AsStr.text c.args.words.now) c.in-Ok-try_get_matches_from.matches (Some (asked_by c.in-Some.request))
    c.in-Ok.ensures c.in-Ok-try_get_matches_from.ensures.matches c.in-Some.ensures

pub returns-in-Some-clause-accepted : goal.returns-in-Some-clause-accepted
returns-in-Some-clause-accepted g c =
    no_fault (app_of c.in-Ok.parser) (map g.S.AsStr.text c.args.words.now) c.in-Ok-try_get_matches_from.matches
    c.in-Ok.ensures c.in-Ok-try_get_matches_from.ensures.kinds

pub returns-in-Err-clause-taken : goal.returns-in-Err-clause-taken
returns-in-Err-clause-taken g c = λ taken.
    c.refusal.ensures.memory (c.in-Err.ensures.passes (taken_by (app_of c.in-Ok.parser) (map g.S.AsStr.text c.args.words.now) c.in-Ok.ensures taken))

pub returns-in-Err-clause-reported : goal.returns-in-Err-clause-reported
returns-in-Err-clause-reported g c =
    let words = map g.S.AsStr.text c.args.words.now in
    reported_by (fault_of warc_app words) (kind_of c.in-Err.error) c.refusal.result c.refusal.ensures.reported c.refusal.ensures.memory
    (fails_by (app_of c.in-Ok.parser) words (Err c.in-Err.error) c.in-Ok.ensures c.in-Err.ensures.kinds)
