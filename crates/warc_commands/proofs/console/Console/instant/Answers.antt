use Rattle.std.proofs.Common.{refl}
use Rattle.warc_commands.specs.Instants.{InstantEnds}
use Rattle.warc_commands.proofs.InstantLemmas.{shown_as}
use Rattle.warc_commands.proofs.WordLemmas.{bad_word, by_word}
use Rattle.warc_commands.proofs.console.Console.instant.Goals as goal

pub returns-in-Ok-clause-ends : goal.returns-in-Ok-clause-ends
returns-in-Ok-clause-ends g c = by_word (λ instant. InstantEnds c.args.date.now) _ _ _ _ _ c.in-Ok.ensures (refl, shown_as _ _ _ _ _ c.as_bytes.ensures.value c.show_instant.ensures)

pub returns-in-Err-clause-ends : goal.returns-in-Err-clause-ends
returns-in-Err-clause-ends g c = bad_word (λ instant. InstantEnds c.args.date.now) _ c.in-Err.fault _ _ _ _ _ c.in-Err.ensures c.refuse_word.ensures.reported c.refuse_word.ensures.status
