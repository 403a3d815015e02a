use Rattle.std.proofs.Common.{[], ap}
use Rattle.std.specs.Prelude.{unwrap_or}
use Rattle.warc_replay.specs.TypeLines.{found_text}
use Rattle.warc_replay.proofs.TypeLineLemmas.{all_read, read_on}
use Rattle.warc_replay.proofs.replay.type_line.unsegmented_type.Goals as goal

pub loop-rest-preserved : goal.loop-rest-preserved
loop-rest-preserved c = λ fields is. read_on fields _ _ _ _ _ c.in_ok-line.ensures.cut c.in_ok-found.ensures (c.loop-rest.invariant fields is)

pub returns-in-Some : goal.returns-in-Some
returns-in-Some c = λ fields is. all_read fields _ _ _ _ (c.loop-rest.invariant fields is) c.is_empty.ensures c.loop-rest-test.false (ap (λ f. unwrap_or (found_text f) []) c.in-Some.is)

pub returns-in-None : goal.returns-in-None
returns-in-None c = λ fields is. all_read fields _ _ _ _ (c.loop-rest.invariant fields is) c.is_empty.ensures c.loop-rest-test.false (ap (λ f. unwrap_or (found_text f) []) c.in-None.is)
