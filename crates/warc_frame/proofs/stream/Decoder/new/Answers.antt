use Rattle.std.proofs.Common.{[], sym, subst, arith}
use Rattle.warc_frame.specs.Decoding.{IsAt, IsSound}
use Rattle.warc_frame.specs.Reported.{nothing}
use Rattle.warc_frame.specs.declared.stream.Phase.TheVariants as phases
use Rattle.warc_frame.proofs.StreamSteps.{begun, sound_between}
use Rattle.warc_frame.proofs.stream.Decoder.new.Goals as goal

pub invariant_of-result : goal.invariant_of-result
invariant_of-result g c = subst (λ x. IsSound c.args.at x 0) (sym c.new.ensures.items) (sound_between c.args.at 0 (omega arith) (omega arith) (omega arith))

pub returns : goal.returns
returns g c = subst (λ x. IsAt c.args.at [] nothing (record { phase = phases.Head; position = c.args.at; kept = x; left = 0; matched = 0 })) (sym c.new.ensures.items) (begun c.args.at)
