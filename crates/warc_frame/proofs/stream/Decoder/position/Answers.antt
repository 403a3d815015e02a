use Rattle.std.proofs.Common.{ap, ◌∙◌}
use Rattle.warc_frame.specs.Decoding.{State}
use Rattle.warc_frame.proofs.StreamState.{lies_there}
use Rattle.warc_frame.proofs.stream.Decoder.position.Goals as goal

pub returns-clause-history : goal.returns-clause-history
returns-clause-history g c = λ at taken reported s. (ap (λ (x : State). x.position) c.self.view_is ∙ s.position_is, lies_there at taken reported c.args.self.now s)
