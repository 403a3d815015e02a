use Rattle.std.proofs.Common.{ap, take, ◌∙◌}
use Rattle.warc.specs.KnownPayloads.{KnownPayloads}
use Rattle.warc.proofs.KnownPayloadLemmas.{known_first}
use Rattle.warc.proofs.opened.known_payloads.WaitingPayloadsKeep.truncate.Goals as goal

pub returns : goal.returns
returns g c = λ records is.
    known_first c.args.count c.args.self.now _ records (c.truncate.ensures.items ∙ ap (λ (k : KnownPayloads). take c.args.count k.stated) c.self.view_is)
    (c.truncate-2.ensures ∙ ap (λ (k : KnownPayloads). take c.args.count k.verdicts) c.self.view_is) is
