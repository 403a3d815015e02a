use Rattle.std.proofs.Common.{◌≡◌, false, [], sym, ap, ◌∙◌}
use Rattle.sha1.specs.Sha1.{sha1}
use Rattle.warc_checking.specs.Batch.{verdict_with}
use Rattle.warc_replay.specs.PayloadVerdicts.{payload_value}
use Rattle.warc.proofs.KnownPayloadLemmas.{known_more, right_unjudged}
use Rattle.warc.proofs.opened.known_payloads.WaitingPayloadsKeep.keep.Goals as goal

pub returns-clause-ok : goal.returns-clause-ok
returns-clause-ok g c = λ records p are position next seen.
    let one = c.not_judged.result in
    let none : one.stated ≡ false → payload_value p.content.fields ≡ [] = λ e. sym (ap payload_value (c.fields.ensures.fields ∙ next.fields_are)) ∙ c.states_payload.ensures (sym c.not_judged.ensures.stated ∙ e) in
    known_more c.add.result c.args.self.now c.add.new.self records p one.stated (verdict_with one.check (sha1 one.payload.now)) are
    (right_unjudged p one.stated _ none (c.not_judged.ensures.unknown _)) c.add.ensures.ok
