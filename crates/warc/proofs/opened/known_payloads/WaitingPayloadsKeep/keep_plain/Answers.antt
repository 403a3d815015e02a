use Rattle.sha1.specs.Sha1.{sha1}
use Rattle.warc_checking.specs.Batch.{verdict_with}
use Rattle.warc.proofs.KnownPayloadLemmas.{known_more}
use Rattle.warc.proofs.opened.known_payloads.WaitingPayloadsKeep.keep_plain.Goals as goal

pub to_judge-requires-clause-next : goal.to_judge-requires-clause-next
to_judge-requires-clause-next g c = (c.requires.next.0, c.args._block_start, c.requires.next.1)

pub returns-clause-ok : goal.returns-clause-ok
returns-clause-ok g c = λ records p are position next.
    let one = c.to_judge.result in
    known_more c.add.result c.args.self.now c.add.new.self records p one.stated (verdict_with one.check (sha1 one.payload.now)) are
    (c.to_judge.ensures p c.args._block_start next) c.add.ensures.ok
