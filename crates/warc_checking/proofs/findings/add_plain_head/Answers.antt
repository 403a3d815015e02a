use Rattle.std.proofs.Common.{length, refl}
use Rattle.std.proofs.lemmas.Result.{on_ok_weaker}
use Rattle.warc_quick.specs.PlainFindings.{all_plain}
use Rattle.warc_checking.proofs.AmongLemmas.{plain_without_digest}
use Rattle.warc_checking.proofs.JudgingLemmas.{known_found, plain_more}
use Rattle.warc_checking.proofs.findings.add_plain_head.Goals as goal

pub add_plain-requires : goal.add_plain-requires
add_plain-requires g c =
    let (p, start, next) = c.requires in
    let head = c.args.found.now.head in
    plain_without_digest p.content.fields head.block_len (all_plain c.in-Some.known)
    (known_found p.content.fields head c.in-Some.known head.block_len next.says c.in-Some.is refl)

pub returns-in-Some-clause-ok : goal.returns-in-Some-clause-ok
returns-in-Some-clause-ok g c = λ p start next.
    let fields = p.content.fields in
    let len = length p.content.block in
    let are = known_found fields c.args.found.now.head c.in-Some.known len next.says c.in-Some.is next.len_is in
    on_ok_weaker c.add_plain.result (λ more. plain_more fields len (all_plain c.in-Some.known) c.args.findings.now _ are more)
    c.add_plain.ensures.ok
