use Rattle.std.proofs.lemmas.Option.{IfSome_then}
use Rattle.warc_answer.proofs.GiveLemmas.{info_at}
use Rattle.warc.proofs.KnownPayloadLemmas.{after_http, front_short}
use Rattle.warc.proofs.opened.known_payloads.after_head.Goals as goal

pub body_start-requires : goal.body_start-requires
body_start-requires c = front_short c.args.block.now c.front.result.now c.front.ensures

pub returns-in-Ok : goal.returns-in-Ok
returns-in-Ok c =
    let info = c.in-Ok.info in
    let found = c.in-Ok.ensures.found in
    let is = c.front_has_head.ensures c.args.block.now info found.0 (info_at _ c.args.block.now info found.0 c.front.ensures found.1) in
    IfSome_then c.rest_from.result c.rest_from.ensures (λ rest same. after_http c.args.block.now rest.now info is same)
