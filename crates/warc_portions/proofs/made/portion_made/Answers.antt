use Rattle.std.proofs.Common.{rules, ◌^◌, ◌<◌, length}
use Rattle.warc_portions.proofs.MadeLemmas.{gives_made}
use Rattle.warc_write.specs.Making.{planned}
use Rattle.warc_portions.proofs.made.portion_made.Goals as goal

pub returns-in-Ok-portion_of-clause-made : goal.returns-in-Ok-portion_of-clause-made
returns-in-Ok-portion_of-clause-made g c =
    let a = c.args in
    let plan = planned a.kind a.uri.now a.date.now a.uuid.now a.content_type.now a.block.now in
    let gives = c.in-Ok-portion_of.ensures in
    let short : length a.block.now < 2 ^ 64 = search rules in (
      c.in-Ok.framed,
      c.in-Ok.ensures.made,
      gives_made c.in-Ok-portion_of.portion plan c.in-Ok.framed _ _ c.in-Ok.ensures.made gives.head c.version.ensures
          c.fields.ensures.fields gives.start gives.len short,
    )
