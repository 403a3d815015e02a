use Rattle.std.proofs.Common.{refl}
use Rattle.warc_quick.proofs.PlainLemmas.{is_record}
use Rattle.warc_quick.proofs.plain.with_block.Goals as goal

pub returns : goal.returns
returns c =
    is_record c.args.text.now c.args.head _ c.in_ok-block.block c.requires.head refl c.in_ok-block.ensures.block c.in_ok-block.ensures.is c.in_ok-block.ensures.within
