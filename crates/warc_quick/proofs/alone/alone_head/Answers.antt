use Rattle.warc_quick.proofs.AloneLemmas.{whole_head}
use Rattle.warc_quick.proofs.alone.alone_head.Goals as goal

pub returns : goal.returns
returns c =
    let is = c.in_ok-head.ensures.head in
    whole_head c.args.text.now c.args.block_len c.in_ok-head.head _ _ is.head c.if-head-text.false c.if-head-block_len.false
    (c.typed.ensures is.head.fields is.head.says) (c.value_of.ensures is.head.fields is.are)
