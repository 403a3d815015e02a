use Rattle.std.proofs.lemmas.List.{take_rest}
use Rattle.warc_lanes.proofs.PieceLemmas.{padded_kept}
use Rattle.warc_lanes.proofs.each.Padded.new.Goals as goal

pub returns-clause-padded : goal.returns-clause-padded
returns-clause-padded c =
    let m = c.args.message.now in
    let whole = c.whole_len-whole in
    let put = c.put_last-end in
    let kept = padded_kept m _ put.new.buffer whole.result put.result whole.ensures (take_rest m whole.result) put.ensures.last put.ensures.end in
    record { len_is = kept.0; tail_is = kept.1 }
