use Rattle.std.proofs.Common.{[], refl, arith, sym, slice_index, ◌∙◌}
use Rattle.sha1.specs.Sha1.{round_constant, schedule}
use Rattle.warc_lanes.proofs.LaneLemmas.{word_of_lane}
use Rattle.warc_lanes.proofs.RoundLemmas.{round_taken}
use Rattle.warc_lanes.proofs.chain.step.Goals as goal

pub returns : goal.returns
returns c block hash keyed before =
    let t = c.args.t in
    round_taken block hash [] c.args.v _ t _ _ _ before c.mix.ensures refl refl
    (c.round.ensures (round_constant t) (slice_index (schedule block 64) t)
    (sym (word_of_lane c.args.lane c.args.keyed.now t) ∙ keyed t (omega arith)))
