use Rattle.std.proofs.Common.{◌≡◌, ℕ, ◌%◌, List, [], ◌++◌, length, take, drop, arith, ap, ◌∙◌}
use Rattle.std.proofs.lemmas.List.{take_rest}
use Rattle.sha1.specs.Sha1.{padding}
use Rattle.warc_lanes.proofs.CallerLemmas.{blocks_and_last, last_is_whole, same_in_lanes, taken_along, whole_piece}
use Rattle.warc_lanes.proofs.tests.digest_in_lane.Goals as goal

pub returns : goal.returns
returns c =
    let m : List ℕ = c.args.message.now in
    let done : ℕ = c.update-taken.result in
    let first = c.update-taken.ensures.taken c.args.lane c.requires [] (c.new-digests.ensures c.args.lane c.requires) in
    let second = c.update.ensures.taken c.args.lane c.requires _ first in
    let front : take done _ ≡ take done m = ap (take done) (same_in_lanes c.args.message c.args.lane c.requires) in
    let ending : List ℕ = take c.put_last-end.result c.put_last-end.new.buffer in
    let last : ending ≡ drop done m ++ padding (length m) =
    c.put_last-end.ensures.last ∙ ap (λ (xs : List ℕ). xs ++ padding (length m)) (take_rest m done) in
    let whole : length ending % 64 ≡ 0 = last_is_whole m _ done (omega (arith, c.update-taken.ensures.len)) (omega arith) last in
    c.finish.ensures.digest m (taken_along _ c.args.lane _ _ second
    (blocks_and_last m _ _ done front (whole_piece (record { ref_ptr = (0, 0); now = ending }) c.args.lane c.update.result c.requires whole c.update.ensures.len ∙ last)))
