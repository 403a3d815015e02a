use Rattle.std.proofs.Common.{refl, arith}
use Rattle.std.proofs.lemmas.Simd.{length-chunk, zip2_splat, zip2_of_maps}
use lib.Lanes.{chunk}
use Rattle.warc_field.specs.Text.{is_value_byte}
use Rattle.warc_quick.proofs.RunLemmas.{run_is}
use Rattle.warc_quick.proofs.runs.value_run.Goals as goal

pub returns : goal.returns
unfolding is_value_byte
returns c =
    let v = chunk c.args.at 16 c.args.text.now in
    let long = length-chunk c.args.at 16 c.args.text.now c.requires in
    let low = zip2_of_maps _ _ _ v (zip2_splat _ v 16 32 long) (zip2_splat _ v 16 9 long) in
    run_is is_value_byte _ c.args.text.now c.args.at 16 _ _ (omega arith) c.requires c.type_inv.text c.lowest.ensures
    (zip2_of_maps _ _ _ v low (zip2_splat _ v 16 127 long)) refl
