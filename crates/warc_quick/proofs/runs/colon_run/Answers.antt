use Rattle.std.proofs.Common.{◌==◌, not, refl, arith}
use Rattle.std.proofs.lemmas.Simd.{length-chunk, zip2_splat}
use lib.Lanes.{chunk}
use Rattle.warc_quick.proofs.RunLemmas.{run_is}
use Rattle.warc_quick.proofs.runs.colon_run.Goals as goal

pub returns : goal.returns
returns c =
    let v = chunk c.args.at 16 c.args.text.now in
    let long = length-chunk c.args.at 16 c.args.text.now c.requires in
    run_is (λ b. not (b == 58)) _ c.args.text.now c.args.at 16 _ _ (omega arith) c.requires c.type_inv.text c.lowest.ensures
    (zip2_splat _ v 16 58 long) refl
