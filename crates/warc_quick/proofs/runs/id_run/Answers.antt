use Rattle.std.proofs.Common.{not, refl, arith}
use Rattle.std.proofs.lemmas.Simd.{length-chunk, zip2_splat, zip2_of_maps}
use lib.Lanes.{chunk}
use Rattle.warc_field.specs.Text.{is_blank}
use Rattle.warc_record.specs.Ids.{ends_id}
use Rattle.warc_quick.proofs.RunLemmas.{run_is}
use Rattle.warc_quick.proofs.runs.id_run.Goals as goal

pub returns : goal.returns
unfolding is_blank
returns c =
    let v = chunk c.args.at 16 c.args.text.now in
    let long = length-chunk c.args.at 16 c.args.text.now c.requires in
    let bracket = zip2_of_maps _ _ _ v (zip2_splat _ v 16 60 long) (zip2_splat _ v 16 62 long) in
    let blank = zip2_of_maps _ _ _ v (zip2_splat _ v 16 32 long) (zip2_splat _ v 16 9 long) in
    run_is (λ b. not (ends_id b)) _ c.args.text.now c.args.at 16 _ _ (omega arith) c.requires c.type_inv.text c.lowest.ensures
    (zip2_of_maps _ _ _ v bracket blank) refl
