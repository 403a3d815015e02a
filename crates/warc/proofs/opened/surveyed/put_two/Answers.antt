use Rattle.std.proofs.Common.{◌++◌, codes}
use Rattle.std.proofs.lemmas.Result.{err_from_is_err_and}
use Rattle.warc_judged.specs.Fixity.{fixity_text}
use Rattle.warc.specs.Survey.{part_name}
use Rattle.warc_judged.proofs.ClaimLemmas.{puts_cut, puts_then}
use Rattle.warc.proofs.opened.surveyed.put_two.Goals as goal

pub returns-in_err-put_list : goal.returns-in_err-put_list
returns-in_err-put_list g c =
    let e = err_from_is_err_and c.from_residual.result c.from_residual.ensures.1 in
    rw (e.1, e.2) (puts_cut (part_name (codes "fixity") ++ fixity_text c.args.rows.now c.args.digests.now) c.in_err-put_list.ensures)

pub returns : goal.returns
returns g c = puts_then c.in_ok-put_list.ensures c.put_digests.ensures
