use Rattle.std.proofs.Common.{◌∙◌, ap, take}
use Rattle.std.proofs.lemmas.List.{take_at}
use Rattle.warc_index.proofs.addition.add_record.Goals as goal

pub returns-in-Err-clause-err_links : goal.returns-in-Err-clause-err_links
returns-in-Err-clause-err_links g c = c.truncate.ensures ∙ (ap (take c.args.position) c.in_ok-add.ensures.ok
    ∙ take_at c.args.links.now _ c.args.position c.requires.links)
