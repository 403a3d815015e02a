use Rattle.std.proofs.Common.{◌∙◌, ap, filter, refl}
use Rattle.std.specs.Prelude.{nat_lt}
use Rattle.warc_index.specs.Addition.{key_entry}
use Rattle.warc_index.proofs.KeptLemmas.{entry_taken_back}
use Rattle.warc_index.proofs.addition.add_entries.Goals as goal

pub returns-in-Err-clause-err_ids : goal.returns-in-Err-clause-err_ids
returns-in-Err-clause-err_ids g c =
    c.truncate.ensures ∙ (ap (λ es. filter (λ e. nat_lt e.position c.args.position) es) c.in_ok-add.ensures.ok
    ∙ entry_taken_back (g.O.HasEntries.entries c.args.by_id.now) c.args.position (key_entry c.args.position c.args.kept.now.id) refl c.requires.ids)
