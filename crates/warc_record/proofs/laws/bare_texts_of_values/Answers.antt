use Rattle.warc_record.proofs.LawLemmas.{bare_texts_are_bare, bare_texts_are_no_longer, bare_texts_are_values}
use Rattle.warc_record.proofs.laws.bare_texts_of_values.Goals as goal

pub returns-clause-values : goal.returns-clause-values
returns-clause-values c = bare_texts_are_values

pub returns-clause-bare : goal.returns-clause-bare
returns-clause-bare c = bare_texts_are_bare

pub returns-clause-shorter : goal.returns-clause-shorter
returns-clause-shorter c = bare_texts_are_no_longer
