use Rattle.warc_index.proofs.TextLemmas.{keeps_texts}
use Rattle.warc_index.proofs.laws.kept_texts_are_counted.Goals as goal

pub returns : goal.returns
returns c = keeps_texts
