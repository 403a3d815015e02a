use Rattle.warc.proofs.OutputLemmas.{outputs_are_counted}
use Rattle.warc.proofs.laws.outputs_are_counted.Goals as goal

pub returns : goal.returns
returns c =
    outputs_are_counted c.bare_texts_of_values.ensures.shorter c.findings_are_few.ensures c.findings_are_short.ensures
    c.converted_stays_good.ensures
