use Rattle.warc_reading.proofs.FitLemmas.{rows_fit}
use Rattle.warc_reading.proofs.rows.rows_fit.Goals as goal

pub returns : goal.returns
returns c = rows_fit
