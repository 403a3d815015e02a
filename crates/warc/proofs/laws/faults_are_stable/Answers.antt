use Rattle.warc.proofs.LawLemmas.{faults_are_stable}
use Rattle.warc.proofs.laws.faults_are_stable.Goals as goal

pub returns : goal.returns
returns c = faults_are_stable
