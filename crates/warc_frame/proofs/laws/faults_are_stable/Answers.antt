use Rattle.warc_frame.proofs.LawLemmas.{faults_are_stable, faults_are_stable-record}
use Rattle.warc_frame.proofs.laws.faults_are_stable.Goals as goal

pub returns-clause-text : goal.returns-clause-text
returns-clause-text c = faults_are_stable

pub returns-clause-record : goal.returns-clause-record
returns-clause-record c = faults_are_stable-record
