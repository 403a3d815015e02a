use Rattle.warc_segment.proofs.LawLemmas.{places_are_of_records}
use Rattle.warc_segment.proofs.laws.places_are_of_records.Goals as goal

pub returns : goal.returns
returns c = places_are_of_records
