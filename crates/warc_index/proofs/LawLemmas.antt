-- The laws, for callers that cite a lemma.
use Rattle.warc_index.specs.Captures.{ChosenIsLatest, LatestIsLast}
use Rattle.warc_index.specs.Referents.{ChainLoops, OriginsAreRecords}
use Rattle.warc_index.specs.Walks.{LoopsWhereUnfinished}
use Rattle.warc_index.proofs.ChoiceLemmas.{chosen_is_latest as chosen_latest, latest_is_last as latest_last}
use Rattle.warc_index.proofs.LoopLemmas.{chain_loops as chains_loop}
use Rattle.warc_index.proofs.OriginLemmas.{origins_are_records as origin_is_present}
use Rattle.warc_index.proofs.WalkLemmas.{loops_where_unfinished as loops_unfinished}

pub loops_where_unfinished : LoopsWhereUnfinished
loops_where_unfinished = loops_unfinished

pub latest_is_last : LatestIsLast
latest_is_last = latest_last

pub chosen_is_latest : ChosenIsLatest
chosen_is_latest = chosen_latest

pub origins_are_records : OriginsAreRecords
origins_are_records = origin_is_present

pub chain_loops : ChainLoops
chain_loops = chains_loop
