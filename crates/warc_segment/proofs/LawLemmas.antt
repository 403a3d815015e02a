-- The laws, for callers that cite a lemma.
use Rattle.warc_segment.specs.SeriesLaws.{LeastAbsentIsFirst, InOrderIsEach}
use Rattle.warc_segment.specs.Joined.{JoinedHasTotal, PlacesAreOfRecords, PlacesHoldTheBlock}
use Rattle.warc_segment.proofs.SeriesLemmas.{least_absent_is_first as first_is_least, in_order_is_each as each_in_order}
use Rattle.warc_segment.proofs.PlaceLemmas.{places_are_of_records as places_of_records, places_hold_the_block as block_held}
use Rattle.warc_segment.proofs.TotalLemmas.{joined_has_total as total_of_joined}

pub least_absent_is_first : LeastAbsentIsFirst
least_absent_is_first = first_is_least

pub in_order_is_each : InOrderIsEach
in_order_is_each = each_in_order

pub places_are_of_records : PlacesAreOfRecords
places_are_of_records = places_of_records

pub places_hold_the_block : PlacesHoldTheBlock
places_hold_the_block = block_held

pub joined_has_total : JoinedHasTotal
joined_has_total = total_of_joined
