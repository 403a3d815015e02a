use Rattle.warc_write.proofs.SplitLemmas.{one_is_value}
use Rattle.warc_write.proofs.segments.first_fields.Goals as goal

pub add_field-requires : goal.add_field-requires
add_field-requires g c = one_is_value
