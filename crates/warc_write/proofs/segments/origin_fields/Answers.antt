use Rattle.warc_write.proofs.SplitLemmas.{continuation_is_value}
use Rattle.warc_write.proofs.segments.origin_fields.Goals as goal

pub add_field-requires : goal.add_field-requires
add_field-requires g c = continuation_is_value
