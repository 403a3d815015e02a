use Rattle.std.proofs.Common.{refl}
use Rattle.warc_record.specs.Table.{rules}
use Rattle.warc_record.proofs.table.rows.Goals as goal

pub returns : goal.returns
unfolding rules
returns c = refl
