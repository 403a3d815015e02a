use Rattle.warc_record.proofs.ByteLemmas.{ends_by_blank, ends_by_bracket}
use Rattle.warc_record.proofs.ids.holds_id_end.Goals as goal

pub returns-then-holds_bracket : goal.returns-then-holds_bracket
returns-then-holds_bracket c = ends_by_bracket c.args.text.now c.holds_bracket.result c.holds_bracket.ensures c.if-holds_bracket.true

pub returns-else-holds_bracket : goal.returns-else-holds_bracket
returns-else-holds_bracket c = ends_by_blank c.args.text.now c.holds_bracket.result c.holds_blank.result c.holds_bracket.ensures c.if-holds_bracket.false c.holds_blank.ensures
