use Rattle.std.proofs.Common.{true, false, sym, ◌∙◌}
use Rattle.warc_write.proofs.MakeLemmas.{date_by, no_content_type, no_date, no_parse, no_target, no_uuid}
use Rattle.warc_write.proofs.made.judge.Goals as goal

pub returns-then-is_none-clause-refused : goal.returns-then-is_none-clause-refused
returns-then-is_none-clause-refused c = λ kind type block named.
    no_date _ type named (date_by c.args.date.now c.read_date.result _ true c.read_date.ensures c.is_none.ensures c.if-is_none.true)

pub returns-then-not-is_target-clause-refused : goal.returns-then-not-is_target-clause-refused
returns-then-not-is_target-clause-refused c = λ kind type block named.
    no_target _ type named
    (date_by c.args.date.now c.read_date.result _ false c.read_date.ensures c.is_none.ensures c.if-is_none.false)
    (sym c.is_target.ensures ∙ c.if-not-is_target.true)

pub returns-in_default-clause-refused : goal.returns-in_default-clause-refused
returns-in_default-clause-refused c = λ kind type block named.
    no_uuid _ type named
    (date_by c.args.date.now c.read_date.result _ false c.read_date.ensures c.is_none.ensures c.if-is_none.false)
    (sym c.is_target.ensures ∙ c.if-not-is_target.false)
    (no_parse c.try_parse_ascii.result _ c.try_parse_ascii.ensures.ok c.in_default.not-Ok)

pub returns-then-not-is_text-clause-refused : goal.returns-then-not-is_text-clause-refused
returns-then-not-is_text-clause-refused c = λ kind type block named.
    no_content_type _ type c.in-Ok.uuid named
    (date_by c.args.date.now c.read_date.result _ false c.read_date.ensures c.is_none.ensures c.if-is_none.false)
    (sym c.is_target.ensures ∙ c.if-not-is_target.false) (sym c.in-Ok.ensures.bytes)
    (sym c.is_text.ensures ∙ c.if-not-is_text.true)

pub returns-clause-date : goal.returns-clause-date
returns-clause-date c = date_by c.args.date.now c.read_date.result _ false c.read_date.ensures c.is_none.ensures c.if-is_none.false
