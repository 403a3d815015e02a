use Rattle.std.proofs.Common.{rules}
use Rattle.warc_json.proofs.PutLemmas.{puts_failed, puts_next}
use Rattle.warc_json.proofs.strings.put_quoted.Goals as goal

pub returns-in_err-put : goal.returns-in_err-put
returns-in_err-put g c = puts_failed _ _ c.in_err-put.ensures (search rules)

pub returns-in_err-put_escaped : goal.returns-in_err-put_escaped
returns-in_err-put_escaped g c = puts_next _ _ c.in_ok-put.ensures (puts_failed _ _ c.in_err-put_escaped.ensures (search rules))

pub returns : goal.returns
returns g c = puts_next _ _ c.in_ok-put.ensures (puts_next _ _ c.in_ok-put_escaped.ensures c.put-2.ensures)
