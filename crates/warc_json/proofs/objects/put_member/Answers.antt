use Rattle.std.proofs.Common.{rules, ap}
use Rattle.json.specs.Print.{quoted}
use Rattle.warc_json.proofs.PutLemmas.{puts_failed, puts_next, puts_same}
use Rattle.warc_json.proofs.objects.put_member.Goals as goal

pub returns-in_err-put : goal.returns-in_err-put
returns-in_err-put g c = puts_failed _ _ (puts_same c.comma_if.ensures c.in_err-put.ensures) (search rules)

pub returns-in_err-put_quoted : goal.returns-in_err-put_quoted
returns-in_err-put_quoted g c =
    puts_next _ _ (puts_same c.comma_if.ensures c.in_ok-put.ensures)
    (puts_failed _ _ (puts_same (ap quoted c.as_bytes.ensures.value) c.in_err-put_quoted.ensures) (search rules))

pub returns-in_err-put-2 : goal.returns-in_err-put-2
returns-in_err-put-2 g c =
    puts_next _ _ (puts_same c.comma_if.ensures c.in_ok-put.ensures)
    (puts_next _ _ (puts_same (ap quoted c.as_bytes.ensures.value) c.in_ok-put_quoted.ensures) (puts_failed _ _ c.in_err-put-2.ensures (search rules)))

pub returns : goal.returns
returns g c =
    puts_next _ _ (puts_same c.comma_if.ensures c.in_ok-put.ensures)
    (puts_next _ _ (puts_same (ap quoted c.as_bytes.ensures.value) c.in_ok-put_quoted.ensures) (puts_next _ _ c.in_ok-put-2.ensures c.put_value.ensures))
