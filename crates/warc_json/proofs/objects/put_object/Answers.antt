use Rattle.std.proofs.Common.{rules, map}
use Rattle.warc_json.specs.Objects.{member_seen}
use Rattle.warc_json.proofs.ObjectLemmas.{object_is}
use Rattle.warc_json.proofs.PutLemmas.{puts_failed, puts_next, puts_same}
use Rattle.warc_json.proofs.objects.put_object.Goals as goal

pub returns-in_err-put : goal.returns-in_err-put
returns-in_err-put g c = let ms = map member_seen c.args.members.now in puts_same (object_is ms) (puts_failed _ _ c.in_err-put.ensures (search rules))

pub returns-in_err-put_members : goal.returns-in_err-put_members
returns-in_err-put_members g c =
    let ms = map member_seen c.args.members.now in
    puts_same (object_is ms) (puts_next _ _ c.in_ok-put.ensures (puts_failed _ _ c.in_err-put_members.ensures (search rules)))

pub returns : goal.returns
returns g c =
    let ms = map member_seen c.args.members.now in
    puts_same (object_is ms) (puts_next _ _ c.in_ok-put.ensures (puts_next _ _ c.in_ok-put_members.ensures c.put-2.ensures))
