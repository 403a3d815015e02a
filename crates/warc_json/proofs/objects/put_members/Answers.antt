use Rattle.std.proofs.Common.{rules, ◌+◌, ◌++◌, drop, length, map, take, ap, ◌∙◌}
use Rattle.warc_json.specs.Objects.{member_seen}
use Rattle.warc_frame.proofs.LawLemmas.{longer, same_out, same_staged}
use Rattle.warc_json.proofs.EachLemmas.{each, each_rest}
use Rattle.warc_json.proofs.ObjectLemmas.{members_more, placed_text}
use Rattle.warc_json.proofs.objects.put_members.Goals as goal

pub returns-in_err-put_member : goal.returns-in_err-put_member
returns-in_err-put_member g c = record {
  out = search rules;
  cut = λ start output is.
      let ms = map member_seen c.args.members.now in
      let i = c.putting.place in
      let cut = c.in_err-put_member.ensures.cut start _ (c.putting.invariant.staged start output is) in
      let more = members_more output c.args.members.now i _ c.putting-test.true in
      let rest = each placed_text (0 + length (take (i + 1) ms)) (drop (i + 1) ms) in
      let whole = same_out (ap (λ l. l ++ rest) more ∙ each_rest placed_text output ms (i + 1)) (longer rest cut) in
      search rules;
  cause = search rules;
  left = search rules;
}

pub putting-preserved : goal.putting-preserved
putting-preserved g c = record {
  staged = λ start output is.
      same_staged (members_more output c.args.members.now c.putting.place _ c.putting-test.true)
      (c.in_ok-put_member.ensures.out start _ (c.putting.invariant.staged start output is));
  sound = search rules;
}
