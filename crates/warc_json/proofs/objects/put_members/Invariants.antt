use Rattle.std.proofs.Common.{◌≡◌, ◌++◌, ℕ, List, Option, map, take}
use Rattle.warc_frame.specs.Send.{IsStaged}
use Rattle.warc_json.specs.Objects.{member_seen}
use Rattle.warc_json.specs.Parts.{members_text}
use Rattle.warc_json.proofs.objects.put_members.Given as goal

-- the members so far are staged, and no write has failed
abbrev pub invariant-putting : goal.invariant-putting
invariant-putting g l = record {
  staged : (start : Option (List ℕ)) (output : List ℕ) → IsStaged start output ((g.W.Sink.seen l.fn.out).reports) l.fn.buffer
      → IsStaged start (output ++ members_text (take l.place (map member_seen l.members))) ((g.W.Sink.seen l.out).reports) l.buffer;
  sound : (g.W.Sink.seen l.out).faults ≡ (g.W.Sink.seen l.fn.out).faults;
}
