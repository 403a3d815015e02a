use Rattle.std.proofs.Common.{◌≡◌, take}
use Rattle.json.specs.Print.{escape}
use Rattle.warc_json.proofs.strings.are_plain.Given as goal

-- the bytes so far need no escape
abbrev pub invariant-loop-byte : goal.invariant-loop-byte
invariant-loop-byte l = escape (take l.byte-index l.text) ≡ take l.byte-index l.text
