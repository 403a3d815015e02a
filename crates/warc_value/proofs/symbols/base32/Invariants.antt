use Rattle.std.proofs.Common.{◌≡◌, ◌++◌, ◌*◌, take, drop, length}
use Rattle.warc_value.specs.Base32.{base32_of}
use Rattle.warc_value.proofs.symbols.base32.Given as goal

-- the groups so far are encoded, and the rest is to be
abbrev pub invariant-loop-group : goal.invariant-loop-group
invariant-loop-group l = (take (8 * l.group) l.text ++ base32_of (drop (5 * l.group) l.bytes) ≡ base32_of l.bytes) × (length l.text ≡ 32)
