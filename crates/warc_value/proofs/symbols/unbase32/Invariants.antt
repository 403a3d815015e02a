use Rattle.std.proofs.Common.{◌≡◌, ◌++◌, ◌*◌, take, drop, length, true}
use Rattle.std.specs.List.{list_all}
use Rattle.warc_value.specs.Base32.{bytes_of, is_symbol}
use Rattle.warc_value.proofs.symbols.unbase32.Given as goal

-- the groups so far are decoded, and the rest is to be
abbrev pub invariant-loop-group : goal.invariant-loop-group
invariant-loop-group l =
    (take (5 * l.group) l.bytes ++ bytes_of (drop (8 * l.group) l.text) ≡ bytes_of l.text)
    × (list_all is_symbol (take (8 * l.group) l.text) ≡ true) × (length l.bytes ≡ 20)
