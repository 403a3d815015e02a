use Rattle.warc_fixity.proofs.ReadLemmas.{IsRead}
use Rattle.warc_fixity.proofs.encoded.read_symbols.Given as goal

-- the characters so far write the bytes so far, and the bits after them
abbrev pub invariant-reading : goal.invariant-reading
invariant-reading g l = IsRead l.symbols l.digest l.i l.bits g.row.N
