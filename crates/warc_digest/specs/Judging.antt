-- How much of a block is read to judge its digest (ISO 28500:2017, 5.8). This project's own notion.
use Rattle.std.specs.Prelude.{ℕ}
use Rattle.warc_value.specs.declared.hash.Wanted.{Wanted}
use Rattle.warc_value.specs.declared.hash.Wanted.TheVariants.{Sha1, Unchecked}

-- how many bytes of a block of this length are read to judge it: all, or none if no digest of it can be checked
abbrev pub judged_len : Wanted → ℕ → ℕ
judged_len Unchecked len = 0
judged_len (Sha1 digest) len = len
