-- Block digests (ISO 28500:2017, 5.8, which leaves algorithm and encoding open; SHA-1 by FIPS 180-4). That SHA-1 in
-- base32 is checked, and nothing else, is this project's own choice.
use Rattle.std.specs.Prelude.{ℕ, Bool, true, false, List, take, drop, codes, Option, Some, None, if◌then◌else◌}
use Rattle.std.specs.Str.{str_eq_ignore_ascii_case, bytes_eq}
use Rattle.sha1.specs.Sha1.{sha1}
use Rattle.warc_value.specs.Base32.{unbase32_of}
use Rattle.warc_value.specs.declared.hash.Wanted.{Wanted}
use Rattle.warc_value.specs.declared.hash.Wanted.TheVariants.{Sha1, Unchecked}
use Rattle.warc_value.specs.declared.hash.Verdict.{Verdict}
use Rattle.warc_value.specs.declared.hash.Verdict.TheVariants.{Good, Bad, Unchecked as NotChecked}

abbrev pub wanted_if_some : Option (List ℕ) → Wanted
wanted_if_some None = Unchecked
wanted_if_some (Some digest) = Sha1 digest

-- the digest that a value asks for: `sha1:` in any case, and 32 characters of base32 in either; any other value asks
-- for none
abbrev pub wanted_digest : List ℕ → Wanted
wanted_digest value =
    if str_eq_ignore_ascii_case (take 5 value) (codes "sha1:") then wanted_if_some (unbase32_of (drop 5 value))
    else Unchecked

-- the verdict on a block
abbrev pub verdict_of : Wanted → List ℕ → Verdict
verdict_of Unchecked block = NotChecked
verdict_of (Sha1 digest) block = if bytes_eq digest (sha1 block) then Good else Bad

-- a digest was checked and differs
abbrev pub is_bad : Verdict → Bool
is_bad Good = false
is_bad Bad = true
is_bad NotChecked = false
