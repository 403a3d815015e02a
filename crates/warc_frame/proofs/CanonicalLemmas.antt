-- How long a head is that is written canonically.
use Rattle.std.proofs.Common.{◌≡◌, ℕ, ◌+◌, ◌*◌, ◌^◌, ◌<◌, ◌≤◌, not, nat_lt, true, false, List, ◌++◌, length, length-append, refl, sym, ap, arith}
use Rattle.std.proofs.lemmas.Bool.{false_from_ne_true, ltb-true, lt-ltb}
use Rattle.warc_field.specs.Lines.{crlf}
use Rattle.warc_field.specs.Area.{Pair, canonical_fields}
use Rattle.warc_frame.specs.declared.version.Version.{Version}
use Rattle.warc_frame.specs.declared.version.Version.TheVariants.{V1_0, V1_1}
use Rattle.warc_frame.specs.Record.{canonical_len, head_text, max_head}
use Rattle.warc_frame.specs.VersionLine.{version_line}

pub version_size : (version : Version) → length (version_line version) ≡ 10
version_size V1_0 = refl
version_size V1_1 = refl

pub head_size : (version : Version) (area : List ℕ) → length (head_text version area) ≡ length area + 12
head_size version area = omega (arith, length-append (version_line version ++ area) crlf, length-append (version_line version) area, version_size version)

pub canonical_size : (version : Version) (fields : List Pair) → canonical_len version fields ≡ length (canonical_fields fields) + 12
unfolding canonical_len
canonical_size version fields = head_size version (canonical_fields fields)

-- what a length of the area says of the head's
pub head_fits : (version : Version) (fields : List Pair) (n : ℕ) → n ≡ length (canonical_fields fields) → n ≤ 65524 → true ≡ not (nat_lt max_head (canonical_len version fields))
head_fits version fields n e small =
    let within : nat_lt max_head (canonical_len version fields) ≡ false = false_from_ne_true _ (λ is. absurd (omega (arith, ltb-true _ _ is, e, small, canonical_size version fields))) in
    sym (ap not within)

pub head_passes : (version : Version) (fields : List Pair) (n : ℕ) → n ≡ length (canonical_fields fields) → 65524 < n → false ≡ not (nat_lt max_head (canonical_len version fields))
head_passes version fields n e large =
    let past : nat_lt max_head (canonical_len version fields) ≡ true = lt-ltb _ _ (omega (arith, e, large, canonical_size version fields)) in
    sym (ap not past)

-- nor need it be measured, where a head of at most half the limit spells the fields
pub short_fits : (version : Version) (fields : List Pair) (len : ℕ) → canonical_len version fields ≤ 2 * len → len ≤ 32768 → true ≡ not (nat_lt max_head (canonical_len version fields))
short_fits version fields len within small =
    let fits : nat_lt max_head (canonical_len version fields) ≡ false = false_from_ne_true _ (λ is. absurd (omega (arith, ltb-true _ _ is, within, small))) in
    sym (ap not fits)
