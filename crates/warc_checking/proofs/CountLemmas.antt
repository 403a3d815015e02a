-- How many findings an archive has at most.
use Rattle.std.proofs.Common.{◌≡◌, ℕ, ◌+◌, ◌*◌, ◌^◌, ◌<◌, ◌≤◌, List, [], ◌∷◌, length, take, length-append, arith}
use Rattle.std.proofs.lemmas.List.{length-map}
use Rattle.std.specs.List.{enumerate_from, flat_map}
use Rattle.warc_frame.specs.Count.{capped}
use Rattle.warc_frame.specs.Record.{Record, max_archive}
use Rattle.warc_frame.specs.Spelling.{SpellsAll}
use Rattle.warc_record.specs.Good.{IsGood}
use Rattle.warc_record.proofs.CountLemmas.{findings_are_few}
use Rattle.warc_reading.specs.Archive.{AreGood, IsArchiveOf, contents}
use Rattle.warc_record.specs.Blocks.{has_bad_digest}
use Rattle.warc_checking.specs.Checking.{about_record, findings_at, findings_after, findings_of_archive, findings_of_records, is_used, record_key}
use Rattle.warc_checking.specs.Checks.{FindingsAreCounted}
use Rattle.warc_reading.specs.Row.{Row}
use Rattle.warc_checking.proofs.SizeLemmas.{area_short, fields_few, records_len}
use Rattle.warc_reading.proofs.StreamLemmas.{spells_all}

-- a record has fewer than 2^17 findings
record_few : (before : List Record) (i : ℕ) (r : Record) → IsGood r → length (findings_at before i r) ≤ 65594
record_few before i r good =
    omega (
      arith,
      length-map (findings_after (take i before) r) (about_record i),
      area_short r good.framed,
      fields_few r.fields,
      findings_are_few r.fields (length r.block) (has_bad_digest r) (is_used (take i before) (record_key r)),
    )

some_few : (all : List Record) (n : ℕ) (rs : List Record) → AreGood rs → length (flat_map (λ p. findings_at all p.0 p.1) (enumerate_from n rs)) ≤ 65594 * length rs
some_few all n [] good = omega arith
some_few all n (r ∷ rs) (one, good) =
    omega (
      arith,
      record_few all n r one,
      some_few all (n + 1) rs good,
      length-append (findings_at all n r) (flat_map (λ p. findings_at all p.0 p.1) (enumerate_from (n + 1) rs)),
    )

archive_few : (rs : List Record) (bytes : List ℕ) → SpellsAll rs bytes → AreGood rs → length bytes ≤ max_archive → length (findings_of_archive rs) < 2 ^ 64
archive_few [] bytes is good short = omega arith
archive_few (r ∷ rs) bytes is good short =
    let few : length (findings_of_records (r ∷ rs)) ≤ 65594 * length (r ∷ rs) = some_few (r ∷ rs) 0 (r ∷ rs) good in
    let many : 16 * length (r ∷ rs) ≤ length bytes = records_len (r ∷ rs) bytes is in
    omega (arith, few, many, short)

pub findings_are_counted : FindingsAreCounted
findings_are_counted bytes rows is = archive_few (contents is.are.records) bytes (spells_all 0 is.are.records bytes is.are.spelled) is.are.good is.short

capped_is : (n : ℕ) → n < 2 ^ 64 → capped n ≡ n
capped_is n low = omega arith

pub counted : (bytes : List ℕ) (rows : List Row) (is : IsArchiveOf bytes rows) → capped (length (findings_of_archive (contents is.are.records))) ≡ length (findings_of_archive (contents is.are.records))
counted bytes rows is = capped_is (length (findings_of_archive (contents is.are.records))) (findings_are_counted bytes rows is)
