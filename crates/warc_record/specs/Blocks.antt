-- How a record's block compares with the digest that its head states (ISO 28500:2017, 5.8).
use Rattle.std.specs.Prelude.{Bool}
use Rattle.warc_value.specs.Digests.{is_bad, verdict_of}
use Rattle.warc_frame.specs.Record.{Record}
use Rattle.warc_record.specs.Readings.{digest_wanted}

-- the digest was checked and differs
abbrev pub has_bad_digest : Record → Bool
has_bad_digest r = is_bad (verdict_of (digest_wanted r.fields) r.block)
