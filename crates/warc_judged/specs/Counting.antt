-- How many records are of a kind, have a verdict, or are marked as truncated. This project's own notion.
use Rattle.std.specs.Prelude.{ℕ, Bool, true, false, List, length, filter, slice_get, unwrap_or}
use Rattle.warc_value.specs.declared.hash.Verdict.{Verdict}
use Rattle.warc_value.specs.declared.hash.Verdict.TheVariants.{Good, Bad, Unchecked}
use Rattle.warc_record.specs.Kinds.{is_kind, kind_named}
use Rattle.warc_record.specs.declared.types.Kind.{Kind}
use Rattle.warc_index.specs.Captures.{is_capture}
use Rattle.warc_reading.specs.Row.{Row}

-- whether two verdicts are the same
abbrev pub is_verdict : Verdict → Verdict → Bool
is_verdict Good Good = true
is_verdict Bad Bad = true
is_verdict Unchecked Unchecked = true
is_verdict _ _ = false

-- whether a row is that of a record of a kind, and of a capture
abbrev pub is_of : Kind → Row → Bool
is_of kind row = is_kind kind (kind_named row.kind)

abbrev pub is_of_capture : Row → Bool
is_of_capture row = is_capture (kind_named row.kind)

-- how many rows pass a test
abbrev pub tally_of : (Row → Bool) → List Row → ℕ
tally_of test rows = length (filter test rows)

-- how many verdicts are this one, and which one is at a position; past the end it is as if nothing could be checked
abbrev pub verdict_tally : Verdict → List Verdict → ℕ
verdict_tally verdict verdicts = length (filter (is_verdict verdict) verdicts)

abbrev pub verdict_at : List Verdict → ℕ → Verdict
verdict_at verdicts position = unwrap_or (slice_get verdicts position) Unchecked
