-- The lines that say how payloads compare with the digests that heads state. This project's own notion.
use Rattle.std.specs.Prelude.{ℕ, Bool, true, false, ◌&&◌, List, [], ◌∷◌, ◌++◌, length, filter, codes, decimal, Option, Some, None, is_some}
use Rattle.std.specs.List.{enumerate_from, flat_map, join_with_byte, list_all, list_any}
use Rattle.warc_record.specs.Ids.{bare_text}
use Rattle.warc_value.specs.declared.hash.Verdict.{Verdict}
use Rattle.warc_value.specs.declared.hash.Verdict.TheVariants as plain
use Rattle.warc_reading.specs.Row.{Row}
use Rattle.warc_judged.specs.Counting.{is_verdict}
use Rattle.warc_judged.specs.Fixity.{counts_line, digest_at, verdict_text}
use Rattle.warc_judged.specs.Listing.{shown}
use Rattle.warc_replay.specs.PayloadVerdicts.{PayloadJudgements, payload_verdict_at}
use Rattle.warc_judged.specs.declared.digests.Counts.{Counts}
use Rattle.warc_replay.specs.declared.record.payload.PayloadVerdict.{PayloadVerdict}
use Rattle.warc_replay.specs.declared.record.payload.PayloadVerdict.TheVariants.{Good, Bad, Unchecked}
use Rattle.warc_replay.specs.declared.record.payload.Unjudged.{Unjudged}
use Rattle.warc_replay.specs.declared.record.payload.Unjudged.TheVariants.{Revisit, Request, Segment, Algorithm, Head, Coded}

-- what a reason is called
abbrev pub unjudged_text : Unjudged → List ℕ
unjudged_text Revisit = codes "revisit"
unjudged_text Request = codes "request"
unjudged_text Segment = codes "segment"
unjudged_text Algorithm = codes "algorithm"
unjudged_text Head = codes "head"
unjudged_text Coded = codes "coded"

-- the reason of a verdict, or a dash for none
abbrev pub reason_of : PayloadVerdict → List ℕ
reason_of Good = codes "-"
reason_of Bad = codes "-"
reason_of (Unchecked why) = unjudged_text why

-- a verdict without its reason
abbrev pub plain_verdict : PayloadVerdict → Verdict
plain_verdict Good = plain.Good
plain_verdict Bad = plain.Bad
plain_verdict (Unchecked why) = plain.Unchecked

-- the line of a payload: the position of its record, the verdict, the bare id, the reason and the digest's value,
-- separated by tabs, ended by LF
unfoldable pub payload_line : ℕ → PayloadVerdict → Row → List ℕ → List ℕ
payload_line position verdict row digest =
    join_with_byte 9 (decimal position ∷ verdict_text (plain_verdict verdict) ∷ bare_text row.id ∷ reason_of verdict
    ∷ shown digest ∷ [])
    ++ codes "\n"

-- the line of a payload, if it isn't good, and nothing if no digest is stated
abbrev pub payload_line_if : ℕ → Option PayloadVerdict → Row → List ℕ → List ℕ
payload_line_if position None row digest = []
payload_line_if position (Some Good) row digest = []
payload_line_if position (Some Bad) row digest = payload_line position Bad row digest
payload_line_if position (Some (Unchecked why)) row digest = payload_line position (Unchecked why) row digest

-- the line of the row at a position
abbrev pub payload_line_at : PayloadJudgements → ℕ → Row → List ℕ
payload_line_at judged position row =
    payload_line_if position (payload_verdict_at judged.verdicts position) row (digest_at judged.digests position)

abbrev pub payload_lines : PayloadJudgements → List Row → List ℕ
payload_lines judged rows = flat_map (λ p. payload_line_at judged p.0 p.1) (enumerate_from 0 rows)

-- whether a payload has a verdict, or this one
abbrev pub is_payload_verdict : Option Verdict → Option PayloadVerdict → Bool
is_payload_verdict wanted None = false
is_payload_verdict None (Some verdict) = true
is_payload_verdict (Some one) (Some verdict) = is_verdict one (plain_verdict verdict)

abbrev pub payload_tally : Option Verdict → List (Option PayloadVerdict) → ℕ
payload_tally wanted verdicts = length (filter (is_payload_verdict wanted) verdicts)

-- how many records state the digest of their payload, and how many of each verdict
abbrev pub payload_counts : List (Option PayloadVerdict) → Counts
payload_counts verdicts = record {
  records = payload_tally None verdicts;
  good = payload_tally (Some plain.Good) verdicts;
  bad = payload_tally (Some plain.Bad) verdicts;
  unchecked = payload_tally (Some plain.Unchecked) verdicts;
}

-- all lines, and the counts
abbrev pub payloads_text : List Row → PayloadJudgements → List ℕ
payloads_text rows judged = payload_lines judged rows ++ counts_line (payload_counts judged.verdicts)

-- a payload is good, or has no digest, or is a request's
abbrev pub is_verified : Option PayloadVerdict → Bool
is_verified None = true
is_verified (Some Good) = true
is_verified (Some Bad) = false
is_verified (Some (Unchecked Request)) = true
is_verified (Some (Unchecked why)) = false

-- some digest is stated, and each payload is verified
abbrev pub are_verified : List (Option PayloadVerdict) → Bool
are_verified verdicts = list_any is_some verdicts && list_all is_verified verdicts
