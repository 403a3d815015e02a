-- What `survey` writes of an archive: what `list`, `fixity`, `check`, `summary`, `captures` and `fixity --payload`
-- write, each after a line with its name. This project's own notion.
use Rattle.std.specs.Prelude.{◌≡◌, ℕ, Bool, List, ◌++◌, length, map, take, codes, Option, Result, IfErr, OnOk}
use Rattle.std.specs.Io.KnownBytes.{append_known}
use Rattle.warc_frame.specs.Device.{Staged}
use Rattle.warc_frame.specs.Effects.{FailsBy, Preserves}
use Rattle.warc_frame.specs.Failing.{failed_by}
use Rattle.warc_frame.specs.Record.{Record}
use Rattle.warc_frame.specs.Seen.{IfHeld, Seen, SeenSource}
use Rattle.warc_frame.specs.Send.{IsStaged, WentOut, sent_of}
use Rattle.warc_frame.specs.declared.fault.OutFault.{OutFault}
use Rattle.warc_record.specs.Findings.{SeenFinding}
use Rattle.warc_value.specs.declared.hash.Verdict.{Verdict}
use Rattle.warc_index.specs.Orders.{Indexes}
use Rattle.warc_segment.specs.Kept.{Kept as Parts}
use Rattle.warc_reading.specs.Archive.{Contents, IsArchiveOf, contents}
use Rattle.warc_lookup.specs.Indexed.{AreOf, IsIndexedBy}
use Rattle.warc_reading.specs.Judging.{verdict_on}
use Rattle.warc_reading.specs.Row.{Placed, Row}
use Rattle.warc_checking.specs.Checking.{check_text}
use Rattle.warc_checking.specs.Judged.{own_findings}
use Rattle.warc_checking.specs.OwnFindings.{Found, unjudged}
use Rattle.warc_replay.specs.Captures.{capture_positions, captures_text}
use Rattle.warc_replay.specs.Capturing.{AreOutcomes}
use Rattle.warc_judged.specs.Fixity.{AreDigested, Judgements, digest_kept, fixity_text, stated_on}
use Rattle.warc_judged.specs.Listing.{listing}
use Rattle.warc_replay.specs.Outcomes.{CaptureSeen}
use Rattle.warc_replay.specs.PayloadText.{payloads_text}
use Rattle.warc_replay.specs.PayloadVerdicts.{AreJudgedPayloads, PayloadJudgements}
use Rattle.warc_replay.specs.Replaying.{AsksInside}
use Rattle.warc_judged.specs.Summary.{AreFlagged, Flags, IsSummaryOf, is_numbered, summary_text}
use Rattle.warc_judged.specs.declared.summary.Summary.{Summary}
use Rattle.warc_judged.specs.Claims.{SurveyMarks, claimed_on}
use Rattle.warc.specs.KnownPayloads.{AreKnownPayloads, AreRightFor, KnownPayloads}

-- what the six commands write of: rows, verdicts, records, numbers, the outcomes of captures, and those of payloads
pub record Survey : Type 0 where
  pub rows : List Row
  pub judged : Judgements
  pub records : List Record
  pub summary : Summary
  pub captures : List CaptureSeen
  pub payloads : PayloadJudgements

-- the line before what a command writes
abbrev pub part_name : List ℕ → List ℕ
part_name name = codes "# " ++ name ++ codes "\n"

-- what each of the six writes, after a line with its name
unfoldable pub survey_text : Survey → List ℕ
survey_text s =
    part_name (codes "list") ++ listing s.rows
    ++ part_name (codes "fixity") ++ fixity_text s.rows s.judged
    ++ part_name (codes "check") ++ check_text s.records
    ++ part_name (codes "summary") ++ summary_text s.summary
    ++ part_name (codes "captures") ++ captures_text s.rows s.captures
    ++ part_name (codes "payloads") ++ payloads_text s.rows s.payloads

-- each is what its command says of the archive that the bytes are; the outcomes are of the captures at these
-- positions, and the verdicts on payloads of the first records, this many
pub record IsSurveyOf (bytes : List ℕ) (positions : List ℕ) (judged : ℕ) (s : Survey) : Type 0 where
  pub listed : IsArchiveOf bytes s.rows
  pub digested : AreDigested bytes s.rows s.judged
  pub records_are : s.records ≡ contents listed.are.records
  pub flags : Flags
  pub flagged : AreFlagged bytes s.rows flags
  pub summary_is : IsSummaryOf s.rows flags s.summary
  pub outcomes : AreOutcomes s.records positions s.captures
  pub payloads_are : AreJudgedPayloads s.records judged s.payloads

-- the survey of an archive, with all its captures and payloads
abbrev pub IsWholeSurvey : List ℕ → Survey → Type 0
IsWholeSurvey bytes s = IsSurveyOf bytes (capture_positions s.rows) (length s.rows) s

-- the survey of an archive, with this many of its first captures and payloads
abbrev pub IsFrontSurvey : List ℕ → ℕ → ℕ → Survey → Type 0
IsFrontSurvey bytes count judged s = IsSurveyOf bytes (take count (capture_positions s.rows)) judged s

-- what is kept of records for a survey: what finds and joins them, their verdicts by stated digests and those that
-- `check` and replays go by, which are segments, what each alone shows, and what is known of their payloads
pub record SurveyKept : Type 0 where
  pub index : Indexes
  pub parts : Parts
  pub judged : Judgements
  pub wanted : List Verdict
  pub segmented : List Bool
  pub findings : List (List SeenFinding)
  pub known : KnownPayloads

-- it is kept of these records
pub record IsSurveyKept (records : List Placed) (k : SurveyKept) : Type 0 where
  pub found : AreOf records k.index k.parts
  pub verdicts_are : k.judged.verdicts ≡ map stated_on records
  pub digests_are : k.judged.digests ≡ map digest_kept records
  pub wanted_are : k.wanted ≡ map verdict_on records
  pub segmented_are : k.segmented ≡ map is_numbered records
  pub findings_are : k.findings ≡ map own_findings (contents records)
  pub known_are : AreRightFor k.known records

-- a listing, and what is kept for a survey
pub record SurveyedArchive (S : Type 0) : Type 0 where
  pub listing : Contents S
  pub kept : SurveyKept

-- they are of the archive that the bytes are
pub record IsSurveyed {S : Type 0} (bytes : List ℕ) (a : SurveyedArchive S) : Type 0 where
  pub listed : IsArchiveOf bytes a.listing.rows
  pub kept : IsSurveyKept listed.are.records a.kept

-- the survey of the archive went out
pub record IsSurveyOut (bytes : List ℕ) (before after : Seen) : Type 0 where
  pub survey : Survey
  pub is : IsWholeSurvey bytes survey
  pub reported : after.reports ≡ append_known before.reports (survey_text survey)

-- a front of the survey of the archive went out, as long as the fault says
pub record IsSurveyFront (bytes : List ℕ) (sent : ℕ) (before after : Seen) : Type 0 where
  pub survey : Survey
  pub count : ℕ
  pub judged : ℕ
  pub is : IsFrontSurvey bytes count judged survey
  pub front : WentOut before.reports (survey_text survey) after.reports sent

-- The survey of an archive is written, by its rows and by what is kept. If its source holds the archive's bytes, all of
-- it goes out, or a front. The source is asked for bytes of the archive alone
pub record WritesSurvey (rows : List Row) (kept : SurveyKept) (old new : SeenSource) (before after : Seen)
    (answer : Result (Unit {0}) OutFault) : Type 0 where
  pub reported : IfHeld old.holds (λ bytes. (is : IsArchiveOf bytes rows) → IsSurveyKept is.are.records kept
      → OnOk answer (IsSurveyOut bytes before after))
  pub cut : IfHeld old.holds (λ bytes. (is : IsArchiveOf bytes rows) → IsSurveyKept is.are.records kept
      → IfErr answer (λ e. IsSurveyFront bytes (sent_of e) before after))
  pub inside : AsksInside rows kept.index kept.parts old new
  pub keeps : Preserves old new
  pub fails : FailsBy (IsIndexedBy rows kept.index kept.parts) answer old new
  pub cause : after.faults ≡ failed_by answer before.faults

-- ---- on the way: verdicts that are claimed, and parts of the text

-- what was gathered of these records while their archive was read
pub record AreGathered (records : List Placed) (judged : Judgements) (known : KnownPayloads) (marks : SurveyMarks)
    (found : List Found) (index : Indexes) (parts : Parts) : Type 0 where
  pub verdicts_are : judged.verdicts ≡ map stated_on records
  pub digests_are : judged.digests ≡ map digest_kept records
  pub segmented_are : marks.segmented ≡ map is_numbered records
  pub claims_are : marks.claims ≡ map claimed_on records
  pub found_are : found ≡ map unjudged (contents records)
  pub known_are : AreKnownPayloads known records
  pub kept : AreOf records index parts

-- a text is added to an output: it is staged after what waits, or a front of it all went out
pub record PutsPart (text : List ℕ) (old new : Seen) (waits waiting : Staged) (answer : Result (Unit {0}) OutFault)
    : Type 0 where
  pub out : (start : Option (List ℕ)) (output : List ℕ) → IsStaged start output old.reports waits
      → OnOk answer (IsStaged start (output ++ text) new.reports waiting)
  pub cut : (start : Option (List ℕ)) (output : List ℕ) → IsStaged start output old.reports waits
      → IfErr answer (λ e. WentOut start (output ++ text) new.reports (sent_of e))

-- what a survey says without its captures and its payloads, and the text up to them
abbrev pub known_text : List Row → Judgements → List Record → Summary → List ℕ
known_text rows judged records summary =
    ((part_name (codes "list") ++ listing rows) ++ (part_name (codes "fixity") ++ fixity_text rows judged))
    ++ ((part_name (codes "check") ++ check_text records)
    ++ ((part_name (codes "summary") ++ summary_text summary) ++ part_name (codes "captures")))
