-- The parts of a survey, and the verdicts by the digests that are wanted.
use Rattle.std.proofs.Common.{◌≡◌, ◌≢◌, ◌==◌, ℕ, suc, ◌+◌, ◌<◌, ◌≤◌, Bool, true, false, true≢false, List, [], ◌∷◌, ◌++◌, length, map, take, codes, append_assoc, Option, Some, None, option_and_then, Result, Ok, Err, if◌then◌else◌, refl, sym, ap, ap₂, subst, ◌∙◌, arith}
use Rattle.std.proofs.lemmas.List.{length-map, take_all}
use Rattle.std.proofs.lemmas.List.Elements.{All-append, All-cons, All-contains, All-nil}
use Rattle.std.proofs.lemmas.Result.{IfErr-weaker, on_ok_weaker}
use Rattle.std.specs.Io.KnownBytes.{append_known}
use Rattle.std.specs.List.{All, Contains, enumerate_from, flat_map}
use Rattle.std.specs.Option.{option_map_or, unwrap_or}
use Rattle.std.specs.Str.{bytes_eq}
use Rattle.sha1.specs.Sha1.{sha1}
use Rattle.warc_field.specs.Area.{first_value}
use Rattle.warc_value.specs.Digests.{verdict_of, wanted_digest}
use Rattle.warc_value.specs.declared.hash.Verdict.{Verdict}
use Rattle.warc_value.specs.declared.hash.Verdict.TheVariants.{Good, Bad, Unchecked}
use Rattle.warc_value.specs.declared.hash.Wanted.{Wanted}
use Rattle.warc_value.specs.declared.hash.Wanted.TheVariants.{Sha1, Unchecked as NoDigest}
use Rattle.warc_fixity.specs.Judged.{stated_verdict}
use Rattle.warc_frame.specs.Device.{Staged}
use Rattle.warc_frame.specs.Effects.{Puts}
use Rattle.warc_frame.specs.Failing.{HasFailedBy, MayHaveFailedBy, failed_by, is_read}
use Rattle.warc_frame.specs.Names.{warc_block_digest}
use Rattle.warc_frame.specs.Record.{Record}
use Rattle.warc_frame.specs.Seen.{Seen, SeenSource}
use Rattle.warc_frame.specs.Send.{WentOut, sent_of}
use Rattle.warc_frame.specs.declared.fault.OutFault.{OutFault}
use Rattle.warc_frame.specs.declared.fault.OutFault.TheVariants.{Read, Write, Memory}
use Rattle.warc_frame.specs.declared.send.SendFault.{SendFault}
use Rattle.warc_frame.proofs.LawLemmas.{longer, same_out, same_staged}
use Rattle.warc_record.specs.Kinds.{kind_named}
use Rattle.warc_record.specs.Readings.{unless_empty}
use Rattle.warc_index.specs.Captures.{is_capture}
use Rattle.warc_answer.specs.Seen.{IsEarly}
use Rattle.warc_answer.specs.declared.answer.ReplayFault.TheVariants.{Out}
use Rattle.warc_answer.proofs.GiveLemmas.{none_out}
use Rattle.warc_index.specs.Orders.{Indexes}
use Rattle.warc_segment.specs.Kept.{Kept as Parts}
use Rattle.warc_reading.specs.Archive.{IsArchiveOf, contents}
use Rattle.warc_reading.specs.Judging.{verdict_on}
use Rattle.warc_reading.specs.Row.{Placed, Row, row_of}
use Rattle.warc_reading.proofs.PlaceLemmas.{HeadsAreRead, checkable_archive}
use Rattle.warc_checking.specs.Checking.{check_text}
use Rattle.warc_checking.specs.Lines.{PutsLines}
use Rattle.warc_checking.specs.OwnFindings.{AreJudged}
use Rattle.warc_replay.specs.Captures.{capture_positions, captures_text, position_if}
use Rattle.warc_replay.specs.Capturing.{AreFirstOutcomes, AreKnownBlocks, AreOutcomes, PutsCaptures}
use Rattle.warc_judged.specs.Fixity.{Judgements, fixity_text, stated_on}
use Rattle.warc_judged.specs.Listing.{listing}
use Rattle.warc_replay.specs.Outcomes.{CaptureSeen}
use Rattle.warc_replay.specs.PayloadText.{payloads_text}
use Rattle.warc_replay.specs.PayloadVerdicts.{AreJudgedPayloads, PayloadJudgements}
use Rattle.warc_replay.proofs.ComparedLemmas.{none_judged}
use Rattle.warc_judged.specs.Summary.{IsSummaryOf, flags_with, summary_text}
use Rattle.warc.specs.Survey.{IsSurveyFront, IsSurveyKept, IsSurveyOf, IsSurveyOut, PutsPart, SurveyKept, WritesSurvey, known_text, part_name, survey_text}
use Rattle.warc_judged.specs.Claims.{claimed, claimed_on, settled_claim, settled_claims}
use Rattle.warc_judged.specs.declared.summary.Summary.{Summary}
use Rattle.warc_replay.proofs.KnownLemmas.{known_as}

-- an answer without its number
abbrev pub without_number : Result ℕ OutFault → Result (Unit {0}) OutFault
without_number (Ok n) = Ok tt
without_number (Err e) = Err e

-- a text that was put to an output, as a part of it
pub part_of : {X : Type 0} {old new : Seen} {waits waiting : Staged} {x : X} {a : List ℕ} → Puts old new waits waiting (Ok x) a
    → PutsPart a old new waits waiting (Ok tt)
part_of puts = record { out = puts.out; cut = λ start output is. tt }

-- lines that are counted, as a part
pub unnumbered : {text : List ℕ} {count : ℕ} {old new : Seen} {waits waiting : Staged} {answer : Result ℕ OutFault} → PutsLines text count old new waits waiting answer
    → PutsPart text old new waits waiting (without_number answer)
unnumbered {text} {count} {old} {new} {waits} {waiting} {answer = Ok n} puts = record { out = puts.out; cut = λ start output is. tt }
unnumbered {text} {count} {old} {new} {waits} {waiting} {answer = Err e} puts = record { out = λ start output is. tt; cut = puts.cut }

-- one part after another
pub parts_then : {old mid new : Seen} {waits staged waiting : Staged} {answer : Result (Unit {0}) OutFault} {a b : List ℕ}
    → PutsPart a old mid waits staged (Ok tt) → PutsPart b mid new staged waiting answer → PutsPart (a ++ b) old new waits waiting answer
parts_then {old} {mid} {new} {waits} {staged} {waiting} {answer} {a} {b} first second = record {
  out = λ start output is. on_ok_weaker answer (same_staged (append_assoc output a b)) (second.out start (output ++ a) (first.out start output is));
  cut = λ start output is. IfErr-weaker answer _ _ (λ e went. same_out (append_assoc output a b) went) (second.cut start (output ++ a) (first.out start output is));
}

-- a part that was cut, and another one that would follow
pub parts_cut : {old new : Seen} {waits waiting : Staged} {e : OutFault} {a : List ℕ} (b : List ℕ) → PutsPart a old new waits waiting (Err e)
    → PutsPart (a ++ b) old new waits waiting (Err e)
parts_cut {old} {new} {waits} {waiting} {e} {a} b puts = record {
  out = λ start output is. tt;
  cut = λ start output is. same_out (append_assoc output a b) (longer b (puts.cut start output is));
}

-- a text whose write failed, as a part
pub part_cut : {X : Type 0} {old new : Seen} {waits waiting : Staged} {e : SendFault} {a : List ℕ} → Puts {X = X} old new waits waiting (Err e) a
    → PutsPart a old new waits waiting (Err (Write e.sent))
part_cut puts = record { out = λ start output is. tt; cut = puts.cut }

-- ---- the whole text

twelve : (a b c d e f g h i j k l : List ℕ)
    → ((((a ++ b) ++ (c ++ d)) ++ ((e ++ f) ++ ((g ++ h) ++ i))) ++ j) ++ (k ++ l) ≡ a ++ b ++ c ++ d ++ e ++ f ++ g ++ h ++ i ++ j ++ k ++ l
twelve a b c d e f g h i j k l = simp append_assoc

-- what a survey says of payloads
abbrev pub payloads_part : List Row → PayloadJudgements → List ℕ
payloads_part rows payloads = part_name (codes "payloads") ++ payloads_text rows payloads

pub survey_whole : (rows : List Row) (judged : Judgements) (records : List Record) (summary : Summary) (captures : List CaptureSeen) (payloads : PayloadJudgements)
    → (known_text rows judged records summary ++ captures_text rows captures) ++ payloads_part rows payloads
    ≡ survey_text (record { rows = rows; judged = judged; records = records; summary = summary; captures = captures; payloads = payloads })
unfolding survey_text
survey_whole rows judged records summary captures payloads =
    twelve (part_name (codes "list")) (listing rows) (part_name (codes "fixity")) (fixity_text rows judged) (part_name (codes "check")) (check_text records)
    (part_name (codes "summary")) (summary_text summary) (part_name (codes "captures")) (captures_text rows captures) (part_name (codes "payloads")) (payloads_text rows payloads)

-- ---- what is kept

pub unread_may : (e : OutFault) (n : ℕ) → is_read e ≡ false → MayHaveFailedBy {X = Unit {0}} (Err e) n n
unread_may (Read sent) n is = absurd (true≢false is)
unread_may (Write sent) n is = refl
unread_may (Memory sent) n is = refl

pub unread_has : (e : OutFault) (n : ℕ) → is_read e ≡ false → HasFailedBy {X = Unit {0}} (Err e) n n
unread_has (Read sent) n is = absurd (true≢false is)
unread_has (Write sent) n is = refl
unread_has (Memory sent) n is = refl

-- a fault before anything was written
none_sent : (e : OutFault) → IsEarly (Out e) → sent_of e ≡ 0
none_sent (Read sent) early = early
none_sent (Write sent) early = absurd early
none_sent (Memory sent) early = early

-- isn't that of a sink
pub early_failed : (e : OutFault) (n m : ℕ) → IsEarly (Out e) → n ≡ m → n ≡ failed_by {X = Unit {0}} (Err e) m
early_failed (Read sent) n m early same = same
early_failed (Write sent) n m early same = absurd early
early_failed (Memory sent) n m early same = same

-- how often a sink has failed, after calls of which none failed
pub failed_on : (e : OutFault) {n m : ℕ} → n ≡ m → failed_by {X = Unit {0}} (Err e) n ≡ failed_by {X = Unit {0}} (Err e) m
failed_on e same = ap (λ k. failed_by {X = Unit {0}} (Err e) k) same

-- the survey of the archive that bytes are, with the captures at these positions, and these verdicts on payloads
pub survey_is : (bytes : List ℕ) (rows : List Row) (kept : SurveyKept) (is : IsArchiveOf bytes rows) → IsSurveyKept is.are.records kept
    → (summary : Summary) → IsSummaryOf rows (flags_with kept.segmented kept.judged.verdicts) summary
    → (positions : List ℕ) (captures : List CaptureSeen) → AreOutcomes (contents is.are.records) positions captures
    → (n : ℕ) (payloads : PayloadJudgements) → AreJudgedPayloads (contents is.are.records) n payloads
    → IsSurveyOf bytes positions n (record { rows = rows; judged = kept.judged; records = contents is.are.records; summary = summary; captures = captures; payloads = payloads })
survey_is bytes rows kept is has summary counted positions captures outcomes n payloads found = record {
  listed = is;
  digested = record { listed = is; verdicts_are = has.verdicts_are; digests_are = has.digests_are };
  records_are = refl;
  flags = flags_with kept.segmented kept.judged.verdicts;
  flagged = record { listed = is; segmented_are = has.segmented_are; verdicts_are = has.verdicts_are };
  summary_is = counted;
  outcomes = outcomes;
  payloads_are = found;
}

-- ---- verdicts

never_unchecked : (test : Bool) → (if test then Good else Bad) ≡ Unchecked → ⊥
never_unchecked true is = cc is
never_unchecked false is = cc is

module _ (law : (value block : List ℕ) → verdict_of (wanted_digest value) block ≢ Unchecked → verdict_of (wanted_digest value) block ≡ stated_verdict value block) where
  claim_if : (value block : List ℕ) (w : Wanted) → wanted_digest value ≡ w → settled_claim (claimed w) (stated_verdict value block) ≡ verdict_of w block
  claim_if value block NoDigest is = refl
  claim_if value block (Sha1 digest) is =
      let same = ap (λ w. verdict_of w block) is in
      sym (law value block (λ e. never_unchecked (bytes_eq digest (sha1 block)) (sym same ∙ e))) ∙ same

  claim_at : (text block : List ℕ) (test : Bool)
      → settled_claim (claimed (option_map_or wanted_digest (if test then None else Some text) NoDigest)) (stated_verdict text block)
      ≡ verdict_of (option_map_or wanted_digest (if test then None else Some text) NoDigest) block
  claim_at text block true = refl
  claim_at text block false = claim_if text block (wanted_digest text) refl

  claim_of : (value : Option (List ℕ)) (block : List ℕ)
      → settled_claim (claimed (option_map_or wanted_digest (option_and_then unless_empty value) NoDigest)) (stated_verdict (unwrap_or value []) block)
      ≡ verdict_of (option_map_or wanted_digest (option_and_then unless_empty value) NoDigest) block
  claim_of None block = refl
  claim_of (Some text) block = claim_at text block (length text == 0)

  -- the verdicts by the digests that are wanted, from the claims and the verdicts that are stated
  pub claims_settled : (records : List Placed) → settled_claims (map claimed_on records) (map stated_on records) ≡ map verdict_on records
  claims_settled [] = refl
  claims_settled (p ∷ ps) =
      ap₂ (λ (v : Verdict) (l : List Verdict). v ∷ l) (claim_of (first_value warc_block_digest p.content.fields) p.content.block) (claims_settled ps)

pub settled_len : (cs vs : List Verdict) → length (settled_claims cs vs) ≡ length cs
settled_len [] vs = refl
settled_len (c ∷ cs) [] = refl
settled_len (c ∷ cs) (v ∷ vs) = ap (λ n. suc n) (settled_len cs vs)

-- ---- the captures are those of records

position_low : (b : Bool) (p n : ℕ) → p < n → All (λ q. q < n) (if b then p ∷ [] else [])
position_low true p n low = All-cons (λ q. q < n) p [] low (All-nil (λ q. q < n))
position_low false p n low = All-nil (λ q. q < n)

captures_low : (rows : List Row) (first n : ℕ) → first + length rows ≤ n → All (λ q. q < n) (flat_map (λ (e : ℕ × Row). position_if e.0 e.1.kind) (enumerate_from first rows))
captures_low [] first n le = All-nil (λ q. q < n)
captures_low (row ∷ rows) first n le =
    All-append (λ q. q < n) (position_if first row.kind) (flat_map (λ (e : ℕ × Row). position_if e.0 e.1.kind) (enumerate_from (first + 1) rows))
    (position_low (is_capture (kind_named row.kind)) first n (omega (arith, le))) (captures_low rows (first + 1) n (omega (arith, le)))

pub captures_inside : (rows : List Row) (records : List Placed) → rows ≡ map row_of records → (p : ℕ) → Contains (capture_positions rows) p → p < length (contents records)
captures_inside rows records are p in_ =
    let low = captures_low rows 0 (length rows) (omega arith) in
    omega (arith, All-contains (λ q. q < length rows) (capture_positions rows) p low in_, ap length are, length-map records row_of, length-map records (λ (r : Placed). r.content))

-- ---- writing a survey

-- a summary by marks and verdicts is one by equal marks and verdicts
pub summary_as : {rows : List Row} {s t : List Bool} {v w : List Verdict} {x : Summary} → s ≡ t → v ≡ w → IsSummaryOf rows (flags_with s v) x → IsSummaryOf rows (flags_with t w) x
summary_as {rows} {s} {t} {v} {w} {x} a b is =
    let P : List Bool → Type 0 = λ l. IsSummaryOf rows (flags_with l w) x in
    let Q : List Verdict → Type 0 = λ l. IsSummaryOf rows (flags_with s l) x in
    subst P a (subst Q b is)

-- what puts the captures at positions puts those at equal positions
pub captures_at : {Right : List Placed → Type 0} {rows : List Row} {index : Indexes} {parts : Parts} {positions other : List ℕ} {old new : SeenSource} {before after : Seen}
    {waits waiting : Staged} {answer : Result (Unit {0}) OutFault} → positions ≡ other
    → PutsCaptures Right rows index parts positions old new before after waits waiting answer → PutsCaptures Right rows index parts other old new before after waits waiting answer
captures_at {Right} {rows} {index} {parts} {positions} {other} {old} {new} {before} {after} {waits} {waiting} {answer} same puts =
    let P : List ℕ → Type 0 = λ l. PutsCaptures Right rows index parts l old new before after waits waiting answer in
    subst P same puts

-- what is kept, whatever it is called
pub writes_as : {rows : List Row} {old new : SeenSource} {before after : Seen} {answer : Result (Unit {0}) OutFault} (kept other : SurveyKept) → kept ≡ other
    → WritesSurvey rows kept old new before after answer → WritesSurvey rows other old new before after answer
writes_as {rows} {old} {new} {before} {after} {answer} kept other same writes =
    let P : SurveyKept → Type 0 = λ k. WritesSurvey rows k old new before after answer in
    subst P same writes

module _ (bytes : List ℕ) (rows : List Row) (kept : SurveyKept) (is : IsArchiveOf bytes rows) (has : IsSurveyKept is.are.records kept) (summary : Summary)
    (counted : IsSummaryOf rows (flags_with kept.segmented kept.judged.verdicts) summary) where
  -- the findings that are kept are the records'
  pub survey_judged : HeadsAreRead → AreJudged bytes is.are.records rows kept.findings
  survey_judged law = record { can = checkable_archive law bytes rows is rows refl; found_is = has.findings_are }

  pub survey_known : AreKnownBlocks kept.wanted is.are.records
  survey_known = known_as kept.wanted is.are.records has.wanted_are

  -- before payloads were judged, nothing went out
  pub survey_none : (before after : Seen) (e : OutFault) → IsEarly (Out e) → after ≡ before → IsSurveyFront bytes (sent_of e) before after
  survey_none before after e early same =
      let none : PayloadJudgements = record { verdicts = []; digests = [] } in
      let text = survey_text (record { rows = rows; judged = kept.judged; records = contents is.are.records; summary = summary; captures = []; payloads = none }) in
      record {
        survey = record { rows = rows; judged = kept.judged; records = contents is.are.records; summary = summary; captures = []; payloads = none };
        count = 0;
        judged = 0;
        is = survey_is bytes rows kept is has summary counted [] [] (record { chosen = refl; each = tt }) 0 none (none_judged (contents is.are.records) none refl refl);
        front = subst (λ (n : ℕ). WentOut before.reports text after.reports n) (sym (none_sent e early))
            (subst (λ (s : Seen). WentOut before.reports text s.reports 0) (sym same) (none_out before.reports text));
      }

  module _ (payloads : PayloadJudgements) (found : AreJudgedPayloads (contents is.are.records) (length rows) payloads) where
    -- a front of the survey went out
    pub survey_front : (before after : Seen) (count sent : ℕ) (captures : List CaptureSeen) → AreOutcomes (contents is.are.records) (take count (capture_positions rows)) captures
        → WentOut before.reports ((known_text rows kept.judged (contents is.are.records) summary ++ captures_text rows captures) ++ payloads_part rows payloads) after.reports sent
        → IsSurveyFront bytes sent before after
    survey_front before after count sent captures outcomes front = record {
      survey = record { rows = rows; judged = kept.judged; records = contents is.are.records; summary = summary; captures = captures; payloads = payloads };
      count = count;
      judged = length rows;
      is = survey_is bytes rows kept is has summary counted (take count (capture_positions rows)) captures outcomes (length rows) payloads found;
      front = same_out (survey_whole rows kept.judged (contents is.are.records) summary captures payloads) front;
    }

    -- a front of what comes before the payloads
    pub survey_listed : (before after : Seen) (count sent : ℕ) (captures : List CaptureSeen) → AreOutcomes (contents is.are.records) (take count (capture_positions rows)) captures
        → WentOut before.reports (known_text rows kept.judged (contents is.are.records) summary ++ captures_text rows captures) after.reports sent → IsSurveyFront bytes sent before after
    survey_listed before after count sent captures outcomes front = survey_front before after count sent captures outcomes (longer (payloads_part rows payloads) front)

    -- a front of what comes before the captures
    pub survey_begun : (before after : Seen) (sent : ℕ) → WentOut before.reports (known_text rows kept.judged (contents is.are.records) summary) after.reports sent
        → IsSurveyFront bytes sent before after
    survey_begun before after sent front =
        survey_listed before after 0 sent [] (record { chosen = refl; each = tt }) (longer (captures_text rows []) front)

    -- all captures are there
    all_captures : (captures : List CaptureSeen) → AreFirstOutcomes (contents is.are.records) (capture_positions rows) captures
        → length captures ≡ length (capture_positions rows) → AreOutcomes (contents is.are.records) (capture_positions rows) captures
    all_captures captures outcomes all =
        let positions = capture_positions rows in
        subst (λ (l : List ℕ). AreOutcomes (contents is.are.records) l captures) (ap (λ n. take n positions) all ∙ take_all (length positions) positions (omega arith)) outcomes

    -- all of it went out
    pub survey_out : (before after : Seen) (captures : List CaptureSeen) → AreFirstOutcomes (contents is.are.records) (capture_positions rows) captures
        → length captures ≡ length (capture_positions rows)
        → after.reports ≡ append_known before.reports ((known_text rows kept.judged (contents is.are.records) summary ++ captures_text rows captures) ++ payloads_part rows payloads)
        → IsSurveyOut bytes before after
    survey_out before after captures outcomes all reported = record {
      survey = record { rows = rows; judged = kept.judged; records = contents is.are.records; summary = summary; captures = captures; payloads = payloads };
      is = survey_is bytes rows kept is has summary counted (capture_positions rows) captures (all_captures captures outcomes all) (length rows) payloads found;
      reported = reported ∙ ap (append_known before.reports) (survey_whole rows kept.judged (contents is.are.records) summary captures payloads);
    }
