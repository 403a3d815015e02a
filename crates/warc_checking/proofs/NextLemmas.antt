-- The next record of those whose findings are reported.
use Rattle.std.proofs.Common.{◌≡◌, ℕ, ◌+◌, Bool, List, [], length, map, take, Some, if◌then◌else◌, unwrap_or, sym, ap, ◌∙◌}
use Rattle.std.proofs.lemmas.Option.{slice_get-map}
use Rattle.std.specs.List.{slice_get}
use Rattle.std.specs.Prelude.{option_map}
use Rattle.warc_frame.specs.Record.{Record}
use Rattle.warc_reading.specs.Archive.{contents}
use Rattle.warc_reading.specs.Row.{Placed, Row}
use Rattle.warc_record.specs.Blocks.{has_bad_digest}
use Rattle.warc_record.specs.Findings.{SeenFinding, findings_of}
use Rattle.warc_record.specs.Good.{GoodHeadsRead}
use Rattle.warc_record.specs.Ids.{id_key}
use Rattle.warc_checking.specs.Checking.{findings_after, is_used, record_key}
use Rattle.warc_checking.specs.Judged.{IsJudgedOf, Judged, own_findings}
use Rattle.warc_checking.specs.OwnFindings.{AreJudged, IsDue, found_at, with_used}
use Rattle.warc_checking.specs.UsedIds.{HoldsIdsOf, Ids, IsTally}
use Rattle.warc_checking.proofs.AmongLemmas.{used_among, used_count}
use Rattle.warc_checking.proofs.CheckLemmas.{key_by_row}
use Rattle.warc_reading.proofs.PlaceLemmas.{HeadsAreRead, checkable_archive}
use Rattle.warc_reading.proofs.PlacedLemmas.{content_at, record_at}
use Rattle.warc_checking.proofs.TallyLemmas.{alone}

found_there : (records : List Placed) (i : ℕ) (p : Placed) → slice_get records i ≡ Some p → found_at (map own_findings (contents records)) i ≡ own_findings p.content
found_there records i p at =
    ap (λ o. unwrap_or o []) (slice_get-map own_findings (contents records) i ∙ ap (option_map own_findings) (content_at records i p at))

-- the record at a place, where the ids of those before it are held
pub next_at : (bytes : List ℕ) (records : List Placed) (rows : List Row) (found : List (List SeenFinding)) (i : ℕ) (row : Row) (ids : Ids) → GoodHeadsRead → AreJudged bytes records rows found
    → IsTally (length rows) rows ids.counts ids.buckets → slice_get rows i ≡ Some row → HoldsIdsOf (take i (contents records)) ids
    → (p : Placed) × (slice_get records i ≡ Some p) × IsDue (take i (contents records)) p row (found_at found i) ids
next_at bytes records rows found i row ids law findings tally is has =
    let (p, at, row_is, head) = record_at bytes records rows i row findings.can is in (
      p,
      at,
      record {
        row_is = row_is;
        good = head.good;
        found_is = ap (λ l. found_at l i) findings.found_is ∙ found_there records i p at;
        has = has;
        lone = alone bytes records rows i row ids law findings.can tally is;
      },
    )

-- the findings of the next record, whose id is used or isn't
module _ (law : GoodHeadsRead) (before : List Record) (p : Placed) (row : Row) (found : List SeenFinding) (ids : Ids) (next : IsDue before p row found ids) (used : Bool)
    (is : used ≡ is_used before (id_key row.id)) where
  used_is : used ≡ is_used before (record_key p.content)
  used_is = is ∙ ap (is_used before) (sym (key_by_row p row next.row_is (law p.content.fields next.good)))

  pub next_found : with_used found used ≡ findings_after before p.content
  next_found =
      let r = p.content in
      ap (λ f. with_used f used) next.found_is ∙ used_among r.fields (length r.block) (has_bad_digest r) used
      ∙ ap (λ b. findings_of r.fields (length r.block) (has_bad_digest r) b) used_is

  pub next_count : length found + (if used then 1 else 0) ≡ length (findings_after before p.content)
  next_count =
      let r = p.content in
      ap (λ f. length f + (if used then 1 else 0)) next.found_is ∙ used_count r.fields (length r.block) (has_bad_digest r) used
      ∙ ap (λ b. length (findings_of r.fields (length r.block) (has_bad_digest r) b)) used_is

-- what is kept of an archive, whatever it is called
pub judged_by : {S : Type 0} → HeadsAreRead → (bytes : List ℕ) (judged : Judged S) (is : IsJudgedOf bytes judged) (rows : List Row) (found : List (List SeenFinding)) → rows ≡ judged.listing.rows → found ≡ judged.findings
    → AreJudged bytes is.listed.are.records rows found
judged_by law bytes judged is rows found same also =
    record { can = checkable_archive law bytes judged.listing.rows is.listed rows same; found_is = also ∙ is.found_is }
