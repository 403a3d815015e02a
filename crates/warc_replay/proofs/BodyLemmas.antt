-- What the record at a position gives.
use Rattle.std.proofs.Common.{◌≡◌, ℕ, ◌<◌, List, [], length, map, Option, Some, None, Ok, Err, refl, sym, ap, ◌∙◌, codes}
use Rattle.std.specs.Prelude.{unwrap_or, option_map}
use Rattle.std.specs.List.{slice_get}
use Rattle.std.specs.Option.{option_map_or}
use Rattle.std.proofs.lemmas.Option.{slice_get-map}
use Rattle.warc_field.specs.Area.{first_value}
use Rattle.warc_frame.specs.Seen.{Seen, SeenSource}
use Rattle.warc_record.specs.Kinds.{kind_named}
use Rattle.warc_record.specs.Readings.{kind_of}
use Rattle.warc_record.specs.declared.types.Kind.TheVariants.{Other}
use Rattle.warc_index.specs.Captures.{is_capture}
use Rattle.warc_index.specs.Orders.{Indexes}
use Rattle.warc_index.specs.declared.unfound.Unfound.{Unfound}
use Rattle.warc_segment.specs.Kept.{Kept as Parts}
use Rattle.warc_answer.specs.Answers.{path_at}
use Rattle.warc_answer.specs.Laws.{PathsEndInside, ReasonsAreAnswers}
use Rattle.warc_answer.specs.declared.answer.Answer.{Answer}
use Rattle.warc_answer.specs.declared.answer.Path.{Path}
use Rattle.warc_answer.specs.declared.answer.Reason.TheVariants.{NotFound}
use Rattle.warc_answer.specs.declared.answer.ReplayFault.{ReplayFault}
use Rattle.warc_answer.specs.declared.answer.ReplayFault.TheVariants.{Reason}
use Rattle.warc_reading.specs.Archive.{IsArchiveOf, contents}
use Rattle.warc_reading.specs.Row.{Placed, Row, row_of}
use Rattle.warc_reading.proofs.PlacedLemmas.{placed}
use Rattle.warc_replay.specs.Bodies.{GivesBodyAt, IsCaptureAt, IsOtherAt}
use Rattle.warc_replay.specs.Finding.{IsCaptureRow, IsFoundAt, IsOtherRow}
use Rattle.warc_replay.specs.Replaying.{ReplaysOn}
use Rattle.warc_replay.specs.Status.{LeadsTo}
use Rattle.warc_replay.specs.declared.replay.body.Found.TheVariants.{Capture}
use Rattle.warc_replay.specs.declared.fault.BodyFault.TheVariants.{NoRecord, NoCapture, Replay}
use Rattle.warc_replay.proofs.ReplayLemmas.{in_list, path_by_links, reads_nothing}
use Rattle.warc_replay.proofs.TakeLemmas.{absent}

-- the kind that a row's text names is the record's
kind_by_text : (type_text : Option (List ℕ)) → kind_named (unwrap_or type_text []) ≡ option_map_or kind_named type_text Other
kind_by_text None = refl
kind_by_text (Some text) = refl

kind_by_row : (p : Placed) → kind_named (row_of p).kind ≡ kind_of p.content.fields
kind_by_row p = kind_by_text (first_value (codes "WARC-Type") p.content.fields)

-- the record at a position of a list
content_at : (records : List Placed) (i : ℕ) (o : Option Placed) → slice_get records i ≡ o → slice_get (contents records) i ≡ option_map (λ (p : Placed). p.content) o
content_at records i o is = slice_get-map (λ (p : Placed). p.content) records i ∙ ap (option_map (λ (p : Placed). p.content)) is

module _ (bytes : List ℕ) (rows : List Row) (position : ℕ) (is : IsArchiveOf bytes rows) where
  row_there : (row : Row) → slice_get rows position ≡ Some row → slice_get (map row_of is.are.records) position ≡ Some row
  row_there row at = ap (λ l. slice_get l position) (sym is.are.rows_are) ∙ at

  pub capture_there : IsCaptureRow rows position → IsCaptureAt (contents is.are.records) position
  capture_there has =
      let (p, there, same) = placed is.are.records position has.row (row_there has.row has.there) in
      record {
        content = p.content;
        there = content_at is.are.records position (Some p) there;
        capture = ap is_capture (sym (kind_by_row p) ∙ ap (λ (r : Row). kind_named r.kind) (sym same)) ∙ has.capture;
      }

  pub other_there : IsOtherRow rows position → IsOtherAt (contents is.are.records) position
  other_there has =
      let (p, there, same) = placed is.are.records position has.row (row_there has.row has.there) in
      record {
        content = p.content;
        there = content_at is.are.records position (Some p) there;
        other = ap is_capture (sym (kind_by_row p) ∙ ap (λ (r : Row). kind_named r.kind) (sym same)) ∙ has.other;
      }

  pub none_there : slice_get rows position ≡ None → slice_get (contents is.are.records) position ≡ None
  none_there none =
      content_at is.are.records position None (absent is.are.records position (ap (λ l. slice_get l position) (sym is.are.rows_are) ∙ none))

  pub below_there : IsCaptureRow rows position → position < length (contents is.are.records)
  below_there has =
      let at = capture_there has in in_list (contents is.are.records) position at.content at.there

module _ (rows : List Row) (index : Indexes) (parts : Parts) (position : ℕ) where
  pub gives_no_record : (s : SeenSource) (o : Seen) → slice_get rows position ≡ None → GivesBodyAt rows index parts position s s o o (Err NoRecord)
  gives_no_record s o none = record {
    reported = λ bytes held is are. (none_there bytes rows position is none, refl);
    reads = λ bytes held is are. reads_nothing;
    inside = λ bytes is off. refl;
    keeps = record { kept = refl; watched = refl };
    silent = refl;
    fails = record { may = refl; failed = λ bytes held is. refl };
    cause = refl;
  }

  pub gives_no_capture : (s : SeenSource) (o : Seen) → IsOtherRow rows position → GivesBodyAt rows index parts position s s o o (Err NoCapture)
  gives_no_capture s o has = record {
    reported = λ bytes held is are. (other_there bytes rows position is has, refl);
    reads = λ bytes held is are. reads_nothing;
    inside = λ bytes is off. refl;
    keeps = record { kept = refl; watched = refl };
    silent = refl;
    fails = record { may = refl; failed = λ bytes held is. refl };
    cause = refl;
  }

  pub gives_no_path : ReasonsAreAnswers → (s : SeenSource) (o : Seen) (unfound : Unfound) → IsFoundAt rows index parts position (Capture (Err unfound))
      → GivesBodyAt rows index parts position s s o o (Err (Replay (Reason (NotFound unfound))))
  gives_no_path reasons s o unfound found = record {
    reported = λ bytes held is are. (
      capture_there bytes rows position is found.0,
      (
        (reasons (contents is.are.records) (path_at (contents is.are.records) position)).0 unfound
            (sym (path_by_links is.are.records position) ∙ sym (found.1 is.are.records are)),
        refl,
      ),
    );
    reads = λ bytes held is are. reads_nothing;
    inside = λ bytes is off. refl;
    keeps = record { kept = refl; watched = refl };
    silent = refl;
    fails = record { may = refl; failed = λ bytes held is. refl };
    cause = refl;
  }

  pub leads_from : PathsEndInside → (path : Path) → IsFoundAt rows index parts position (Capture (Ok path)) → LeadsTo (λ records. path_at records position) path rows index parts
  leads_from inside path found = record {
    is = λ bytes is are. sym (path_by_links is.are.records position) ∙ sym (found.1 is.are.records are);
    ends = λ bytes is are. (inside (contents is.are.records)).1 position (below_there bytes rows position is found.0);
  }

  pub gives_body : (path : Path) (answer : Answer) (old new : SeenSource) (before after : Seen) → IsFoundAt rows index parts position (Capture (Ok path))
      → ReplaysOn rows index parts (λ records. path_at records position) old new before after (Ok answer) → GivesBodyAt rows index parts position old new before after (Ok answer)
  gives_body path answer old new before after found by = record {
    reported = λ bytes held is are. (capture_there bytes rows position is found.0, by.reported bytes held is are);
    reads = by.reads;
    inside = by.inside;
    keeps = by.keeps;
    silent = by.late.silent;
    fails = record { may = by.fails.may; failed = by.fails.failed };
    cause = by.late.cause;
  }

  pub gives_fault : (path : Path) (fault : ReplayFault) (old new : SeenSource) (before after : Seen) → IsFoundAt rows index parts position (Capture (Ok path))
      → ReplaysOn rows index parts (λ records. path_at records position) old new before after (Err fault) → GivesBodyAt rows index parts position old new before after (Err (Replay fault))
  gives_fault path fault old new before after found by = record {
    reported = λ bytes held is are. (capture_there bytes rows position is found.0, by.reported bytes held is are);
    reads = by.reads;
    inside = by.inside;
    keeps = by.keeps;
    silent = by.late.silent;
    fails = record { may = by.fails.may; failed = by.fails.failed };
    cause = by.late.cause;
  }
