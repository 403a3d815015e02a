-- Where a body is over the bytes of an archive, and what is read to find it.
use Rattle.std.proofs.Common.{◌≡◌, ℕ, List, None, Ok, Err, slice_get, refl, sym, ◌∙◌}
use Rattle.warc_frame.specs.Seen.{SeenSource}
use Rattle.warc_index.specs.Orders.{Indexes}
use Rattle.warc_index.specs.declared.unfound.Unfound.{Unfound}
use Rattle.warc_segment.specs.Kept.{Kept as Parts}
use Rattle.warc_answer.specs.Answers.{path_at}
use Rattle.warc_answer.specs.Laws.{ReasonsAreAnswers}
use Rattle.warc_answer.specs.Located.{Location}
use Rattle.warc_answer.specs.declared.answer.Path.{Path}
use Rattle.warc_answer.specs.declared.answer.Reason.TheVariants.{NotFound}
use Rattle.warc_answer.specs.declared.answer.ReplayFault.{ReplayFault}
use Rattle.warc_answer.specs.declared.answer.ReplayFault.TheVariants.{Reason}
use Rattle.warc_reading.specs.Archive.{contents}
use Rattle.warc_reading.specs.Row.{Row}
use Rattle.warc_replay.specs.Finding.{IsFoundAt, IsOtherRow}
use Rattle.warc_frame.specs.Effects.{Preserves}
use Rattle.warc_replay.specs.Locating.{LocatesAt, LocatesOn}
use Rattle.warc_replay.specs.declared.replay.body.Found.TheVariants.{Capture}
use Rattle.warc_replay.specs.declared.fault.BodyFault.TheVariants.{NoRecord, NoCapture, Replay}
use Rattle.warc_replay.proofs.BodyLemmas.{capture_there, none_there, other_there}
use Rattle.warc_replay.proofs.ReplayLemmas.{path_by_links, reads_nothing}

-- nothing was read
pub keeps_same : (s : SeenSource) → Preserves s s
keeps_same s = record { kept = refl; watched = refl }

module _ (rows : List Row) (index : Indexes) (parts : Parts) (position : ℕ) where
  pub no_record_there : (s : SeenSource) → slice_get rows position ≡ None
      → LocatesAt rows index parts position s s (Err NoRecord)
  no_record_there s none = record {
    located = λ bytes held is are. none_there bytes rows position is none;
    early = tt;
    reads = λ bytes held is are. reads_nothing;
    inside = λ bytes is off. refl;
    keeps = keeps_same s;
    fails = record { may = refl; failed = λ bytes held is. refl };
  }

  pub no_capture_there : (s : SeenSource) → IsOtherRow rows position
      → LocatesAt rows index parts position s s (Err NoCapture)
  no_capture_there s has = record {
    located = λ bytes held is are. other_there bytes rows position is has;
    early = tt;
    reads = λ bytes held is are. reads_nothing;
    inside = λ bytes is off. refl;
    keeps = keeps_same s;
    fails = record { may = refl; failed = λ bytes held is. refl };
  }

  pub no_path_there : ReasonsAreAnswers → (s : SeenSource) (unfound : Unfound)
      → IsFoundAt rows index parts position (Capture (Err unfound))
      → LocatesAt rows index parts position s s (Err (Replay (Reason (NotFound unfound))))
  no_path_there reasons s unfound found = record {
    located = λ bytes held is are. (
      capture_there bytes rows position is found.0,
      λ reports. (
        (reasons (contents is.are.records) (path_at (contents is.are.records) position)).0 unfound
            (sym (path_by_links is.are.records position) ∙ sym (found.1 is.are.records are)),
        refl,
      ),
    );
    early = tt;
    reads = λ bytes held is are. reads_nothing;
    inside = λ bytes is off. refl;
    keeps = keeps_same s;
    fails = record { may = refl; failed = λ bytes held is. refl };
  }

  pub body_there : (path : Path) (body : Location) (old new : SeenSource)
      → IsFoundAt rows index parts position (Capture (Ok path))
      → LocatesOn rows index parts (λ records. path_at records position) old new (Ok body)
      → LocatesAt rows index parts position old new (Ok body)
  body_there path body old new found by = record {
    located = λ bytes held is are. (capture_there bytes rows position is found.0, (by.held bytes held is are).located);
    early = tt;
    reads = λ bytes held is are. (by.held bytes held is are).reads;
    inside = by.inside;
    keeps = by.keeps;
    fails = record { may = by.fails.may; failed = by.fails.failed };
  }

  pub fault_there : (path : Path) (fault : ReplayFault) (old new : SeenSource)
      → IsFoundAt rows index parts position (Capture (Ok path))
      → LocatesOn rows index parts (λ records. path_at records position) old new (Err fault)
      → LocatesAt rows index parts position old new (Err (Replay fault))
  fault_there path fault old new found by = record {
    located = λ bytes held is are. (capture_there bytes rows position is found.0, (by.held bytes held is are).located);
    early = by.early;
    reads = λ bytes held is are. (by.held bytes held is are).reads;
    inside = by.inside;
    keeps = by.keeps;
    fails = record { may = by.fails.may; failed = by.fails.failed };
  }
