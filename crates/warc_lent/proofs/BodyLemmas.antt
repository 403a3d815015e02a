-- The path that an archive's index gives is that of its records.
use Rattle.std.proofs.Common.{◌≡◌, ℕ, List, [], ◌∷◌, map, refl, sym, subst, ap, ◌∙◌}
use Rattle.std.specs.Prelude.{Result, Err}
use Rattle.warc_value.specs.Dates.{Instant}
use Rattle.warc_frame.specs.Effects.{FailsBy}
use Rattle.warc_frame.specs.Seen.{SeenSource}
use Rattle.warc_frame.specs.declared.fault.OutFault.TheVariants as outs
use Rattle.warc_answer.specs.Located.{Location}
use Rattle.warc_answer.specs.Replays.{out_result}
use Rattle.warc_answer.specs.declared.answer.ReplayFault.{ReplayFault}
use Rattle.warc_answer.specs.declared.answer.ReplayFault.TheVariants as replays
use Rattle.warc_replay.specs.Locating.{location_result}
use Rattle.warc_replay.specs.declared.fault.BodyFault.{BodyFault}
use Rattle.warc_replay.specs.declared.fault.BodyFault.TheVariants as bodies
use Rattle.warc_lent.specs.Problems.{problem_of_body, problem_of_replay, problem_result}
use Rattle.warc_answer.specs.Answers.{index_of, path_at, path_for, path_from, path_of}
use Rattle.warc_answer.specs.Payloads.{read_record}
use Rattle.warc_reading.specs.Archive.{contents}
use Rattle.warc_index.specs.Orders.{IsIndexOf, Indexes}
use Rattle.warc_segment.specs.Kept.{Kept as Parts}
use Rattle.warc_lookup.specs.Indexed.{AreOf, indexed_record}
use Rattle.warc_reading.specs.Row.{Placed}

same_index : (ps : List Placed) → map indexed_record ps ≡ index_of (map read_record (contents ps))
same_index [] = refl
same_index (p ∷ ps) = ap (λ l. indexed_record p ∷ l) (same_index ps)

pub same_path_for : (ps : List Placed) (uri : List ℕ) (moment : Instant) → path_of (map indexed_record ps) uri moment ≡ path_for (contents ps) uri moment
unfolding path_for
same_path_for ps uri moment = ap (λ all. path_of all uri moment) (same_index ps)

pub same_path_at : (ps : List Placed) (position : ℕ) → path_from (map indexed_record ps) position ≡ path_at (contents ps) position
unfolding path_at
same_path_at ps position = ap (λ all. path_from all position) (same_index ps)

-- an index and parts that are the same as before
pub kept_on : (ps : List Placed) (index now : Indexes) (parts kept : Parts) → now ≡ index → kept ≡ parts → AreOf ps index parts → AreOf ps now kept
kept_on ps index now parts kept same still is = record {
  index_is = subst (IsIndexOf (map indexed_record ps)) (sym same) is.index_is;
  parts_are = still ∙ is.parts_are;
}

-- a source fails as the fault of a replay says
pub fails_of_replay : (E : List ℕ → Type 0) (fault : ReplayFault) (old new : SeenSource)
    → FailsBy E (out_result {X = Location} (Err fault)) old new → FailsBy E (problem_result {X = ℕ} (Err (problem_of_replay fault))) old new
fails_of_replay E (replays.Reason why) old new f = f
fails_of_replay E (replays.Out (outs.Read sent)) old new f = record { may = f.may; failed = f.failed }
fails_of_replay E (replays.Out (outs.Write sent)) old new f = record { may = f.may; failed = f.failed }
fails_of_replay E (replays.Out (outs.Memory sent)) old new f = record { may = f.may; failed = f.failed }

-- a source fails as the fault of a body says, which is asked for at a position
pub fails_of_body : (E : List ℕ → Type 0) (fault : BodyFault) (old new : SeenSource)
    → FailsBy E (location_result (Err fault)) old new → FailsBy E (problem_result {X = ℕ} (Err (problem_of_body fault))) old new
fails_of_body E bodies.NoRecord old new f = f
fails_of_body E bodies.NoCapture old new f = f
fails_of_body E (bodies.Replay fault) old new f = fails_of_replay E fault old new f
