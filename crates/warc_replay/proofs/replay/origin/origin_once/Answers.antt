use Rattle.std.proofs.Common.{inl, map, refl, sym, ap, ◌∙◌}
use Rattle.std.proofs.lemmas.Result.{IfOk-weaker}
use Rattle.std.specs.List.{slice_get}
use Rattle.warc_frame.proofs.EffectLemmas.{fails_more}
use Rattle.warc_lookup.specs.Indexed.{placed_record}
use Rattle.warc_reading.specs.Archive.{contents}
use Rattle.warc_reading.specs.Row.{Row}
use Rattle.warc_reading.proofs.PlaceLemmas.{checkable_archive}
use Rattle.warc_reading.proofs.PlacedLemmas.{placed}
use Rattle.warc_replay.specs.Origins.{placed_by}
use Rattle.warc_replay.proofs.BodyLemmas.{none_there}
use Rattle.warc_replay.proofs.OriginLemmas.{absent_after, head_only, made_found, made_shared, placed_series}
use Rattle.warc_replay.proofs.ReplayLemmas.{head_inside, joined_end, reads_nothing}
use Rattle.warc_replay.proofs.replay.origin.origin_once.Goals as goal

pub returns-in_default-buffer_for-clause-finds : goal.returns-in_default-buffer_for-clause-finds
returns-in_default-buffer_for-clause-finds g c = record {
  reported = λ bytes held is parts. tt;
  shared = λ bytes held is parts. tt;
  reads = λ bytes held is parts. reads_nothing;
  inside = λ bytes is parts. record { asks = λ off. refl; ends = tt };
  early = refl;
  keeps = record { kept = refl; watched = refl };
  fails = record { may = refl; failed = λ bytes held is. refl };
}

pub returns-in_default-clause-finds : goal.returns-in_default-clause-finds
returns-in_default-clause-finds g c = record {
  reported = λ bytes held is parts. tt;
  shared = λ bytes held is parts. tt;
  reads = λ bytes held is parts. reads_nothing;
  inside = λ bytes is parts. record { asks = λ off. refl; ends = tt };
  early = refl;
  keeps = record { kept = refl; watched = refl };
  fails = record {
    may = inl refl;
    failed = λ bytes held (is, parts, within).
        absurd (absent_after (contents is.are.records) c.args.position within (none_there bytes c.args.rows.now c.args.position is (sym c.get.ensures ∙ c.in_default.is)));
  };
}

pub returns-clause-finds : goal.returns-clause-finds
returns-clause-finds g c =
    let given = c.origin_through.ensures in
    record {
      reported = λ bytes held is parts.
          let (p, there, same) = placed is.are.records c.args.position c.in-Some.row (ap (λ l. slice_get l c.args.position) (sym is.are.rows_are) ∙ sym c.get.ensures ∙ c.in-Some.is) in
          let can = checkable_archive c.head_of_spelled.ensures bytes c.args.rows.now is c.args.rows.now refl in
          made_found is.are.records c.args.position p c.in-Some.row c.origin_through.result there same
          (given.made bytes held (record { placed = p; has = can.heads c.args.position p there; row_is = same }) (map placed_record is.are.records) parts);
      shared = λ bytes held is parts.
          let (p, there, same) = placed is.are.records c.args.position c.in-Some.row (ap (λ l. slice_get l c.args.position) (sym is.are.rows_are) ∙ sym c.get.ensures ∙ c.in-Some.is) in
          let can = checkable_archive c.head_of_spelled.ensures bytes c.args.rows.now is c.args.rows.now refl in
          made_shared is.are.records c.args.position p c.in-Some.row c.origin_through.result there same
          (given.made bytes held (record { placed = p; has = can.heads c.args.position p there; row_is = same }) (map placed_record is.are.records) parts);
      reads = λ bytes held is parts.
          let (p, there, same) = placed is.are.records c.args.position c.in-Some.row (ap (λ l. slice_get l c.args.position) (sym is.are.rows_are) ∙ sym c.get.ensures ∙ c.in-Some.is) in
          head_only is.are.records c.args.position p c.in-Some.row there same given.reads;
      inside = λ bytes is parts.
          let (p, there, same) = placed is.are.records c.args.position c.in-Some.row (ap (λ l. slice_get l c.args.position) (sym is.are.rows_are) ∙ sym c.get.ensures ∙ c.in-Some.is) in
          record {
            asks = head_inside bytes is.are.records c.args.position p is.are.spelled there c.in-Some.row _ _ same given.reads;
            ends = IfOk-weaker c.origin_through.result _ _
                (λ o (head, joined, shared). joined_end bytes is.are.records c.args.position p is.are.spelled there (placed_by c.in-Some.row head) o.places.items (ap (λ (r : Row). r.block_start) same) (ap (λ (r : Row). r.block_len) same) joined)
                (given.placed (map placed_record is.are.records) parts);
          };
      early = given.early;
      keeps = record { kept = given.reads.kept; watched = given.reads.watched };
      fails = fails_more (λ bytes held (is, parts, within).
          let (p, there, same) = placed is.are.records c.args.position c.in-Some.row (ap (λ l. slice_get l c.args.position) (sym is.are.rows_are) ∙ sym c.get.ensures ∙ c.in-Some.is) in
          let can = checkable_archive c.head_of_spelled.ensures bytes c.args.rows.now is c.args.rows.now refl in
          record { placed = p; has = can.heads c.args.position p there; row_is = same }) given.fails;
    }

pub returns-clause-series : goal.returns-clause-series
returns-clause-series g c = λ all are. placed_series all c.in-Some.row c.origin_through.result (c.origin_through.ensures.placed all are)
