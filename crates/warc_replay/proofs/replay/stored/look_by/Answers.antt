use Rattle.std.proofs.Common.{Ok, Option, refl, sym, subst, ◌∙◌}
use Rattle.std.proofs.lemmas.Result.{err_from_is_err_and}
use Rattle.warc_frame.proofs.EffectLemmas.{fails_after, fails_more}
use Rattle.warc_segment.specs.Joined.{ArePlacesOf}
use Rattle.warc_answer.specs.declared.answer.Path.{Path}
use Rattle.warc_reading.specs.Archive.{contents}
use Rattle.warc_replay.specs.Origins.{IsOfSeries}
use Rattle.warc_replay.specs.declared.replay.known_series.Shared.{Shared}
use Rattle.warc_replay.proofs.KnownLemmas.{gap_found, joined_known, origin_in, stored_found}
use Rattle.warc_replay.proofs.LookLemmas.{content_there, fault_fails}
use Rattle.warc_replay.proofs.OriginLemmas.{preserves_both}
use Rattle.warc_replay.proofs.ReplayLemmas.{found_as, places_are, then_inside}
use Rattle.warc_replay.proofs.replay.stored.look_by.Goals as goal

pub returns-in_err-origin-clause-looks : goal.returns-in_err-origin-clause-looks
returns-in_err-origin-clause-looks g c =
    let p = err_from_is_err_and c.from_residual.result c.from_residual.ensures.1 in
    let found = c.in_err-origin.ensures.finds in
    rw (p.1, p.2) (record {
      reported = λ bytes held is parts one all right. gap_found (Unit {0}) (Unit {0}) bytes is.are.records c.args.position c.in_err-origin.field-0.0 is.are.spelled c.places_are_of_records.ensures (found.reported bytes held is parts);
      remembers = λ bytes held is parts right. right;
      early = found.early;
      inside = λ bytes is parts. (found.inside bytes is parts).asks;
      keeps = found.keeps;
      fails = fault_fails (Unit {0}) (Unit {0}) c.in_err-origin.field-0.0 found.fails;
    })

pub returns-in_default-clause-looks : goal.returns-in_default-clause-looks
returns-in_default-clause-looks g c =
    let found = c.in_ok-origin.ensures.finds in
    let given = c.judge_known.ensures in
    let items = c.in_ok-origin.origin.places.items in
    let path : Path = record { chosen = c.args.position; given = c.args.position } in
    record {
      reported = λ bytes held is parts one all right.
          let at = found.reported bytes held is parts in
          let (joined, whole, places) = places_are bytes is.are.records c.args.position at.placed is.are.spelled at.there items c.places_are_of_records.ensures at.places_are in
          stored_found is.are.records c.args.position at.placed joined c.judge_known.result at.there whole
          (given.judged bytes (found.keeps.kept ∙ held) at.placed.content joined (record {
            records = contents is.are.records;
            found = Ok path;
            path = path;
            short = is.short;
            leads = found_as is.are.records (Ok path) path at.placed refl at.there (Ok joined) whole;
            places_are = subst (λ l. ArePlacesOf bytes l joined) (sym c.deref-in_default.ensures.value) places;
          }) at.http_is (c.deref.ensures.value ∙ at.type_is)
          (joined_known bytes (contents is.are.records) c.args.position at.placed.content joined c.deref-in_default-2.result.now c.args.own c.args.joined c.verdict_on.result c.verdict_on.ensures
          (content_there is.are.records c.args.position at.placed at.there) whole (subst (λ l. ArePlacesOf bytes l joined) (sym c.deref-in_default-2.ensures.value) places) one all));
      remembers = λ bytes held is parts right. right;
      early = given.early;
      inside = λ bytes is parts.
          let stays = found.inside bytes is parts in
          then_inside bytes items c.deref-in_default.result.now (g.S.Source.seen c.args.source.now) (g.S.Source.seen c.origin_once.new.source) (g.S.Source.seen c.judge_known.new.source) found.keeps.watched stays.asks stays.ends c.deref-in_default.ensures.value given.reads.near;
      keeps = preserves_both found.keeps (record { kept = given.reads.kept; watched = given.reads.watched });
      fails = fails_after found.keeps.kept found.fails.may
          (fails_more (λ bytes held (is, parts, within).
          let at = found.reported bytes (sym found.keeps.kept ∙ held) is parts in
          let (joined, whole, places) = places_are bytes is.are.records c.args.position at.placed is.are.spelled at.there items c.places_are_of_records.ensures at.places_are in
          record { joined = joined; short = is.short; places_are = subst (λ l. ArePlacesOf bytes l joined) (sym c.deref-in_default.ensures.value) places })
          given.fails);
    }

pub returns-clause-looks : goal.returns-clause-looks
returns-clause-looks g c =
    let found = c.in_ok-origin.ensures.finds in
    let given = c.judge_shared-judged.ensures in
    let o = c.in_ok-origin.origin in
    record {
      reported = λ bytes held is parts one all right.
          given.judged bytes (found.keeps.kept ∙ held) is.are.records c.args.position
          (origin_in bytes is.are.records c.args.position o c.in-Some.shared c.deref-2.result.now c.deref-3.result.now is.are.spelled is.short (found.reported bytes held is parts) (found.shared bytes held is parts) c.deref-2.ensures.value c.deref-3.ensures.value c.in-Some.is)
          one all right;
      remembers = λ bytes held is parts right.
          given.remembers bytes (found.keeps.kept ∙ held) is.are.records c.args.position
          (origin_in bytes is.are.records c.args.position o c.in-Some.shared c.deref-2.result.now c.deref-3.result.now is.are.spelled is.short (found.reported bytes held is parts) (found.shared bytes held is parts) c.deref-2.ensures.value c.deref-3.ensures.value c.in-Some.is)
          right;
      early = given.early;
      inside = λ bytes is parts.
          let stays = found.inside bytes is parts in
          then_inside bytes o.places.items c.deref-3.result.now (g.S.Source.seen c.args.source.now) (g.S.Source.seen c.origin_once.new.source) (g.S.Source.seen c.judge_shared-judged.new.source) found.keeps.watched stays.asks stays.ends c.deref-3.ensures.value given.reads.near;
      keeps = preserves_both found.keeps (record { kept = given.reads.kept; watched = given.reads.watched });
      fails = fails_after found.keeps.kept found.fails.may
          (fails_more (λ bytes held (is, parts, within).
          let at = found.reported bytes (sym found.keeps.kept ∙ held) is parts in
          let (joined, whole, places) = places_are bytes is.are.records c.args.position at.placed is.are.spelled at.there o.places.items c.places_are_of_records.ensures at.places_are in
          record { joined = joined; short = is.short; places_are = subst (λ l. ArePlacesOf bytes l joined) (sym c.deref-3.ensures.value) places })
          given.fails);
    }

pub keep_series-requires-clause-series : goal.keep_series-requires-clause-series
keep_series-requires-clause-series g c = λ all are.
    subst (λ (s : Option Shared). IsOfSeries all s c.in_ok-origin.origin.places.items) c.in-Some.is (c.in_ok-origin.ensures.series all are)
