use Rattle.std.proofs.Common.{Ok, sym, subst, ◌∙◌, arith}
use Rattle.std.proofs.lemmas.Result.{err_from_is_err_and}
use Rattle.warc_frame.proofs.EffectLemmas.{fails_after, fails_more}
use Rattle.warc_segment.specs.Joined.{ArePlacesOf}
use Rattle.warc_answer.specs.Payloads.{read_record}
use Rattle.warc_reading.specs.Archive.{contents}
use Rattle.warc_replay.proofs.LookLemmas.{fault_fails}
use Rattle.warc_replay.proofs.OriginLemmas.{fault_replayed, places_in, on_path, preserves_both, read_less, then_read}
use Rattle.warc_replay.proofs.ReplayLemmas.{found_as, places_are, then_inside}
use Rattle.warc_replay.proofs.replay.location.locate_on.Goals as goal

pub returns-in_err-origin : goal.returns-in_err-origin
returns-in_err-origin g c =
    let p = err_from_is_err_and c.from_residual.result c.from_residual.ensures.1 in
    rw (p.1, p.2) (λ way leads.
    let found = c.in_err-origin.ensures in
    record {
      held = λ bytes held is are. record {
        located = λ reports.
            fault_replayed (Unit {0}) c.reasons_are_answers.ensures c.fails_before_all.ensures c.places_are_of_records.ensures bytes is.are.records (way (contents is.are.records)) c.args.path c.in_err-origin.field-0.0 reports
            is.are.spelled (leads.is bytes is are) (leads.ends bytes is are) found.early (found.reported bytes held is are.parts_are);
        reads = on_path 1 is.are.records _ c.args.path (leads.is bytes is are) (read_less 0 1 (λ n. omega arith) is.are.records _ (found.reads bytes held is are.parts_are));
      };
      early = found.early;
      inside = λ bytes (is, are). (found.inside bytes is are.parts_are).asks;
      keeps = found.keeps;
      fails = fails_more (λ bytes held (is, are). (is, are.parts_are, leads.ends bytes is are c.args.path (leads.is bytes is are))) (fault_fails (Unit {0}) (Unit {0}) c.in_err-origin.field-0.0 found.fails);
    })

pub returns : goal.returns
returns g c = λ way leads.
    let found = c.in_ok-origin.ensures in
    let given = c.locate_joined.ensures in
    let items = c.in_ok-origin.origin.places.items in
    record {
      held = λ bytes held is are.
          let at = found.reported bytes held is are.parts_are in
          let (joined, whole, places) = places_are bytes is.are.records c.args.path.given at.placed is.are.spelled at.there items c.places_are_of_records.ensures at.places_are in
          record {
            located = given.located bytes (found.keeps.kept ∙ held) (contents is.are.records) (way (contents is.are.records)) (record {
              origin = read_record at.placed.content;
              joined = joined;
              short = is.short;
              leads = found_as is.are.records (way (contents is.are.records)) c.args.path at.placed (leads.is bytes is are) at.there (Ok joined) whole;
              http_is = at.http_is;
              places_are = subst (λ l. ArePlacesOf bytes l joined) (sym c.deref.ensures.value) places;
            });
            reads =
                on_path 1 is.are.records _ c.args.path (leads.is bytes is are)
                (then_read 0 1 1 (λ n. omega arith) is.are.records _ items c.deref.result.now _ (found.reads bytes held is are.parts_are)
                (places_in bytes is.are.records c.args.path.given is.are.spelled items at c.places_are_of_records.ensures c.places_are_as_long.ensures) c.deref.ensures.value (omega arith) given.reads);
          };
      early = given.early;
      inside = λ bytes (is, are).
          let stays = found.inside bytes is are.parts_are in
          then_inside bytes items c.deref.result.now (g.S.Source.seen c.args.source.now) (g.S.Source.seen c.origin_at.new.source) (g.S.Source.seen c.locate_joined.new.source) found.keeps.watched stays.asks stays.ends c.deref.ensures.value given.reads.near;
      keeps = preserves_both found.keeps (record { kept = given.reads.kept; watched = given.reads.watched });
      fails = fails_after found.keeps.kept found.fails.may
          (fails_more (λ bytes held (is, are).
          let at = found.reported bytes (sym found.keeps.kept ∙ held) is are.parts_are in
          let (joined, whole, places) = places_are bytes is.are.records c.args.path.given at.placed is.are.spelled at.there items c.places_are_of_records.ensures at.places_are in
          record { joined = joined; short = is.short; places_are = subst (λ l. ArePlacesOf bytes l joined) (sym c.deref.ensures.value) places }) given.fails);
    }
