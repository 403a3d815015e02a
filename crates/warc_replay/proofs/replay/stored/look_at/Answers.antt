use Rattle.std.proofs.Common.{Ok, refl, sym, subst, ◌∙◌, arith}
use Rattle.std.proofs.lemmas.Result.{err_from_is_err_and}
use Rattle.warc_frame.proofs.EffectLemmas.{fails_after, fails_more}
use Rattle.warc_segment.specs.Joined.{ArePlacesOf}
use Rattle.warc_answer.specs.declared.answer.Path.{Path}
use Rattle.warc_reading.specs.Archive.{contents}
use Rattle.warc_replay.proofs.LookLemmas.{fault_fails, gap_looked, look_failed, look_made}
use Rattle.warc_replay.proofs.OriginLemmas.{places_in, preserves_both, read_less, then_read}
use Rattle.warc_replay.proofs.ReplayLemmas.{found_as, places_are, then_inside}
use Rattle.warc_replay.proofs.replay.stored.look_at.Goals as goal

pub returns-in_err-origin : goal.returns-in_err-origin
returns-in_err-origin g c =
    let p = err_from_is_err_and c.from_residual.result c.from_residual.ensures.1 in
    let found = c.in_err-origin.ensures in
    rw (p.1, p.2) (record {
      reported = λ bytes held is parts. gap_looked (Unit {0}) (Unit {0}) bytes is.are.records c.args.position c.in_err-origin.field-0.0 is.are.spelled c.places_are_of_records.ensures (found.reported bytes held is parts);
      reads = λ bytes held is parts. record { reads = read_less 0 1 (λ n. omega arith) is.are.records _ (found.reads bytes held is parts); places = tt };
      inside = λ bytes is parts. record { asks = (found.inside bytes is parts).asks; ends = tt };
      early = found.early;
      keeps = found.keeps;
      fails = fault_fails (Unit {0}) (Unit {0}) c.in_err-origin.field-0.0 found.fails;
    })

pub returns-in-Err : goal.returns-in-Err
returns-in-Err g c =
    let found = c.in_ok-origin.ensures in
    let given = c.in-Err.ensures in
    let items = c.in_ok-origin.origin.places.items in
    let path : Path = record { chosen = c.args.position; given = c.args.position } in
    record {
      reported = λ bytes held is parts.
          let at = found.reported bytes held is parts in
          let (joined, whole, places) = places_are bytes is.are.records c.args.position at.placed is.are.spelled at.there items c.places_are_of_records.ensures at.places_are in
          look_failed (Unit {0}) (Unit {0}) bytes is.are.records c.args.position at.placed joined c.in-Err.fault at.there whole
          (given.judged bytes (found.keeps.kept ∙ held) at.placed.content joined (record {
            records = contents is.are.records;
            found = Ok path;
            path = path;
            short = is.short;
            leads = found_as is.are.records (Ok path) path at.placed refl at.there (Ok joined) whole;
            places_are = subst (λ l. ArePlacesOf bytes l joined) (sym c.deref-2.ensures.value) places;
          }) at.http_is (c.deref.ensures.value ∙ at.type_is));
      reads = λ bytes held is parts. record {
        reads =
            let at = found.reported bytes held is parts in
            then_read 0 1 1 (λ n. omega arith) is.are.records _ items c.deref-2.result.now _ (found.reads bytes held is parts)
            (places_in bytes is.are.records c.args.position is.are.spelled items at c.places_are_of_records.ensures c.places_are_as_long.ensures) c.deref-2.ensures.value (omega arith) given.reads;
        places = tt;
      };
      inside = λ bytes is parts.
          let stays = found.inside bytes is parts in
          record { asks = then_inside bytes items c.deref-2.result.now (g.S.Source.seen c.args.source.now) (g.S.Source.seen c.origin_at.new.source) (g.S.Source.seen c.find_stored.new.source) found.keeps.watched stays.asks stays.ends c.deref-2.ensures.value given.reads.near; ends = tt };
      early = given.early;
      keeps = preserves_both found.keeps (record { kept = given.reads.kept; watched = given.reads.watched });
      fails = fails_after found.keeps.kept found.fails.may
          (fails_more (λ bytes held (is, parts, within).
          let at = found.reported bytes (sym found.keeps.kept ∙ held) is parts in
          let (joined, whole, places) = places_are bytes is.are.records c.args.position at.placed is.are.spelled at.there items c.places_are_of_records.ensures at.places_are in
          record { joined = joined; short = is.short; places_are = subst (λ l. ArePlacesOf bytes l joined) (sym c.deref-2.ensures.value) places })
          (fault_fails (Unit {0}) (Unit {0}) c.in-Err.fault given.fails));
    }

pub returns-in-Ok : goal.returns-in-Ok
returns-in-Ok g c =
    let found = c.in_ok-origin.ensures in
    let given = c.in-Ok.ensures in
    let items = c.in_ok-origin.origin.places.items in
    let path : Path = record { chosen = c.args.position; given = c.args.position } in
    record {
      reported = λ bytes held is parts.
          let at = found.reported bytes held is parts in
          let (joined, whole, places) = places_are bytes is.are.records c.args.position at.placed is.are.spelled at.there items c.places_are_of_records.ensures at.places_are in
          look_made bytes is.are.records c.args.position at.placed joined c.in-Ok.stored c.in_ok-origin.origin.places is.short at.there whole places
          (given.judged bytes (found.keeps.kept ∙ held) at.placed.content joined (record {
            records = contents is.are.records;
            found = Ok path;
            path = path;
            short = is.short;
            leads = found_as is.are.records (Ok path) path at.placed refl at.there (Ok joined) whole;
            places_are = subst (λ l. ArePlacesOf bytes l joined) (sym c.deref-2.ensures.value) places;
          }) at.http_is (c.deref.ensures.value ∙ at.type_is));
      reads = λ bytes held is parts.
          let at = found.reported bytes held is parts in
          let places = places_in bytes is.are.records c.args.position is.are.spelled items at c.places_are_of_records.ensures c.places_are_as_long.ensures in
          record {
            reads = then_read 0 1 1 (λ n. omega arith) is.are.records _ items c.deref-2.result.now _ (found.reads bytes held is parts) places c.deref-2.ensures.value (omega arith) given.reads;
            places = places;
          };
      inside = λ bytes is parts.
          let stays = found.inside bytes is parts in
          record { asks = then_inside bytes items c.deref-2.result.now (g.S.Source.seen c.args.source.now) (g.S.Source.seen c.origin_at.new.source) (g.S.Source.seen c.find_stored.new.source) found.keeps.watched stays.asks stays.ends c.deref-2.ensures.value given.reads.near; ends = stays.ends };
      early = tt;
      keeps = preserves_both found.keeps (record { kept = given.reads.kept; watched = given.reads.watched });
      fails = record { may = given.fails.may ∙ found.fails.may; failed = λ bytes held is. given.fails.may ∙ found.fails.may };
    }
