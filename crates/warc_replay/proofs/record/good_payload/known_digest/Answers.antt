use Rattle.std.proofs.Common.{Ok, refl, sym, subst, ◌∙◌}
use Rattle.warc_fixity.specs.Judged.{digest_seen}
use Rattle.warc_frame.proofs.EffectLemmas.{fails_after, fails_as, fails_more}
use Rattle.warc_segment.specs.Joined.{ArePlacesOf}
use Rattle.warc_answer.specs.Payloads.{is_http_response, read_record}
use Rattle.warc_answer.specs.declared.answer.Path.{Path}
use Rattle.warc_record.specs.Readings.{reading_of}
use Rattle.warc_reading.specs.Archive.{contents}
use Rattle.warc_reading.proofs.PlacedLemmas.{content_at}
use Rattle.warc_replay.proofs.DigestLemmas.{digest_made, digest_unfound}
use Rattle.warc_replay.proofs.GoodPayloadLemmas.{agrees_alone, alone_is, digest_alone, digests_known}
use Rattle.warc_replay.proofs.OriginLemmas.{preserves_both}
use Rattle.warc_replay.proofs.ReplayLemmas.{found_as, places_are, then_inside}
use Rattle.warc_replay.proofs.record.good_payload.known_digest.Goals as goal

pub returns-in-Err : goal.returns-in-Err
returns-in-Err g c = rw c.no_digest.ensures
    (digests_known c.args.own c.args.digest (digest_unfound (digest_seen c.args.digest).0 c.in-Err.fault c.places_are_of_records.ensures c.in-Err.ensures))

pub returns-in-Ok-digest_known : goal.returns-in-Ok-digest_known
returns-in-Ok-digest_known g c =
    let found = c.in-Ok.ensures in
    let given = c.in-Ok-digest_known.ensures in
    let items = c.in-Ok.found.places.items in
    let path : Path = record { chosen = c.args.origin; given = c.args.origin } in
    record {
      reported = λ bytes held is parts mine block.
          let at = found.reported bytes held is parts in
          let (joined, whole, places) = places_are bytes is.are.records c.args.origin at.placed is.are.spelled at.there items c.places_are_of_records.ensures at.places_are in
          let there = content_at is.are.records c.args.origin at.placed at.there in
          let own = mine at.placed.content there in
          let alone = alone_is is.are.records at.placed joined whole own.alone in
          let r = read_record at.placed.content in
          digest_made is.are.records c.args.origin at.placed joined (digest_seen c.args.digest).0 c.in-Ok-digest_known.digest at.there whole
          (given.digest bytes (found.keeps.kept ∙ held) at.placed.content joined (record {
            records = contents is.are.records;
            found = Ok path;
            path = path;
            short = is.short;
            leads = found_as is.are.records (Ok path) path at.placed refl at.there (Ok joined) whole;
            places_are = subst (λ l. ArePlacesOf bytes l joined) (sym c.deref.ensures.value) places;
          }) at.http_is (agrees_alone c.args.own r joined alone (block at.placed.content there))
          (digest_alone (is_http_response (reading_of at.placed.content.fields)) c.in-Ok.found.http r joined c.args.digest alone at.http_is own.is));
      early = tt;
      inside = λ bytes is parts.
          let stays = found.inside bytes is parts in
          then_inside bytes items c.deref.result.now (g.S.Source.seen c.args.source.now) (g.S.Source.seen c.origin_at.new.source) (g.S.Source.seen c.digest_known.new.source) found.keeps.watched stays.asks stays.ends c.deref.ensures.value given.reads.near;
      keeps = preserves_both found.keeps (record { kept = given.reads.kept; watched = given.reads.watched });
      fails = record { may = given.fails.may ∙ found.fails.may; failed = λ bytes held is. given.fails.may ∙ found.fails.may };
    }

pub returns : goal.returns
returns g c =
    let found = c.in-Ok.ensures in
    let given = c.in-Err-digest_known.ensures in
    let items = c.in-Ok.found.places.items in
    record {
      reported = λ bytes held is parts mine block. tt;
      early = refl;
      inside = λ bytes is parts.
          let stays = found.inside bytes is parts in
          then_inside bytes items c.deref.result.now (g.S.Source.seen c.args.source.now) (g.S.Source.seen c.origin_at.new.source) (g.S.Source.seen c.digest_known.new.source) found.keeps.watched stays.asks stays.ends c.deref.ensures.value given.reads.near;
      keeps = preserves_both found.keeps (record { kept = given.reads.kept; watched = given.reads.watched });
      fails = fails_after found.keeps.kept found.fails.may
          (fails_more (λ bytes held (is, parts, within).
          let at = found.reported bytes (sym found.keeps.kept ∙ held) is parts in
          let (joined, whole, places) = places_are bytes is.are.records c.args.origin at.placed is.are.spelled at.there items c.places_are_of_records.ensures at.places_are in
          record { joined = joined; short = is.short; places_are = subst (λ l. ArePlacesOf bytes l joined) (sym c.deref.ensures.value) places })
          (fails_as _ _ given.fails));
    }
