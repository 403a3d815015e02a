use Rattle.std.proofs.Common.{◌<◌, length, get_or, arith, ap, ◌∙◌}
use Rattle.std.proofs.lemmas.Option.{same_Some}
use Rattle.warc_record.specs.declared.known.Spot.TheVariants.{Absent}
use Rattle.warc_frame.specs.FieldNames.{name_place}
use Rattle.warc_record.specs.Known.{next_spot}
use Rattle.warc_record.proofs.KnownLemmas.{known_added, other_added}
use Rattle.warc_record.proofs.known.add.Goals as goal

pub returns-in-Some : goal.returns-in-Some
returns-in-Some g c = record {
  spots = λ fields value size are known.
      let at = c.place-at.ensures.place in
      let within : name_place c.in-Some.known < length c.args.spots.now = omega (arith, c.place-at.ensures.within, at, c.requires) in
      let next =
      c.next.ensures ∙ ap (λ p. next_spot (get_or c.args.spots.now p Absent) c.args.place) at
      ∙ ap (next_spot (get_or c.args.spots.now (name_place c.in-Some.known) Absent)) size in
      rw at (
      known_added c.are_field_names.ensures fields c.args.name.now value c.args.spots.now c.in-Some.known c.next.result c.in-Some.ensures.is
      (λ other hit. same_Some _ _ (c.in-Some.ensures.only other hit)) within next are known
      );
}

pub returns-in_default : goal.returns-in_default
returns-in_default g c = record {
  spots = λ fields value size are.
      other_added fields c.args.name.now value c.args.spots.now
      (λ other hit. c.in_default.not-Some other (c.known_as.ensures.only other hit)) are;
}
