use Rattle.std.proofs.Common.{◌≡◌, ◌∙◌, ap, sym, ℕ, Option, None, refl}
use Rattle.std.specs.Prelude.{ok_or}
use Rattle.std.specs.Option.{option_or}
use Rattle.warc_index.specs.declared.link.Role.TheVariants.{NamesPair, NamesBoth}
use Rattle.warc_index.specs.declared.unfound.Unfound.TheVariants.{Unresolved}
use Rattle.warc_index.specs.Referents.{by_key, by_pair}
use Rattle.warc_index.specs.Links.{link_seen}
use Rattle.warc_index.proofs.KeptLemmas.{timed_at}
use Rattle.warc_index.proofs.LinkedLemmas.{instant_in, led_to_referent, others}
use Rattle.warc_index.proofs.index.RecordIndex+Order+A+A.led_to.Goals as goal

pub returns-in-NamesPair : goal.returns-in-NamesPair
returns-in-NamesPair g c all kept r at kind is =
    c.named_pair.ensures all kept (instant_in c.args.link.now.mark) refl
    ∙ led_to_referent all r (link_seen c.args.link.now) NamesPair (timed_at all c.args.position r kept.timed at) is c.in-NamesPair.is

pub returns-in-None-capture_with : goal.returns-in-None-capture_with
returns-in-None-capture_with g c all kept r at kind is =
    let none : None ≡ by_key all c.args.link.now.first.now = sym c.in-None-capture_with.is
    ∙ c.capture_with-in-NamesBoth.ensures all (ap (λ v. v.ids) c.self.view_is ∙ kept.ids) in
    c.named_pair-in-None-capture_with.ensures all kept (instant_in c.args.link.now.mark) refl
    ∙ (ap (λ (o : Option ℕ). ok_or (option_or o (by_pair all (
      c.args.link.now.second.now,
      instant_in
          c.args.link.now.mark,
    ))) Unresolved) none
    ∙ led_to_referent all r (link_seen c.args.link.now) NamesBoth (timed_at all c.args.position r kept.timed at) is c.in-NamesBoth.is)

pub returns-in_default : goal.returns-in_default
returns-in_default g c all kept r at kind is =
    sym (others all r c.args.link.now.role (link_seen c.args.link.now) c.in_default.not-NamesId
    c.in_default.not-NamesPair c.in_default.not-NamesBoth c.in_default.not-NamesNothing
    c.in_default.not-UnknownProfile)
    ∙ led_to_referent all r (link_seen c.args.link.now) c.args.link.now.role (timed_at all c.args.position r kept.timed at) is refl
