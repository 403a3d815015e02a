use Rattle.std.proofs.Common.{refl, sym, ◌∙◌}
use Rattle.warc_frame.proofs.EffectLemmas.{fails_never}
use Rattle.warc_reading.specs.Archive.{contents}
use Rattle.warc_replay.proofs.BodyLemmas.{none_there}
use Rattle.warc_replay.proofs.ComparedLemmas.{gives_out}
use Rattle.warc_replay.proofs.record.comparison.take_payload.Goals as goal

pub returns-in_default : goal.returns-in_default
returns-in_default g c =
    let none = sym c.get.ensures ∙ c.in_default.is in
    record {
      taken = λ bytes held is are. none_there bytes c.args.rows.now c.args.position is none;
      absent = (λ e. none, λ e. refl);
      inside = λ bytes is off. refl;
      keeps = record { kept = refl; watched = refl };
      fails = record { may = refl; failed = λ bytes held is. refl };
    }

pub returns-in-Ok : goal.returns-in-Ok
returns-in-Ok g c =
    let at = sym c.get.ensures ∙ c.in-Some.is in
    record {
      taken = λ bytes held is are.
          let (has, knows) = c.in-Ok.ensures.reported bytes held is are (c.new-digested.ensures (contents is.are.records)) in (has.content, has.there, has.is);
      absent = (λ e. absurd (cc e), λ none. absurd (cc (sym at ∙ none)));
      inside = c.in-Ok.ensures.inside;
      keeps = c.in-Ok.ensures.keeps;
      fails = fails_never c.in-Ok.ensures.fails.may;
    }

pub returns : goal.returns
returns g c =
    let at = sym c.get.ensures ∙ c.in-Some.is in
    rw c.take_fault.ensures (gives_out c.args.rows.now c.args.lookup.now.index c.args.lookup.now.parts c.args.position _ c.in-Err.fault at c.in-Err.ensures.early c.in-Err.ensures.inside c.in-Err.ensures.keeps c.in-Err.ensures.fails)
