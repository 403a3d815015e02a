use Rattle.std.proofs.Common.{ℕ, [], refl, sym, subst, ◌∙◌}
use Rattle.warc_frame.specs.Send.{WentOut}
use Rattle.warc_frame.proofs.LawLemmas.{longer, staged_went_out}
use Rattle.warc.proofs.SurveyLemmas.{captures_at}
use Rattle.warc.proofs.opened.surveyed.put_outcomes.Goals as goal

pub returns : goal.returns
returns g c = captures_at (c.deref.ensures.value ∙ c.in-Ok.ensures) c.put_captures.ensures

pub returns-in_default : goal.returns-in_default
returns-in_default g c = record {
  captures = [];
  are = λ bytes held is of right. record { chosen = refl; each = tt };
  all = tt;
  out = λ start output is. tt;
  cut = λ start output is.
      let P : ℕ → Type 0 = λ n. WentOut start output ((g.W.Sink.seen c.args.out.now).reports) n in
      longer _ (subst P (sym c.sent.ensures) (staged_went_out start _ output _ is));
  inside = λ bytes is off. refl;
  keeps = record { kept = refl; watched = refl };
  fails = record { may = refl; failed = λ bytes held is. refl };
  cause = refl;
}
