use Rattle.std.proofs.Common.{sym, ap, ap₂, ◌∙◌}
use Rattle.warc_lookup.proofs.LookupLemmas.{are_of_same}
use Rattle.warc_judged.specs.Fixity.{Judgements}
use Rattle.warc_judged.specs.Claims.{SurveyMarks, settled_claims}
use Rattle.warc.proofs.KnownPayloadLemmas.{known_right}
use Rattle.warc.proofs.SurveyLemmas.{claims_settled}
use Rattle.warc.proofs.opened.surveyed.into_parts.Goals as goal

pub returns : goal.returns
returns g c = λ records is.
    let judged = c.into_digests-digests.ensures in
    let verdicts = ap (λ (j : Judgements). j.verdicts) judged ∙ is.verdicts_are in
    let wanted = c.settle_claims.ensures ∙ ap₂ settled_claims (ap (λ (m : SurveyMarks). m.claims) c.marks.view_is ∙ is.claims_are) (c.verdicts.ensures ∙ verdicts) ∙ claims_settled c.wanted_verdict_is_kept.ensures records in
    record {
      found = are_of_same _ _ _ _ _ c.into_lookup.ensures.index c.into_lookup.ensures.parts is.kept;
      verdicts_are = verdicts;
      digests_are = ap (λ (j : Judgements). j.digests) judged ∙ is.digests_are;
      wanted_are = wanted;
      segmented_are = ap (λ (m : SurveyMarks). m.segmented) c.marks.view_is ∙ is.segmented_are;
      findings_are = c.mark_each.ensures records is.found_are (c.as_slice.ensures ∙ wanted);
      known_are = known_right (sym c.into_known.ensures) is.known_are;
    }
