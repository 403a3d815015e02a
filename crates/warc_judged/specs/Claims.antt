-- The verdicts that heads claim, before their blocks are judged by the digests that they state. States of the code.
use Rattle.std.specs.Prelude.{Bool, List, [], ◌∷◌}
use Rattle.warc_record.specs.Readings.{digest_wanted}
use Rattle.warc_value.specs.declared.hash.Verdict.{Verdict}
use Rattle.warc_value.specs.declared.hash.Verdict.TheVariants.{Good, Bad, Unchecked}
use Rattle.warc_value.specs.declared.hash.Wanted.{Wanted}
use Rattle.warc_value.specs.declared.hash.Wanted.TheVariants.{Sha1, Unchecked as NoDigest}
use Rattle.warc_reading.specs.Row.{Placed}

-- the verdict on a block that has the digest that is wanted of it
abbrev pub claimed : Wanted → Verdict
claimed (Sha1 digest) = Good
claimed NoDigest = Unchecked

abbrev pub claimed_on : Placed → Verdict
claimed_on p = claimed (digest_wanted p.content.fields)

-- the verdict by the digest that is wanted, by the claim and by the verdict that is stated
abbrev pub settled_claim : Verdict → Verdict → Verdict
settled_claim Good stated = stated
settled_claim Bad stated = Bad
settled_claim Unchecked stated = Unchecked

-- the verdict by the digest that is wanted, of each of the first records, as many as have a stated verdict
abbrev pub settled_claims : List Verdict → List Verdict → List Verdict
settled_claims [] stated = []
settled_claims (c ∷ cs) [] = c ∷ cs
settled_claims (c ∷ cs) (v ∷ vs) = settled_claim c v ∷ settled_claims cs vs

-- what is kept of heads for a survey: which records are segments, and the verdicts that are claimed
pub record SurveyMarks : Type 0 where
  pub segmented : List Bool
  pub claims : List Verdict
