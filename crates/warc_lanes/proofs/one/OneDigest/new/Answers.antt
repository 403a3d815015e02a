use Rattle.std.proofs.Common.{refl, arith}
use Rattle.sha1.specs.Sha1.{hash_after}
use Rattle.warc_lanes.specs.Digests.{DigestHasTaken}
use Rattle.warc_lanes.proofs.one.OneDigest.new.Goals as goal

pub returns : goal.returns
unfolding hash_after DigestHasTaken
returns c = record {
  len_is = refl;
  absorbed = (refl, refl);
  short = λ none. omega arith;
}
