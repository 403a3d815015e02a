use Rattle.std.proofs.Common.{◌≡◌, length, map}
use Rattle.warc_judged.specs.Waiting.{kept_values}
use Rattle.warc_judged.proofs.digests.forget_good.Given as goal

-- what is kept is the same so far
abbrev pub invariant-forgetting : goal.invariant-forgetting
invariant-forgetting g l = record {
  same : kept_values l.verdicts (map (λ v. v.items) l.values) ≡ kept_values l.verdicts (map (λ v. v.items) l.fn.values);
  count : length l.values ≡ length l.fn.values;
}
