use Rattle.std.proofs.Common.{◌≡◌, ◌<◌, Some, length, refl, ap, ◌∙◌, arith}
use Rattle.std.proofs.lemmas.Option.{slice_get_read}
use Rattle.std.specs.List.{slice_get}
use Rattle.warc_checking.specs.UsedIds.{Ids}
use Rattle.warc_checking.proofs.TallyLemmas.{never_past}
use Rattle.warc_checking.proofs.used_ids.UsedIds.is_shared.Goals as goal

pub returns-in-None : goal.returns-in-None
returns-in-None g c = record {
  shared = λ key is.
      let (some, here, past, (low, each), more) = c.in-Some.ensures.lookup in
      let (none, nowhere, beyond, far, rest) = c.in-None.ensures.lookup in
      let bucket = c.in-Some.bucket.now in
      let xs = c.deref.result.now in
      let found : slice_get xs c.args.position ≡ Some bucket = slice_get_read xs (length xs) c.args.position bucket refl low here in
      let buckets : xs ≡ c.args.self.now.buckets = c.deref.ensures.value ∙ ap (λ (m : Ids). m.buckets) c.self.view_is in
      let counts : c.deref-2.result.now ≡ c.args.self.now.counts = c.deref-2.ensures.value ∙ ap (λ (m : Ids). m.counts) c.self.view_is in
      let any : 0 < length c.args.self.now.counts = omega (arith, c.self.invariant, ap (λ (m : Ids). length m.counts) c.self.view_is) in
      absurd (never_past c.args.self.now.counts c.args.self.now.buckets xs c.deref-2.result.now c.args.position bucket key buckets counts found is any far);
}
