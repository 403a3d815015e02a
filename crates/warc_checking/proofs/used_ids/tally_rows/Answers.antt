use Rattle.std.proofs.Common.{rules, ap, ◌+◌, ◌≡◌, ◌≤◌, ◌^◌, ◌++◌, ◌∷◌, [], List, ℕ, length, Some, sym, subst, ◌∙◌, arith}
use Rattle.std.proofs.lemmas.List.{length_push}
use Rattle.std.specs.List.{slice_get}
use Rattle.warc_record.specs.Ids.{id_key}
use Rattle.warc_reading.specs.Row.{Row}
use Rattle.warc_checking.specs.UsedIds.{IsTally, bucket_of, buckets_in}
use Rattle.warc_checking.proofs.TallyLemmas.{tally_more, whole_back}
use Rattle.warc_checking.proofs.used_ids.tally_rows.Goals as goal

pub counting-preserved : goal.counting-preserved
counting-preserved g c =
    let old = c.counting.counts.items in
    let new = c.count_id-bucket.new.counts in
    let row_is : slice_get c.args.rows.now c.counting.position ≡ Some c.in-Some.row = sym c.get.ensures ∙ c.in-Some.is in
    let value : c.deref_mut.result.now ≡ old = c.deref_mut.ensures.value in
    let size : length new ≡ length old = c.count_id-bucket.auto.counts ∙ ap length value in
    let len : c.counting.counts.len ≡ length old = search rules in
    let text = ap (λ (r : Row). id_key r.id) c.row.view_is in
    let whole = whole_back c.counting.counts.len new old len size in
    let buckets = c.counting.buckets.items in
    let bucket = c.count_id-bucket.result in
    let next = c.push.new.self.items in
    let pushed : next ≡ buckets ++ bucket ∷ [] = search rules in
    let P : List ℕ → Type 0 = λ l. IsTally (c.counting.position + 1) c.args.rows.now l next in
    let Q : List ℕ → Type 0 = λ l. IsTally (c.counting.position + 1) c.args.rows.now new l in
    let Few : List ℕ → Type 0 = λ l. buckets_in l ≤ 2 ^ 32 in
    let more =
    tally_more c.counting.position c.args.rows.now c.in-Some.row old new buckets bucket row_is (omega (arith, c.counting.invariant.tally.some, size))
    size c.counting.invariant.len (λ key is. c.count_id-bucket.ensures.bucket key (text ∙ is) ∙ ap (λ l. bucket_of (buckets_in l) key) value)
    (rw (← value) c.count_id-bucket.ensures.more) (λ key is. c.count_id-bucket.ensures.once key (text ∙ is))
    (λ key is seen. c.count_id-bucket.ensures.twice key (text ∙ is) (rw value seen)) c.counting.invariant.tally in
    record {
      tally = subst P (sym whole) (subst Q (sym pushed) more);
      few = subst Few (sym whole) (omega (arith, size, c.counting.invariant.few));
      len = ap length pushed ∙ length_push buckets bucket ∙ ap (λ n. n + 1) c.counting.invariant.len;
    }
