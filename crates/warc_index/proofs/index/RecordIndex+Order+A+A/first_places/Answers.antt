use Rattle.std.proofs.Common.{◌≡◌, ◌∙◌, ◌<◌, ◌+◌, ◌∷◌, [], ◌++◌, inl, inr, ℕ, List, length, Option, get_or, unwrap_or, ap, sym, subst, arith}
use Rattle.std.proofs.lemmas.Bool.{cases_lt}
use Rattle.std.proofs.lemmas.List.{length-append, get_or_append_left, get_or_push}
use Rattle.warc_index.specs.Chains.{onward, place_for}
use Rattle.warc_index.specs.Referents.{next_of}
use Rattle.warc_index.proofs.index.RecordIndex+Order+A+A.first_places.Goals as goal

pub stepping-init : goal.stepping-init
stepping-init g c = record {
  long = ap length (c.in_ok-reserve.ensures.items ∙ c.new-places.ensures.items);
  each = λ all kept p lt. absurd (omega (arith, lt));
}

-- the place of one position more
pushed : (next : ℕ → Option ℕ) (n x p : ℕ) (places more : List ℕ) → more ≡ places ++ x ∷ [] → length places ≡ n
    → x ≡ onward next n → ((q : ℕ) → q < n → place_for places q ≡ onward next q) → p < n + 1
    → place_for more p ≡ onward next p
pushed next n x p places more is long last before lt = elim (cases_lt p n) [
  | inl less ↦
      let within : p < length places = omega (arith, long, less) in
      ap (λ (l : List ℕ). get_or l p p) is ∙ (get_or_append_left places (x ∷ []) p p within ∙ before p less)
  | inr other ↦
      let same : p ≡ n = omega (arith, lt, other) in
      ap (λ (l : List ℕ). get_or l p p) is ∙ (get_or_push places x p p (long ∙ sym same) ∙ (last ∙ ap (onward next)
      (sym same)))
]

pub stepping-preserved : goal.stepping-preserved
stepping-preserved g c = record {
  long = ap length c.in_ok-push.ensures.items ∙ (length-append c.stepping.places.items _ ∙ ap (λ n. n + 1)
      c.stepping.invariant.long);
  each = λ all kept p lt.
      pushed (next_of all) c.stepping.position _ p c.stepping.places.items _ c.in_ok-push.ensures.items
      c.stepping.invariant.long (c.unwrap_or.ensures ∙ ap (λ (o : Option ℕ). unwrap_or o c.stepping.position)
      (c.referent.ensures.next all kept)) (c.stepping.invariant.each all kept) lt;
}

pub returns : goal.returns
returns g c all kept =
    let n : c.self.inside.count ≡ length all = ap (λ v. v.count) c.self.view_is ∙ kept.count in
    let end : c.stepping.position ≡ length all = omega (arith, n, c.stepping-test.false, c.stepping.auto.position-end) in (
      c.stepping.invariant.long ∙ end,
      λ p lt. c.stepping.invariant.each all kept p (omega (arith, lt, end)),
    )
