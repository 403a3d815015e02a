use Rattle.std.proofs.Common.{List, ℕ, Ok, subst, sym, ◌||◌, ◌∙◌, arith}
use Rattle.std.proofs.lemmas.List.Folds.{list_any-append}
use Rattle.std.proofs.lemmas.List.Sums.{sum_by-append}
use Rattle.warc_answer.specs.Places.{text_at}
use Rattle.warc_answer.specs.Seen.{stored_seen}
use Rattle.warc_answer.specs.Stored.{IsStoredIn}
use Rattle.warc_answer.proofs.SplitLemmas.{bad_both, measured_as, stored_longer, text_both}
use Rattle.warc_answer.proofs.split.extended.Goals as goal

pub returns : goal.returns
returns g c = λ http fields bytes others extent fine is. (
  bad_both bytes c.args.own.now others is.0 fine,
  (
    subst (λ (t : List ℕ). IsStoredIn http fields t (Ok (measured_as (stored_seen c.args.stored) c.either.result c.saturating_sub-length.result))) (sym (text_both bytes c.args.own.now others))
        (stored_longer http fields (text_at c.args.own.now bytes) (text_at others bytes) (stored_seen c.args.stored) c.either.result c.saturating_sub-length.result is.1.0),
    c.either.ensures ∙ ((λ i. is.1.1 i || extent.truncated i) ∙ sym (list_any-append (λ p. p.truncated) c.args.own.now others)),
    omega (arith, c.saturating_sub-length.ensures, c.saturating_add-whole.ensures, c.total.ensures, extent.len, sum_by-append (λ p. p.len) c.args.own.now others),
  ),
)
