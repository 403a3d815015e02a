use Rattle.std.proofs.Common.{rules, List, subst, ◌≡◌, ◌+◌, ◌++◌, ℕ, Some, length, take, sym, ap, ◌∙◌}
use Rattle.std.proofs.lemmas.Option.{slice_get_within}
use Rattle.std.specs.List.{flat_map, slice_get}
use Rattle.warc_frame.specs.Count.{capped}
use Rattle.warc_reading.specs.Archive.{contents}
use Rattle.warc_checking.specs.Checking.{line_text}
use Rattle.warc_checking.specs.Lines.{findings_of_first, first_text}
use Rattle.warc_checking.specs.UsedIds.{IsTally}
use Rattle.warc_frame.proofs.LawLemmas.{same_out, same_staged}
use Rattle.warc_checking.proofs.NextLemmas.{next_at}
use Rattle.warc_checking.proofs.RecordsLemmas.{first_all, ids_one, number_more, rest_text, text_more, text_rest}
use Rattle.warc_checking.proofs.output.put_each.Goals as goal

pub returns-clause-puts : goal.returns-clause-puts
returns-clause-puts g c = λ bytes records findings.
    let all = first_all bytes records c.args.rows.now c.reporting.position findings.can (search rules) in
    record {
      out = λ start output is.
          same_staged (ap (λ l. output ++ flat_map line_text l) all) (c.reporting.invariant.staged bytes records start output findings is);
      cut = λ start output is. search rules;
      number = c.reporting.invariant.number bytes records findings ∙ ap (λ l. capped (length l)) all;
    }

pub returns-in_err-number-clause-puts : goal.returns-in_err-number-clause-puts
returns-in_err-number-clause-puts g c = λ bytes records findings.
    let rs = contents records in
    let i = c.reporting.position in
    let row_is : slice_get c.args.rows.now i ≡ Some c.in-Some.row = sym c.get.ensures ∙ c.in-Some.is in
    let (p, at, next) = next_at bytes records _ _ i _ _ c.good_heads_read.ensures findings c.reporting.invariant.tally row_is (c.reporting.invariant.ids bytes records findings) in
    record {
      out = λ start output is. search rules;
      cut = λ start output is.
          let cut = c.in_err-number.ensures.cut (take i rs) p start (output ++ first_text i rs) next (c.reporting.invariant.staged bytes records start output findings is) in
          let longer = c.went_out_of_longer.ensures start _ _ (rest_text (i + 1) rs) _ cut in
          let whole = same_out (ap (λ l. l ++ rest_text (i + 1) rs) (text_more records i p output at) ∙ text_rest rs (i + 1) output) longer in
          search rules;
      number = search rules;
    }

pub put_next-requires : goal.put_next-requires
put_next-requires g c =
    let row_is : slice_get c.args.rows.now c.reporting.position ≡ Some c.in-Some.row = sym c.get.ensures ∙ c.in-Some.is in
    record {
      bucket = λ key is. c.reporting.invariant.tally.kept c.reporting.position c.in-Some.row key (slice_get_within _ _ _ row_is) row_is is;
    }

pub reporting-preserved : goal.reporting-preserved
reporting-preserved g c =
    let i = c.reporting.position in
    let row_is : slice_get c.args.rows.now i ≡ Some c.in-Some.row = sym c.get.ensures ∙ c.in-Some.is in
    let P : List ℕ → Type 0 = λ l. IsTally (length c.args.rows.now) c.args.rows.now l c.put_next.new.ids.buckets in
    let Q : List ℕ → Type 0 = λ l. IsTally (length c.args.rows.now) c.args.rows.now c.reporting.ids.counts l in
    record {
      tally = subst P (sym c.put_next.ensures.counts) (subst Q (sym c.put_next.ensures.buckets) c.reporting.invariant.tally);
      staged = λ bytes records start output findings is.
          let rs = contents records in
          let (p, at, next) = next_at bytes records _ _ i _ _ c.good_heads_read.ensures findings c.reporting.invariant.tally row_is (c.reporting.invariant.ids bytes records findings) in
          same_staged (text_more records i p output at)
          (c.in_ok-number.ensures.out (take i rs) p start (output ++ first_text i rs) next (c.reporting.invariant.staged bytes records start output findings is));
      ids = λ bytes records findings.
          let rs = contents records in
          let (p, at, next) = next_at bytes records _ _ i _ _ c.good_heads_read.ensures findings c.reporting.invariant.tally row_is (c.reporting.invariant.ids bytes records findings) in
          ids_one records i p c.put_next.new.ids at (c.in_ok-number.ensures.ids (take i rs) p next);
      number = λ bytes records findings.
          let rs = contents records in
          let (p, at, next) = next_at bytes records _ _ i _ _ c.good_heads_read.ensures findings c.reporting.invariant.tally row_is (c.reporting.invariant.ids bytes records findings) in
          c.saturating_add-count.ensures ∙ ap (λ n. capped (n + c.in_ok-number.number)) (c.reporting.invariant.number bytes records findings)
          ∙ ap (λ n. capped (capped (length (findings_of_first i rs)) + n)) (c.in_ok-number.ensures.number (take i rs) p next)
          ∙ number_more records i p at;
      silent = search rules;
    }
