use Rattle.std.proofs.Common.{ℕ, ◌≤◌, List, None, Some, length, sym, subst, ◌∙◌, arith}
use Rattle.std.proofs.lemmas.Result.{err_from_is_err_and}
use Rattle.memchr.specs.Find.{FindsNeedle}
use Rattle.warc_pieces.specs.Pieces.{near}
use Rattle.warc_pieces.specs.Search.{line_start}
use Rattle.warc_pieces.proofs.SearchLemmas.{line_found, looks_on, none_further, none_left, none_read}
use Rattle.warc_pieces.proofs.search.next_line.Goals as goal

pub returns-in-Some-clause-finds : goal.returns-in-Some-clause-finds
returns-in-Some-clause-finds g c = λ bytes held shows low.
    let i = c.looking.invariant in
    let (here, within, none) = i.held bytes held shows low in
    let P : List ℕ → Type 0 = λ x. FindsNeedle x line_start 0 (Some c.in-Some.place) in
    (here, line_found bytes c.looking.window c.args.from c.looking.at here i.begin i.low none c.in-Some.place (subst P c.shown-shown.ensures.shown c.in-Some.ensures))

pub returns-then-is_last-clause-finds : goal.returns-then-is_last-clause-finds
returns-then-is_last-clause-finds g c = λ bytes held shows low.
    let i = c.looking.invariant in
    let (here, within, none) = i.held bytes held shows low in
    let P : List ℕ → Type 0 = λ x. FindsNeedle x line_start 0 None in
    let last = here.last (sym c.is_last.ensures ∙ c.if-is_last.true) in
    (here, (last, none_left bytes c.looking.window c.args.from c.looking.at here i.begin i.low none (subst P c.shown-shown.ensures.shown c.in_default.ensures) last))

pub returns-in_err-more-clause-finds : goal.returns-in_err-more-clause-finds
returns-in_err-more-clause-finds g c =
    let p = err_from_is_err_and c.from_residual.result c.from_residual.ensures.1 in
    let i = c.looking.invariant in
    let next : ℕ = c.max-at.result in
    rw (p.1, p.2) (λ bytes held shows low.
    let (here, within, none) = i.held bytes held shows low in
    let P : List ℕ → Type 0 = λ x. FindsNeedle x line_start 0 None in
    let before : next ≤ length (near bytes) = omega (arith, here.within) in
    let end = c.in_err-more.ensures.fault in (
      c.in_err-more.ensures.shows bytes (i.reads.kept ∙ held) here before,
      (
        omega (arith, end.1, end.2),
        omega (arith, end.1, end.2, here.within, before),
        none_read bytes c.looking.window c.args.from c.looking.at here i.begin i.low none (subst P c.shown-shown.ensures.shown c.in_default.ensures) next c.in_err-more.field-0.0.offset (omega arith) (omega (arith, end.1, end.2)),
      ),
    ))

pub looking-preserved : goal.looking-preserved
looking-preserved g c =
    let i = c.looking.invariant in
    let next : ℕ = c.max-at.result in
    record {
      low = omega arith;
      limit = omega arith;
      begin = omega (arith, c.in_ok-more.ensures.begin);
      far = c.reached-reached-in-looking.ensures.is;
      most = c.reached-reached-in-looking.ensures.limit;
      reads = looks_on c.in_ok-more.field-0 _ _ _ next _ _ _ (sym c.is_last.ensures ∙ c.if-is_last.false) c.in_ok-more.ensures.goes_on i.reads c.in_ok-more.ensures.reads;
      held = λ bytes held shows low.
          let (here, within, none) = i.held bytes held shows low in
          let P : List ℕ → Type 0 = λ x. FindsNeedle x line_start 0 None in
          let before : next ≤ length (near bytes) = omega (arith, here.within) in (
            c.in_ok-more.ensures.shows bytes (i.reads.kept ∙ held) here before,
            before,
            none_further bytes c.looking.window c.args.from c.looking.at here i.begin i.low none (subst P c.shown-shown.ensures.shown c.in_default.ensures) next (omega arith),
          );
    }
