use Rattle.std.proofs.Common.{◌≡◌, ℕ, ◌+◌, ◌-◌, ◌*◌, ◌<◌, ◌≤◌, drop, Option, IfSome, Ok, Err, refl, sym, subst, ◌∙◌, arith}
use Rattle.std.proofs.lemmas.Result.{err_from_is_err_and}
use Rattle.warc_frame.specs.Record.{max_archive}
use Rattle.warc_pieces.specs.Search.{FindsLine}
use Rattle.warc_pieces.specs.Pieces.{near}
use Rattle.warc_pieces.specs.Skip.{NoneWithin}
use Rattle.warc_pieces.specs.Window.{Shows}
use Rattle.warc_pieces.proofs.ReadsLemmas.{no_fault_by}
use Rattle.warc_pieces.proofs.SearchLemmas.{failed_from, few_tries, search_ends, search_fails, search_finds, search_goes_on, search_stops, skipped, skipped_within, tries_both, tries_end}
use Rattle.warc_pieces.proofs.search.next_record.Goals as goal

pub returns-in_err-line-clause-reads : goal.returns-in_err-line-clause-reads
returns-in_err-line-clause-reads g c =
    let p = err_from_is_err_and c.from_residual.result c.from_residual.ensures.1 in
    let i = c.judging.invariant in
    let t = i.tries in
    rw (p.1, p.2) (
      t.count + 1,
      tries_end (54 * t.count) 1 t.count (Err c.in_err-line.field-0.0) (Err c.in_err-line.field-0.0) _ _ _ _ _ _ refl (omega arith) t.reads c.in_err-line.ensures.reads refl,
      λ bytes held shows low.
          let comes = t.held bytes held shows low in
          let stop = (c.in_err-line.ensures.finds bytes (t.reads.kept ∙ held) comes.shows comes.within).1 in
          few_tries bytes c.args.from c.judging.at t.count c.in_err-line.field-0.0.offset c.judging.window comes (omega (arith, stop.0)),
    )

pub returns-in_default-clause-finds : goal.returns-in_default-clause-finds
returns-in_default-clause-finds g c = λ bytes held shows low.
    let i = c.judging.invariant in
    let t = i.tries in
    let comes = t.held bytes held shows low in
    let F : Option ℕ → Type 0 = λ o. Shows bytes c.next_line.new.window × FindsLine bytes c.judging.at c.next_line.new.window (Ok o) in
    let found = subst F c.in_default.is (c.in_ok-line.ensures.finds bytes (t.reads.kept ∙ held) comes.shows comes.within) in
    (found.0, search_ends bytes c.args.from c.judging.at t.count c.max.result c.judging.window i.low comes (omega (arith, c.reached.ensures.is, found.1.0, comes.within)) found.1.1)

pub returns-in_default-clause-reads : goal.returns-in_default-clause-reads
returns-in_default-clause-reads g c =
    let i = c.judging.invariant in
    let t = i.tries in (
      t.count + 1,
      tries_end (54 * t.count) 1 t.count (Ok c.in_ok-line.field-0) (Ok c.max.result) _ _ _ _ _ _ refl (omega arith) t.reads c.in_ok-line.ensures.reads refl,
      λ bytes held shows low.
          let comes = t.held bytes held shows low in
          few_tries bytes c.args.from c.judging.at t.count c.max.result c.judging.window comes (omega arith),
    )

pub returns-in-Ok-clause-finds : goal.returns-in-Ok-clause-finds
returns-in-Ok-clause-finds g c = λ bytes held shows low.
    let i = c.judging.invariant in
    let t = i.tries in
    let comes = t.held bytes held shows low in
    let F : Option ℕ → Type 0 = λ o. Shows bytes c.next_line.new.window × FindsLine bytes c.judging.at c.next_line.new.window (Ok o) in
    let found = subst F c.in-Some.is (c.in_ok-line.ensures.finds bytes (t.reads.kept ∙ held) comes.shows comes.within) in
    let kept = c.in_ok-line.ensures.reads.kept ∙ t.reads.kept ∙ held in
    let one = c.in-Ok.ensures.judges bytes kept found.0 (omega (arith, found.1.0.high)) in
    (one.0, search_finds bytes c.args.from c.judging.at t.count c.in-Some.line c.in-Ok.field-0 c.judging.window c.record_len.new.window i.low comes found.1.0 one.1)

pub returns-in-Ok-clause-reads : goal.returns-in-Ok-clause-reads
returns-in-Ok-clause-reads g c =
    let i = c.judging.invariant in
    let t = i.tries in (
      t.count + 1,
      tries_both t.count c.in_ok-line.field-0 (Ok c.in-Ok.field-0) (Ok c.in-Some.line) _ _ _ _ _ _ _ _ t.reads c.in_ok-line.ensures.reads c.in-Ok.ensures.reads refl,
      λ bytes held shows low.
          let comes = t.held bytes held shows low in
          let F : Option ℕ → Type 0 = λ o. Shows bytes c.next_line.new.window × FindsLine bytes c.judging.at c.next_line.new.window (Ok o) in
          let found = subst F c.in-Some.is (c.in_ok-line.ensures.finds bytes (t.reads.kept ∙ held) comes.shows comes.within) in
          few_tries bytes c.args.from c.judging.at t.count c.in-Some.line c.judging.window comes (omega (arith, found.1.0.low)),
    )

pub returns-then-is_failure-clause-reads : goal.returns-then-is_failure-clause-reads
returns-then-is_failure-clause-reads g c =
    let i = c.judging.invariant in
    let t = i.tries in (
      t.count + 1,
      tries_both t.count c.in_ok-line.field-0 (Err c.in-Err.fault) (Err c.in-Err.fault) _ _ _ _ _ _ _ _ t.reads c.in_ok-line.ensures.reads c.in-Err.ensures.reads refl,
      λ bytes held shows low.
          let comes = t.held bytes held shows low in
          let F : Option ℕ → Type 0 = λ o. Shows bytes c.next_line.new.window × FindsLine bytes c.judging.at c.next_line.new.window (Ok o) in
          let found = subst F c.in-Some.is (c.in_ok-line.ensures.finds bytes (t.reads.kept ∙ held) comes.shows comes.within) in
          let kept = c.in_ok-line.ensures.reads.kept ∙ t.reads.kept ∙ held in
          let one = c.in-Err.ensures.judges bytes kept found.0 (omega (arith, found.1.0.high)) in
          let end = failed_from c.in-Err.fault.kind c.in-Some.line bytes c.in-Err.fault (c.is_failure.ensures.failed c.if-is_failure.true) one.1 in
          few_tries bytes c.args.from c.judging.at t.count c.in-Err.fault.offset c.judging.window comes (omega (arith, found.1.0.low, end)),
    )

pub judging-preserved : goal.judging-preserved
judging-preserved g c =
    let i = c.judging.invariant in
    let t = i.tries in
    let found = c.is_failure.ensures.found c.if-is_failure.false in
    let L : Option ℕ → Type 0 = λ o. IfSome o (λ at. (c.judging.at ≤ at) × (at < max_archive)) in
    let limit = subst L c.in-Some.is c.in_ok-line.ensures.limit in
    record {
      low = omega (arith, i.low, limit.0);
      limit = omega (arith, limit.1, c.skip.ensures.within, c.shown.ensures.limit (omega (arith, limit.1)));
      begin = omega (arith, c.in-Err.ensures.begin);
      tries = record {
        count = t.count + 1;
        reads = tries_both t.count c.in_ok-line.field-0 (Err c.in-Err.fault) (Ok tt) _ _ _ _ _ _ _ _ t.reads c.in_ok-line.ensures.reads c.in-Err.ensures.reads (no_fault_by c.in-Err.fault.kind _ found.0);
        held = λ bytes held shows low.
            let comes = t.held bytes held shows low in
            let F : Option ℕ → Type 0 = λ o. Shows bytes c.next_line.new.window × FindsLine bytes c.judging.at c.next_line.new.window (Ok o) in
            let line = subst F c.in-Some.is (c.in_ok-line.ensures.finds bytes (t.reads.kept ∙ held) comes.shows comes.within) in
            let kept = c.in_ok-line.ensures.reads.kept ∙ t.reads.kept ∙ held in
            let one = c.in-Err.ensures.judges bytes kept line.0 (omega (arith, line.1.0.high)) in
            let at = c.in-Some.line in
            let none = skipped bytes at c.skip.result c.shown.result.now c.is_last-is_last.result c.in-Err.fault.kind c.saturating_sub-place.result c.in-Err.fault c.record_len.new.window c.in-Err.ensures.begin (omega (arith, line.1.0.high)) one.0
            c.shown.ensures.shown c.is_last-is_last.ensures found.0 found.1 one.1 refl c.saturating_sub-place.ensures c.skip.ensures.none in
            let far = skipped_within bytes at c.skip.result c.shown.result.now c.record_len.new.window c.in-Err.ensures.begin line.1.0.high one.0 c.shown.ensures.shown c.skip.ensures.within in
            let same : at + c.skip.result - at ≡ c.skip.result = omega arith in
            let P : ℕ → Type 0 = λ n. NoneWithin (drop at (near bytes)) n in
            search_goes_on bytes c.args.from c.judging.at t.count at (at + c.skip.result) c.in-Err.fault c.judging.window c.record_len.new.window i.low comes line.1.0 line.1.1 found.0 found.1 one.1 one.0
            (omega (arith, c.skip.ensures.some)) far (subst P (sym same) none);
      };
    }

pub returns-in_err-line-clause-finds : goal.returns-in_err-line-clause-finds
returns-in_err-line-clause-finds g c =
    let p = err_from_is_err_and c.from_residual.result c.from_residual.ensures.1 in
    let i = c.judging.invariant in
    let t = i.tries in
    rw (p.1, p.2) (λ bytes held shows low.
    let comes = t.held bytes held shows low in
    let stop = c.in_err-line.ensures.finds bytes (t.reads.kept ∙ held) comes.shows comes.within in
    (stop.0, search_stops bytes c.args.from c.judging.at t.count c.in_err-line.field-0.0 c.judging.window i.low comes c.in_err-line.ensures.fault stop.1))

pub returns-then-is_failure-clause-finds : goal.returns-then-is_failure-clause-finds
returns-then-is_failure-clause-finds g c = λ bytes held shows low.
    let i = c.judging.invariant in
    let t = i.tries in
    let comes = t.held bytes held shows low in
    let F : Option ℕ → Type 0 = λ o. Shows bytes c.next_line.new.window × FindsLine bytes c.judging.at c.next_line.new.window (Ok o) in
    let found = subst F c.in-Some.is (c.in_ok-line.ensures.finds bytes (t.reads.kept ∙ held) comes.shows comes.within) in
    let kept = c.in_ok-line.ensures.reads.kept ∙ t.reads.kept ∙ held in
    let one = c.in-Err.ensures.judges bytes kept found.0 (omega (arith, found.1.0.high)) in
    (one.0, search_fails bytes c.args.from c.judging.at t.count c.in-Some.line c.in-Err.fault c.judging.window i.low comes found.1.0 (c.is_failure.ensures.failed c.if-is_failure.true) one.1)
