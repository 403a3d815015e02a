use Rattle.std.proofs.Common.{◌≡◌, ℕ, ◌+◌, ◌≤◌, ◌++◌, List, Some, None, ap, arith, drop, length, subst, sym}
use Rattle.std.proofs.lemmas.List.{length-drop}
use Rattle.memchr.specs.Find.{FindsNeedle}
use Rattle.warc_frame.proofs.TakeLemmas.{take-rest}
use Rattle.warc_frame.specs.Reading.{head_len}
use Rattle.warc_pieces.specs.Search.{line_start}
use Rattle.warc_pieces.specs.Skip.{NoneFrom}
use Rattle.warc_pieces.proofs.SkipLemmas.{head_rest, none_at_all, none_before_line_found, none_on, none_to_misfit}
use Rattle.warc_pieces.proofs.skip.next_fit.Goals as goal

pub returns-in_default-clause-none : goal.returns-in_default-clause-none
returns-in_default-clause-none g c = λ more.
    let head = c.args.head.now in
    let at = c.fitting.at in
    let F : List ℕ → Type 0 = λ t. FindsNeedle t line_start 0 None in
    let none = subst F (take-rest at head) c.in_default.ensures in
    let far = none_at_all head more at none in
    λ k low below. none_on (head ++ more) c.args.from at c.max.result (c.fitting.invariant.none more)
    (λ j from less. far j from (omega (arith, less, c.max.ensures, c.saturating_sub.ensures))) k low below

pub misfit-requires : goal.misfit-requires
misfit-requires g c =
    let head = c.args.head.now in
    let at = c.fitting.at in
    let F : List ℕ → Type 0 = λ t. FindsNeedle t line_start 0 (Some c.in-Some.place) in
    let found = subst F (take-rest at head) c.in-Some.ensures in
    let fits : c.in-Some.place + 7 ≤ length (drop at head) = found.1.fits in
    let line = c.fitting.at + c.in-Some.place in
    let E : List ℕ → Type 0 = λ t. head_len t ≡ Some (length t) in
    record { ends = subst E (sym (take-rest line head)) (head_rest head line c.requires.ends (omega (arith, fits, length-drop at head))) }

pub fitting-preserved : goal.fitting-preserved
fitting-preserved g c =
    let head = c.args.head.now in
    let at = c.fitting.at in
    let place = c.in-Some.place in
    let F : List ℕ → Type 0 = λ t. FindsNeedle t line_start 0 (Some place) in
    let found = subst F (take-rest at head) c.in-Some.ensures in
    let fits : place + 7 ≤ length (drop at head) = found.1.fits in
    let len = c.in-Some-misfit.len in
    let last = take-rest (at + place) head in
    let i = c.fitting.invariant in
    record {
      low = omega (arith, i.low);
      within = omega (arith, c.in-Some-misfit.ensures.some, ap length last, length-drop (at + place) head, fits, length-drop at head);
      none = λ more.
          let P : List ℕ → Type 0 = λ t. NoneFrom (t ++ more) 0 len in
          none_on (head ++ more) c.args.from at (at + place + len) (i.none more) (none_to_misfit head more at place len found (subst P last (c.in-Some-misfit.ensures.none more)));
    }

pub returns-in-None-clause-none : goal.returns-in-None-clause-none
returns-in-None-clause-none g c = λ more.
    let head = c.args.head.now in
    let at = c.fitting.at in
    let place = c.in-Some.place in
    let F : List ℕ → Type 0 = λ t. FindsNeedle t line_start 0 (Some place) in
    let found = subst F (take-rest at head) c.in-Some.ensures in
    none_on (head ++ more) c.args.from at (at + place) (c.fitting.invariant.none more) (none_before_line_found head more at place found)
