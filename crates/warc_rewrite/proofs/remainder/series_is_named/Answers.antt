use Rattle.std.proofs.Common.{◌≡◌, ap, map, Some, sym, subst, List, ℕ}
use Rattle.std.specs.Prelude.{Contains}
use Rattle.warc_record.specs.Seen.{said}
use Rattle.warc_record.specs.declared.readings.SegmentNumber.TheVariants.{Number}
use Rattle.warc_segment.specs.Joined.{piece_placed}
use Rattle.warc_rewrite.specs.Statuses.{HasNamed}
use Rattle.warc_rewrite.proofs.StatusLemmas.{judged_anew, judged_by_memo}
use Rattle.warc_rewrite.proofs.remainder.series_is_named.Goals as goal

pub returns-in-Some-recalled-clause-judges : goal.returns-in-Some-recalled-clause-judges
returns-in-Some-recalled-clause-judges g c all is memos =
    let one : c.args.typed.now.segment.number ≡ Number 1 = cc in
    judged_by_memo (map piece_placed all) (said c.args.typed.now) c.args.statuses.now c.in-Some.one c.in-Some-recalled.named
    memos one (c.in-Some.ensures all is) (λ e. c.in-Some-recalled.ensures.yes (ap Some e))
    (λ e. c.in-Some-recalled.ensures.no (ap Some e))

pub returns-clause-judges : goal.returns-clause-judges
returns-clause-judges g c all is memos =
    let one : c.args.typed.now.segment.number ≡ Number 1 = cc in
    let same = c.deref.ensures.value in
    judged_anew (map piece_placed all) (said c.args.typed.now) c.args.statuses.now c.remember.new.statuses c.in-Some.one
    c.in_ok-segments.segments.items c.has_named-named.result memos one (c.in-Some.ensures all is)
    (c.in_ok-segments.ensures all is)
    (λ e. subst (HasNamed c.args.statuses.now) same (c.has_named-named.ensures.yes e))
    (λ e q in_. c.has_named-named.ensures.no e q (subst (λ (l : List ℕ). Contains l q) (sym same) in_))
    c.remember.ensures
