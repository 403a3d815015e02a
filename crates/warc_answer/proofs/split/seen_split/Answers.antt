use Rattle.std.proofs.Common.{List, ◌++◌, ◌∙◌, Err, Ok, ap, drop, subst, sym, arith}
use Rattle.warc_frame.proofs.EffectLemmas.{fails_after, fails_more, reads_both, reads_within}
use Rattle.warc_segment.specs.declared.place.Place.{Place}
use Rattle.warc_answer.specs.Giving.{any_bad_at}
use Rattle.warc_answer.specs.Judging.{IsSeenIn}
use Rattle.warc_answer.specs.Known.{Agrees}
use Rattle.warc_answer.specs.Places.{LieIn}
use Rattle.warc_answer.proofs.GiveLemmas.{fails_of_fault}
use Rattle.warc_answer.proofs.SplitLemmas.{fault_longer, headless_fails, headless_good, lie_own, none_of, parts_of, reads_own_of}
use Rattle.warc_answer.proofs.split.seen_split.Goals as goal

pub returns-in-Ok-clause-seen : goal.returns-in-Ok-clause-seen
returns-in-Ok-clause-seen g c = λ bytes held fields lie own extent none agrees.
    let places = c.args.places.now in
    let is = c.own_place-first.ensures in
    let first = c.in-Ok.ensures.seen bytes held fields (subst (λ (l : List Place). LieIn l bytes) (sym is) (lie_own bytes places lie)) own
    (subst (λ (l : List Place). Agrees c.args.known (any_bad_at bytes l)) (sym is) agrees) in
    subst (λ (l : List Place). IsSeenIn c.args.http fields bytes l (Ok c.extended.result)) (ap (λ l. l ++ drop 1 places) is ∙ parts_of places)
    (c.extended.ensures c.args.http fields bytes (drop 1 places) extent none first)

pub returns-in-Ok-clause-reads : goal.returns-in-Ok-clause-reads
returns-in-Ok-clause-reads g c = reads_own_of c.args.places.now c.own_place-first.result.now 4 (omega arith) c.own_place-first.ensures c.in-Ok.ensures.reads

pub returns-then-is_headless-clause-seen : goal.returns-then-is_headless-clause-seen
returns-then-is_headless-clause-seen g c = λ bytes held fields lie own extent none agrees.
    let places = c.args.places.now in
    let is = c.own_place-first.ensures in
    let first = c.in-Err.ensures.seen bytes held fields (subst (λ (l : List Place). LieIn l bytes) (sym is) (lie_own bytes places lie)) own
    (subst (λ (l : List Place). Agrees c.args.known (any_bad_at bytes l)) (sym is) agrees) in
    let fine = headless_good (Unit {0}) c.args.http fields bytes c.own_place-first.result.now c.in-Err.fault (c.is_headless.ensures.yes c.if-is_headless.true) first in
    c.seen_good.ensures.seen bytes (c.in-Err.ensures.reads.kept ∙ held) fields lie own
    (none_of bytes places (ap (any_bad_at bytes) (sym is) ∙ fine) none)

pub returns-then-is_headless-clause-reads : goal.returns-then-is_headless-clause-reads
returns-then-is_headless-clause-reads g c =
    reads_within (λ at in_. in_) (omega arith)
    (reads_both (reads_own_of c.args.places.now c.own_place-first.result.now 2 (omega arith) c.own_place-first.ensures c.in-Err.ensures.reads) c.seen_good.ensures.reads)

pub returns-then-is_headless-clause-fails : goal.returns-then-is_headless-clause-fails
returns-then-is_headless-clause-fails g c =
    fails_after c.in-Err.ensures.reads.kept (headless_fails c.in-Err.fault (c.is_headless.ensures.yes c.if-is_headless.true) c.in-Err.ensures.fails) c.seen_good.ensures.fails

pub returns-else-is_headless-clause-seen : goal.returns-else-is_headless-clause-seen
returns-else-is_headless-clause-seen g c = λ bytes held fields lie own extent none agrees.
    let places = c.args.places.now in
    let is = c.own_place-first.ensures in
    let first = c.in-Err.ensures.seen bytes held fields (subst (λ (l : List Place). LieIn l bytes) (sym is) (lie_own bytes places lie)) own
    (subst (λ (l : List Place). Agrees c.args.known (any_bad_at bytes l)) (sym is) agrees) in
    fault_longer (Unit {0}) (Unit {0}) c.args.http fields bytes places c.in-Err.fault (c.is_headless.ensures.no c.if-is_headless.false)
    (subst (λ (l : List Place). IsSeenIn {A = Unit {0}} c.args.http fields bytes l (Err c.in-Err.fault)) is first)

pub returns-else-is_headless-clause-reads : goal.returns-else-is_headless-clause-reads
returns-else-is_headless-clause-reads g c = reads_own_of c.args.places.now c.own_place-first.result.now 4 (omega arith) c.own_place-first.ensures c.in-Err.ensures.reads

pub returns-else-is_headless-clause-fails : goal.returns-else-is_headless-clause-fails
returns-else-is_headless-clause-fails g c =
    fails_of_fault (Unit {0}) (Unit {0}) c.in-Err.fault
    (fails_more (λ bytes held lie. subst (λ (l : List Place). LieIn l bytes) (sym c.own_place-first.ensures) (lie_own bytes c.args.places.now lie)) c.in-Err.ensures.fails)
