use Rattle.std.proofs.Common.{rules, ◌≡◌, ◌+◌, ◌-◌, ◌<◌, ◌≤◌, ◌++◌, [], false, true, length, min, take, drop, get_or, arith, refl, sym, ap, ◌∙◌}
use Rattle.std.proofs.lemmas.Result.{err_from_is_err_and}
use borrow.Rule.Slice.PartMut.{mid_of, put_mid, same_len_mid}
use Rattle.warc_value.specs.Digests.{is_bad}
use Rattle.warc_value.specs.declared.hash.Wanted.TheVariants.{Sha1}
use Rattle.warc_frame.specs.Effects.{HasRange}
use Rattle.warc_frame.proofs.EffectLemmas.{reads_none, reads_within, fails_after, fails_more}
use Rattle.warc_segment.specs.declared.place.Place.{Place}
use Rattle.warc_answer.specs.Giving.{is_bad_at}
use Rattle.warc_answer.specs.Places.{text_at, len_of}
use Rattle.warc_answer.proofs.PlaceLemmas.{take_past, text_len, mid_length, filled_front, front_more, read_more, read_no_more, len_front, lies}
use Rattle.warc_answer.proofs.JudgeLemmas.{checked_front, checked_more, front_none, judged_short, none_bad, one_bad}
use Rattle.warc_answer.proofs.blocks.judge_each.Goals as goal

abbrev none : Place
none = record { start = 0; len = 0; wanted = Sha1 []; truncated = false }

pub judging-init : goal.judging-init
judging-init g c = record {
  within = omega arith;
  count = λ bytes lie. omega arith;
  bytes = λ bytes held lie. sym (take_past (length c.args.front.now) [] (omega arith));
  good = λ bytes held lie. refl;
  sound = refl;
  read = reads_none;
  checked = λ empty. reads_none;
}

pub judging-preserved : goal.judging-preserved
judging-preserved g c =
    let i = c.judging.place-index in
    let places = c.args.places.now in
    let buf = c.judging.front in
    let filled = c.judging.filled in
    let want = c.min-want.result in
    let part = c.judge_block.new.front in
    let p : Place = get_or places i none in
    let lt : i < length places = omega (arith, c.judging-test.true) in
    let room : want ≤ length buf - filled = omega (arith, c.min-want.ensures) in
    let inside : filled + want ≤ length buf = omega (arith, c.judging.invariant.within) in
    let k : filled + want - filled ≡ want = omega arith in
    let size : length part ≡ filled + want - filled = c.judge_block.auto.front ∙ mid_length buf filled (filled + want - filled) (omega arith) in
    let whole : length (put_mid filled (filled + want - filled) buf part) ≡ length buf = same_len_mid filled (filled + want - filled) buf part c.judge_block.auto.front in
    let mid = mid_length buf filled (filled + want - filled) (omega arith) in
    let want_is : want ≡ min p.len (length buf - filled) = omega (arith, c.min-want.ensures) in
    record {
      within = omega (arith, whole);
      count = λ bytes lie. omega (arith, whole, c.judging.invariant.count bytes lie, text_len bytes places i none lie lt, c.min-want.ensures);
      bytes = λ bytes held lie.
          let front : take (filled + (filled + want - filled)) (put_mid filled (filled + want - filled) buf part) ≡ take filled buf ++ part =
          filled_front buf part filled (filled + want - filled) c.judging.invariant.within size in
          let all : filled + want ≡ filled + (filled + want - filled) = omega arith in
          let read = c.in_ok-verdict.ensures.bytes bytes (c.judging.invariant.read.kept ∙ held) in
          let read_is : part ≡ take (min p.len (length buf - filled)) (drop p.start bytes) = read ∙ ap (λ n. take n (drop p.start bytes)) (mid ∙ (k ∙ want_is)) in
          let more : take filled buf ++ take (min p.len (length buf - filled)) (drop p.start bytes) ≡ take (length buf) (text_at (take (i + 1) places) bytes) =
          front_more bytes places i (length buf) filled none (take filled buf) lt (c.judging.invariant.bytes bytes held lie) (c.judging.invariant.count bytes lie) in
          ap (λ n. take n (put_mid filled (filled + want - filled) buf part)) all
          ∙ (front ∙ (ap (λ l. take filled buf ++ l) read_is ∙ (more ∙ ap (λ n. take n (text_at (take (i + 1) places) bytes)) (sym whole))));
      good = λ bytes held lie.
          let range : HasRange p.start p.len bytes = (lies bytes places i none lie lt, lie.short) in
          let here : is_bad_at bytes p ≡ false =
          sym (ap is_bad (c.in_ok-verdict.ensures.verdict bytes (c.judging.invariant.read.kept ∙ held) range)) ∙ (sym c.is_bad.ensures ∙ c.if-is_bad.false) in
          none_bad bytes places i none lt (c.judging.invariant.good bytes held lie) here;
      sound = search rules;
      read = read_more places i p.start _ none _ _ _ lt (omega arith) (omega (arith, mid, c.min-want.ensures, judged_short p.wanted (p.len - length (mid_of filled (filled + want - filled) buf))))
          c.judging.invariant.read c.judge_block.ensures.reads;
      checked = λ empty. checked_more places i _ none _ _ _ lt (front_none p.wanted p.len _ (omega (arith, mid, whole, empty)))
          (c.judging.invariant.checked (omega (arith, whole, empty))) c.judge_block.ensures.reads;
    }

pub returns-in_err-verdict-clause-reads : goal.returns-in_err-verdict-clause-reads
returns-in_err-verdict-clause-reads g c =
    let i = c.judging.place-index in
    let places = c.args.places.now in
    let buf = c.judging.front in
    let filled = c.judging.filled in
    let want = c.min-want.result in
    let p : Place = get_or places i none in
    let lt : i < length places = omega (arith, c.judging-test.true) in
    let room : want ≤ length buf - filled = omega (arith, c.min-want.ensures) in
    let inside : filled + want ≤ length buf = omega (arith, c.judging.invariant.within) in
    let mid = mid_length buf filled (filled + want - filled) (omega arith) in
    let read = read_more places i p.start _ none _ _ _ lt (omega arith) (omega (arith, mid, c.min-want.ensures, judged_short p.wanted (p.len - length (mid_of filled (filled + want - filled) buf))))
    c.judging.invariant.read c.judge_block.ensures.reads in
    read_no_more places (len_of (take (i + 1) places)) (len_of places) _ _ (len_front places (i + 1)) read

pub returns-in_err-verdict-clause-checked : goal.returns-in_err-verdict-clause-checked
returns-in_err-verdict-clause-checked g c = λ empty.
    let i = c.judging.place-index in
    let places = c.args.places.now in
    let buf = c.judging.front in
    let filled = c.judging.filled in
    let want = c.min-want.result in
    let p : Place = get_or places i none in
    let lt : i < length places = omega (arith, c.judging-test.true) in
    let room : want ≤ length buf - filled = omega (arith, c.min-want.ensures) in
    let inside : filled + want ≤ length buf = omega (arith, c.judging.invariant.within) in
    let mid = mid_length buf filled (filled + want - filled) (omega arith) in
    reads_within (λ q in_. in_) (checked_front places (i + 1))
    (checked_more places i _ none _ _ _ lt (front_none p.wanted p.len _ (omega (arith, mid, empty)))
    (c.judging.invariant.checked (omega (arith, empty))) c.judge_block.ensures.reads)

pub returns-in_err-verdict-clause-fails : goal.returns-in_err-verdict-clause-fails
returns-in_err-verdict-clause-fails g c =
    let i = c.judging.place-index in
    let places = c.args.places.now in
    let lt : i < length places = omega (arith, c.judging-test.true) in
    let p = err_from_is_err_and c.from_residual.result c.from_residual.ensures.1 in
    rw p.1
    (fails_after c.judging.invariant.read.kept c.judging.invariant.sound
    (fails_more (λ bytes held lie. (lies bytes places i none lie lt, lie.short)) c.in_err-verdict.ensures.fails))

pub returns-then-is_bad-clause-judged : goal.returns-then-is_bad-clause-judged
returns-then-is_bad-clause-judged g c = λ bytes held lie.
    let i = c.judging.place-index in
    let places = c.args.places.now in
    let p : Place = get_or places i none in
    let lt : i < length places = omega (arith, c.judging-test.true) in
    let range : HasRange p.start p.len bytes = (lies bytes places i none lie lt, lie.short) in
    let here : is_bad_at bytes p ≡ true =
    sym (ap is_bad (c.in_ok-verdict.ensures.verdict bytes (c.judging.invariant.read.kept ∙ held) range)) ∙ (sym c.is_bad.ensures ∙ c.if-is_bad.true) in
    one_bad bytes places i none lt here

pub returns-then-is_bad-clause-reads : goal.returns-then-is_bad-clause-reads
returns-then-is_bad-clause-reads g c =
    let i = c.judging.place-index in
    let places = c.args.places.now in
    let buf = c.judging.front in
    let filled = c.judging.filled in
    let want = c.min-want.result in
    let p : Place = get_or places i none in
    let lt : i < length places = omega (arith, c.judging-test.true) in
    let room : want ≤ length buf - filled = omega (arith, c.min-want.ensures) in
    let inside : filled + want ≤ length buf = omega (arith, c.judging.invariant.within) in
    let mid = mid_length buf filled (filled + want - filled) (omega arith) in
    let read = read_more places i p.start _ none _ _ _ lt (omega arith) (omega (arith, mid, c.min-want.ensures, judged_short p.wanted (p.len - length (mid_of filled (filled + want - filled) buf))))
    c.judging.invariant.read c.judge_block.ensures.reads in
    read_no_more places (len_of (take (i + 1) places)) (len_of places) _ _ (len_front places (i + 1)) read

pub returns-then-is_bad-clause-checked : goal.returns-then-is_bad-clause-checked
returns-then-is_bad-clause-checked g c = λ empty.
    let i = c.judging.place-index in
    let places = c.args.places.now in
    let buf = c.judging.front in
    let filled = c.judging.filled in
    let want = c.min-want.result in
    let p : Place = get_or places i none in
    let lt : i < length places = omega (arith, c.judging-test.true) in
    let room : want ≤ length buf - filled = omega (arith, c.min-want.ensures) in
    let inside : filled + want ≤ length buf = omega (arith, c.judging.invariant.within) in
    let mid = mid_length buf filled (filled + want - filled) (omega arith) in
    reads_within (λ q in_. in_) (checked_front places (i + 1))
    (checked_more places i _ none _ _ _ lt (front_none p.wanted p.len _ (omega (arith, mid, empty)))
    (c.judging.invariant.checked (omega (arith, empty))) c.judge_block.ensures.reads)
