use Rattle.std.proofs.Common.{◌≡◌, ◌+◌, ◌-◌, ◌<◌, ◌≤◌, ◌++◌, [], false, length, min, take, drop, get_or, arith, refl, sym, ap, ◌∙◌}
use Rattle.std.proofs.lemmas.Result.{err_from_is_err_and}
use borrow.Rule.Slice.PartMut.{put_mid, same_len_mid}
use Rattle.warc_value.specs.declared.hash.Wanted.TheVariants.{Sha1}
use Rattle.warc_frame.proofs.EffectLemmas.{reads_none, fails_after, fails_more}
use Rattle.warc_segment.specs.declared.place.Place.{Place}
use Rattle.warc_answer.specs.Places.{text_at, len_of}
use Rattle.warc_answer.proofs.PlaceLemmas.{take_past, text_len, mid_length, filled_front, front_more, range_of, read_more, read_no_more, len_front}
use Rattle.warc_answer.proofs.blocks.read_front.Goals as goal

abbrev none : Place
none = record { start = 0; len = 0; wanted = Sha1 []; truncated = false }

pub reading-init : goal.reading-init
reading-init g c = record {
  within = omega arith;
  count = λ bytes lie. omega arith;
  bytes = λ bytes held lie. sym (take_past (length c.args.front.now) [] (omega arith));
  sound = refl;
  read = reads_none;
}

pub reading-preserved : goal.reading-preserved
reading-preserved g c =
    let i = c.reading.place-index in
    let places = c.args.places.now in
    let buf = c.reading.front in
    let filled = c.reading.filled in
    let want = c.min-want.result in
    let part = c.read_bytes.new.buf in
    let p : Place = get_or places i none in
    let lt : i < length places = omega (arith, c.reading-test.true) in
    let room : want ≤ length buf - filled = omega (arith, c.min-want.ensures) in
    let inside : filled + want ≤ length buf = omega (arith, c.reading.invariant.within) in
    let k : filled + want - filled ≡ want = omega arith in
    let size : length part ≡ filled + want - filled = c.read_bytes.auto.buf ∙ mid_length buf filled (filled + want - filled) (omega arith) in
    let whole : length (put_mid filled (filled + want - filled) buf part) ≡ length buf = same_len_mid filled (filled + want - filled) buf part c.read_bytes.auto.buf in
    let mid = mid_length buf filled (filled + want - filled) (omega arith) in
    let want_is : want ≡ min p.len (length buf - filled) = omega (arith, c.min-want.ensures) in
    record {
      within = omega (arith, whole);
      count = λ bytes lie. omega (arith, whole, c.reading.invariant.count bytes lie, text_len bytes places i none lie lt, c.min-want.ensures);
      bytes = λ bytes held lie.
          let front : take (filled + (filled + want - filled)) (put_mid filled (filled + want - filled) buf part) ≡ take filled buf ++ part =
          filled_front buf part filled (filled + want - filled) c.reading.invariant.within size in
          let all : filled + want ≡ filled + (filled + want - filled) = omega arith in
          let read = c.in_ok-read_bytes.ensures.bytes bytes (c.reading.invariant.read.kept ∙ held) in
          let read_is : part ≡ take (min p.len (length buf - filled)) (drop p.start bytes) = read ∙ ap (λ n. take n (drop p.start bytes)) (mid ∙ (k ∙ want_is)) in
          let more : take filled buf ++ take (min p.len (length buf - filled)) (drop p.start bytes) ≡ take (length buf) (text_at (take (i + 1) places) bytes) =
          front_more bytes places i (length buf) filled none (take filled buf) lt (c.reading.invariant.bytes bytes held lie) (c.reading.invariant.count bytes lie) in
          ap (λ n. take n (put_mid filled (filled + want - filled) buf part)) all
          ∙ (front ∙ (ap (λ l. take filled buf ++ l) read_is ∙ (more ∙ ap (λ n. take n (text_at (take (i + 1) places) bytes)) (sym whole))));
      sound = c.in_ok-read_bytes.ensures.fails.may ∙ c.reading.invariant.sound;
      read = read_more places i p.start _ none _ _ _ lt (omega arith) (omega (arith, mid, c.min-want.ensures)) c.reading.invariant.read c.read_bytes.ensures.reads;
    }

pub returns-in_err-read_bytes-clause-reads : goal.returns-in_err-read_bytes-clause-reads
returns-in_err-read_bytes-clause-reads g c =
    let i = c.reading.place-index in
    let places = c.args.places.now in
    let buf = c.reading.front in
    let filled = c.reading.filled in
    let want = c.min-want.result in
    let p : Place = get_or places i none in
    let lt : i < length places = omega (arith, c.reading-test.true) in
    let room : want ≤ length buf - filled = omega (arith, c.min-want.ensures) in
    let inside : filled + want ≤ length buf = omega (arith, c.reading.invariant.within) in
    let mid = mid_length buf filled (filled + want - filled) (omega arith) in
    let read = read_more places i p.start _ none _ _ _ lt (omega arith) (omega (arith, mid, c.min-want.ensures)) c.reading.invariant.read c.read_bytes.ensures.reads in
    read_no_more places (len_of (take (i + 1) places)) (len_of places) _ _ (len_front places (i + 1)) read

pub returns-in_err-read_bytes-clause-fails : goal.returns-in_err-read_bytes-clause-fails
returns-in_err-read_bytes-clause-fails g c =
    let i = c.reading.place-index in
    let places = c.args.places.now in
    let buf = c.reading.front in
    let filled = c.reading.filled in
    let want = c.min-want.result in
    let lt : i < length places = omega (arith, c.reading-test.true) in
    let room : want ≤ length buf - filled = omega (arith, c.min-want.ensures) in
    let inside : filled + want ≤ length buf = omega (arith, c.reading.invariant.within) in
    let mid = mid_length buf filled (filled + want - filled) (omega arith) in
    let p = err_from_is_err_and c.from_residual.result c.from_residual.ensures.1 in
    rw p.1
    (fails_after c.reading.invariant.read.kept c.reading.invariant.sound
    (fails_more (λ bytes held lie. range_of bytes places i none _ lie lt (omega (arith, mid, c.min-want.ensures))) c.in_err-read_bytes.ensures.fails))
