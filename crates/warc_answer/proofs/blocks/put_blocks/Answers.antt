use Rattle.std.proofs.Common.{rules, ◌≡◌, ◌+◌, ◌-◌, ◌^◌, ◌<◌, ◌≤◌, ◌++◌, [], List, false, length, take, drop, get_or, arith, refl, ap, sym, ◌∙◌}
use Rattle.std.proofs.Math.Seq.{take-length}
use Rattle.std.proofs.lemmas.Result.{err_from_is_err_and}
use Rattle.warc_value.specs.declared.hash.Wanted.TheVariants.{Sha1}
use Rattle.warc_frame.specs.Effects.{HasRange}
use Rattle.warc_frame.proofs.EffectLemmas.{reads_none}
use Rattle.warc_segment.specs.declared.place.Place.{Place}
use Rattle.warc_answer.specs.Places.{text_at, len_of}
use Rattle.warc_answer.proofs.PlaceLemmas.{same_out, same_staged, text_len, lies, block_more, blocks_out, read_more, read_no_more, len_front}
use Rattle.warc_answer.proofs.blocks.put_blocks.Goals as goal

abbrev none : Place
none = record { start = 0; len = 0; wanted = Sha1 []; truncated = false }

pub putting-init : goal.putting-init
putting-init g c = record {
  left = λ bytes lie. omega arith;
  staged = search rules;
  sound = refl;
  silent = refl;
  read = reads_none;
}

pub returns-in_err-put_range-clause-emits : goal.returns-in_err-put_range-clause-emits
returns-in_err-put_range-clause-emits g c =
    let p = err_from_is_err_and c.from_residual.result c.from_residual.ensures.1 in
    rw (p.1, p.2) (record {
      out = λ bytes text held says start output is. search rules;
      cut = λ bytes text held says start output is.
          let lie = says.0 in
          let i = c.putting.place-index in
          let places = c.args.places.now in
          let p : Place = get_or places i none in
          let s = c.args.skip in
          let lt : i < length places = omega (arith, c.putting-test.true) in
          let here : p.start + p.len ≤ length bytes = lies bytes places i none lie lt in
          let short : length bytes < 2 ^ 64 = lie.short in
          let at : c.saturating_add-at.result ≡ p.start + c.min-gone.result = omega (arith, c.saturating_add-at.ensures, c.min-gone.ensures) in
          let range : HasRange c.saturating_add-at.result (p.len - c.min-gone.result) bytes = (omega (arith, c.min-gone.ensures), short) in
          let cut = c.in_err-put_range.ensures.emits.cut bytes _ (c.putting.invariant.read.kept ∙ held) (range, refl) start (output ++ drop s (text_at (take i places) bytes)) (c.putting.invariant.staged bytes start output held lie is) in
          let more = block_more bytes output places s c.putting.left c.min-gone.result c.saturating_add-at.result i none lie lt (c.putting.invariant.left bytes lie) c.min-gone.ensures at in
          same_out (ap (λ l. output ++ l) (sym says.1)) (blocks_out bytes output places s (i + 1) (same_out more cut));
      kept = search rules;
      cause = search rules;
      fails = record {
        may = search rules;
        failed = λ bytes held has.
            let i = c.putting.place-index in
            let places = c.args.places.now in
            let p : Place = get_or places i none in
            let lt : i < length places = omega (arith, c.putting-test.true) in
            let lie = has.1.0 in
            let here : p.start + p.len ≤ length bytes = lies bytes places i none lie lt in
            let short : length bytes < 2 ^ 64 = lie.short in
            let at : c.saturating_add-at.result ≡ p.start + c.min-gone.result = omega (arith, c.saturating_add-at.ensures, c.min-gone.ensures) in
            let range : HasRange c.saturating_add-at.result (p.len - c.min-gone.result) bytes = (omega (arith, c.min-gone.ensures), short) in
            let after = c.in_err-put_range.ensures.emits.fails.failed bytes (c.putting.invariant.read.kept ∙ held) (_, (range, refl)) in
            search rules;
      };
    })

pub returns-in_err-put_range-clause-reads : goal.returns-in_err-put_range-clause-reads
returns-in_err-put_range-clause-reads g c =
    let i = c.putting.place-index in
    let places = c.args.places.now in
    let p : Place = get_or places i none in
    let lt : i < length places = omega (arith, c.putting-test.true) in
    let read = read_more places i c.saturating_add-at.result (p.len - c.min-gone.result) none _ _ _ lt
    (omega (arith, c.saturating_add-at.ensures)) (omega (arith, c.saturating_add-at.ensures, c.min-gone.ensures))
    c.putting.invariant.read c.in_err-put_range.ensures.reads in
    read_no_more places (len_of (take (i + 1) places)) (len_of places) _ _ (len_front places (i + 1)) read

pub putting-preserved : goal.putting-preserved
putting-preserved g c =
    let i = c.putting.place-index in
    let places = c.args.places.now in
    let p : Place = get_or places i none in
    let s = c.args.skip in
    let lt : i < length places = omega (arith, c.putting-test.true) in
    record {
      left = λ bytes lie. omega (arith, text_len bytes places i none lie lt, c.putting.invariant.left bytes lie, c.min-gone.ensures);
      staged = λ bytes start output held lie is.
          let here : p.start + p.len ≤ length bytes = lies bytes places i none lie lt in
          let short : length bytes < 2 ^ 64 = lie.short in
          let at : c.saturating_add-at.result ≡ p.start + c.min-gone.result = omega (arith, c.saturating_add-at.ensures, c.min-gone.ensures) in
          let range : HasRange c.saturating_add-at.result (p.len - c.min-gone.result) bytes = (omega (arith, c.min-gone.ensures), short) in
          let put = c.in_ok-put_range.ensures.emits.out bytes _ (c.putting.invariant.read.kept ∙ held) (range, refl) start (output ++ drop s (text_at (take i places) bytes)) (c.putting.invariant.staged bytes start output held lie is) in
          same_staged (block_more bytes output places s c.putting.left c.min-gone.result c.saturating_add-at.result i none lie lt (c.putting.invariant.left bytes lie) c.min-gone.ensures at) put;
      sound = search rules;
      silent = search rules;
      read = read_more places i c.saturating_add-at.result (p.len - c.min-gone.result) none _ _ _ lt
          (omega (arith, c.saturating_add-at.ensures)) (omega (arith, c.saturating_add-at.ensures, c.min-gone.ensures))
          c.putting.invariant.read c.in_ok-put_range.ensures.reads;
    }

pub returns-clause-emits : goal.returns-clause-emits
returns-clause-emits g c = record {
  out = λ bytes text held says start output is.
      let i = c.putting.place-index in
      let places = c.args.places.now in
      let s = c.args.skip in
      let end : i ≡ length places = omega (arith, c.putting-test.false, c.putting.auto.place-index-end) in
      let all : take i places ≡ places = ap (λ k. take k places) end ∙ take-length places in
      same_staged (ap (λ (ps : List Place). output ++ drop s (text_at ps bytes)) all ∙ ap (λ l. output ++ l) (sym says.1))
      (c.putting.invariant.staged bytes start output held says.0 is);
  cut = search rules;
  kept = search rules;
  cause = search rules;
  fails = record { may = search rules; failed = λ bytes held has. search rules };
}
