use Rattle.std.proofs.Common.{rules, false, ◌≡◌, ℕ, ◌+◌, ◌-◌, ◌^◌, ◌<◌, ◌≤◌, ◌++◌, [], List, length, take, drop, get_or, arith, ap, subst, ◌∙◌}
use Rattle.std.proofs.Math.Seq.{take-length}
use Rattle.std.proofs.lemmas.Result.{err_from_is_err_and}
use Rattle.warc_fixity.specs.Judged.{HasherHasTaken}
use Rattle.warc_value.specs.declared.hash.Wanted.TheVariants.{Sha1}
use Rattle.warc_frame.specs.Effects.{HasRange}
use Rattle.warc_frame.proofs.EffectLemmas.{reads_none}
use Rattle.warc_segment.specs.declared.place.Place.{Place}
use Rattle.warc_answer.specs.Places.{text_at, len_of}
use Rattle.warc_answer.proofs.PlaceLemmas.{text_len, lies, block_more, read_more, read_no_more, len_front}
use Rattle.warc_answer.proofs.hashed.hash_blocks.Goals as goal

abbrev none : Place
none = record { start = 0; len = 0; wanted = Sha1 []; truncated = false }

pub adding-init : goal.adding-init
adding-init g c = record {
  left = λ bytes lie. omega arith;
  taken = λ bytes held lie by before has. search rules;
  sound = search rules;
  read = reads_none;
}

pub returns-in_err-take_range-clause-fails : goal.returns-in_err-take_range-clause-fails
returns-in_err-take_range-clause-fails g c =
    let p = err_from_is_err_and c.from_residual.result c.from_residual.ensures.1 in
    rw p.1 (record {
      may = search rules;
      failed = λ bytes held lie.
          let i = c.adding.place-index in
          let places = c.args.places.now in
          let p : Place = get_or places i none in
          let lt : i < length places = omega (arith, c.adding-test.true) in
          let here : p.start + p.len ≤ length bytes = lies bytes places i none lie lt in
          let short : length bytes < 2 ^ 64 = lie.short in
          let at : c.saturating_add-at.result ≡ p.start + c.min-gone.result = omega (arith, c.saturating_add-at.ensures, c.min-gone.ensures) in
          let range : HasRange c.saturating_add-at.result (p.len - c.min-gone.result) bytes = (omega (arith, c.min-gone.ensures), short) in
          let after = c.in_err-take_range.ensures.fails.failed bytes (c.adding.invariant.read.kept ∙ held) range in
          search rules;
    })

pub returns-in_err-take_range-clause-reads : goal.returns-in_err-take_range-clause-reads
returns-in_err-take_range-clause-reads g c =
    let i = c.adding.place-index in
    let places = c.args.places.now in
    let p : Place = get_or places i none in
    let lt : i < length places = omega (arith, c.adding-test.true) in
    let read = read_more places i c.saturating_add-at.result (p.len - c.min-gone.result) none _ _ _ lt
    (omega (arith, c.saturating_add-at.ensures)) (omega (arith, c.saturating_add-at.ensures, c.min-gone.ensures))
    c.adding.invariant.read c.in_err-take_range.ensures.reads in
    read_no_more places (len_of (take (i + 1) places)) (len_of places) _ _ (len_front places (i + 1)) read

pub adding-preserved : goal.adding-preserved
adding-preserved g c =
    let i = c.adding.place-index in
    let places = c.args.places.now in
    let p : Place = get_or places i none in
    let s = c.args.skip in
    let lt : i < length places = omega (arith, c.adding-test.true) in
    record {
      left = λ bytes lie. omega (arith, text_len bytes places i none lie lt, c.adding.invariant.left bytes lie, c.min-gone.ensures);
      taken = λ bytes held lie by before has.
          let here : p.start + p.len ≤ length bytes = lies bytes places i none lie lt in
          let short : length bytes < 2 ^ 64 = lie.short in
          let at : c.saturating_add-at.result ≡ p.start + c.min-gone.result = omega (arith, c.saturating_add-at.ensures, c.min-gone.ensures) in
          let put = c.in_ok-take_range.ensures.taken bytes (c.adding.invariant.read.kept ∙ held) by (before ++ drop s (text_at (take i places) bytes)) (c.adding.invariant.taken bytes held lie by before has) in
          let P : List ℕ → Type 0 = λ l. HasherHasTaken c.take_range.new.hashing by l in
          subst P (block_more bytes before places s c.adding.left c.min-gone.result c.saturating_add-at.result i none lie lt (c.adding.invariant.left bytes lie) c.min-gone.ensures at) put;
      sound = c.in_ok-take_range.ensures.fails.may ∙ c.adding.invariant.sound;
      read = read_more places i c.saturating_add-at.result (p.len - c.min-gone.result) none _ _ _ lt
          (omega (arith, c.saturating_add-at.ensures)) (omega (arith, c.saturating_add-at.ensures, c.min-gone.ensures))
          c.adding.invariant.read c.in_ok-take_range.ensures.reads;
    }

pub returns-clause-taken : goal.returns-clause-taken
returns-clause-taken g c = λ bytes held lie by before has.
    let i = c.adding.place-index in
    let places = c.args.places.now in
    let end : i ≡ length places = omega (arith, c.adding-test.false, c.adding.auto.place-index-end) in
    let all : take i places ≡ places = ap (λ k. take k places) end ∙ take-length places in
    let P : List Place → Type 0 = λ ps. HasherHasTaken c.adding.hasher by (before ++ drop c.args.skip (text_at ps bytes)) in
    subst P all (c.adding.invariant.taken bytes held lie by before has)
