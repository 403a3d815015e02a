use Rattle.std.proofs.Common.{◌≡◌, inl, ◌∙◌, ◌++◌, length, take, drop, refl, sym, ap, subst, List, ℕ, arith}
use Rattle.std.proofs.lemmas.List.{length-take-le, take_at}
use Rattle.warc_frame.proofs.EffectLemmas.{fails_more, reads_none, reads_within}
use Rattle.warc_reading.proofs.HeadLemmas.{head_fits, head_reaches, len_by_row, len_is, len_is_there, reads_head}
use Rattle.warc_reading.proofs.ReadLemmas.{reads_one}
use Rattle.warc_reading.specs.Rereading.{IsHeadText}
use Rattle.warc_reading.specs.Row.{Row}
use Rattle.warc_reading.proofs.reread.reread_text.Goals as goal

pub returns-in_default-clause-reads : goal.returns-in_default-clause-reads
returns-in_default-clause-reads g c = reads_within (λ at is. is) (omega arith) reads_none

pub returns-in_default-clause-fails : goal.returns-in_default-clause-fails
returns-in_default-clause-fails g c = record {
  may = inl refl;
  failed = λ bytes held is.
      let short = head_fits c.args.row.now bytes is.placed c.args.buf.now is.has is.row_is c.requires in
      let there = c.head_len.ensures.only is.has.len (len_by_row bytes is.placed c.args.row.now is.has is.row_is) short in
      absurd (len_is_there c.head_len.result is.has.len there c.in_default.is);
}

pub returns-in-Ok-clause-text : goal.returns-in-Ok-clause-text
returns-in-Ok-clause-text g c = λ bytes held is.
    let n = c.in-Some.len in
    let short = head_fits c.args.row.now bytes is.placed c.args.buf.now is.has is.row_is c.requires in
    let len = len_is c.head_len.result n is.has.len (c.head_len.ensures.only is.has.len (len_by_row bytes is.placed c.args.row.now is.has is.row_is) short) c.in-Some.is in
    let part : length (take n c.args.buf.now) ≡ n = length-take-le n c.args.buf.now (c.in-Some.ensures.within.0) in
    let size : length c.read_range.new.buf ≡ n = c.read_range.auto.buf ∙ part in
    let text : c.read_range.new.buf ≡ take n (drop c.row.inside.offset bytes) = c.in-Ok.ensures.bytes bytes held ∙ ap (λ k. take k (drop c.row.inside.offset bytes)) part in
    let at = ap (λ (r : Row). r.offset) c.row.view_is in
    let front : take n (c.read_range.new.buf ++ drop n c.args.buf.now) ≡ c.read_range.new.buf = take_at c.read_range.new.buf (drop n c.args.buf.now) n size in
    let P : List ℕ → Type 0 = λ t. IsHeadText is.placed.content c.args.row.now t in
    subst P (sym front) (reads_head bytes c.read_range.new.buf is.placed c.args.row.now n is.has is.row_is len (text ∙ ap (λ q. take n (drop q bytes)) at) size)

pub returns-in-Ok-clause-reads : goal.returns-in-Ok-clause-reads
returns-in-Ok-clause-reads g c =
    let part : length (take c.in-Some.len c.args.buf.now) ≡ c.in-Some.len = length-take-le c.in-Some.len c.args.buf.now (c.in-Some.ensures.within.0) in
    reads_one c.args.row.now c.in-Some.len _ _ (c.in-Some.ensures.within.1) (rw (ap (λ (r : Row). r.offset) (sym c.row.view_is), sym part) c.read_range.ensures.reads)

pub returns-in-Err-clause-fails : goal.returns-in-Err-clause-fails
returns-in-Err-clause-fails g c =
    let part : length (take c.in-Some.len c.args.buf.now) ≡ c.in-Some.len = length-take-le c.in-Some.len c.args.buf.now (c.in-Some.ensures.within.0) in
    fails_more (λ bytes held is. head_reaches bytes _ c.args.row.now c.in-Some.len _ c.row.view_is part (c.in-Some.ensures.within.1) is) c.in-Err.ensures.fails

pub returns-in-Err-clause-reads : goal.returns-in-Err-clause-reads
returns-in-Err-clause-reads g c =
    let part : length (take c.in-Some.len c.args.buf.now) ≡ c.in-Some.len = length-take-le c.in-Some.len c.args.buf.now (c.in-Some.ensures.within.0) in
    reads_one c.args.row.now c.in-Some.len _ _ (c.in-Some.ensures.within.1) (rw (ap (λ (r : Row). r.offset) (sym c.row.view_is), sym part) c.read_range.ensures.reads)
