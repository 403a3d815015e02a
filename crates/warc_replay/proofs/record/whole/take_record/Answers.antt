use Rattle.std.proofs.Common.{◌≡◌, inl, ◌∙◌, length, take, drop, refl, ap, sym, arith}
use Rattle.std.proofs.lemmas.Result.{IfOk-weaker}
use Rattle.warc_frame.proofs.EffectLemmas.{fails_more, reads_none, reads_within}
use Rattle.warc_reading.proofs.HeadLemmas.{len_is_there}
use Rattle.warc_replay.proofs.TakeLemmas.{end_below, end_by_row, reads_record, spells_there, taken_by}
use Rattle.warc_reading.specs.Row.{Row}
use Rattle.warc_replay.proofs.record.whole.take_record.Goals as goal

pub returns-in_default-clause-reads : goal.returns-in_default-clause-reads
returns-in_default-clause-reads g c = reads_within (λ at is. is) (omega arith) reads_none

pub returns-in_default-clause-fails : goal.returns-in_default-clause-fails
returns-in_default-clause-fails g c = record {
  may = inl refl;
  failed = λ bytes held is.
      let has = is.written in
      let same = is.row_is in
      absurd (len_is_there c.record_len.result has.len (c.record_len.ensures.only has.len (end_by_row bytes is.placed c.args.row.now has same) (end_below bytes is.placed c.args.row.now has same is.short)) c.in_default.is);
}

pub returns-in_default-vec-clause-reads : goal.returns-in_default-vec-clause-reads
returns-in_default-vec-clause-reads g c = reads_within (λ at is. is) (omega arith) reads_none

pub returns-clause-taken : goal.returns-clause-taken
returns-clause-taken g c = λ bytes held is.
    let size : length c.deref_mut.result.now ≡ c.in-Some.len = c.deref_mut.ensures.len ∙ c.in-Ok.ensures.len in
    let offset : c.row.inside.offset ≡ c.args.row.now.offset = ap (λ (r : Row). r.offset) c.row.view_is in
    let spells = spells_there bytes (take c.in-Some.len (drop c.args.row.now.offset bytes)) is.placed c.args.row.now c.in-Some.len is.written is.row_is c.in-Some.ensures.within.0 refl in
    taken_by c.read_record.result is.placed (c.read_record.ensures.taken bytes held is.placed.content (rw (size, offset) spells)) c.read_record.ensures.is

pub returns-clause-fails : goal.returns-clause-fails
returns-clause-fails g c =
    let size : length c.deref_mut.result.now ≡ c.in-Some.len = c.deref_mut.ensures.len ∙ c.in-Ok.ensures.len in
    let offset : c.row.inside.offset ≡ c.args.row.now.offset = ap (λ (r : Row). r.offset) c.row.view_is in
    fails_more (λ bytes held is.
    let has = is.written in
    let same = is.row_is in
    let spells = spells_there bytes (take c.in-Some.len (drop c.args.row.now.offset bytes)) is.placed c.args.row.now c.in-Some.len has same c.in-Some.ensures.within.0 refl in
    record {
      content = is.placed.content;
      spells = rw (size, offset) spells;
      within = omega (arith, size, offset, c.in-Some.ensures.within.0, ap (λ (r : Row). r.offset) same, ap (λ (r : Row). r.block_start) same, ap (λ (r : Row). r.block_len) same, has.end, has.within);
    }) c.read_record.ensures.fails

pub returns-clause-reads : goal.returns-clause-reads
returns-clause-reads g c =
    let size : length c.deref_mut.result.now ≡ c.in-Some.len = c.deref_mut.ensures.len ∙ c.in-Ok.ensures.len in
    reads_record c.args.row.now c.in-Some.len _ _ c.in-Some.ensures.within.0 (rw (ap (λ (r : Row). r.offset) (sym c.row.view_is), sym size) c.read_record.ensures.reads)

pub returns-clause-whole : goal.returns-clause-whole
returns-clause-whole g c =
    let size : length c.deref_mut.result.now ≡ c.in-Some.len = c.deref_mut.ensures.len ∙ c.in-Ok.ensures.len in
    IfOk-weaker c.read_record.result _ _ (λ r is. (is.0, is.1, omega (arith, is.2, size, c.in-Some.ensures.within.0))) c.read_record.ensures.whole
