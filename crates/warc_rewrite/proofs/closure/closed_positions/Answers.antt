use Rattle.std.proofs.Common.{◌≡◌, ◌<◌, ℕ, List, length, map, refl, sym, ap, subst, ◌∙◌, arith}
use Rattle.std.specs.Prelude.{All, replicate}
use Rattle.std.proofs.lemmas.List.{length-map, length-replicate}
use Rattle.std.proofs.lemmas.List.{take_at}
use Rattle.std.proofs.lemmas.Result.{err_from_is_err_and}
use Rattle.warc_frame.proofs.EffectLemmas.{fails_more, fails_never}
use Rattle.warc_reading.proofs.HeadLemmas.{fails_ended}
use Rattle.warc_index.specs.Referents.{next_of}
use Rattle.warc_lookup.specs.Indexed.{indexed_record}
use Rattle.warc_rewrite.specs.declared.needs.Mark.{Mark}
use Rattle.warc_rewrite.specs.declared.needs.Mark.TheVariants.{Free}
use Rattle.warc_rewrite.specs.Marks.{AreMarked, AreWhere, HasNoSegment, marks_needed, mark_in}
use Rattle.warc_rewrite.specs.Selecting.{ArePositions}
use Rattle.warc_rewrite.proofs.NeededLemmas.{closed_are, none_marked, none_segment}
use Rattle.warc_rewrite.proofs.TakenLemmas.{as_many, ended_early}
use Rattle.warc_rewrite.proofs.closure.closed_positions.Goals as goal

pub returns-in-Ok-marked_positions : goal.returns-in-Ok-marked_positions
returns-in-Ok-marked_positions g c =
    let rows = c.args.rows.now in
    let positions = c.args.positions.now in
    let closed = c.in-Ok-marked_positions.closed.items in
    let first : c.deref_mut.result.now ≡ replicate c.len.result Free = c.deref_mut.ensures.value ∙ c.in-Ok.ensures in
    let back : c.deref_mut-2.result.now ≡ c.mark_ways.new.marks = c.deref_mut-2.ensures.value
    ∙ take_at c.mark_ways.new.marks _ _ (omega (arith, c.mark_ways.ensures.same, c.deref_mut.ensures.len)) in
    let left : c.deref.result.now ≡ c.take_all.new.marks = c.deref.ensures.value
    ∙ take_at c.take_all.new.marks _ _ (omega (arith, c.in_ok-take_all.ensures.same, c.deref_mut-2.ensures.len)) in
    let begun : length c.deref_mut.result.now ≡ length rows =
    ap length first ∙ (length-replicate c.len.result Free ∙ c.len.ensures) in
    let long : length c.take_all.new.marks ≡ length rows =
    c.in_ok-take_all.ensures.same ∙ (ap length back ∙ (c.mark_ways.ensures.same ∙ begun)) in
    let listed : AreWhere (λ p. marks_needed (mark_in c.take_all.new.marks p)) (length c.take_all.new.marks) closed =
    subst (λ (marks : List Mark). AreWhere (λ p. marks_needed (mark_in marks p)) (length marks) closed) left
    c.in-Ok-marked_positions.ensures in
    record {
      reported = λ bytes held is are.
          let all = map indexed_record is.are.records in
          let many : length rows ≡ length all = as_many bytes rows is ∙ sym (length-map is.are.records indexed_record) in
          let ways : AreMarked (next_of all) positions c.mark_ways.new.marks =
          c.mark_ways.ensures.marked all are.index_is (begun ∙ many)
          (none_marked (next_of all) c.deref_mut.result.now c.len.result first)
          (subst (λ (n : ℕ). All (λ p. p < n) positions) many c.requires.below) in
          let plain : HasNoSegment c.mark_ways.new.marks =
          c.mark_ways.ensures.plain (none_segment c.deref_mut.result.now c.len.result first) in
          let taken = c.in_ok-take_all.ensures.takes.reported bytes held is are.parts_are (subst HasNoSegment (sym back) plain) in
          closed_are bytes rows positions closed c.deref_mut-2.result.now c.take_all.new.marks is long
          (subst (AreMarked (next_of all) positions) (sym back) ways) taken listed;
      are = subst (λ (n : ℕ). ArePositions n closed) long listed.are;
      reads = c.in_ok-take_all.ensures.takes.reads;
      early = tt;
      fails = fails_never c.in_ok-take_all.ensures.takes.fails.may;
    }

pub returns-in_err-take_all : goal.returns-in_err-take_all
returns-in_err-take_all g c =
    let p = err_from_is_err_and c.from_residual.result c.from_residual.ensures.1 in
    let found = c.in_err-take_all.ensures.takes in
    rw (p.1, p.2) (record {
      reported = λ bytes held is are. tt;
      are = tt;
      reads = found.reads;
      early = ended_early c.in_err-take_all.field-0.0;
      fails = fails_ended c.in_err-take_all.field-0.0 _ 0 refl (fails_more (λ bytes held (is, are). is) found.fails);
    })
