use Rattle.std.proofs.Common.{◌≡◌, ◌<◌, ℕ, length, map, sym, subst, arith}
use Rattle.std.specs.Prelude.{All}
use Rattle.std.proofs.lemmas.List.{length-map}
use Rattle.warc_frame.proofs.EffectLemmas.{fails_never}
use Rattle.warc_index.specs.Referents.{next_of}
use Rattle.warc_lookup.specs.Indexed.{indexed_record}
use Rattle.warc_rewrite.proofs.LeftLemmas.{begun_settled, names_are, names_fresh, is_present_by}
use Rattle.warc_rewrite.proofs.TakenLemmas.{as_many}
use Rattle.warc_rewrite.proofs.closure.remain.Goals as goal

pub returns-clause-is_present : goal.returns-clause-is_present
returns-clause-is_present g c =
    let rows = c.args.rows.now in
    let positions = c.args.positions.now in
    record {
      reported = λ bytes held is are opened.
          let records = is.are.records in
          let all = map indexed_record records in
          let many : length rows ≡ length records = as_many bytes rows is in
          let same : length all ≡ length records = length-map records indexed_record in
          let judged = c.in_ok-judge_all.ensures.judges.reported bytes held is are.parts_are
          (names_fresh positions c.args.statuses.now c.name_all.new.statuses opened c.name_all.ensures) in
          let settled = c.settle_all.ensures.settles all c.judge_all.new.statuses are.index_is
          (omega (arith, c.in_ok-judge_all.ensures.same, c.name_all.ensures.same, c.requires.table, many, same))
          (begun_settled (next_of all) records (length rows) c.name_all.new.statuses c.judge_all.new.statuses judged) in
          let names = names_are positions c.args.statuses.now c.name_all.new.statuses opened
          (subst (λ (n : ℕ). All (λ p. p < n) positions) (sym c.requires.table) c.requires.positions.below) c.name_all.ensures in
          λ p low.
          is_present_by records positions (length rows) (length all) c.name_all.new.statuses c.judge_all.new.statuses
          c.settle_all.new.statuses (omega (arith, many)) names judged settled p (omega (arith, low, many, same));
      reads = c.in_ok-judge_all.ensures.judges.reads;
      fails = fails_never c.in_ok-judge_all.ensures.judges.fails.may;
    }
