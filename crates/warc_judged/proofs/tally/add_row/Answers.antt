use Rattle.std.proofs.Common.{◌≡◌, ◌+◌, Some, refl, sym, ap, ap₂, ◌∙◌, arith, slice_index}
use Rattle.std.specs.List.{slice_get}
use Rattle.warc_record.specs.Kinds.{kind_named}
use Rattle.warc_reading.specs.Row.{Row}
use Rattle.warc_judged.specs.Counting.{is_of, is_of_capture}
use Rattle.warc_judged.specs.Summary.{instant_at}
use Rattle.warc_judged.specs.declared.tally.Dated.{Dated}
use Rattle.warc_judged.specs.declared.tally.End.TheVariants.{First, Last}
use Rattle.warc_judged.proofs.CountLemmas.{count_more, kinds_more, one_if, tally_within}
use Rattle.warc_judged.proofs.SummaryLemmas.{end_next}
use Rattle.warc_judged.proofs.tally.add_row.Goals as goal

pub overflow_add-tally : goal.overflow_add-tally
overflow_add-tally g c =
    let kind = c.named.result in
    let place = ap (slice_index c.args.tally.now.kinds) c.place_of.ensures.value in
    omega (arith, place, c.requires.before.kinds_are kind, tally_within (is_of kind) c.args.rows.now c.args.position, c.requires.there, c.requires.few)

pub overflow_add-tally-2 : goal.overflow_add-tally-2
overflow_add-tally-2 g c =
    omega (arith, c.requires.before.captures_are, tally_within is_of_capture c.args.rows.now c.args.position, c.requires.there, c.requires.few, c.one_if.ensures.most)

pub overflow_add-tally-3 : goal.overflow_add-tally-3
overflow_add-tally-3 g c =
    omega (arith, c.requires.before.truncated_are, tally_within (λ row. row.is_truncated) c.args.rows.now c.args.position, c.requires.there, c.requires.few, c.one_if-2.ensures.most)

pub returns : goal.returns
returns g c =
    let rows = c.args.rows.now in
    let n = c.args.position in
    let row = c.in-Some.row in
    let so_far = c.requires.before in
    let at : slice_get rows n ≡ Some row = sym c.get.ensures ∙ c.in-Some.is in
    let same = c.row.view_is in
    let dated = c.read_date.ensures ∙ ap (λ (r : Row). instant_at r) same in
    let next : Dated = record { position = n; instant = c.read_date.result } in
    let captured = c.one_if.ensures.value ∙ ap one_if (c.is_capture.ensures ∙ ap (λ (r : Row). is_of_capture r) same) in
    let marked = c.one_if-2.ensures.value ∙ ap (λ (r : Row). one_if r.is_truncated) same in
    record {
      kinds_are = kinds_more c.args.tally.now.kinds rows n row c.named.result c.place_of.result (omega arith) at (c.named.ensures ∙ ap (λ (r : Row). kind_named r.kind) same) c.place_of.ensures.value so_far.kinds_are;
      captures_are = ap₂ (λ a b. a + b) so_far.captures_are captured ∙ sym (count_more is_of_capture rows n row at);
      truncated_are = ap₂ (λ a b. a + b) so_far.truncated_are marked ∙ sym (count_more (λ r. r.is_truncated) rows n row at);
      first_is = end_next First rows row n c.args.tally.now.first next at refl dated so_far.first_is c.nearest-first.result c.nearest-first.ensures;
      last_is = end_next Last rows row n c.args.tally.now.last next at refl dated so_far.last_is c.nearest-last.result c.nearest-last.ensures;
    }
