use Rattle.std.proofs.Common.{rules, ◌≡◌, ◌+◌, ◌-◌, ◌++◌, length, take, ap, ◌∙◌}
use Rattle.std.proofs.lemmas.List.{places, take-append-le, with_items_is}
use Rattle.warc_checking.proofs.BatchLemmas.{bytes_more}
use Rattle.warc_checking.proofs.batch.Blocks.add.Goals as goal
use borrow.Rule.Slice.PartMut.{post_of}

pub returns-clause-more : goal.returns-clause-more
returns-clause-more g c =
    let used = c.self.inside.used in
    let len = c.args.len in
    let old = c.self.inside.bytes.items in
    let all = c.deref_mut.result.now in
    let buf = c.read_range.new.buf in
    let rest = post_of used (used + len - used) all in
    let size : length buf ≡ len = search rules in
    let (further, longer) = c.lengthen.ensures.longer in
    let value : all ≡ old ++ further = c.deref_mut.ensures.value ∙ longer in
    let front : take used all ≡ take used old = ap (take used) value ∙ take-append-le used old further c.self.invariant.0 in (
      buf,
      ap (take (used + len)) (with_items_is c.lengthen.new.bytes (take used all ++ (buf ++ rest)) (search (rules, places)))
          ∙ bytes_more used len all buf rest (search rules) size ∙ ap (λ l. l ++ buf) (front ∙ c.self.view_is),
    )
