use Rattle.std.proofs.Common.{◌∙◌, ◌<◌, ◌++◌, ◌∷◌, [], length, sym, arith}
use Rattle.std.proofs.lemmas.List.{length-set}
use Rattle.warc_index.specs.Referents.{next_of}
use Rattle.warc_rewrite.proofs.MarkedWayLemmas.{plain_more, way_goes, way_stops}
use Rattle.warc_rewrite.proofs.needs.mark_way.Goals as goal

pub walking-preserved : goal.walking-preserved
walking-preserved g c = record {
  same = length-set c.walking.marks c.walking.at _ ∙ c.walking.invariant.same;
  plain = λ none. plain_more c.walking.marks c.walking.at (c.is_free.ensures.within c.walking-test.true) (c.walking.invariant.plain none);
  way = λ all positions kept len are within.
      let next : c.in-Some.next < length all = c.in-Some.ensures.within all kept in
      way_goes (next_of all) (positions ++ c.args.position ∷ []) c.walking.at c.in-Some.next c.walking.marks
      (c.walking.invariant.way all positions kept len are within)
      (sym (c.referent.ensures.next all kept) ∙ c.in-Some.is)
      (omega (arith, next, len, c.walking.invariant.same));
}

pub returns-in-None-clause-more : goal.returns-in-None-clause-more
returns-in-None-clause-more g c all positions kept len are within =
    way_stops (next_of all) (positions ++ c.args.position ∷ []) c.walking.at c.walking.marks
    (c.walking.invariant.way all positions kept len are within)
    (sym (c.referent.ensures.next all kept) ∙ c.in-None.is)
