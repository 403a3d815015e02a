use Rattle.std.proofs.Common.{◌≡◌, ◌∷◌, map, take}
use Rattle.warc_segment.proofs.parts.places_of.Given as goal

abbrev pub invariant-loop-continuation : goal.invariant-loop-continuation
invariant-loop-continuation g l =
    l.places.items ≡ l.fn.place ∷ map (λ c. c.place) (take l.continuation-index l.series)
