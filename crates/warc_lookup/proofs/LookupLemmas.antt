-- What is kept of records besides their rows.
use Rattle.std.proofs.Common.{◌≡◌, ℕ, List, map, take, sym, ap, subst, ◌∙◌}
use Rattle.std.proofs.lemmas.List.{take-map}
use Rattle.warc_index.specs.Orders.{IsIndexOf, Indexes}
use Rattle.warc_segment.specs.Kept.{Kept as Parts, kept_in}
use Rattle.warc_lookup.specs.Indexed.{AreOf, indexed_record, placed_record}
use Rattle.warc_reading.specs.Row.{Placed}

-- all but the first records are forgotten
pub forgotten : (records : List Placed) (n : ℕ) (index : Indexes) (parts : Parts) → IsIndexOf (take n (map indexed_record records)) index → parts ≡ kept_in (take n (map placed_record records))
    → AreOf (take n records) index parts
forgotten records n index parts kept joined =
    record { index_is = subst (λ l. IsIndexOf l index) (take-map indexed_record n records) kept; parts_are = joined ∙ ap kept_in (take-map placed_record n records) }

pub are_of_same : (records : List Placed) (index now : Indexes) (parts here : Parts) → now ≡ index → here ≡ parts → AreOf records index parts → AreOf records now here
are_of_same records index now parts here same also are =
    let P : Indexes → Type 0 = λ i. AreOf records i parts in
    let Q : Parts → Type 0 = λ p. AreOf records now p in
    subst Q (sym also) (subst P (sym same) are)
