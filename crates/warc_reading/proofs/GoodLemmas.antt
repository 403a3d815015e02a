-- Good records are framed ones in whose heads no fault is found.
use Rattle.std.proofs.Common.{List, [], ◌∷◌}
use Rattle.warc_frame.specs.Faults.{AllAccepted}
use Rattle.warc_frame.specs.Record.{Record}
use Rattle.warc_frame.specs.Spelling.{SpellsAll}
use Rattle.warc_record.specs.Heads.{head_fault}
use Rattle.warc_record.proofs.GoodLemmas.{good_heads_have_no_fault}
use Rattle.warc_reading.specs.Archive.{AreGood}
use Rattle.std.proofs.Common.{ℕ}

pub are_good : (rs : List Record) (text : List ℕ) → SpellsAll rs text → AllAccepted head_fault rs → AreGood rs
are_good [] text spelled all = tt
are_good (r ∷ rs) text (front, rest, one, whole, more) (first, all) =
    (record { framed = one.framed; head = (good_heads_have_no_fault r.fields).1 first }, are_good rs rest more all)

pub accepted : (rs : List Record) → AreGood rs → AllAccepted head_fault rs
accepted [] all = tt
accepted (r ∷ rs) (first, all) = ((good_heads_have_no_fault r.fields).0 first.head, accepted rs all)
