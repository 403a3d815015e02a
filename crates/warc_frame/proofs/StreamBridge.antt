-- What framing's own lemmas give.
use Rattle.std.proofs.Common.{◌≡◌, ℕ, ◌≤◌, List, [], ◌∷◌, ◌++◌, Ok, length, take, append_assoc, refl, sym, ap, ◌∙◌}
use Rattle.std.proofs.lemmas.List.{append-nil}
use Rattle.warc_frame.specs.Record.{Record}
use Rattle.warc_frame.specs.Spelling.{Spells, SpellsAll}
use Rattle.warc_frame.specs.Reading.{Judgement, record_of}
use Rattle.warc_frame.proofs.ReadLemmas.{record-spelled}

pub record_spelled : (judge : Judgement) (t : List ℕ) (r : Record) (n : ℕ) → record_of judge t ≡ Ok (r, n) → (n ≤ length t) × Spells r (take n t)
record_spelled judge t r n e = let found = record-spelled judge t r n e in (found.0, found.1)

-- one more record after the others
pub spells_all_more : (rs : List Record) (r : Record) (t u : List ℕ) → SpellsAll rs t → Spells r u → SpellsAll (rs ++ r ∷ []) (t ++ u)
spells_all_more [] r t u h s = (u, [], s, ap (λ xs. xs ++ u) h ∙ sym (append-nil u), refl)
spells_all_more (x ∷ rs) r t u (front, rest, s1, e, more) s = (front, rest ++ u, s1, ap (λ xs. xs ++ u) e ∙ append_assoc front rest u, spells_all_more rs r rest u more s)
