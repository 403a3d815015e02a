-- Runs and damage, and which of them a text begins with.
use Rattle.std.proofs.Common.{◌≡◌, ℕ, ◌+◌, ◌<◌, ◌≤◌, List, [], ◌∷◌, length, drop, Option, None, Some, refl, sym, ap, subst, ◌∙◌, arith, ⊎_elim}
use Rattle.std.proofs.Math.Seq.{drop-append_seam}
use Rattle.std.proofs.lemmas.Bool.{cases_lt}
use Rattle.warc_frame.specs.Faults.{HasFault}
use Rattle.warc_frame.specs.Record.{Record}
use Rattle.warc_frame.specs.Spelling.{SpellsAll}
use Rattle.warc_frame.specs.declared.fault.Fault.{Fault}
use Rattle.warc_frame.proofs.LawLemmas.{fronts_are_same, reading_is_unique}
use Rattle.warc_frame.proofs.SpellLemmas.{spells_some}
use Rattle.warc_record.specs.Heads.{head_fault}
use Rattle.warc_pieces.specs.Pieces.{BeginsWithOne, IsDamage, IsPiece, IsRun, piece_len}
use Rattle.warc_pieces.specs.declared.piece.Piece.{Piece}
use Rattle.warc_pieces.specs.declared.piece.Piece.TheVariants.{Records, Damage}
use Rattle.warc_pieces.proofs.PieceLemmas.{no_bytes}

-- a text begins with one run
pub run_one : (at : ℕ) (text : List ℕ) (c d l m : ℕ) (f g : Option Fault) → IsRun at text c l f → IsRun at text d m g → (c ≡ d) × (l ≡ m) × (f ≡ g)
run_one at text c d l m f g a b =
    let same = reading_is_unique head_fault at text a.records b.records f g a.reads b.reads in
    let P : List Record → Type 0 = λ rs. SpellsAll rs b.reads.front in
    let front = fronts_are_same a.records a.reads.front b.reads.front a.reads.rest b.reads.rest a.reads.spelled (subst P (sym same.0) b.reads.spelled) (sym a.reads.text ∙ b.reads.text) in
    (a.count_is ∙ ap length same.0 ∙ sym b.count_is, a.len_is ∙ ap length front ∙ sym b.len_is, same.1)

-- records have bytes
pub some_bytes : (rs : List Record) (front : List ℕ) → SpellsAll rs front → 0 < length rs → 0 < length front
some_bytes [] front all some = absurd (omega (arith, some))
some_bytes (r ∷ rs) front (first, rest, one, is, more) some = ⊎_elim
    (λ (l : 0 < length front). l)
    (λ (none : length front ≤ 0). absurd (spells_some r first rest one (sym is ∙ no_bytes front (omega (arith, none)))))
    (cases_lt 0 (length front))

-- no record has none
pub none_spelled : (rs : List Record) (front : List ℕ) → SpellsAll rs front → length rs ≡ 0 → front ≡ []
none_spelled [] front all none = all
none_spelled (r ∷ rs) front all none = absurd (omega (arith, none))

-- damage begins with the run of no record
pub damage_run : (at : ℕ) (text : List ℕ) (len : ℕ) (fault : Fault) → IsDamage at text len fault → IsRun at text 0 0 (Some fault)
damage_run at text len fault damage = record {
  records = [];
  reads = damage.fault_is;
  count_is = refl;
  len_is = sym (ap length damage.fault_is.spelled);
}

-- and so does what has no byte
pub empty_run : (at : ℕ) (text : List ℕ) → text ≡ [] → IsRun at text 0 0 None
empty_run at text none = record {
  records = [];
  reads = record { front = []; rest = text; text = refl; spelled = refl; accepted = tt; fault_is = none };
  count_is = refl;
  len_is = refl;
}

-- what follows a run begins with no record
pub after_run : (at : ℕ) (text : List ℕ) (count len : ℕ) (found : Option Fault) → IsRun at text count len found → IsRun (at + len) (drop len text) 0 0 found
after_run at text count len found run =
    let front = run.reads.front in
    let rest = run.reads.rest in
    let F : ℕ → Type 0 = λ k. HasFault head_fault k rest found in
    let place : at + length front ≡ at + len + 0 = omega (arith, run.len_is) in
    record {
      records = [];
      reads = record {
        front = [];
        rest = rest;
        text = ap (λ n. drop n text) run.len_is ∙ ap (drop (length front)) run.reads.text ∙ drop-append_seam front rest;
        spelled = refl;
        accepted = tt;
        fault_is = subst F place run.reads.fault_is;
      };
      count_is = refl;
      len_is = refl;
    }

-- damage ends at the next good record, and not after it
not_longer : (at : ℕ) (text : List ℕ) (l m : ℕ) (f g : Fault) → IsDamage at text l f → IsDamage at text m g → l < m → ⊥
not_longer at text l m f g a b less = ⊎_elim
    (λ (whole : l ≡ length text). absurd (omega (arith, whole, less, b.within)))
    (λ (one : BeginsWithOne (drop l text)). b.none l less one.content one.front one.rest one.text_is one.spelled one.good)
    a.next

-- a text begins with one damage
pub damage_one : (at : ℕ) (text : List ℕ) (l m : ℕ) (f g : Fault) → IsDamage at text l f → IsDamage at text m g → (l ≡ m) × (f ≡ g)
damage_one at text l m f g a b =
    let same : Some f ≡ Some g = (reading_is_unique head_fault at text [] [] (Some f) (Some g) a.fault_is b.fault_is).1 in
    let len : l ≡ m = ⊎_elim
    (λ (less : l < m). absurd (not_longer at text l m f g a b less))
    (λ (low : m ≤ l). ⊎_elim
    (λ (more : m < l). absurd (not_longer at text m l g f b a more))
    (λ (high : l ≤ m). omega (arith, low, high))
    (cases_lt m l))
    (cases_lt l m) in
    (len, cc same)

-- a text doesn't begin with a record and with damage
pub run_or_damage : (at : ℕ) (text : List ℕ) (count l m : ℕ) (found : Option Fault) (f : Fault) → 0 < count → IsRun at text count l found → IsDamage at text m f → ⊥
run_or_damage at text count l m found f some run damage =
    let none = (run_one at text count 0 l 0 found (Some f) run (damage_run at text m f damage)).0 in
    absurd (omega (arith, some, none))

-- a piece has a byte
pub piece_some : (at : ℕ) (text : List ℕ) (piece : Piece) → IsPiece at text piece → 0 < piece_len piece
piece_some at text (Records offset len count) (is, some, found, run) =
    let bytes = some_bytes run.records run.reads.front run.reads.spelled (omega (arith, some, run.count_is)) in
    omega (arith, bytes, run.len_is)
piece_some at text (Damage offset len fault) (is, damage) = damage.some
