-- A record that can be framed is what framing its parts gives.
use Rattle.std.proofs.Common.{◌≡◌, ℕ, nat_le, nat_lt, Bool, true, false, ◌==◌, length, Result, Ok}
use Rattle.std.proofs.Common.{Err, if◌then◌else◌, refl, sym, ap, ◌∙◌, arith, eq-eqb}
use Rattle.std.proofs.lemmas.Bool.{false_from_ne_true, ltb-true}
use Rattle.std.proofs.lemmas.Bool.Decides.{nat_tests}
use Rattle.warc_frame.specs.declared.fault.FaultKind.{FaultKind}
use Rattle.warc_frame.specs.declared.fault.FaultKind.TheVariants.{HeadTooLong, Length}
use Rattle.warc_frame.specs.Record.{Record, IsFramed, block_len, canonical_len, framed_of, max_head, with_block}

pub framed_is : (r : Record) → IsFramed r → framed_of r ≡ Ok r
unfolding framed_of
framed_is r framed =
    let room : nat_lt max_head (canonical_len r.version r.fields) ≡ false = false_from_ne_true _ (λ is. absurd (omega (arith, ltb-true _ _ is, framed.head))) in
    ap (λ (b : Bool). if b then Err HeadTooLong else with_block r (block_len r.fields)) room
    ∙ (ap (with_block r) framed.number ∙ ap (λ (b : Bool). if b then Ok r else Err Length) (eq-eqb (length r.block) (length r.block) refl))

pub only_framed : (r f : Record) → IsFramed r → framed_of r ≡ Ok f → f ≡ r
only_framed r f framed is = inside (sym is ∙ framed_is r framed)
  where
    inside : {a b : Record} → ◌≡◌ {A = Result Record FaultKind} (Ok a) (Ok b) → a ≡ b
    inside e = cc

-- what framing gives is what it was given
by_len : (r f : Record) (len : Result ℕ FaultKind) → with_block r len ≡ Ok f → f ≡ r
by_len r f (Err kind) is = absurd (cc)
by_len r f (Ok n) is = by_test (n == length r.block) is
  where
    by_test : (b : Bool) → (if b then Ok r else Err Length) ≡ Ok f → f ≡ r
    by_test true e = cc
    by_test false e = absurd (cc)

pub same_framed : (r f : Record) → framed_of r ≡ Ok f → f ≡ r
unfolding framed_of
same_framed r f is = by_room (nat_lt max_head (canonical_len r.version r.fields)) is
  where
    by_room : (b : Bool) → (if b then Err HeadTooLong else with_block r (block_len r.fields)) ≡ Ok f → f ≡ r
    by_room true e = absurd (cc)
    by_room false e = by_len r f (block_len r.fields) e

-- where the length is given, a record is refused for its head alone
pub refused_room : (r : Record) (kind : FaultKind) → block_len r.fields ≡ Ok (length r.block) → framed_of r ≡ Err kind
    → nat_le (canonical_len r.version r.fields) max_head ≡ false
unfolding framed_of
refused_room r kind reported is = by_room (nat_lt max_head (canonical_len r.version r.fields)) refl whole is
  where
    whole : with_block r (block_len r.fields) ≡ Ok r
    whole = ap (with_block r) reported ∙ ap (λ (b : Bool). if b then Ok r else Err Length) (eq-eqb (length r.block) (length r.block) refl)

    never : (k : FaultKind) → ◌≡◌ {A = Result Record FaultKind} (Ok r) (Err k) → ⊥
    never k e = cc

    by_room : (b : Bool) → nat_lt max_head (canonical_len r.version r.fields) ≡ b → with_block r (block_len r.fields) ≡ Ok r
        → (if b then Err HeadTooLong else with_block r (block_len r.fields)) ≡ Err kind → nat_le (canonical_len r.version r.fields) max_head ≡ false
    by_room true past framed e = grind (arith, nat_tests)
    by_room false past framed e = absurd (never kind (sym framed ∙ e))
