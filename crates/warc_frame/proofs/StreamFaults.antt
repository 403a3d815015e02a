-- What a refusal says of the bytes.
use Rattle.std.proofs.Common.{◌≡◌, ◌≢◌, ℕ, ◌+◌, Bool, true, false, List, [], ◌∷◌, ◌++◌, Some, None, Err, length, refl, sym, ap, ◌∙◌}
use Rattle.warc_frame.specs.declared.fault.FaultKind.{FaultKind}
use Rattle.warc_frame.specs.declared.fault.FaultKind.TheVariants as kinds
use Rattle.warc_frame.specs.declared.fault.Fault.{Fault}
use Rattle.warc_frame.specs.Record.{max_archive}
use Rattle.warc_frame.specs.Spelling.{SpellsAll}
use Rattle.warc_frame.specs.Reading.{any_fields, record_of, fault}
use Rattle.warc_frame.specs.Faults.{following, within_limit, goes_on, limited, IsFrameFault}
use Rattle.warc_frame.specs.Reported.{Reported, IsCut, Lies, unclosed_of, Refutes, RefusesAs, Refuses}
use Rattle.warc_frame.proofs.StreamState.{all_accepted}

limited_kind : (b : Bool) (kind : FaultKind) (o : ℕ) → kind ≢ kinds.Truncated → limited b (Some (fault kind o)) ≡ Some (fault kind o)
limited_kind false kind o h = refl
limited_kind true kinds.Truncated o h = absurd (h refl)
limited_kind true kinds.Version o h = refl
limited_kind true kinds.HeadTooLong o h = refl
limited_kind true kinds.Field o h = refl
limited_kind true (kinds.Missing m) o h = refl
limited_kind true (kinds.Repeated m) o h = refl
limited_kind true kinds.Length o h = refl
limited_kind true kinds.BadType o h = refl
limited_kind true kinds.Id o h = refl
limited_kind true kinds.Date o h = refl
limited_kind true kinds.End o h = refl
limited_kind true kinds.TooLong o h = refl
limited_kind true kinds.Read o h = refl
limited_kind true kinds.Memory o h = refl

-- a fault after the records that were reported
pub refutes : (at : ℕ) (text front rest : List ℕ) (reported : Reported) (g f : Fault) → within_limit at text ≡ front ++ rest → SpellsAll reported.records front → rest ≢ [] → record_of any_fields rest ≡ Err g → g.kind ≢ kinds.Truncated → f ≡ following (at + length front) g → reported.unclosed ≡ unclosed_of rest → Refutes at text reported f
refutes at text front rest reported g f e s some fails settled is held =
    let kind : f.kind ≡ g.kind = ap (λ (x : Fault). x.kind) is in
    let other : f.kind ≢ kinds.Truncated = λ no. settled (sym kind ∙ no) in
    record {
      found = Some f;
      reads = record { front = front; rest = rest; text = e; spelled = s; accepted = all_accepted reported.records; fault_is = (some, g, fails, is) };
      limit = limited_kind (goes_on at text) f.kind f.offset other;
      settled = other;
      unclosed_is = held;
    }

too_long_rest : (at : ℕ) (text front rest : List ℕ) (reported : Reported) → within_limit at text ≡ front ++ rest → goes_on at text ≡ true → SpellsAll reported.records front → IsCut rest → reported.unclosed ≡ unclosed_of rest → Refutes at text reported (fault kinds.TooLong max_archive)
too_long_rest at text front [] reported e on s cut held = record {
  found = None;
  reads = record { front = front; rest = []; text = e; spelled = s; accepted = all_accepted reported.records; fault_is = refl };
  limit = rw on refl;
  settled = λ no. cc;
  unclosed_is = held;
}
too_long_rest at text front (b ∷ bs) reported e on s cut held = record {
  found = Some (following (at + length front) (fault kinds.Truncated (length (b ∷ bs))));
  reads = record { front = front; rest = b ∷ bs; text = e; spelled = s; accepted = all_accepted reported.records; fault_is = ((λ no. absurd cc), fault kinds.Truncated (length (b ∷ bs)), cut, refl) };
  limit = rw on refl;
  settled = λ no. cc;
  unclosed_is = held;
}

-- all bytes before the limit were accepted so far, and more follow
pub too_long : (at : ℕ) (text near : List ℕ) (reported : Reported) → within_limit at text ≡ near → goes_on at text ≡ true → Lies near reported → Refutes at text reported (fault kinds.TooLong max_archive)
too_long at text near reported e on l = too_long_rest at text l.front l.rest reported (e ∙ l.text_is) on l.spelled l.cut l.unclosed_is

-- a refusal is the frame fault of the text
pub refuted_fault : (at : ℕ) (text : List ℕ) (reported : Reported) (f : Fault) → Refutes at text reported f → IsFrameFault at text f
refuted_fault at text reported f r = record { records = reported.records; found = r.found; before = r.reads; is = r.limit }

refutes_as : (kind : FaultKind) (at : ℕ) (text : List ℕ) (reported : Reported) (f : Fault) → RefusesAs kind at text reported f → kind ≢ kinds.Memory → Refutes at text reported f
refutes_as kinds.Memory at text reported f r other = absurd (other refl)
refutes_as kinds.Version at text reported f r other = r
refutes_as kinds.HeadTooLong at text reported f r other = r
refutes_as kinds.Field at text reported f r other = r
refutes_as (kinds.Missing m) at text reported f r other = r
refutes_as (kinds.Repeated m) at text reported f r other = r
refutes_as kinds.Length at text reported f r other = r
refutes_as kinds.BadType at text reported f r other = r
refutes_as kinds.Id at text reported f r other = r
refutes_as kinds.Date at text reported f r other = r
refutes_as kinds.End at text reported f r other = r
refutes_as kinds.Truncated at text reported f r other = r
refutes_as kinds.TooLong at text reported f r other = r
refutes_as kinds.Read at text reported f r other = r

-- what a step says that fails for another reason than a failed allocation
pub refusals_refute : (at : ℕ) (text : List ℕ) (reported : Reported) (f : Fault) → Refuses at text reported f → f.kind ≢ kinds.Memory → Refutes at text reported f
refusals_refute at text reported f r other = refutes_as f.kind at text reported f r other
