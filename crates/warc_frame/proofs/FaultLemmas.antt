-- Lists of records, and the first fault of a text.
use Rattle.std.proofs.Common.{◌≡◌, ◌≢◌, ℕ, zero, suc, ◌+◌, ◌-◌, ◌<◌, ◌≤◌, Bool, true, false, List, [], ◌∷◌, ◌++◌, Option, Some, None, Result, Ok, Err, length, length-append, length-take, length-drop, take, drop, append_assoc, refl, sym, ap, subst, ◌∙◌, arith, inl, inr, ◌⊎◌, ⊎_elim}
use Rattle.std.proofs.Math.Seq.{drop-append_seam}
use Rattle.std.proofs.lemmas.List.{take-append-drop, take_all, append-nil, take-append-le}
use Rattle.std.proofs.lemmas.Bool.{cases_lt, false_from_ne_true, ltb-true, lt-ltb}
use Rattle.warc_frame.specs.declared.fault.FaultKind.{FaultKind}
use Rattle.warc_frame.specs.declared.fault.FaultKind.TheVariants.{Truncated}
use Rattle.warc_frame.specs.declared.fault.Fault.{Fault}
use Rattle.warc_frame.specs.Record.{Record, max_archive}
use Rattle.warc_frame.specs.Spelling.{Spells, SpellsAll}
use Rattle.warc_frame.specs.Reading.{Judgement, any_fields, record_of}
use Rattle.warc_frame.specs.Faults.{AllAccepted, within_limit, goes_on, following, HasFault, ReadsAs, or_too_long, limited, IsFirstFault}
use Rattle.warc_frame.proofs.EmptyLineLemmas.{true_or_false}
use Rattle.warc_frame.proofs.RowLemmas.{result_cases, option_cases}
use Rattle.warc_frame.proofs.ReadLemmas.{record-spelled, le_from}
use Rattle.warc_frame.proofs.SpellLemmas.{record-read, ok_parts, nothing, spells_some}
use Rattle.warc_frame.proofs.StableLemmas.{record-fault-stays, take-more}

-- a record that the text begins with, and what is after it
pub same_front : (judge : Judgement) (r s : Record) (f1 r1 f2 r2 : List ℕ) → Spells r f1 → Spells s f2 → judge r.fields ≡ None → judge s.fields ≡ None → f1 ++ r1 ≡ f2 ++ r2 → (r ≡ s) × (length f1 ≡ length f2) × (r1 ≡ r2)
same_front judge r s f1 r1 f2 r2 a b ja jb e =
    let one = record-read judge r f1 r1 a ja in
    let two = record-read judge s f2 r2 b jb in
    let same = ok_parts r s _ _ (sym one ∙ ap (record_of judge) e ∙ two) in
    (same.0, same.1, sym (drop-append_seam f1 r1) ∙ ap (drop (length f1)) e ∙ ap (λ k. drop k (f2 ++ r2)) same.1 ∙ drop-append_seam f2 r2)

pub spelling_one : (rs ss : List Record) (t : List ℕ) → SpellsAll rs t → SpellsAll ss t → rs ≡ ss
spelling_one [] [] t a b = refl
spelling_one [] (s ∷ ss) t a (front, rest, spells, e, more) = absurd (spells_some s front rest spells (sym e ∙ a))
spelling_one (r ∷ rs) [] t (front, rest, spells, e, more) b = absurd (spells_some r front rest spells (sym e ∙ b))
spelling_one (r ∷ rs) (s ∷ ss) t (f1, r1, s1, e1, m1) (f2, r2, s2, e2, m2) =
    let same = same_front any_fields r s f1 r1 f2 r2 s1 s2 refl refl (sym e1 ∙ e2) in
    let later : rs ≡ ss = spelling_one rs ss r2 (subst (SpellsAll rs) same.2 m1) m2 in
    ap (λ x. x ∷ rs) same.0 ∙ ap (λ xs. s ∷ xs) later

-- no text that spells a record begins another one
pub spelling_ends : (r s : Record) (t more : List ℕ) → Spells r t → Spells s (t ++ more) → (more ≡ []) × (r ≡ s)
spelling_ends r s t more a b =
    let same = same_front any_fields r s t more (t ++ more) [] a b refl refl (sym (append-nil (t ++ more))) in
    (same.2, same.0)

ok_or_err : {A : Type 0} (x : A) (f : Fault) → ◌≡◌ {A = Result A Fault} (Ok x) (Err f) → ⊥
ok_or_err x f e = cc

err_same : {A : Type 0} (e f : Fault) → ◌≡◌ {A = Result A Fault} (Err e) (Err f) → e ≡ f
err_same e f h = cc

-- a record that the rest begins with leaves it no fault
no_fault : (judge : Judgement) (q : ℕ) (s : Record) (t front rest : List ℕ) (found : Option Fault) → Spells s front → judge s.fields ≡ None → t ≡ front ++ rest → HasFault judge q t found → ⊥
no_fault judge q s t front rest None spells judged e has = spells_some s front rest spells (sym e ∙ has)
no_fault judge q s t front rest (Some f) spells judged e (some, g, fails, is) =
    ok_or_err (s, length front) g (sym (record-read judge s front rest spells judged) ∙ ap (record_of judge) (sym e) ∙ fails)

has_same : (judge : Judgement) (q : ℕ) (t : List ℕ) (a b : Option Fault) → HasFault judge q t a → HasFault judge q t b → a ≡ b
has_same judge q t None None x y = refl
has_same judge q t None (Some g) x y = absurd (y.0 x)
has_same judge q t (Some f) None x y = absurd (x.0 y)
has_same judge q t (Some f) (Some g) (some, f', fails, is) (some', g', fails', is') =
    let same : f' ≡ g' = err_same f' g' (sym fails ∙ fails') in
    ap Some (is ∙ ap (following q) same ∙ sym is')

-- a text is read in one way
found_one : (judge : Judgement) (q p : ℕ) (rs ss : List Record) (front rest front' rest' : List ℕ) (a b : Option Fault) → SpellsAll rs front → SpellsAll ss front' → AllAccepted judge rs → AllAccepted judge ss
    → front ++ rest ≡ front' ++ rest' → q + length front ≡ p → HasFault judge p rest a → HasFault judge (q + length front') rest' b → (rs ≡ ss) × (a ≡ b)
found_one judge q p [] [] front rest front' rest' a b s s' j j' e at x y =
    let same : rest ≡ rest' = ap (λ xs. xs ++ rest) (sym s) ∙ e ∙ ap (λ xs. xs ++ rest') s' in
    let place : q + length front' ≡ p = ap (λ xs. q + length xs) (s' ∙ sym s) ∙ at in
    (refl, has_same judge p rest a b x (subst (λ xs. HasFault judge p xs b) (sym same) (subst (λ k. HasFault judge k rest' b) place y)))
found_one judge q p [] (r ∷ ss) front rest front' rest' a b s (f2, r2, s2, e2, m2) j j' e at x y =
    absurd (no_fault judge p r rest f2 (r2 ++ rest') a s2 j'.0 (ap (λ xs. xs ++ rest) (sym s) ∙ e ∙ ap (λ xs. xs ++ rest') e2 ∙ append_assoc f2 r2 rest') x)
found_one judge q p (r ∷ rs) [] front rest front' rest' a b (f1, r1, s1, e1, m1) s' j j' e at x y =
    absurd (no_fault judge (q + length front') r rest' f1 (r1 ++ rest) b s1 j.0 (ap (λ xs. xs ++ rest') (sym s') ∙ sym e ∙ ap (λ xs. xs ++ rest) e1 ∙ append_assoc f1 r1 rest) y)
found_one judge q p (r ∷ rs) (s ∷ ss) front rest front' rest' a b (f1, r1, s1, e1, m1) (f2, r2, s2, e2, m2) j j' e at x y =
    let whole : f1 ++ (r1 ++ rest) ≡ f2 ++ (r2 ++ rest') = sym (ap (λ xs. xs ++ rest) e1 ∙ append_assoc f1 r1 rest) ∙ e ∙ (ap (λ xs. xs ++ rest') e2 ∙ append_assoc f2 r2 rest') in
    let same = same_front judge r s f1 (r1 ++ rest) f2 (r2 ++ rest') s1 s2 j.0 j'.0 whole in
    let here : (q + length f1) + length r1 ≡ p = omega (arith, at, ap length e1, length-append f1 r1) in
    let there : q + length front' ≡ (q + length f1) + length r2 = omega (arith, ap length e2, length-append f2 r2, same.1) in
    let later = found_one judge (q + length f1) p rs ss r1 rest r2 rest' a b m1 m2 j.1 j'.1 same.2 here x (subst (λ k. HasFault judge k rest' b) there y) in
    (ap (λ z. z ∷ rs) same.0 ∙ ap (λ zs. s ∷ zs) later.0, later.1)

pub reads_one : (judge : Judgement) (q : ℕ) (t : List ℕ) (rs ss : List Record) (a b : Option Fault) → ReadsAs judge q t rs a → ReadsAs judge q t ss b → (rs ≡ ss) × (a ≡ b)
reads_one judge q t rs ss a b h k = found_one judge q (q + length h.front) rs ss h.front h.rest k.front k.rest a b h.spelled k.spelled h.accepted k.accepted (sym h.text ∙ k.text) refl h.fault_is k.fault_is

-- a text has at most one first fault
pub first_one : (judge : Judgement) (q : ℕ) (t : List ℕ) (f g : Fault) → IsFirstFault judge q t f → IsFirstFault judge q t g → f ≡ g
first_one judge q t f g h k =
    let same : h.found ≡ k.found = (reads_one judge q (within_limit q t) h.records k.records h.found k.found h.before k.before).1 in
    let e : Some f ≡ Some g = sym h.is ∙ ap (limited (goes_on q t)) same ∙ k.is in
    cc

some_len : (r : Record) (t : List ℕ) → Spells r t → 0 < length t
some_len r t s = ⊎_elim (λ l. l) (λ none. absurd (spells_some r t [] s (append-nil t ∙ nothing t (omega arith)))) (cases_lt 0 (length t))

abbrev Read : Judgement → ℕ → List ℕ → Type 0
Read judge q t = (records : List Record) × (found : Option Fault) × ReadsAs judge q t records found

one_more : (judge : Judgement) (q : ℕ) (r : Record) (front rest : List ℕ) → Spells r front → judge r.fields ≡ None → Read judge (q + length front) rest → Read judge q (front ++ rest)
one_more judge q r front rest s judged (records, found, h) = (
  r ∷ records,
  found,
  record {
    front = front ++ h.front;
    rest = h.rest;
    text = ap (λ xs. front ++ xs) h.text ∙ sym (append_assoc front h.front h.rest);
    spelled = (front, h.front, s, refl, h.spelled);
    accepted = (judged, h.accepted);
    fault_is = subst (λ k. HasFault judge k h.rest found) (let e : (q + length front) + length h.front ≡ q + length (front ++ h.front) = omega (arith, length-append front h.front) in e) h.fault_is;
  },
)

not_nil : (b : ℕ) (bs : List ℕ) → b ∷ bs ≢ []
not_nil b bs e = cc

stops : (judge : Judgement) (q b : ℕ) (bs : List ℕ) (g : Fault) → record_of judge (b ∷ bs) ≡ Err g → Read judge q (b ∷ bs)
stops judge q b bs g fails = (
  [],
  Some (following (q + 0) g),
  record { front = []; rest = b ∷ bs; text = refl; spelled = refl; accepted = tt; fault_is = (not_nil b bs, g, fails, refl) },
)

reads_with : (judge : Judgement) (n q : ℕ) (t : List ℕ) → length t ≤ n → Read judge q t
reads_with judge n q [] l = ([], None, record { front = []; rest = []; text = refl; spelled = refl; accepted = tt; fault_is = refl })
reads_with judge zero q (b ∷ bs) l = absurd (omega arith)
reads_with judge (suc n) q (b ∷ bs) l = ⊎_elim
    (λ (good : (x : Record × ℕ) × (record_of judge (b ∷ bs) ≡ Ok x)).
    let k = good.0.1 in
    let is = record-spelled judge (b ∷ bs) good.0.0 k good.1 in
    let front = take k (b ∷ bs) in
    let rest = drop k (b ∷ bs) in
    let less : length rest ≤ n = omega (arith, some_len good.0.0 front is.1, length-take k (b ∷ bs), length-drop k (b ∷ bs), l) in
    subst (Read judge q) (take-append-drop k (b ∷ bs)) (one_more judge q good.0.0 front rest is.1 is.2 (reads_with judge n (q + length front) rest less)))
    (λ (bad : (g : Fault) × (record_of judge (b ∷ bs) ≡ Err g)). stops judge q b bs bad.0 bad.1)
    (result_cases (record_of judge (b ∷ bs)))

-- each text is read in some way
pub reads_some : (judge : Judgement) (q : ℕ) (t : List ℕ) → (records : List Record) × (found : Option Fault) × ReadsAs judge q t records found
reads_some judge q t = reads_with judge (length t) q t (omega arith)

-- a spelled text is read without a fault
spelled_reads : (judge : Judgement) (q : ℕ) (rs : List Record) (t : List ℕ) → SpellsAll rs t → AllAccepted judge rs → ReadsAs judge q t rs None
spelled_reads judge q rs t spelled accepted = record { front = t; rest = []; text = sym (append-nil t); spelled = spelled; accepted = accepted; fault_is = refl }

-- a text that ends by the limit is within it
within_all : (q : ℕ) (t : List ℕ) → q + length t ≤ max_archive → (within_limit q t ≡ t) × (goes_on q t ≡ false)
unfolding within_limit goes_on
within_all q t l = (take_all (max_archive - q) t (omega (arith, l)), false_from_ne_true _ (λ is. absurd (omega (arith, ltb-true _ _ is, l))))

pub none_where_spelled : (judge : Judgement) (q : ℕ) (t : List ℕ) (rs : List Record) (f : Fault) → q + length t ≤ max_archive → SpellsAll rs t → AllAccepted judge rs → IsFirstFault judge q t f → ⊥
none_where_spelled judge q t rs f l spelled accepted h =
    let fits = within_all q t l in
    let same : h.found ≡ None = (reads_one judge q (within_limit q t) h.records rs h.found None h.before (subst (λ xs. ReadsAs judge q xs rs None) (sym fits.0) (spelled_reads judge q rs t spelled accepted))).1 in
    let e : None ≡ Some f = sym (ap (limited false) same) ∙ ap (λ b. limited b h.found) (sym fits.1) ∙ h.is in
    cc

pub spelled_or_fault : (judge : Judgement) (q : ℕ) (t : List ℕ) → q + length t ≤ max_archive → ((rs : List Record) × SpellsAll rs t × AllAccepted judge rs) ⊎ ((f : Fault) × IsFirstFault judge q t f)
spelled_or_fault judge q t l =
    let fits = within_all q t l in
    let read = reads_some judge q (within_limit q t) in
    ⊎_elim
    (λ (none : read.1 ≡ None).
    let h = read.2 in
    let rest : h.rest ≡ [] = subst (λ o. HasFault judge (q + length h.front) h.rest o) none h.fault_is in
    let text : h.front ≡ t = sym (append-nil h.front) ∙ ap (λ xs. h.front ++ xs) (sym rest) ∙ sym h.text ∙ fits.0 in
    inl (read.0, subst (SpellsAll read.0) text h.spelled, h.accepted))
    (λ (some : (f : Fault) × (read.1 ≡ Some f)). inr (some.0, record { records = read.0; found = read.1; before = read.2; is = ap (λ b. limited b read.1) fits.1 ∙ some.1 }))
    (option_cases read.1)

kept : (k : FaultKind) (f : Fault) → (k ≡ Truncated → ⊥) → or_too_long k f ≡ f
kept Truncated f h = absurd (h refl)
kept k f h = refl

pub limited-kept : (b : Bool) (f : Fault) → (f.kind ≡ Truncated → ⊥) → limited b (Some f) ≡ Some f
limited-kept false f other = refl
limited-kept true f other = ap Some (kept f.kind f other)

goes_on-more : (q : ℕ) (t x : List ℕ) → goes_on q t ≡ true → (goes_on q (t ++ x) ≡ true) × (within_limit q (t ++ x) ≡ within_limit q t)
unfolding goes_on within_limit
goes_on-more q t x h =
    let past = ltb-true (max_archive - q) (length t) h in
    (lt-ltb _ _ (omega (arith, past, length-append t x)), take-append-le (max_archive - q) t x (omega (arith, past)))

within-more : (q : ℕ) (t x : List ℕ) → goes_on q t ≡ false → (within_limit q t ≡ t) × ((y : List ℕ) × (within_limit q (t ++ x) ≡ t ++ y))
unfolding goes_on within_limit
within-more q t x h =
    let size : length t ≤ max_archive - q = le_from (max_archive - q) (length t) h in
    let all : take (max_archive - q) t ≡ t = take_all (max_archive - q) t size in
    (all, (take (max_archive - q - length t) x, take-more (max_archive - q) t x ∙ ap (λ xs. xs ++ take (max_archive - q - length t) x) all))

-- the fault after the records stays
reads-stay : (judge : Judgement) (q : ℕ) (t x : List ℕ) (rs : List Record) (f : Fault) → ReadsAs judge q t rs (Some f) → (f.kind ≡ Truncated → ⊥) → ReadsAs judge q (t ++ x) rs (Some f)
reads-stay judge q t x rs f h other =
    let has = h.fault_is in
    let kind : has.1.kind ≡ f.kind = ap (λ (g : Fault). g.kind) (sym has.3) in
    record {
      front = h.front;
      rest = h.rest ++ x;
      text = ap (λ xs. xs ++ x) h.text ∙ append_assoc h.front h.rest x;
      spelled = h.spelled;
      accepted = h.accepted;
      fault_is = (λ e. has.0 (nothing h.rest (omega (arith, ap length e, length-append h.rest x))), has.1, record-fault-stays judge h.rest x has.1 has.2 (λ e. other (sym kind ∙ e)), has.3);
    }

pub first-stays : (judge : Judgement) (q : ℕ) (t x : List ℕ) (f : Fault) → IsFirstFault judge q t f → (f.kind ≡ Truncated → ⊥) → IsFirstFault judge q (t ++ x) f
first-stays judge q t x f h other = ⊎_elim
    (λ (on : goes_on q t ≡ true).
    let more = goes_on-more q t x on in
    record {
      records = h.records;
      found = h.found;
      before = subst (λ xs. ReadsAs judge q xs h.records h.found) (sym more.1) h.before;
      is = ap (λ b. limited b h.found) (more.0 ∙ sym on) ∙ h.is;
    })
    (λ (ends : goes_on q t ≡ false).
    let more = within-more q t x ends in
    let found : h.found ≡ Some f = ap (λ b. limited b h.found) (sym ends) ∙ h.is in
    let before : ReadsAs judge q t h.records (Some f) = subst (λ xs. ReadsAs judge q xs h.records (Some f)) more.0 (subst (λ o. ReadsAs judge q (within_limit q t) h.records o) found h.before) in
    record {
      records = h.records;
      found = Some f;
      before = subst (λ xs. ReadsAs judge q xs h.records (Some f)) (sym more.1.1) (reads-stay judge q t more.1.0 h.records f before other);
      is = limited-kept _ f other;
    })
    (true_or_false (goes_on q t))
