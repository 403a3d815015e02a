-- The fault of the record at the front of a text is the frame fault of the text.
use Rattle.std.proofs.Common.{◌≡◌, ◌≢◌, ℕ, ◌+◌, ◌-◌, ◌<◌, ◌≤◌, true, false, not, nat_lt, nat_le, List, [], ◌++◌, Option, Some, None, Result, Ok, Err, length, length-take, take, drop, append_assoc, refl, sym, ap, subst, ◌∙◌, arith, inl, inr, ◌⊎◌, ⊎_elim}
use Rattle.std.specs.Prelude.{◌==◌}
use Rattle.std.specs.List.{slice_range}
use Rattle.std.proofs.lemmas.List.{take-append-drop, take_all}
use Rattle.std.proofs.lemmas.Bool.{cases_lt, ltb-true, le-leb, leb-true, false≢true}
use Rattle.std.specs.Result.{IfOk, IfErr}
use Rattle.warc_field.specs.Area.{Pair, area_of, count_of, first_value}
use Rattle.warc_field.specs.Lines.{crlf}
use Rattle.warc_frame.specs.declared.version.Version.{Version}
use Rattle.warc_frame.specs.declared.fault.FaultKind.{FaultKind}
use Rattle.warc_frame.specs.declared.fault.FaultKind.TheVariants.{Version as NoVersion, HeadTooLong, Field, Missing, Repeated, Length, End, Truncated, Memory}
use Rattle.warc_frame.specs.declared.fault.Mandatory.TheVariants.{ContentLength}
use Rattle.warc_frame.specs.declared.fault.Fault.{Fault}
use Rattle.warc_frame.specs.Names.{content_length}
use Rattle.warc_frame.specs.Record.{Record, canonical_len, block_len, block_number, or_length, max_head, max_block, max_archive}
use Rattle.warc_frame.specs.Spelling.{Spells}
use Rattle.warc_frame.specs.Reading.{◌>>=◌, Head, any_fields, fault, begins, version_of, head_len, head_of, block_at, record_of, refuses, at_front, fields_or_line, OrMemory, AnswersAs}
use Rattle.warc_frame.specs.Faults.{within_limit, goes_on, following, ReadsAs, limited, IsFrameFault}
use Rattle.warc_frame.proofs.EmptyLineLemmas.{true_or_false}
use Rattle.warc_frame.proofs.FramedLemmas.{number_small}
use Rattle.warc_frame.proofs.RowLemmas.{bind_err, err_same, refuses-err, option_cases, result_cases}
use Rattle.warc_frame.proofs.ReadLemmas.{head-has, head-looks, record-spelled, le_from}
use Rattle.warc_frame.proofs.SpellLemmas.{record-read}
use Rattle.warc_frame.proofs.StableLemmas.{after_head, record_of-is, no_version, no_end, record-fault-stays}
use Rattle.warc_frame.proofs.FaultLemmas.{limited-kept}

-- a fault of another kind isn't truncation
abbrev IsOther : Fault → Type 0
IsOther f = f.kind ≡ Truncated → ⊥

other_kind : (k : FaultKind) (at : ℕ) (f : Fault) → (k ≡ Truncated → ⊥) → fault k at ≡ f → IsOther f
other_kind k at f ne e is = ne (ap (λ (g : Fault). g.kind) e ∙ is)

line_other : (r : Result (List Pair) ℕ) (f : Fault) → fields_or_line r ≡ Err f → IsOther f
line_other (Ok x) f h = absurd cc
line_other (Err at) f h = other_kind Field (10 + at) f (λ e. cc) (err_same {A = List Pair} _ _ h)

length_other : (o : Option ℕ) (f : Fault) → at_front (or_length o) ≡ Err f → IsOther f
length_other (Some n) f h = absurd cc
length_other None f h = other_kind Length 0 f (λ e. cc) (err_same {A = ℕ} _ _ h)

number_other : (fields : List Pair) (f : Fault) → at_front (block_len fields) ≡ Err f → IsOther f
unfolding block_len
number_other fields f h = ⊎_elim
    (λ (none : (count_of content_length fields == 0) ≡ true). other_kind (Missing ContentLength) 0 f (λ e. cc) (err_same {A = ℕ} _ _ (let e : ◌≡◌ {A = Result ℕ Fault} (Err (fault (Missing ContentLength) 0)) (Err f) = rw none at h in e)))
    (λ (some : (count_of content_length fields == 0) ≡ false). ⊎_elim
    (λ (many : nat_le 2 (count_of content_length fields) ≡ true). other_kind (Repeated ContentLength) 0 f (λ e. cc) (err_same {A = ℕ} _ _ (let e : ◌≡◌ {A = Result ℕ Fault} (Err (fault (Repeated ContentLength) 0)) (Err f) = rw (some, many) at h in e)))
    (λ (one : nat_le 2 (count_of content_length fields) ≡ false). length_other (block_number (first_value content_length fields)) f (let e : at_front (or_length (block_number (first_value content_length fields))) ≡ Err f = rw (some, one) at h in e))
    (true_or_false (nat_le 2 (count_of content_length fields))))
    (true_or_false (count_of content_length fields == 0))

-- the rows of a head that ends
rows : Version → ℕ → List ℕ → Result Head Fault
rows v n t = fields_or_line (area_of (slice_range t 10 (n - 2))) >>= λ fields. refuses (nat_lt max_head (canonical_len v fields)) (fault HeadTooLong 0)
    >>= λ _. at_front (block_len fields) >>= λ k. Ok (record { version = v; fields = fields; len = n; block_len = k })

head-rows : (t : List ℕ) (v : Version) (n : ℕ) → version_of t ≡ Some v → head_len t ≡ Some n → head_of any_fields t ≡ rows v n t
unfolding head_of rows
head-rows t v n h e = rw (h, e) refl

rows_other : (t : List ℕ) (v : Version) (n : ℕ) (f : Fault) → rows v n t ≡ Err f → IsOther f
unfolding rows
rows_other t v n f h = ⊎_elim
    (λ (bad : fields_or_line (area_of (slice_range t 10 (n - 2))) ≡ Err f). line_other _ f bad)
    (λ good. ⊎_elim
    (λ (bad : refuses (nat_lt max_head (canonical_len v good.0)) (fault HeadTooLong 0) ≡ Err f). other_kind HeadTooLong 0 f (λ e. cc) (refuses-err _ _ _ bad).1)
    (λ short. ⊎_elim
    (λ (bad : at_front (block_len good.0) ≡ Err f). number_other good.0 f bad)
    (λ all. absurd (let no : ◌≡◌ {A = Result Head Fault} (Ok (record { version = v; fields = good.0; len = n; block_len = all.0 })) (Err f) = all.2 in cc))
    (bind_err (at_front (block_len good.0)) _ f short.2))
    (bind_err (refuses (nat_lt max_head (canonical_len v good.0)) (fault HeadTooLong 0)) _ f good.2))
    (bind_err (fields_or_line (area_of (slice_range t 10 (n - 2)))) _ f h)

abbrev IsShort : List ℕ → Type 0
IsShort t = length t < max_head + max_block + 4

block_short : (t : List ℕ) (place n : ℕ) (f : Fault) → place ≤ max_head → n ≤ max_block → block_at place n t ≡ Err f → f.kind ≡ Truncated → IsShort t
unfolding block_at
block_short t place n f l m e is = ⊎_elim
    (λ (bad : refuses (not (begins (drop (place + n) t) (crlf ++ crlf))) (fault End (place + n)) ≡ Err f). absurd (other_kind End (place + n) f (λ e. cc) (refuses-err _ _ _ bad).1 is))
    (λ good. ⊎_elim
    (λ (cut : refuses (nat_lt (length t) (place + n + 4)) (fault Truncated (length t)) ≡ Err f). omega (arith, ltb-true _ _ (refuses-err _ _ _ cut).0, l, m))
    (λ ok. absurd (let no : ◌≡◌ {A = Result (List ℕ) Fault} (Ok (slice_range t place (place + n))) (Err f) = ok.2 in cc))
    (bind_err (refuses (nat_lt (length t) (place + n + 4)) (fault Truncated (length t))) _ f good.2))
    (bind_err (refuses (not (begins (drop (place + n) t) (crlf ++ crlf))) (fault End (place + n))) _ f e)

after_short : (t : List ℕ) (head : Head) (f : Fault) → head.len ≤ max_head → head.block_len ≤ max_block → after_head t head ≡ Err f → f.kind ≡ Truncated → IsShort t
unfolding after_head
after_short t head f l m e is = ⊎_elim
    (λ (bad : block_at head.len head.block_len t ≡ Err f). block_short t head.len head.block_len f l m bad is)
    (λ (ok : (block : List ℕ) × (block_at head.len head.block_len t ≡ Ok block) × (◌≡◌ {A = Result (Record × ℕ) Fault} (Ok (record { version = head.version; fields = head.fields; block = block }, head.len + head.block_len + 4)) (Err f))). absurd (let no = ok.2 in cc))
    (bind_err (block_at head.len head.block_len t) _ f e)

fault_from : (t : List ℕ) (f g : Fault) → head_of any_fields t ≡ Err g → record_of any_fields t ≡ Err f → g ≡ f
fault_from t f g a e = err_same {A = Record × ℕ} g f (sym (record_of-is any_fields t ∙ ap (λ r. r >>= after_head t) a) ∙ e)

not_le : (m n : ℕ) → nat_le m n ≡ false → n < m
not_le m n h = ⊎_elim (λ l. l) (λ l. absurd (false≢true (sym h ∙ le-leb m n l))) (cases_lt n m)

-- a text that is cut off is shorter than a record may be
truncated_short : (t : List ℕ) (f : Fault) → record_of any_fields t ≡ Err f → f.kind ≡ Truncated → IsShort t
truncated_short t f e is = ⊎_elim
    (λ (none : version_of t ≡ None). absurd (other_kind NoVersion 0 f (λ e. cc) (fault_from t f _ (no_version any_fields t none) e) is))
    (λ (version : (v : Version) × (version_of t ≡ Some v)). ⊎_elim
    (λ (unended : head_len t ≡ None). ⊎_elim
    (λ (long : nat_le max_head (length t) ≡ true). absurd (other_kind HeadTooLong 0 f (λ e. cc) (fault_from t f _ (no_end any_fields t version.0 version.1 unended (leb-true _ _ long)) e) is))
    (λ (short : nat_le max_head (length t) ≡ false). omega (arith, not_le _ _ short))
    (true_or_false (nat_le max_head (length t))))
    (λ (ends : (n : ℕ) × (head_len t ≡ Some n)). ⊎_elim
    (λ (bad : head_of any_fields t ≡ Err f). absurd (rows_other t version.0 ends.0 f (sym (head-rows t version.0 ends.0 version.1 ends.1) ∙ bad) is))
    (λ (good : (head : Head) × (head_of any_fields t ≡ Ok head) × (after_head t head ≡ Err f)).
    let h = head-has any_fields t good.0 good.1 in
    let looks = head-looks t good.0.version good.0.len h.version h.len in
    after_short t good.0 f looks.short (number_small good.0.fields good.0.block_len h.number) good.2 is)
    (bind_err (head_of any_fields t) (after_head t) f (sym (record_of-is any_fields t) ∙ e)))
    (option_cases (head_len t)))
    (option_cases (version_of t))

at_zero : (f : Fault) → following (0 + 0) f ≡ f
at_zero f = ap (fault f.kind) (let e : 0 + 0 + f.offset ≡ f.offset = omega arith in e)

reads_none : (s : List ℕ) (f : Fault) → s ≢ [] → record_of any_fields s ≡ Err f → ReadsAs any_fields 0 s [] (Some f)
reads_none s f some e = record { front = []; rest = s; text = refl; spelled = refl; accepted = tt; fault_is = (some, f, e, sym (at_zero f)) }

kind_cases : (k : FaultKind) → (k ≡ Truncated) ⊎ (k ≡ Truncated → ⊥)
kind_cases Truncated = inl refl
kind_cases k = inr (λ e. cc)

some_taken : (n : ℕ) (t : List ℕ) → n < length t → 0 < n → take n t ≢ []
some_taken n t l m e = omega (arith, ap length e, length-take n t, l, m)

-- the part before the limit has the same fault, and it isn't truncation
same_before : (n : ℕ) (t : List ℕ) (f : Fault) → n < length t → max_head + max_block + 4 ≤ n → record_of any_fields t ≡ Err f → (record_of any_fields (take n t) ≡ Err f) × IsOther f
same_before n t f l m e =
    let s = take n t in
    let whole : t ≡ s ++ drop n t = sym (take-append-drop n t) in
    ⊎_elim
    (λ (good : (x : Record × ℕ) × (record_of any_fields s ≡ Ok x)).
    let is = record-spelled any_fields s good.0.0 good.0.1 good.1 in
    let split : t ≡ take good.0.1 s ++ (drop good.0.1 s ++ drop n t) = whole ∙ ap (λ xs. xs ++ drop n t) (sym (take-append-drop good.0.1 s)) ∙ append_assoc (take good.0.1 s) (drop good.0.1 s) (drop n t) in
    let read = record-read any_fields good.0.0 (take good.0.1 s) (drop good.0.1 s ++ drop n t) is.1 refl in
    absurd (let no : ◌≡◌ {A = Result (Record × ℕ) Fault} (Ok (good.0.0, length (take good.0.1 s))) (Err f) = sym read ∙ ap (record_of any_fields) (sym split) ∙ e in cc))
    (λ (bad : (g : Fault) × (record_of any_fields s ≡ Err g)). ⊎_elim
    (λ (cut : bad.0.kind ≡ Truncated). absurd (let short = truncated_short s bad.0 bad.1 cut in omega (arith, short, length-take n t, l, m)))
    (λ (other : IsOther bad.0).
    let same : bad.0 ≡ f = err_same {A = Record × ℕ} _ _ (sym (record-fault-stays any_fields s (drop n t) bad.0 bad.1 other) ∙ ap (record_of any_fields) (sym whole) ∙ e) in
    (bad.1 ∙ ap Err same, subst IsOther same other))
    (kind_cases bad.0.kind))
    (result_cases (record_of any_fields s))

limit_room : max_head + max_block + 4 ≤ max_archive - 0
limit_room = omega arith

pub front-fault : (t : List ℕ) (f : Fault) → t ≢ [] → record_of any_fields t ≡ Err f → IsFrameFault 0 t f
unfolding within_limit goes_on
front-fault t f some e = ⊎_elim
    (λ (on : nat_lt (max_archive - 0) (length t) ≡ true).
    let past = ltb-true _ _ on in
    let before = same_before (max_archive - 0) t f past limit_room e in
    record { records = []; found = Some f; before = reads_none (take (max_archive - 0) t) f (some_taken (max_archive - 0) t past (omega (arith, limit_room))) before.0; is = limited-kept _ f before.1 })
    (λ (ends : nat_lt (max_archive - 0) (length t) ≡ false).
    let all : take (max_archive - 0) t ≡ t = take_all (max_archive - 0) t (le_from _ _ ends) in
    record { records = []; found = Some f; before = subst (λ xs. ReadsAs any_fields 0 xs [] (Some f)) (sym all) (reads_none t f some e); is = ap (λ b. limited b (Some f)) ends })
    (true_or_false (nat_lt (max_archive - 0) (length t)))

or_memory : (k : FaultKind) (at : ℕ) (P Q : Type 0) → (P → Q) → OrMemory k at P → OrMemory k at Q
or_memory Memory at P Q f h = h
or_memory k at P Q f h = f h

-- what a call answers is the frame fault
pub fault_at : (x : Result (Record × ℕ) Fault) (t : List ℕ) → t ≢ [] → AnswersAs (λ y. y) x (record_of any_fields t) → IfErr x (λ f. OrMemory f.kind f.offset (IsFrameFault 0 t f))
fault_at (Ok y) t some h = tt
fault_at (Err f) t some h = or_memory f.kind f.offset _ _ (front-fault t f some) h

pub found_at : (x : Result (Record × ℕ) Fault) (t : List ℕ) → AnswersAs (λ y. y) x (record_of any_fields t) → IfOk x (λ y. (y.1 ≤ length t) × Spells y.0 (take y.1 t))
found_at (Ok (r, n)) t h = let is = record-spelled any_fields t r n h in (is.0, is.1)
found_at (Err e) t h = tt

pub only_at : (x : Result (Record × ℕ) Fault) (t : List ℕ) (r : Record) (front rest : List ℕ) → AnswersAs (λ y. y) x (record_of any_fields t) → Spells r front → t ≡ front ++ rest → AnswersAs (λ y. y) x (Ok (r, length front))
only_at x t r front rest h s e = subst (λ c. AnswersAs (λ y. y) x c) (ap (record_of any_fields) e ∙ record-read any_fields r front rest s refl) h
