-- How far a search goes on after a place at which no good record begins.
use Rattle.std.proofs.Common.{◌≡◌, ◌≢◌, ℕ, zero, suc, ◌+◌, ◌-◌, ◌<◌, ◌≤◌, max, true, false, List, ◌∷◌, ◌++◌, length, take, drop, get_or, append_assoc, length-append, Bool, [], if◌then◌else◌, Option, Some, None, Result, Err, refl, sym, ap, subst, ◌∙◌, arith, ⊎_elim}
use Rattle.std.specs.Prelude.{is_some, option_map, slice_range}
use Rattle.std.proofs.lemmas.Bool.{and_parts, cases_lt, false_from_ne_true}
use Rattle.std.proofs.lemmas.List.{drop-append-le, drop-drop, length-drop, length-take, length-take-le, take-append-drop, take-append-le, take_all}
use Rattle.memchr.specs.Find.{FindsNeedle, OccursAt}
use Rattle.memchr.proofs.lemmas.MatchLemmas.{OccursAt-from_part, OccursAt-part}
use Rattle.warc_field.specs.Area.{area_of}
use Rattle.warc_field.specs.Lines.{crlf, crlf_at, empty_at}
use Rattle.warc_frame.specs.Reading.{◌>>=◌, empty_line, fault, head_front, head_len, record_of, version_of}
use Rattle.warc_frame.specs.Record.{Record, head_text, max_head}
use Rattle.warc_frame.specs.VersionLine.{version_line}
use Rattle.warc_frame.specs.declared.fault.Fault.{Fault}
use Rattle.warc_frame.specs.declared.fault.FaultKind.{FaultKind}
use Rattle.warc_frame.specs.declared.fault.FaultKind.TheVariants.{Version as NoVersion, Field}
use Rattle.warc_frame.specs.declared.version.Version.{Version}
use Rattle.warc_frame.proofs.EmptyLineLemmas.{crlf_bytes, empty_line-at, empty_line-first, empty_line-more}
use Rattle.warc_frame.proofs.HeadLemmas.{head-place, head_room, head_within, version-begins}
use Rattle.warc_frame.proofs.RowLemmas.{option_cases}
use Rattle.warc_frame.proofs.SpellLemmas.{head-read}
use Rattle.warc_frame.proofs.StableLemmas.{after_head, no_version, record_of-is, take-more}
use Rattle.warc_frame.proofs.StreamHeads.{begins-less, version-more, version_there as version_there_at}
use Rattle.warc_reading.specs.Fronts.{BeginsWithNone}
use Rattle.warc_reading.proofs.RowLemmas.{slice_front}
use Rattle.warc_record.specs.Heads.{head_fault}
use Rattle.warc_pieces.specs.Search.{line_start}
use Rattle.warc_pieces.specs.Skip.{IsShared, NoneFrom, NoneWithin}
use Rattle.warc_pieces.proofs.InsideLemmas.{empty_line_after, head_empty}
use Rattle.warc_pieces.proofs.RunLemmas.{begins_with_none}
use Rattle.warc_pieces.proofs.SearchLemmas.{line_in_rest, none_without_line}
use Rattle.warc_pieces.proofs.WithinLemmas.{bad_line, field_place, none_before_line, none_shared}

-- ---- where a head ends

four : (t : List ℕ) (k : ℕ) → (get_or t k 0 ≡ 13) × (get_or t (suc k) 0 ≡ 10) → (get_or t (suc (suc k)) 0 ≡ 13) × (get_or t (suc (suc (suc k))) 0 ≡ 10)
    → (j : ℕ) → j < length (crlf ++ crlf) → get_or t (k + j) 0 ≡ get_or (crlf ++ crlf) j 0
four t k one two zero less = ap (λ n. get_or t n 0) (let e : k + 0 ≡ k = omega arith in e) ∙ one.0
four t k one two (suc zero) less = ap (λ n. get_or t n 0) (let e : k + 1 ≡ suc k = omega arith in e) ∙ one.1
four t k one two (suc (suc zero)) less = ap (λ n. get_or t n 0) (let e : k + 2 ≡ suc (suc k) = omega arith in e) ∙ two.0
four t k one two (suc (suc (suc zero))) less = ap (λ n. get_or t n 0) (let e : k + 3 ≡ suc (suc (suc k)) = omega arith in e) ∙ two.1
four t k one two (suc (suc (suc (suc j)))) less = absurd (omega (arith, less))

empty_occurs : (t : List ℕ) (k : ℕ) → k + 4 ≤ length t → empty_at t k ≡ true → OccursAt t (crlf ++ crlf) k
empty_occurs t k fits is =
    let both = and_parts (crlf_at t k) (crlf_at t (suc (suc k))) is in
    record {
      fits = fits;
      reads = four t k (crlf_bytes (get_or t k 0) (get_or t (suc k) 0) both.0) (crlf_bytes (get_or t (suc (suc k)) 0) (get_or t (suc (suc (suc k))) 0) both.1);
    }

byte_of : (t : List ℕ) (k j : ℕ) (n : ℕ) → n ≡ k + j → OccursAt t (crlf ++ crlf) k → j < 4 → get_or t n 0 ≡ get_or (crlf ++ crlf) j 0
byte_of t k j n is occurs less = ap (λ m. get_or t m 0) is ∙ occurs.reads j less

occurs_empty : (t : List ℕ) (k : ℕ) → OccursAt t (crlf ++ crlf) k → empty_at t k ≡ true
occurs_empty t k occurs =
    let a = byte_of t k 0 k (omega arith) occurs (omega arith) in
    let b = byte_of t k 1 (suc k) (omega arith) occurs (omega arith) in
    let c = byte_of t k 2 (suc (suc k)) (omega arith) occurs (omega arith) in
    let d = byte_of t k 3 (suc (suc (suc k))) (omega arith) occurs (omega arith) in
    rw (a, b, c, d) refl

-- what occurs in a text before its end, in the text alone
in_text : (needle t more : List ℕ) (p : ℕ) → p + length needle ≤ length t → OccursAt (t ++ more) needle p → OccursAt t needle p
in_text needle t more p fits occurs =
    let n = length needle in
    let same : take n (drop p (t ++ more)) ≡ take n (drop p t) =
    ap (take n) (drop-append-le p t more (omega (arith, fits))) ∙ take-append-le n (drop p t) more (omega (arith, fits, length-drop p t)) in
    OccursAt-from_part t needle p fits (sym same ∙ OccursAt-part (t ++ more) needle p occurs)

of_front : (t : List ℕ) (n p : ℕ) → OccursAt (take n t) (crlf ++ crlf) p → OccursAt t (crlf ++ crlf) p
of_front t n p occurs =
    let front = take n t in
    let fits : p + 4 ≤ length front = occurs.fits in
    let whole : front ++ drop n t ≡ t = take-append-drop n t in
    let same : take 4 (drop p t) ≡ take 4 (drop p front) =
    ap (λ x. take 4 (drop p x)) (sym whole) ∙ ap (take 4) (drop-append-le p front (drop n t) (omega (arith, fits))) ∙ take-append-le 4 (drop p front) (drop n t) (omega (arith, fits, length-drop p front)) in
    OccursAt-from_part t (crlf ++ crlf) p (omega (arith, fits, length-take n t)) (same ∙ OccursAt-part front (crlf ++ crlf) p occurs)

in_rest : (t : List ℕ) (k p : ℕ) → k ≤ length t → OccursAt (drop k t) (crlf ++ crlf) p → OccursAt t (crlf ++ crlf) (k + p)
in_rest t k p low occurs =
    let fits : p + 4 ≤ length (drop k t) = occurs.fits in
    let same : take 4 (drop p (drop k t)) ≡ take 4 (drop (k + p) t) = ap (take 4) (drop-drop p k t) in
    OccursAt-from_part t (crlf ++ crlf) (k + p) (omega (arith, fits, low, length-drop k t)) (sym same ∙ OccursAt-part (drop k t) (crlf ++ crlf) p occurs)

-- the first one of a text is the first one of all that it begins
pub first_found : (t more : List ℕ) (q : ℕ) → FindsNeedle t (crlf ++ crlf) 0 (Some q) → (p : ℕ) → OccursAt (t ++ more) (crlf ++ crlf) p → q ≤ p
first_found t more q finds p occurs =
    let fits : q + 4 ≤ length t = finds.1.fits in
    ⊎_elim
    (λ (before : p < q). absurd (finds.0.before p (omega arith) before (in_text (crlf ++ crlf) t more p (omega (arith, fits, before)) occurs)))
    (λ (after : q ≤ p). after)
    (cases_lt p q)

-- where a text has none, none is in it whole
pub first_beyond : (t more : List ℕ) → FindsNeedle t (crlf ++ crlf) 0 None → (p : ℕ) → OccursAt (t ++ more) (crlf ++ crlf) p → length t ≤ p + 3
first_beyond t more none p occurs = ⊎_elim
    (λ (before : p + 3 < length t). absurd (none p (omega arith) (omega (arith, before)) (in_text (crlf ++ crlf) t more p (omega (arith, before)) occurs)))
    (λ (after : length t ≤ p + 3). after)
    (cases_lt (p + 3) (length t))

-- no good record begins so far before the first one
pub none_far : (t : List ℕ) (k q : ℕ) → ((p : ℕ) → OccursAt t (crlf ++ crlf) p → q ≤ p) → k + max_head < q + 4 → BeginsWithNone (drop k t)
none_far t k q first far = λ r text more whole spelled good.
    let rest = 13 ∷ 10 ∷ (r.block ++ 13 ∷ 10 ∷ 13 ∷ 10 ∷ more) in
    let head : drop k t ≡ head_text r.version spelled.area ++ (r.block ++ 13 ∷ 10 ∷ 13 ∷ 10 ∷ more) = whole ∙ ap (λ x. x ++ more) spelled.text_is ∙ simp append_assoc in
    let own : head_len (drop k t) ≡ Some (length spelled.area + 12) =
    ap head_len head ∙ head-read r.version r.fields spelled.area (r.block ++ 13 ∷ 10 ∷ 13 ∷ 10 ∷ more) spelled.fields spelled.head in
    let one = head-place (drop k t) (length spelled.area + 12) own in
    let two = head_empty (drop k t) (length spelled.area + 12) own in
    let fits : two.0 + 4 ≤ length (drop k t) = omega (arith, two.2, head_within (drop k t) (length spelled.area + 12) own) in
    let occurs = empty_occurs (drop k t) two.0 fits (empty_line-at (drop k t) two.0 two.1) in
    let there = first (k + two.0) (in_rest t k two.0 (omega (arith, fits, length-drop k t)) occurs) in
    omega (arith, there, far, two.2, one.4)

-- the text up to its first empty line is a head, if it isn't too long
pub head_found : (t : List ℕ) (q : ℕ) → FindsNeedle t (crlf ++ crlf) 0 (Some q) → q + 4 ≤ max_head → head_len (take (q + 4) t) ≡ Some (length (take (q + 4) t))
unfolding head_len head_front
head_found t q finds few =
    let n = q + 4 in
    let fits : q + 4 ≤ length t = finds.1.fits in
    let size : length (take n t) ≡ n = length-take-le n t fits in
    let short : take max_head (take n t) ≡ take n t = take_all max_head (take n t) (omega (arith, size, few)) in
    let whole : take n t ++ drop n t ≡ t = take-append-drop n t in
    let P : List ℕ → Type 0 = λ x. OccursAt x (crlf ++ crlf) q in
    let here : OccursAt (take n t) (crlf ++ crlf) q = in_text (crlf ++ crlf) (take n t) (drop n t) q (omega (arith, size)) (subst P (sym whole) finds.1) in
    let place : empty_line (take n t) ≡ Some q = empty_line-first (take n t) q (occurs_empty (take n t) q here)
    (λ j less. false_from_ne_true (empty_at (take n t) j)
    (λ is. finds.0.before j (omega arith) less (of_front t n j (empty_occurs (take n t) j (omega (arith, size, less)) is)))) in
    ap (λ x. option_map (λ p. p + 4) (empty_line x)) short ∙ ap (option_map (λ p. p + 4)) place ∙ ap Some (sym size)

-- what is left of a head after a place is a head, if its end is left
pub head_rest : (t : List ℕ) (k : ℕ) → head_len t ≡ Some (length t) → k + 4 ≤ length t → head_len (drop k t) ≡ Some (length (drop k t))
unfolding head_len head_front
head_rest t k ends room =
    let one = head_empty t (length t) ends in
    let all = head-place t (length t) ends in
    let left : length (drop k t) ≡ length t - k = length-drop k t in
    let short : take max_head (drop k t) ≡ drop k t = take_all max_head (drop k t) (omega (arith, left, all.4)) in
    let place : empty_line (drop k t) ≡ Some (one.0 - k) = empty_line_after k one.0 t one.1 (omega (arith, one.2, room)) in
    ap (λ x. option_map (λ p. p + 4) (empty_line x)) short ∙ ap (option_map (λ p. p + 4)) place ∙ ap Some (omega (arith, left, one.2, room))

-- a head stays where more follows
pub head_len_more : (t more : List ℕ) (len : ℕ) → head_len t ≡ Some len → head_len (t ++ more) ≡ Some len
unfolding head_len head_front
head_len_more t more len is =
    let place = head-place t len is in
    let longer : empty_line (take max_head (t ++ more)) ≡ Some place.0 =
    ap empty_line (take-more max_head t more) ∙ empty_line-more (take max_head t) (take (max_head - length t) more) place.0 place.1 in
    ap (option_map (λ p. p + 4)) longer ∙ ap Some place.2

-- ---- where none begins

-- a shared fault, and one of a line, are those of a head with a version line
version_there : (t : List ℕ) (f : Fault) → record_of head_fault t ≡ Err f → f.kind ≢ NoVersion → (v : Version) × (version_of t ≡ Some v)
version_there t f is other = ⊎_elim
    (λ (none : version_of t ≡ None).
    let same : ◌≡◌ {A = Result (Record × ℕ) Fault} (Err f) (Err (fault NoVersion 0)) = sym is ∙ record_of-is head_fault t ∙ ap (λ r. r >>= after_head t) (no_version head_fault t none) in
    let e : f ≡ fault NoVersion 0 = cc in
    absurd (other (ap (λ (x : Fault). x.kind) e)))
    (λ some. some)
    (option_cases (version_of t))

shared_version : (kind : FaultKind) → IsShared kind → kind ≢ NoVersion
shared_version kind shared is = subst IsShared is shared

pub shared_within : (text more : List ℕ) (len : ℕ) (kind : FaultKind) (f : Fault) → head_len text ≡ Some len → IsShared kind → record_of head_fault (text ++ more) ≡ Err f → f.kind ≡ kind → NoneWithin (text ++ more) len
shared_within text more len kind f ends shared bad same k low below =
    let some : 0 < k = omega (arith, low) in
    let there : IsShared f.kind = subst IsShared (sym same) shared in
    let v = version_there (text ++ more) f bad (shared_version f.kind there) in
    none_shared (text ++ more) v.0 len k f v.1 (head_len_more text more len ends) bad there some below

field_other : (kind : FaultKind) → kind ≡ Field → kind ≢ NoVersion
field_other kind is version = let no : Field ≡ NoVersion = sym is ∙ version in absurd cc

pub line_within : (text more : List ℕ) (len n place : ℕ) (f : Fault) → head_len text ≡ Some len → record_of head_fault (text ++ more) ≡ Err f → f.kind ≡ Field → f.offset ≡ place → n ≤ len → n + 9 ≤ max 10 place → NoneWithin (text ++ more) n
line_within text more len n place f ends bad kind offset few before k low below =
    let some : 0 < k = omega (arith, low) in
    let v = version_there (text ++ more) f bad (field_other f.kind kind) in
    let whole = head_len_more text more len ends in
    let at = field_place (text ++ more) v.0 len f v.1 whole bad kind in
    none_before_line (text ++ more) v.0 len k at.0 v.1 whole at.1 some (omega (arith, below, few)) (omega (arith, below, before, offset, at.2))

-- ---- within a head

version_gone : (o : Option Version) → is_some o ≡ false → o ≡ None
version_gone None is = refl
version_gone (Some v) is = absurd cc

pub version_found : (o : Option Version) → is_some o ≡ true → (v : Version) × (o ≡ Some v)
version_found None is = absurd cc
version_found (Some v) is = (v, refl)

-- a text that begins with no version line, as far as it goes, doesn't when more follows
version_more : (t more : List ℕ) → version_of t ≡ None → version_of (t ++ more) ≡ None
version_more t more none = ⊎_elim
    (λ is. is)
    (λ (some : (v : Version) × (version_of (t ++ more) ≡ Some v)).
    let there = version_there_at t some.0 (begins-less t more (version_line some.0) (version-begins (t ++ more) some.0 some.1)) in
    let no : ◌≡◌ {A = Option Version} None (Some there.0) = sym none ∙ there.1 in
    absurd cc)
    (option_cases (version_of (t ++ more)))

-- no good record is at the front of a text without a version line
none_without_version : (t : List ℕ) → version_of t ≡ None → NoneFrom t 0 1
none_without_version t none k low below =
    let here : k ≡ 0 = omega (arith, below) in
    let bad : record_of head_fault t ≡ Err (fault NoVersion 0) = record_of-is head_fault t ∙ ap (λ r. r >>= after_head t) (no_version head_fault t none) in
    subst (λ n. BeginsWithNone (drop n t)) (sym here) (begins_with_none t (fault NoVersion 0) bad)

pub no_line_there : (head more : List ℕ) → is_some (version_of head) ≡ false → NoneFrom (head ++ more) 0 1
no_line_there head more is = none_without_version (head ++ more) (version_more head more (version_gone (version_of head) is))

pub end_room : (head : List ℕ) → head_len head ≡ Some (length head) → 4 ≤ length head
end_room head ends = let place = head-place head (length head) ends in omega (arith, place.2)

-- a version line and an empty line have their room
pub line_room : (head : List ℕ) → is_some (version_of head) ≡ true → head_len head ≡ Some (length head) → 12 ≤ length head
line_room head is ends =
    let v = version_found (version_of head) is in
    head_room head v.0 (length head) v.1 ends

-- before a line of a head that is no field
pub none_before_bad : (head more : List ℕ) (at : ℕ) → head_len head ≡ Some (length head) → is_some (version_of head) ≡ true
    → area_of (slice_range head 10 (length head - 2)) ≡ Err at → at + 1 ≤ length head → NoneFrom (head ++ more) 0 (at + 1)
none_before_bad head more at ends is bad room k low below =
    let t = head ++ more in
    let len = length head in
    let found = version_found (version_of head) is in
    let v = found.0 in
    let long = line_room head is ends in
    let version : version_of t ≡ Some v = version-more head more (omega (arith, long)) ∙ found.1 in
    let whole : head_len t ≡ Some len = head_len_more head more len ends in
    let area : area_of (slice_range t 10 (len - 2)) ≡ Err at = ap area_of (slice_front 10 (len - 2) head more (omega (arith, long)) (omega arith)) ∙ bad in
    ⊎_elim
    (λ (none : k < 1).
    let here : k ≡ 0 = omega (arith, none) in
    subst (λ n. BeginsWithNone (drop n t)) (sym here) (begins_with_none t (fault Field (10 + at)) (bad_line t v len at version whole area)))
    (λ (some : 1 ≤ k). none_before_line t v len k at version whole area (omega (arith, some)) (omega (arith, below, room)) (omega (arith, below)))
    (cases_lt k 1)

-- places one after another
pub none_on : (t : List ℕ) (from mid to : ℕ) → NoneFrom t from mid → NoneFrom t mid to → NoneFrom t from to
none_on t from mid to first second k low below = ⊎_elim
    (λ (before : k < mid). first k low before)
    (λ (after : mid ≤ k). second k after below)
    (cases_lt k mid)

-- no good record begins at places of a text if none does in what is left of it
pub none_rest : (t : List ℕ) (at n : ℕ) → NoneFrom (drop at t) 0 n → NoneFrom t at (at + n)
none_rest t at n none k low below =
    let sum : at + (k - at) ≡ k = omega (arith, low) in
    let same : drop (k - at) (drop at t) ≡ drop k t = drop-drop (k - at) at t ∙ ap (λ m. drop m t) sum in
    subst BeginsWithNone same (none (k - at) (omega arith) (omega (arith, low, below)))

-- no good record begins before the first version line of what is left of a head
pub none_found : (head more : List ℕ) (at to : ℕ) → ((j : ℕ) → at + j < to → OccursAt (drop at head) line_start j → ⊥) → to ≤ max at (length head - 6)
    → NoneFrom (head ++ more) at to
none_found head more at to absent room k low below = none_without_line (head ++ more) k (λ occurs.
    absent (k - at) (omega (arith, low, below)) (line_in_rest head at k low (in_text line_start head more k (omega (arith, low, below, room)) occurs)))

pub none_before_line_found : (head more : List ℕ) (at place : ℕ) → FindsNeedle (drop at head) line_start 0 (Some place) → NoneFrom (head ++ more) at (at + place)
none_before_line_found head more at place finds =
    let fits : place + 7 ≤ length (drop at head) = finds.1.fits in
    none_found head more at (at + place) (λ j less. finds.0.before j (omega arith) (omega (arith, less))) (omega (arith, fits, length-drop at head))

pub none_at_all : (head more : List ℕ) (at : ℕ) → FindsNeedle (drop at head) line_start 0 None → NoneFrom (head ++ more) at (max at (length head - 6))
none_at_all head more at none =
    none_found head more at (max at (length head - 6)) (λ j less. none j (omega arith) (omega (arith, less, length-drop at head))) (omega arith)

-- and none before what a version line there misfits
pub none_to_misfit : (head more : List ℕ) (at place n : ℕ) → FindsNeedle (drop at head) line_start 0 (Some place) → NoneFrom (drop (at + place) head ++ more) 0 n
    → NoneFrom (head ++ more) at (at + place + n)
none_to_misfit head more at place n finds none =
    let fits : place + 7 ≤ length (drop at head) = finds.1.fits in
    let line = at + place in
    let same : drop line (head ++ more) ≡ drop line head ++ more = drop-append-le line head more (omega (arith, fits, length-drop at head)) in
    let P : List ℕ → Type 0 = λ x. NoneFrom x 0 n in
    none_on (head ++ more) at line (line + n) (none_before_line_found head more at place finds) (none_rest (head ++ more) line n (subst P (sym same) none))

pub none_yet : (t : List ℕ) (at : ℕ) → NoneFrom t at at
none_yet t at k low below = absurd (omega (arith, low, below))

-- ---- beyond a head

-- where a text has no empty line and is the last one
none_ends : (t more : List ℕ) → FindsNeedle t (crlf ++ crlf) 0 None → more ≡ [] → (k : ℕ) → BeginsWithNone (drop k (t ++ more))
none_ends t more none last k = none_far (t ++ more) k (k + max_head) (λ p occurs.
    let beyond = first_beyond t more none p occurs in
    let fits : p + 4 ≤ length (t ++ more) = occurs.fits in
    omega (arith, beyond, fits, length-append t more, ap length last)) (omega arith)

by_end : (t more : List ℕ) (last : Bool) → FindsNeedle t (crlf ++ crlf) 0 None → (last ≡ true → more ≡ []) → (k : ℕ)
    → k < (if last then length t else length t + 1 - max_head) → BeginsWithNone (drop k (t ++ more))
by_end t more true none whole k below = none_ends t more none (whole refl) k
by_end t more false none whole k below =
    none_far (t ++ more) k (length t - 3) (λ p occurs. omega (arith, first_beyond t more none p occurs)) (omega (arith, below))

pub unended_within : (t more : List ℕ) (last : Bool) (n : ℕ) → FindsNeedle t (crlf ++ crlf) 0 None → (last ≡ true → more ≡ [])
    → n ≡ max 1 (if last then length t else length t + 1 - max_head) → NoneWithin (t ++ more) n
unended_within t more last n none whole is k low below =
    let some : ℕ = if last then length t else length t + 1 - max_head in
    by_end t more last none whole k (omega (arith, low, below, is))

-- where its first empty line is too far for a head
pub far_within : (t more : List ℕ) (end n : ℕ) → FindsNeedle t (crlf ++ crlf) 0 (Some end) → n ≡ end + 4 - max_head → NoneWithin (t ++ more) n
far_within t more end n finds is k low below =
    none_far (t ++ more) k end (first_found t more end finds) (omega (arith, below, is))
