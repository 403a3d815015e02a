-- What was reported is what is in the bytes taken.
use Rattle.std.proofs.Common.{◌≡◌, ℕ, zero, suc, ◌+◌, ◌-◌, ◌<◌, ◌≤◌, ◌^◌, true, false, List, [], ◌∷◌, ◌++◌, Option, Some, None, Ok, length, length-append, take, drop, refl, sym, ap, subst, ◌∙◌, arith}
use Rattle.std.proofs.Math.Seq.{drop-append_seam, take-append_seam}
use Rattle.std.proofs.lemmas.List.{append-nil, length-take-le, take_all, drop_all}
use Rattle.std.proofs.lemmas.Bool.{false_from_ne_true, ltb-true}
use Rattle.warc_frame.specs.declared.stream.Phase.{Phase}
use Rattle.warc_frame.specs.declared.stream.Phase.TheVariants as phases
use Rattle.warc_frame.specs.declared.version.Version.TheVariants as versions
use Rattle.warc_frame.specs.Record.{Record, max_archive}
use Rattle.warc_frame.specs.Reading.{Head, any_fields, begins, version_of, empty_line, head_front, head_len, head_of}
use Rattle.warc_frame.specs.Faults.{AllAccepted, within_limit, goes_on}
use Rattle.warc_frame.specs.Reported.{Unclosed, Reported, IsHeadOf, IsCut, Lies, opened, unclosed_of}
use Rattle.warc_frame.specs.Decoding.{State, closing, InHead, InBlock, PhaseIs, IsAt}
use Rattle.warc_frame.proofs.StreamHeads.{cut_head, head_more, head_parts, record_head, record_cut}

-- the front of what closes a record
pub front_begins : (k : ℕ) → k < 4 → begins (take k closing) closing ≡ true
front_begins zero l = refl
front_begins (suc zero) l = refl
front_begins (suc (suc zero)) l = refl
front_begins (suc (suc (suc zero))) l = refl
front_begins (suc (suc (suc (suc k)))) l = absurd (omega arith)

pub front_length : (k : ℕ) → k ≤ 4 → length (take k closing) ≡ k
front_length k h = length-take-le k closing h

-- the head of a part, as it is read
abbrev pub head_reported : Unclosed → List ℕ → Head
head_reported u head = record { version = u.version; fields = u.fields; len = length head; block_len = u.block_len }

pub head_after : (u : Unclosed) (head y : List ℕ) → IsHeadOf u head → head_of any_fields (head ++ y) ≡ Ok (head_reported u head)
head_after u head y h =
    let parts = head_parts any_fields head (head_reported u head) h in
    head_more any_fields head y u.version (length head) parts.0 parts.1 ∙ h

-- in a head
pub cut_in_head : (rest : List ℕ) (o : Option Unclosed) (kept : List ℕ) → InHead rest o kept → IsCut rest × (o ≡ unclosed_of rest)
cut_in_head rest o kept s =
    let cut = cut_head any_fields rest s.version s.version_is s.unended s.room in
    (record_head any_fields rest _ cut, s.reported ∙ sym (ap (λ r. opened r rest) cut))

-- what a block's bytes are followed by, where bytes of the block are to come or not
block_rest : (u : Unclosed) (left matched : ℕ) → u.block_len ≡ length u.bytes + left → matched < 4 → (0 < left → matched ≡ 0)
    → (begins (drop u.block_len (u.bytes ++ take matched closing)) closing ≡ true) × (length (u.bytes ++ take matched closing) < u.block_len + 4) × (take u.block_len (u.bytes ++ take matched closing) ≡ u.bytes)
block_rest u zero matched count fewer first =
    let z : List ℕ = take matched closing in
    let all : u.block_len ≡ length u.bytes = omega (arith, count) in (
      ap (λ k. begins (drop k (u.bytes ++ z)) closing) all ∙ ap (λ x. begins x closing) (drop-append_seam u.bytes z) ∙ front_begins matched fewer,
      omega (arith, all, length-append u.bytes z, front_length matched (omega (arith, fewer)), fewer),
      ap (λ k. take k (u.bytes ++ z)) all ∙ take-append_seam u.bytes z,
    )
block_rest u (suc left) matched count fewer first =
    let none : matched ≡ 0 = first (omega arith) in
    let whole : u.bytes ++ take matched closing ≡ u.bytes = ap (λ k. u.bytes ++ take k closing) none ∙ append-nil u.bytes in (
      ap (λ x. begins x closing) (ap (drop u.block_len) whole ∙ drop_all u.block_len u.bytes (omega (arith, count))),
      omega (arith, ap length whole, count),
      ap (take u.block_len) whole ∙ take_all u.block_len u.bytes (omega (arith, count)),
    )

-- what a text reports that is a head and a part of what follows it
pub unclosed_after : (u : Unclosed) (head y : List ℕ) → IsHeadOf u head → take u.block_len y ≡ u.bytes → unclosed_of (head ++ y) ≡ Some u
unclosed_after u head y h e =
    ap (λ r. opened r (head ++ y)) (head_after u head y h)
    ∙ ap (λ x. Some (record { version = u.version; fields = u.fields; block_len = u.block_len; bytes = x })) (ap (take u.block_len) (drop-append_seam head y) ∙ e)

pub cut_in_block : (rest : List ℕ) (o : Option Unclosed) (left matched : ℕ) → InBlock rest o left matched → IsCut rest × (o ≡ unclosed_of rest)
cut_in_block rest o left matched s =
    let u = s.part in
    let y : List ℕ = u.bytes ++ take matched closing in
    let following = block_rest u left matched s.count s.fewer s.block_first in
    let P : List ℕ → Type 0 = λ x. IsCut x × (o ≡ unclosed_of x) in
    subst P (sym s.rest_is) (
      record_cut any_fields (head_reported u s.head) s.head y (head_after u s.head y s.head_is) refl following.0 following.1,
      s.reported ∙ sym (unclosed_after u s.head y s.head_is following.2),
    )

pub cut_at : (rest : List ℕ) (o : Option Unclosed) (d : State) (phase : Phase) → PhaseIs rest o d phase → IsCut rest × (o ≡ unclosed_of rest)
cut_at rest o d phases.Head s = cut_in_head rest o d.kept s
cut_at rest o d phases.Block s = cut_in_block rest o d.left d.matched s.1
cut_at rest o d (phases.Failed f) s = absurd s

-- what was reported is what is in the bytes taken
pub lies_there : (at : ℕ) (taken : List ℕ) (reported : Reported) (d : State) → IsAt at taken reported d → Lies taken reported
lies_there at taken reported d s =
    let cut = cut_at s.rest reported.unclosed d d.phase s.phase_is in
    record { front = s.front; rest = s.rest; text_is = s.taken_is; spelled = s.spelled; cut = cut.0; unclosed_is = cut.1 }

pub all_accepted : (records : List Record) → AllAccepted any_fields records
all_accepted [] = tt
all_accepted (r ∷ records) = (refl, all_accepted records)

-- a text within the limit, whole
pub within_all : (at : ℕ) (text : List ℕ) → at + length text ≤ 2 ^ 48 → within_limit at text ≡ text
unfolding within_limit
within_all at text h = take_all (max_archive - at) text (omega (arith, h))

pub goes_not_on : (at : ℕ) (text : List ℕ) → at + length text ≤ 2 ^ 48 → goes_on at text ≡ false
unfolding goes_on
goes_not_on at text h = false_from_ne_true _ (λ is. absurd (omega (arith, h, ltb-true _ _ is)))

-- of no bytes nothing speaks against a head
pub empty_version : version_of [] ≡ Some versions.V1_1
unfolding version_of
empty_version = refl

pub empty_head : head_len [] ≡ None
unfolding head_len head_front empty_line
empty_head = refl

pub empty_none : empty_line [] ≡ None
unfolding empty_line
empty_none = refl
