-- The digest of a payload, from what was read of joined blocks.
use Rattle.std.proofs.Common.{◌≡◌, ℕ, ◌+◌, ◌-◌, ◌<◌, ◌≤◌, Bool, true, false, List, [], ◌∷◌, ◌++◌, length, length-take, take, drop, append-nil, inl, inr, Option, Some, None, Result, Ok, Err, refl, sym, ap, subst, ◌∙◌, arith}
use Rattle.std.specs.Prelude.{IfOk, IfSome}
use Rattle.std.specs.List.{list_any}
use Rattle.std.proofs.lemmas.List.{drop-drop, drop-take, take-append-drop, take-take}
use Rattle.std.proofs.lemmas.List.Elements.{All-cons, All-nil, Contains-push_cases}
use Rattle.std.proofs.lemmas.List.Sums.{sum_by-cons}
use Rattle.httparse.specs.Grammar.{ResponseHead}
use Rattle.warc_fixity.specs.declared.hasher.Digest.{Digest}
use Rattle.warc_fixity.specs.declared.names.Algorithm.{Algorithm}
use Rattle.warc_fixity.specs.Judged.{digest_seen}
use Rattle.warc_fixity.specs.Stated.{block_hash}
use Rattle.warc_frame.specs.Effects.{HasRange, ReadsOnly}
use Rattle.warc_frame.specs.Record.{Record}
use Rattle.warc_frame.specs.Seen.{IsInRange, SeenSource}
use Rattle.warc_frame.proofs.EffectLemmas.{reads_within}
use Rattle.warc_payload.specs.declared.HeadInfo.{HeadInfo}
use Rattle.warc_payload.specs.Head.{HasNoHead, IsInfoOf, front_of}
use Rattle.warc_record.specs.Readings.{reading_of}
use Rattle.warc_segment.specs.Joined.{ReadRecord, ArePlacesOf}
use Rattle.warc_segment.specs.declared.place.Place.{Place}
use Rattle.warc_value.specs.declared.hash.Wanted.TheVariants.{Unchecked}
use Rattle.warc_answer.specs.Giving.{any_bad_at}
use Rattle.warc_answer.specs.Hashed.{HasPayload, IsDigestBy, IsDigestIn, IsDigestOf, IsPayloadIn, StoredPayload}
use Rattle.warc_answer.specs.Payloads.{has_bad_block, is_http_response, whole_block}
use Rattle.warc_answer.specs.Places.{IsInOne, LieIn, ReadsPlaces, len_of, text_at}
use Rattle.warc_answer.specs.declared.hashed.PayloadDigest.{PayloadDigest}
use Rattle.warc_answer.proofs.GiveLemmas.{head_within, on_false, on_true, places_bad, places_text}

-- ---- what was read in two parts

-- the front of a buffer is the front of the text
front_taken : (text buf : List ℕ) (n : ℕ) → n ≤ length buf → take n buf ≡ front_of text → take n buf ≡ take n text
unfolding front_of
front_taken text buf n within same =
    let size : length (take n buf) ≡ length (take 65536 text) = ap length same in
    let less : n ≤ 65536 = omega (arith, length-take n buf, length-take 65536 text) in
    sym (take-take n n buf (omega arith)) ∙ ap (take n) same ∙ take-take n 65536 text less

-- the front after a head, and what was read after the front, is all that is after the head
pub after_head : (text buf : List ℕ) (n head_len : ℕ) → n ≤ length buf → take n buf ≡ front_of text → head_len ≤ n
    → take (n - head_len) (drop head_len buf) ++ drop n text ≡ drop head_len text
after_head text buf n head_len within same less =
    let k : ℕ = n - head_len in
    let split : n ≡ head_len + k = omega arith in
    let front : take k (drop head_len buf) ≡ take k (drop head_len text) =
    sym (drop-take head_len k buf) ∙ ap (λ m. drop head_len (take m buf)) (sym split)
    ∙ ap (drop head_len) (front_taken text buf n within same)
    ∙ ap (λ m. drop head_len (take m text)) split ∙ drop-take head_len k text in
    let rest : drop n text ≡ drop k (drop head_len text) =
    ap (λ m. drop m text) split ∙ sym (drop-drop k head_len text) in
    ap (λ l. l ++ drop n text) front ∙ ap (λ l. take k (drop head_len text) ++ l) rest
    ∙ take-append-drop k (drop head_len text)

pub some_within : (filled : Option ℕ) (n size : ℕ) → filled ≡ Some n → IfSome filled (λ m. m ≤ size) → n ≤ size
some_within filled n size some is = subst (λ (o : Option ℕ). IfSome o (λ m. m ≤ size)) some is

-- a head in the front of a buffer is no longer than that
pub head_taken : (buf : List ℕ) (n : ℕ) (info : HeadInfo) (head : ResponseHead) → n ≤ length buf
    → IsInfoOf (take n buf) info head → info.head_len ≤ n
head_taken buf n info head within is = omega (arith, head_within (take n buf) info head is, length-take n buf)

-- ---- the payload that a digest is of

pub after_digest : (bad : Bool) (text bytes : List ℕ) (info : HeadInfo) (head : ResponseHead) (by : Algorithm)
    (digest : Digest) → bad ≡ false → IsInfoOf text info head → bytes ≡ drop info.head_len text
    → digest_seen digest ≡ (by, block_hash by bytes)
    → IsDigestIn bad true by text (Some (record { digest = digest; coded = info.transfer_coded }))
after_digest bad text bytes info head by digest fine is same seen = (
  Some (record { coded = info.transfer_coded; bytes = drop info.head_len text }),
  on_false _ _ bad fine (head, is.front, is.transfer_coded),
  (refl, seen ∙ ap (λ l. (by, block_hash by l)) same),
)

pub no_head_digest : (bad : Bool) (text : List ℕ) (by : Algorithm) → bad ≡ false → HasNoHead text
    → IsDigestIn bad true by text None
no_head_digest bad text by fine none = (None, on_false _ _ bad fine none, tt)

pub bad_digest : (bad http : Bool) (text : List ℕ) (by : Algorithm) → bad ≡ true → IsDigestIn bad http by text None
bad_digest bad http text by is = (None, on_true _ _ bad is refl, tt)

pub whole_digest : (bad : Bool) (text : List ℕ) (by : Algorithm) (digest : Digest) → bad ≡ false
    → digest_seen digest ≡ (by, block_hash by text)
    → IsDigestIn bad false by text (Some (record { digest = digest; coded = false }))
whole_digest bad text by digest fine seen =
    (Some (record { coded = false; bytes = text }), on_false _ _ bad fine (refl, refl), (refl, seen))

-- ---- from places to records

pub ok_more : {X E : Type 0} {P Q : X → Type 0} (r : Result X E) → ((x : X) → P x → Q x) → IfOk r P → IfOk r Q
ok_more {X} {E} {P} {Q} (Ok x) more is = more x is
ok_more {X} {E} {P} {Q} (Err e) more is = tt

pub digest_by_records : (bytes : List ℕ) (content : Record) (joined : List ReadRecord) (ps : List Place) (http : Bool)
    (by : Algorithm) (digest : Option PayloadDigest) → ArePlacesOf bytes ps joined
    → http ≡ is_http_response (reading_of content.fields)
    → IsDigestIn (any_bad_at bytes ps) http by (text_at ps bytes) digest → IsDigestBy content joined by digest
digest_by_records bytes content joined ps http by digest are same is =
    let other : Bool = is_http_response (reading_of content.fields) in
    let bad : IsPayloadIn (list_any has_bad_block joined) http (text_at ps bytes) is.0 =
    subst (λ (b : Bool). IsPayloadIn b http (text_at ps bytes) is.0) (places_bad bytes ps joined are) is.1 in
    let whole : IsPayloadIn (list_any has_bad_block joined) http (whole_block joined) is.0 =
    subst (λ (l : List ℕ). IsPayloadIn (list_any has_bad_block joined) http l is.0) (places_text bytes ps joined are) bad in
    (is.0, subst (λ (b : Bool). IsPayloadIn (list_any has_bad_block joined) b (whole_block joined) is.0) same whole, is.2)

-- ---- one place

abbrev place_of : ℕ → ℕ → Place
place_of start len = record { start = start; len = len; wanted = Unchecked; truncated = false }

pub one_lies : (bytes : List ℕ) (start len : ℕ) → HasRange start len bytes → LieIn (place_of start len ∷ []) bytes
one_lies bytes start len has = record {
  within = All-cons (λ (p : Place). p.start + p.len ≤ length bytes) (place_of start len) [] has.0 (All-nil (λ (p : Place). p.start + p.len ≤ length bytes));
  short = has.1;
}

pub digest_of_own : (bytes : List ℕ) (start len : ℕ) (http other : Bool) (by : Algorithm) (digest : Option PayloadDigest)
    → http ≡ other
    → IsDigestIn (any_bad_at bytes (place_of start len ∷ [])) http by (text_at (place_of start len ∷ []) bytes) digest
    → (payload : Option StoredPayload) × HasPayload other (take len (drop start bytes)) payload
    × IsDigestOf by payload digest
digest_of_own bytes start len http other by digest same is =
    let text : HasPayload http (take len (drop start bytes)) is.0 =
    subst (λ (l : List ℕ). HasPayload http l is.0) (append-nil (take len (drop start bytes))) is.1 in
    (is.0, subst (λ (b : Bool). HasPayload b (take len (drop start bytes)) is.0) same text, is.2)

in_one : (start len q : ℕ) → IsInOne (place_of start len ∷ []) q → IsInRange start len q
in_one start len q is = elim (Contains-push_cases [] (place_of start len) is.0 is.1) [
  | inl none ↦ absurd (omega (arith, none.1))
  | inr same ↦ subst (λ (p : Place). (p.start ≤ q) × (q < p.start + p.len)) (sym same) (is.2, is.3)
]

pub reads_one : (start len : ℕ) {old new : SeenSource}
    → ReadsPlaces (place_of start len ∷ []) (len_of (place_of start len ∷ []) + len_of (place_of start len ∷ [])) old new
    → ReadsOnly (IsInRange start len) (len + len) old new
reads_one start len has =
    let one : len_of (place_of start len ∷ []) ≡ len + len_of [] = sum_by-cons (λ (q : Place). q.len) (place_of start len) [] in
    let none : len_of [] ≡ 0 = refl in
    reads_within (in_one start len) (omega arith) has

pub once_less : (n : ℕ) → n ≤ n + n
once_less n = omega arith
