-- Blocks of which the first is judged by itself, and the others are known to be good.
use Rattle.std.proofs.Common.{◌≡◌, ℕ, ◌+◌, ◌*◌, ◌≤◌, Bool, true, false, List, [], ◌∷◌, ◌++◌, length, take, drop, Ok, Err, MatchBool, refl, sym, ap, subst, ◌∙◌, ◌||◌, arith}
use Rattle.std.specs.Prelude.{Contains}
use Rattle.std.specs.List.{list_any}
use Rattle.std.proofs.Math.Seq.{drop-append_seam}
use Rattle.std.proofs.lemmas.Grind.{flat_map-append}
use Rattle.std.proofs.lemmas.List.{take-append-drop}
use Rattle.std.proofs.lemmas.List.Elements.{All-cons, All-head, All-nil, All-tail, Contains-append_left, Contains-append_right}
use Rattle.std.proofs.lemmas.List.Folds.{list_any-append}
use Rattle.std.proofs.lemmas.List.Sums.{sum_by-append}
use Rattle.httparse.specs.Grammar.{ReadsResponse, print_response}
use Rattle.httparse.proofs.GrammarLemmas.{ReadsResponse-append}
use Rattle.warc_field.specs.Area.{Pair}
use Rattle.warc_frame.specs.Effects.{FailsBy}
use Rattle.warc_frame.specs.Seen.{SeenSource}
use Rattle.warc_frame.proofs.EffectLemmas.{reads_within}
use Rattle.warc_segment.specs.Joined.{ArePlacesOf, ReadRecord}
use Rattle.warc_segment.specs.declared.place.Place.{Place}
use Rattle.warc_answer.specs.Giving.{any_bad_at, is_bad_at}
use Rattle.warc_answer.specs.Judging.{IsSeenIn}
use Rattle.warc_answer.specs.Origins.{AreBlocksIn, ReadsToJudge}
use Rattle.warc_answer.specs.Payloads.{has_bad_block}
use Rattle.warc_answer.specs.Places.{LieIn, ReadsPlaces, bytes_at, len_of, text_at}
use Rattle.warc_answer.specs.Replays.{out_result}
use Rattle.warc_answer.specs.Stored.{IsStoredAfter, IsStoredIn, StoredBody}
use Rattle.warc_answer.specs.declared.answer.Reason.{Reason as Why}
use Rattle.warc_answer.specs.declared.answer.Reason.TheVariants.{BadDigest, BadHead, Coded, NotFound, Segments}
use Rattle.warc_answer.specs.declared.answer.ReplayFault.{ReplayFault}
use Rattle.warc_answer.specs.declared.answer.ReplayFault.TheVariants.{Out, Reason}
use Rattle.warc_answer.proofs.GiveLemmas.{blocks_lie, on_true, places_bad}
use Rattle.warc_answer.proofs.JudgeLemmas.{reads_once}

-- ---- a text that goes on

-- a stored body with another mark and length
abbrev pub measured_as : StoredBody → Bool → ℕ → StoredBody
measured_as s truncated length = record {
  status = s.status;
  media_type = s.media_type;
  codings = s.codings;
  coded = s.coded;
  truncated = truncated;
  head_len = s.head_len;
  length = length;
}

head_longer : (text more : List ℕ) (s : StoredBody) (truncated : Bool) (len : ℕ) → IsStoredAfter text s → IsStoredAfter (text ++ more) (measured_as s truncated len)
head_longer text more s truncated len is =
    let reads = ReadsResponse-append text is.head (drop s.head_len text) more is.front.reads in
    let rest : drop s.head_len text ++ more ≡ drop s.head_len (text ++ more) =
    sym (ap (drop (length (print_response is.head))) reads.1 ∙ drop-append_seam (print_response is.head) (drop s.head_len text ++ more))
    ∙ ap (λ k. drop k (text ++ more)) (sym is.head_len_is) in
    record {
      head = is.head;
      front = record {
        reads = (let Q : List ℕ → Type 0 = λ r. ReadsResponse (text ++ more) is.head r in subst Q rest reads);
        size = is.front.size;
        lines = is.front.lines;
      };
      head_len_is = is.head_len_is;
      status_is = is.status_is;
      coded_is = is.coded_is;
      texts = is.texts;
    }

pub stored_longer : (http : Bool) (fields : List Pair) (text more : List ℕ) (s : StoredBody) (truncated : Bool) (len : ℕ) → IsStoredIn http fields text (Ok s)
    → IsStoredIn http fields (text ++ more) (Ok (measured_as s truncated len))
stored_longer true fields text more s truncated len is = head_longer text more s truncated len is
stored_longer false fields text more s truncated len is = record {
  status_is = is.status_is;
  media_type_is = is.media_type_is;
  codings_are = is.codings_are;
  coded_is = is.coded_is;
  head_len_is = is.head_len_is;
}

pub text_both : (bytes : List ℕ) (own others : List Place) → text_at (own ++ others) bytes ≡ text_at own bytes ++ text_at others bytes
text_both bytes own others = flat_map-append (bytes_at bytes) own others

pub bad_both : (bytes : List ℕ) (own others : List Place) → any_bad_at bytes own ≡ false → any_bad_at bytes others ≡ false
    → any_bad_at bytes (own ++ others) ≡ false
bad_both bytes own others one other =
    list_any-append (is_bad_at bytes) own others ∙ (ap (λ b. b || any_bad_at bytes others) one ∙ other)

-- ---- the first place, and those after it

pub parts_of : (places : List Place) → take 1 places ++ drop 1 places ≡ places
parts_of places = take-append-drop 1 places

or_true : (b : Bool) → b || true ≡ true
or_true true = refl
or_true false = refl

pub own_bad : (bytes : List ℕ) (places : List Place) → any_bad_at bytes (take 1 places) ≡ true → any_bad_at bytes places ≡ true
own_bad bytes places is =
    ap (any_bad_at bytes) (sym (parts_of places))
    ∙ (list_any-append (is_bad_at bytes) (take 1 places) (drop 1 places) ∙ ap (λ b. b || any_bad_at bytes (drop 1 places)) is)

pub none_of : (bytes : List ℕ) (places : List Place) → any_bad_at bytes (take 1 places) ≡ false → any_bad_at bytes (drop 1 places) ≡ false
    → any_bad_at bytes places ≡ false
none_of bytes places one other = ap (any_bad_at bytes) (sym (parts_of places)) ∙ bad_both bytes (take 1 places) (drop 1 places) one other

own_in : (places : List Place) (p : Place) → Contains (take 1 places) p → Contains places p
own_in places p in_ =
    let Q : List Place → Type 0 = λ l. Contains l p in subst Q (parts_of places) (Contains-append_left (take 1 places) (drop 1 places) p in_)

after_in : (places : List Place) (p : Place) → Contains (drop 1 places) p → Contains places p
after_in places p in_ =
    let Q : List Place → Type 0 = λ l. Contains l p in subst Q (parts_of places) (Contains-append_right (take 1 places) (drop 1 places) p in_)

len_both : (places : List Place) → len_of (take 1 places) + len_of (drop 1 places) ≡ len_of places
len_both places = sym (sum_by-append (λ (p : Place). p.len) (take 1 places) (drop 1 places)) ∙ ap len_of (parts_of places)

pub reads_own : (places : List Place) (times most : ℕ) {old new : SeenSource} → times ≤ most → ReadsPlaces (take 1 places) (times * len_of (take 1 places)) old new
    → ReadsPlaces places (most * len_of places) old new
reads_own places times most {old} {new} le has =
    let short : len_of (take 1 places) ≤ len_of places = (let e = len_both places in omega (arith, e)) in
    reads_within (λ q (p, in_, from, to). (p, own_in places p in_, from, to)) (scaled times most _ _ le short) has
  where
    scaled : (a b m n : ℕ) → a ≤ b → m ≤ n → a * m ≤ b * n
    scaled a b m n le less = grind (arith, le, less)

pub reads_after : (places : List Place) {old new : SeenSource} → ReadsPlaces (drop 1 places) (len_of (drop 1 places)) old new
    → ReadsPlaces places (len_of places) old new
reads_after places {old} {new} has =
    let e = len_both places in reads_within (λ q (p, in_, from, to). (p, after_in places p in_, from, to)) (omega (arith, e)) has

-- a place ends before the bytes do
abbrev Lies : List ℕ → Place → Type 0
Lies bytes p = p.start + p.len ≤ length bytes

pub lie_own : (bytes : List ℕ) (places : List Place) → LieIn places bytes → LieIn (take 1 places) bytes
lie_own bytes [] lie = record { within = All-nil (Lies bytes); short = lie.short }
lie_own bytes (p ∷ ps) lie =
    record { within = All-cons (Lies bytes) p [] (All-head (Lies bytes) p ps lie.within) (All-nil (Lies bytes)); short = lie.short }

pub lie_after : (bytes : List ℕ) (places : List Place) → LieIn places bytes → LieIn (drop 1 places) bytes
lie_after bytes [] lie = record { within = All-nil (Lies bytes); short = lie.short }
lie_after bytes (p ∷ ps) lie = record { within = All-tail (Lies bytes) p ps lie.within; short = lie.short }

pub own_of : (bytes : List ℕ) (ps : List Place) (rs : List ReadRecord) → ArePlacesOf bytes ps rs → ArePlacesOf bytes (take 1 ps) (take 1 rs)
own_of bytes [] [] are = tt
own_of bytes (p ∷ ps) (r ∷ rs) are = (are.0, tt)
own_of bytes [] (r ∷ rs) are = absurd are
own_of bytes (p ∷ ps) [] are = absurd are

pub after_of : (bytes : List ℕ) (ps : List Place) (rs : List ReadRecord) → ArePlacesOf bytes ps rs → ArePlacesOf bytes (drop 1 ps) (drop 1 rs)
after_of bytes [] [] are = tt
after_of bytes (p ∷ ps) (r ∷ rs) are = are.1
after_of bytes [] (r ∷ rs) are = absurd are
after_of bytes (p ∷ ps) [] are = absurd are

pub after_lie : (bytes : List ℕ) (places after : List Place) → AreBlocksIn places bytes → after ≡ drop 1 places → LieIn after bytes
after_lie bytes places after are is = subst (λ (l : List Place). LieIn l bytes) (sym is) (lie_after bytes places (blocks_lie bytes places are))

pub after_bad : (bytes : List ℕ) (places after : List Place) (are : AreBlocksIn places bytes) (bad found : Bool) → after ≡ drop 1 places → (LieIn after bytes → found ≡ any_bad_at bytes after)
    → found ≡ bad → list_any has_bad_block (drop 1 are.joined) ≡ bad
after_bad bytes places after are bad found is judged test =
    sym (places_bad bytes (drop 1 places) (drop 1 are.joined) (after_of bytes places are.joined are.places_are))
    ∙ (ap (any_bad_at bytes) (sym is) ∙ (sym (judged (after_lie bytes places after are is)) ∙ test))

pub reads_after_of : (places after : List Place) {old new : SeenSource} → after ≡ drop 1 places → ReadsToJudge false after old new → ReadsPlaces places (len_of places) old new
reads_after_of places after {old} {new} is has =
    reads_after places (subst (λ (l : List Place). ReadsPlaces l (len_of l) old new) is (reads_once false after has))

pub reads_own_of : (places own : List Place) (most : ℕ) {old new : SeenSource} → 2 ≤ most → own ≡ take 1 places → ReadsPlaces own (2 * len_of own) old new → ReadsPlaces places (most * len_of places) old new
reads_own_of places own most {old} {new} le is has = reads_own places 2 most le (subst (λ (l : List Place). ReadsPlaces l (2 * len_of l) old new) is has)

-- ---- verdicts on joined records

pub rest_bad : (joined : List ReadRecord) → list_any has_bad_block (drop 1 joined) ≡ true → list_any has_bad_block joined ≡ true
rest_bad [] is = is
rest_bad (r ∷ rs) is = ap (λ b. has_bad_block r || b) is ∙ or_true (has_bad_block r)

or_left : (a b : Bool) → a || b ≡ false → a ≡ false
or_left true b is = is
or_left false b is = refl

or_right : (a b : Bool) → a || b ≡ false → b ≡ false
or_right true b is = absurd (cc is)
or_right false b is = is

or_no : (b : Bool) → b || false ≡ b
or_no true = refl
or_no false = refl

pub own_good : (joined : List ReadRecord) → list_any has_bad_block joined ≡ false → list_any has_bad_block (take 1 joined) ≡ false
own_good [] is = is
own_good (r ∷ rs) is = or_no (has_bad_block r) ∙ or_left (has_bad_block r) (list_any has_bad_block rs) is

pub rest_good : (joined : List ReadRecord) → list_any has_bad_block joined ≡ false → list_any has_bad_block (drop 1 joined) ≡ false
rest_good [] is = is
rest_good (r ∷ rs) is = or_right (has_bad_block r) (list_any has_bad_block rs) is

-- ---- nothing is stored in the first block alone

pub headless_good : (A : Type 0) (http : Bool) (fields : List Pair) (bytes : List ℕ) (places : List Place) (fault : ReplayFault) → fault ≡ Reason BadHead
    → IsSeenIn {A = A} http fields bytes places (Err fault) → any_bad_at bytes places ≡ false
headless_good A http fields bytes places fault same is =
    by_bad (any_bad_at bytes places) (subst (λ (f : ReplayFault). IsSeenIn {A = A} http fields bytes places (Err f)) same is)
  where
    by_bad : (bad : Bool) → MatchBool bad (BadHead ≡ BadDigest) (IsStoredIn http fields (text_at places bytes) (Err BadHead)) → bad ≡ false
    by_bad true x = absurd (cc x)
    by_bad false x = refl

by_bad : (http own whole : Bool) (fields : List Pair) (text other : List ℕ) (why : Why) → (own ≡ true → whole ≡ true) → (why ≡ BadHead → ⊥)
    → MatchBool own (why ≡ BadDigest) (IsStoredIn http fields text (Err why)) → MatchBool whole (why ≡ BadDigest) (IsStoredIn http fields other (Err why))
by_bad http true whole fields text other why longer not is = on_true _ _ whole (longer refl) is
by_bad http false whole fields text other BadHead longer not is = absurd (not refl)
by_bad http false whole fields text other BadDigest longer not is = absurd is
by_bad http false whole fields text other Coded longer not is = absurd is
by_bad http false whole fields text other (NotFound unfound) longer not is = absurd is
by_bad http false whole fields text other (Segments gap) longer not is = absurd is

pub fault_longer : (A B : Type 0) (http : Bool) (fields : List Pair) (bytes : List ℕ) (places : List Place) (fault : ReplayFault) → (fault ≡ Reason BadHead → ⊥)
    → IsSeenIn {A = A} http fields bytes (take 1 places) (Err fault) → IsSeenIn {A = B} http fields bytes places (Err fault)
fault_longer A B http fields bytes places (Reason why) not is =
    by_bad http (any_bad_at bytes (take 1 places)) (any_bad_at bytes places) fields (text_at (take 1 places) bytes) (text_at places bytes) why (own_bad bytes places)
    (λ same. not (ap Reason same)) is
fault_longer A B http fields bytes places (Out e) not is = tt

pub headless_fails : {Expected : List ℕ → Type 0} {old new : SeenSource} (fault : ReplayFault) → fault ≡ Reason BadHead → FailsBy Expected (out_result {X = Unit {0}} (Err fault)) old new
    → new.faults ≡ old.faults
headless_fails {Expected} {old} {new} fault same has =
    (subst (λ (f : ReplayFault). FailsBy Expected (out_result {X = Unit {0}} (Err f)) old new) same has).may
