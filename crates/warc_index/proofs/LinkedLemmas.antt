-- What links say of the records that they are kept of.
use Rattle.std.proofs.Common.{◌≡◌, ℕ, zero, suc, ◌+◌, ◌<◌, Bool, true, false, not, ◌&&◌, ◌||◌, ◌==◌, List, [], ◌∷◌, length, map, Option, Some, None, is_some, Result, Err, slice_get, All, refl, sym, ap, subst, ◌∙◌, inl, inr, arith, true≢false, if◌then◌else◌}
use Rattle.std.specs.Prelude.{nat_lt, Contains, IsSome, ok_or}
use Rattle.std.specs.Option.{option_and_then, option_or}
use Rattle.std.specs.Str.{bytes_eq}
use Rattle.std.proofs.lemmas.Bool.{cases_Bool, and_from, and_parts, eqb-true, eq-eqb}
use Rattle.std.proofs.lemmas.Bool.Decides.{nat_tests}
use Rattle.std.proofs.lemmas.List.Elements.{Contains-get_or}
use Rattle.warc_value.specs.Dates.{Instant}
use Rattle.warc_record.specs.declared.types.Kind.{Kind}
use Rattle.warc_record.specs.declared.types.Kind.TheVariants.{Warcinfo, Response, Resource, Request, Metadata, Revisit, Conversion, Continuation, Other}
use Rattle.warc_record.specs.Kinds.{is_revisit}
use Rattle.warc_record.specs.Texts.{is_text, is_same_text}
use Rattle.warc_order.specs.declared.mark.Mark.{Mark}
use Rattle.warc_order.specs.Entries.{Entry, entry_at, entry_of, no_entry, mark_lt, comes_later, HasPosition, IsFrom, IsNone, IsTextAt, IsUpTo}
use Rattle.warc_index.specs.declared.link.Role.{Role}
use Rattle.warc_index.specs.declared.link.Role.TheVariants.{Other as OtherRole, Payload, Digested, UnknownProfile, NamesId, NamesPair, NamesBoth, NamesNothing, LeadsNowhere}
use Rattle.warc_index.specs.declared.unfound.Unfound.{Unfound}
use Rattle.warc_index.specs.declared.unfound.Unfound.TheVariants.{UnknownProfile as IsUnknown, NoReference, Unresolved}
use Rattle.warc_index.specs.Captures.{Indexed, has_payload, is_capture, is_by}
use Rattle.warc_index.specs.Referents.{is_instant, is_of_pair, by_key, by_pair, is_candidate, by_payload, referent_of}
use Rattle.warc_index.specs.Links.{is_same_mark, Link, link_at, bare_link, has_payload_as, ends_as, states_as, states_digest}
use Rattle.warc_index.specs.Linked.{instant_mark, payload_link, revisit_link, named_link, unnamed_link, kind_link, link_of}
use Rattle.warc_index.specs.Orders.{entries_from, capture_entry, ArePlacedOf}
use Rattle.warc_index.proofs.ChoiceLemmas.{latest_is_last}
use Rattle.warc_index.proofs.KeptLemmas.{IsEntryOf, entry_in, IsCaptureEntry, capture_is, HasCaptureEntry, capture_is_present, text_found, text_is, by_mark, later_same, not_true, position_at, position_none}
use Rattle.warc_index.proofs.PassLemmas.{forward, back, IsReached, IsMissed, tested}

-- ---- roles

-- a revisit has no payload of its own, and ends no chain
abbrev Leads : Link → Type 0
Leads l = (has_payload_as l.role ≡ false) × (ends_as l.role ≡ false) × (states_as l.role ≡ false)

unnamed_leads : (digest : Option (List ℕ)) (instant : Option Instant) → Leads (unnamed_link digest instant)
unnamed_leads None instant = (refl, refl, refl)
unnamed_leads (Some d) None = (refl, refl, refl)
unnamed_leads (Some d) (Some i) = (refl, refl, refl)

named_leads : (id : Option (List ℕ)) (pair : Option (List ℕ × Instant)) (r : Indexed) → Leads (named_link id pair r)
named_leads None None r = unnamed_leads r.payload_digest r.instant
named_leads (Some id) None r = (refl, refl, refl)
named_leads None (Some pair) r = (refl, refl, refl)
named_leads (Some id) (Some pair) r = (refl, refl, refl)

revisit_leads : (known : Bool) (r : Indexed) → Leads (revisit_link known r)
revisit_leads false r = (refl, refl, refl)
revisit_leads true r = named_leads r.reference.named_id r.reference.named_pair r

payload_has : (digest : Option (List ℕ)) → has_payload_as (payload_link digest).role ≡ true
payload_has None = refl
payload_has (Some d) = refl

payload_ends : (digest : Option (List ℕ)) → ends_as (payload_link digest).role ≡ true
payload_ends None = refl
payload_ends (Some d) = refl

payload_states : (wanted : List ℕ) (digest : Option (List ℕ)) → states_digest wanted (payload_link digest)
    ≡ is_text wanted digest
payload_states wanted None = refl
payload_states wanted (Some d) = refl

kind_payload : (k : Kind) (r : Indexed) → has_payload_as (kind_link k r).role ≡ has_payload k
kind_payload Warcinfo r = refl
kind_payload Response r = payload_has r.payload_digest
kind_payload Resource r = payload_has r.payload_digest
kind_payload Request r = refl
kind_payload Metadata r = refl
kind_payload Revisit r = (revisit_leads r.reference.known_profile r).0
kind_payload Conversion r = refl
kind_payload Continuation r = refl
kind_payload Other r = refl

pub kind_ends : (k : Kind) (r : Indexed) → ends_as (kind_link k r).role ≡ not (is_revisit k)
kind_ends Warcinfo r = refl
kind_ends Response r = payload_ends r.payload_digest
kind_ends Resource r = payload_ends r.payload_digest
kind_ends Request r = refl
kind_ends Metadata r = refl
kind_ends Revisit r = (revisit_leads r.reference.known_profile r).1
kind_ends Conversion r = refl
kind_ends Continuation r = refl
kind_ends Other r = refl

kind_states : (wanted : List ℕ) (k : Kind) (r : Indexed) →
    states_digest wanted (kind_link k r) ≡ (has_payload k && is_text wanted r.payload_digest)
kind_states wanted Warcinfo r = refl
kind_states wanted Response r = payload_states wanted r.payload_digest
kind_states wanted Resource r = payload_states wanted r.payload_digest
kind_states wanted Request r = refl
kind_states wanted Metadata r = refl
kind_states wanted Revisit r = ap (λ b. b && bytes_eq wanted (revisit_link r.reference.known_profile r).first)
    (revisit_leads r.reference.known_profile r).2
kind_states wanted Conversion r = refl
kind_states wanted Continuation r = refl
kind_states wanted Other r = refl

pub link_there : (all : List Indexed) (p : ℕ) (r : Indexed) → slice_get all p ≡ Some r →
    link_at (map link_of all) p ≡ link_of r
link_there [] p r at = absurd (cc)
link_there (x ∷ all) zero r at = let same : x ≡ r = (cc) in ap link_of same
link_there (x ∷ all) (suc p) r at = link_there all p r at

pub link_past : (all : List Indexed) (p : ℕ) → slice_get all p ≡ None → link_at (map link_of all) p ≡ bare_link
    OtherRole
link_past [] zero at = refl
link_past [] (suc p) at = refl
link_past (x ∷ all) zero at = absurd (cc)
link_past (x ∷ all) (suc p) at = link_past all p at

-- ---- the first of a pair

abbrev pub pair_test : Mark → List Link → Mark → ℕ → Bool
pair_test mark links m p = is_same_mark m mark && has_payload_as (link_at links p).role

same_marks : (a b : Mark) → is_same_mark a b ≡ true → a ≡ b
same_marks a b e =
    let both = and_parts (a.major == b.major) (a.minor == b.minor) e in
    let major : a.major ≡ b.major = eqb-true a.major b.major both.0 in
    let minor : a.minor ≡ b.minor = eqb-true a.minor b.minor both.1 in
    λ i. record { major = major i; minor = minor i }

mark_itself : (a : Mark) → is_same_mark a a ≡ true
mark_itself a = and_from (a.major == a.major) (a.minor == a.minor) (eq-eqb a.major a.major refl) (eq-eqb a.minor
    a.minor refl)

-- the capture that an entry of the target means
pub record IsCaptureAt (all : List Indexed) (uri : List ℕ) (e : Entry) : Type 0 where
  pub it : Indexed
  pub is_present : slice_get all e.position ≡ Some it
  pub kind : is_capture it.kind ≡ true
  pub target : is_text uri it.target ≡ true
  pub instant : Instant
  pub has_instant : it.instant ≡ Some instant
  pub mark : e.mark ≡ instant_mark instant

pub capture_at : (all : List Indexed) (uri : List ℕ) (e : Entry) → Contains (entries_from capture_entry 0 all) e →
    e.text ≡ uri → IsCaptureAt all uri e
capture_at all uri e at text =
    let w : IsEntryOf capture_entry 0 all e = entry_in capture_entry 0 all e at in
    let c : IsCaptureEntry (0 + w.place) w.it e = capture_is (0 + w.place) w.it e w.is in
    let z : 0 + w.place ≡ w.place = omega arith in
    let there : e.position ≡ w.place = ap (λ (f : Entry). f.position) c.is ∙ z in
    let same : c.target ≡ uri = sym (ap (λ (f : Entry). f.text) c.is) ∙ text in
    record {
      it = w.it;
      is_present = ap (slice_get all) there ∙ w.is_present;
      kind = c.kind;
      target = text_is uri w.it.target (c.has_target ∙ ap Some same);
      instant = c.instant;
      has_instant = c.has_instant;
      mark = ap (λ (f : Entry). f.mark) c.is;
    }

payload_captures : (k : Kind) → has_payload k ≡ true → is_capture k ≡ true
payload_captures Response h = refl
payload_captures Resource h = refl
payload_captures Revisit h = refl
payload_captures Warcinfo h = h
payload_captures Request h = h
payload_captures Metadata h = h
payload_captures Conversion h = h
payload_captures Continuation h = h
payload_captures Other h = h

-- a record of the pair, by its parts
pair_parts : (uri : List ℕ) (m : Instant) (r : Indexed) → is_of_pair (uri, m) r ≡ true →
    (has_payload r.kind ≡ true) × (is_text uri r.target ≡ true) × (is_instant m r.instant ≡ true)
pair_parts uri m r h =
    three (has_payload r.kind) (is_text uri r.target) (is_instant m r.instant) h
  where
    three : (a b c : Bool) → (a && b && c) ≡ true → (a ≡ true) × (b ≡ true) × (c ≡ true)
    three true true true e = (refl, refl, refl)
    three true true false e = absurd (true≢false (sym e))
    three true false c e = absurd (true≢false (sym e))
    three false b c e = absurd (true≢false (sym e))

pair_from : (uri : List ℕ) (m : Instant) (r : Indexed) → has_payload r.kind ≡ true → is_text uri r.target ≡ true →
    is_instant m r.instant ≡ true → is_of_pair (uri, m) r ≡ true
pair_from uri m r a b c = three (has_payload r.kind) (is_text uri r.target) (is_instant m r.instant) a b c
  where
    three : (a b c : Bool) → a ≡ true → b ≡ true → c ≡ true → (a && b && c) ≡ true
    three true true true x y z = refl
    three true true false x y z = absurd (true≢false (sym z))
    three true false c x y z = absurd (true≢false (sym y))
    three false b c x y z = absurd (true≢false (sym x))

-- a record of the pair has its entry, which passes the test
record HasPairEntry (all : List Indexed) (uri : List ℕ) (m : Instant) (p : ℕ) : Type 0 where
  is_present : Contains (entries_from capture_entry 0 all) (entry_of uri (instant_mark m) p)
  passes : pair_test (instant_mark m) (map link_of all) (instant_mark m) p ≡ true

role_test : (all : List Indexed) (p : ℕ) (r : Indexed) → slice_get all p ≡ Some r →
    has_payload_as (link_at (map link_of all) p).role ≡ has_payload r.kind
role_test all p r at = ap (λ (l : Link). has_payload_as l.role) (link_there all p r at) ∙ kind_payload r.kind r

has_pair_entry : (all : List Indexed) (uri : List ℕ) (m : Instant) (p : ℕ) (r : Indexed) →
    All (λ (r : Indexed). IsSome r.instant) all → slice_get all p ≡ Some r → is_of_pair (uri, m) r ≡ true →
    HasPairEntry all uri m p
has_pair_entry all uri m p r timed at hit =
    let parts = pair_parts uri m r hit in
    let h : HasCaptureEntry uri all p r = capture_is_present all uri p r timed at (and_from (is_capture r.kind) (is_text
    uri r.target) (payload_captures r.kind parts.0) parts.1) in
    let same : instant_mark h.instant ≡ instant_mark m = same_marks (instant_mark h.instant) (instant_mark m)
    (sym (ap (is_instant m) h.has_instant) ∙ parts.2) in
    record {
      is_present = subst (λ w. Contains (entries_from capture_entry 0 all) (entry_of uri w p)) same h.is_present;
      passes = and_from (is_same_mark (instant_mark m) (instant_mark m)) (has_payload_as (link_at (map link_of all)
          p).role) (mark_itself (instant_mark m)) (role_test all p r at ∙ parts.0);
    }

mark_not_below : (a : Mark) → mark_lt a a ≡ false
mark_not_below a = numbers a.major a.minor
  where
    numbers : (m n : ℕ) → (nat_lt m m || (m == m && nat_lt n n)) ≡ false
    numbers m n = grind (arith, nat_tests)

later_by_position : (uri text : List ℕ) (a b : Mark) (p q : ℕ) → a ≡ b → q < p →
    comes_later (entry_of text a p) (entry_of uri b q) ≡ true
later_by_position uri text a b p q same lt =
    ap (λ w. comes_later (entry_of text w p) (entry_of uri b q)) same ∙ numbers b.major b.minor
  where
    numbers : (m n : ℕ) → ((nat_lt m m || (m == m && nat_lt n n)) || (not (nat_lt m m || (m == m && nat_lt n n))
        && nat_lt q p)) ≡ true
    numbers m n = grind (arith, nat_tests)

entry_contained : (es : List Entry) (i : ℕ) → i < length es → Contains es (entry_at es i)
entry_contained es i lt = Contains-get_or es i no_entry lt

found_pair : (all : List Indexed) (uri : List ℕ) (m : Instant) (i : ℕ) →
    All (λ (r : Indexed). IsSome r.instant) all →
    IsReached forward (entries_from capture_entry 0 all) (IsFrom uri (instant_mark m)) (pair_test (instant_mark m) (map
    link_of all)) i → tested (pair_test (instant_mark m) (map link_of all)) (entry_at (entries_from capture_entry 0 all)
    i) ≡ true → by_pair all (uri, m) ≡ Some (entry_at (entries_from capture_entry 0 all) i).position
found_pair all uri m i timed reached hit =
    let es : List Entry = entries_from capture_entry 0 all in
    let e : Entry = entry_at es i in
    let both = and_parts (is_same_mark e.mark (instant_mark m)) (has_payload_as (link_at (map link_of all)
    e.position).role) hit in
    let w : IsCaptureAt all uri e = capture_at all uri e (entry_contained es i reached.within) reached.passes.text_is in
    let same : e.mark ≡ instant_mark m = same_marks e.mark (instant_mark m) both.0 in
    position_at (is_of_pair (uri, m)) all e.position w.it w.is_present
    (pair_from uri m w.it (sym (role_test all e.position w.it w.is_present) ∙ both.1) w.target
    (ap (is_instant m) w.has_instant ∙ (ap (λ k. is_same_mark k (instant_mark m)) (sym w.mark) ∙ both.0)))
    (λ j r lt at. elim (cases_Bool (is_of_pair (uri, m) r)) [
      | inl yes1 ↦
          let h : HasPairEntry all uri m j = has_pair_entry all uri m j r timed at yes1 in
          absurd (true≢false (sym h.passes ∙ reached.before (entry_of uri (instant_mark m) j) h.is_present (record {
            text_is = refl;
            from = mark_not_below (instant_mark m);
          }) (later_by_position uri e.text e.mark (instant_mark m) e.position j same lt)))
      | inr no1 ↦ no1
    ])

missed_pair : (all : List Indexed) (uri : List ℕ) (m : Instant) → All (λ (r : Indexed). IsSome r.instant) all →
    IsMissed (entries_from capture_entry 0 all) (IsFrom uri (instant_mark m)) (pair_test (instant_mark m) (map link_of
    all)) → by_pair all (uri, m) ≡ None
missed_pair all uri m timed missed =
    position_none (is_of_pair (uri, m)) all (λ j r at. elim (cases_Bool (is_of_pair (uri, m) r)) [
      | inl yes1 ↦
          let h : HasPairEntry all uri m j = has_pair_entry all uri m j r timed at yes1 in
          absurd (true≢false (sym h.passes ∙ missed (entry_of uri (instant_mark m) j) h.is_present (record {
            text_is = refl;
            from = mark_not_below (instant_mark m);
          })))
      | inr no1 ↦ no1
    ])

-- after the first of another mark, which isn't below this one, none has it
numbers_above : (m n p i j q : ℕ) → (nat_lt m i || (m == i && nat_lt n j)) ≡ false → ((m == i) && (n == j)) ≡ false →
    ((nat_lt i m || (i == m && nat_lt j n)) || (not (nat_lt m i || (m == i && nat_lt n j)) && nat_lt q p)) ≡ true
numbers_above m n p i j q a b = grind (arith, nat_tests)

pub over_pair : (es : List Entry) (uri : List ℕ) (mark : Mark) (links : List Link) (i : ℕ) →
    IsReached forward es (IsFrom uri mark) (pair_test mark links) i → is_same_mark (entry_at es i).mark mark ≡ false →
    IsMissed es (IsFrom uri mark) (pair_test mark links)
over_pair es uri mark links i reached other q at is = elim (cases_Bool (is_same_mark q.mark mark)) [
  | inr off ↦ ap (λ b. b && has_payload_as (link_at links q.position).role) off
  | inl on ↦
      let e : Entry = entry_at es i in
      let same : q.mark ≡ mark = same_marks q.mark mark on in
      let later : comes_later e (entry_of q.text mark q.position) ≡ true =
      numbers_above e.mark.major e.mark.minor e.position mark.major mark.minor q.position reached.passes.from other in
      reached.before q at is (ap (λ w. comes_later e (entry_of q.text w q.position)) same ∙ later)
]

-- of what is kept
pub pair_found : (all : List Indexed) (es : List Entry) (links : List Link) (uri : List ℕ) (mark : Mark) (m : Instant)
    (i : ℕ) → ArePlacedOf all es links → mark ≡ instant_mark m → IsReached forward es (IsFrom uri mark) (pair_test mark
    links) i → is_same_mark (entry_at es i).mark mark ≡ true → has_payload_as (link_at links (entry_at es
    i).position).role ≡ true → by_pair all (uri, m) ≡ Some (entry_at es i).position
pair_found all es links uri mark m i placed is reached same has = rw (placed.captures) (found_pair all uri m i
    placed.timed (subst (λ ls. Reached (entries_from capture_entry 0 all) ls (instant_mark m)) placed.links (subst (λ
    us. Reached us links (instant_mark m)) placed.captures (subst (Reached es links) is reached))) (subst (λ ls. Hit
    (entries_from capture_entry 0 all) ls (instant_mark m)) placed.links (subst (λ us. Hit us links (instant_mark m))
    placed.captures (subst (Hit es links) is (and_from (is_same_mark (entry_at es i).mark mark) (has_payload_as (link_at
    links (entry_at es i).position).role) same has)))))
  where
    Reached : List Entry → List Link → Mark → Type 0
    Reached us ls k = IsReached forward us (IsFrom uri k) (pair_test k ls) i

    Hit : List Entry → List Link → Mark → Type 0
    Hit us ls k = tested (pair_test k ls) (entry_at us i) ≡ true

pub pair_missed : (all : List Indexed) (es : List Entry) (links : List Link) (uri : List ℕ) (mark : Mark) (m : Instant) →
    ArePlacedOf all es links → mark ≡ instant_mark m → IsMissed es (IsFrom uri mark) (pair_test mark links) →
    by_pair all (uri, m) ≡ None
pair_missed all es links uri mark m placed is missed = missed_pair all uri m placed.timed (subst (λ ls. Missed
    (entries_from capture_entry 0 all) ls (instant_mark m)) placed.links (subst (λ us. Missed us links (instant_mark m))
    placed.captures (subst (Missed es links) is missed)))
  where
    Missed : List Entry → List Link → Mark → Type 0
    Missed us ls k = IsMissed us (IsFrom uri k) (pair_test k ls)

-- ---- the latest with a payload digest

abbrev pub digest_test : List ℕ → List Link → Mark → ℕ → Bool
digest_test digest links m p = states_digest digest (link_at links p)

digest_role : (all : List Indexed) (digest : List ℕ) (p : ℕ) (r : Indexed) → slice_get all p ≡ Some r →
    states_digest digest (link_at (map link_of all) p) ≡ (has_payload r.kind && is_text digest r.payload_digest)
digest_role all digest p r at = ap (states_digest digest) (link_there all p r at) ∙ kind_states digest r.kind r

-- what a revisit that names nothing is looked for by
pub record IsUnnamed (uri digest : List ℕ) (m : Instant) (revisit : Indexed) : Type 0 where
  pub target : revisit.target ≡ Some uri
  pub stated : revisit.payload_digest ≡ Some digest
  pub instant : revisit.instant ≡ Some m

candidate_is : (uri digest : List ℕ) (m : Instant) (revisit r : Indexed) → IsUnnamed uri digest m revisit →
    is_candidate revisit r ≡ (has_payload r.kind && is_text uri r.target && is_text digest r.payload_digest && is_by
    (Some m) r)
candidate_is uri digest m revisit r is =
    ap (λ t. has_payload r.kind && is_same_text t r.target && is_same_text revisit.payload_digest r.payload_digest
    && is_by revisit.instant r) is.target
    ∙ (ap (λ d. has_payload r.kind && is_text uri r.target && is_same_text d r.payload_digest && is_by revisit.instant
    r) is.stated
    ∙ ap (λ i. has_payload r.kind && is_text uri r.target && is_text digest r.payload_digest && is_by i r) is.instant)

all_four : (a b c d : Bool) → (a && b && c && d) ≡ true → (a ≡ true) × (b ≡ true) × (c ≡ true) × (d ≡ true)
all_four true true true true e = (refl, refl, refl, refl)
all_four true true true false e = absurd (true≢false (sym e))
all_four true true false d e = absurd (true≢false (sym e))
all_four true false c d e = absurd (true≢false (sym e))
all_four false b c d e = absurd (true≢false (sym e))

of_four : (a b c d : Bool) → a ≡ true → b ≡ true → c ≡ true → d ≡ true → (a && b && c && d) ≡ true
of_four true true true true w x y z = refl
of_four true true true false w x y z = absurd (true≢false (sym z))
of_four true true false d w x y z = absurd (true≢false (sym y))
of_four true false c d w x y z = absurd (true≢false (sym x))
of_four false b c d w x y z = absurd (true≢false (sym w))

-- a candidate has its entry, which passes the test
record HasCandidateEntry (all : List Indexed) (uri digest : List ℕ) (m : Instant) (p : ℕ) (r : Indexed) : Type 0 where
  instant : Instant
  has_instant : r.instant ≡ Some instant
  is_present : Contains (entries_from capture_entry 0 all) (entry_of uri (instant_mark instant) p)
  up_to : IsUpTo uri (instant_mark m) (entry_of uri (instant_mark instant) p)
  passes : states_digest digest (link_at (map link_of all) p) ≡ true

has_candidate_entry : (all : List Indexed) (uri digest : List ℕ) (m : Instant) (revisit : Indexed) (p : ℕ)
    (r : Indexed) → All (λ (r : Indexed). IsSome r.instant) all → IsUnnamed uri digest m revisit →
    slice_get all p ≡ Some r → is_candidate revisit r ≡ true → HasCandidateEntry all uri digest m p r
has_candidate_entry all uri digest m revisit p r timed is at hit =
    let parts = all_four (has_payload r.kind) (is_text uri r.target) (is_text digest r.payload_digest) (is_by (Some m)
    r) (sym (candidate_is uri digest m revisit r is) ∙ hit) in
    let h : HasCaptureEntry uri all p r = capture_is_present all uri p r timed at (and_from (is_capture r.kind) (is_text
    uri r.target) (payload_captures r.kind parts.0) parts.1) in
    record {
      instant = h.instant;
      has_instant = h.has_instant;
      is_present = h.is_present;
      up_to = record {
        text_is = refl;
        up_to = not_true _ (sym (by_mark m r h.instant h.has_instant) ∙ parts.3);
      };
      passes = digest_role all digest p r at ∙ and_from (has_payload r.kind) (is_text digest r.payload_digest) parts.0
          parts.2;
    }

found_payload : (all : List Indexed) (uri digest : List ℕ) (m : Instant) (revisit : Indexed) (i : ℕ) →
    All (λ (r : Indexed). IsSome r.instant) all → IsUnnamed uri digest m revisit →
    IsReached back (entries_from capture_entry 0 all) (IsUpTo uri (instant_mark m)) (digest_test digest (map link_of
    all)) i → states_digest digest (link_at (map link_of all) (entry_at (entries_from capture_entry 0 all) i).position)
    ≡ true → by_payload all revisit ≡ Some (entry_at (entries_from capture_entry 0 all) i).position
found_payload all uri digest m revisit i timed is reached hit =
    let es : List Entry = entries_from capture_entry 0 all in
    let e : Entry = entry_at es i in
    let w : IsCaptureAt all uri e = capture_at all uri e (entry_contained es i reached.within) reached.passes.text_is in
    let both = and_parts (has_payload w.it.kind) (is_text digest w.it.payload_digest) (sym (digest_role all digest
    e.position w.it w.is_present) ∙ hit) in
    let early : is_by (Some m) w.it ≡ true = by_mark m w.it w.instant w.has_instant
    ∙ (ap (λ k. not (mark_lt (instant_mark m) k)) (sym w.mark) ∙ ap not reached.passes.up_to) in
    ((latest_is_last (is_candidate revisit) all).0 e.position).1 (record {
      it = w.it;
      is_present = w.is_present;
      passes = candidate_is uri digest m revisit w.it is ∙ of_four (has_payload w.it.kind) (is_text uri w.it.target)
          (is_text digest w.it.payload_digest) (is_by (Some m) w.it) both.0 w.target both.1 early;
      last = λ q r at passes.
          let h : HasCandidateEntry all uri digest m q r = has_candidate_entry all uri digest m revisit q r timed is at
          passes in
          let f : Entry = entry_of uri (instant_mark h.instant) q in
          later_same e.position q w.it r e.text uri w.instant h.instant w.has_instant h.has_instant
          ∙ (ap (λ k. comes_later f (entry_of e.text k e.position)) (sym w.mark)
          ∙ elim (cases_Bool (comes_later f e)) [
            | inl later ↦ absurd (true≢false (sym h.passes ∙ reached.before f h.is_present h.up_to later))
            | inr off ↦ off
          ]);
    })

missed_payload : (all : List Indexed) (uri digest : List ℕ) (m : Instant) (revisit : Indexed) →
    All (λ (r : Indexed). IsSome r.instant) all → IsUnnamed uri digest m revisit →
    IsMissed (entries_from capture_entry 0 all) (IsUpTo uri (instant_mark m)) (digest_test digest (map link_of all)) →
    by_payload all revisit ≡ None
missed_payload all uri digest m revisit timed is missed =
    (latest_is_last (is_candidate revisit) all).1.1 (λ q r at. elim (cases_Bool (is_candidate revisit r)) [
      | inl yes1 ↦
          let h : HasCandidateEntry all uri digest m q r = has_candidate_entry all uri digest m revisit q r timed is at
          yes1 in
          absurd (true≢false (sym h.passes ∙ missed (entry_of uri (instant_mark h.instant) q) h.is_present h.up_to))
      | inr no1 ↦ no1
    ])

pub payload_found : (all : List Indexed) (es : List Entry) (links : List Link) (uri digest : List ℕ) (mark : Mark)
    (m : Instant) (revisit : Indexed) (i : ℕ) → ArePlacedOf all es links → IsUnnamed uri digest m revisit →
    mark ≡ instant_mark m → IsReached back es (IsUpTo uri mark) (digest_test digest links) i →
    states_digest digest (link_at links (entry_at es i).position) ≡ true →
    by_payload all revisit ≡ Some (entry_at es i).position
payload_found all es links uri digest mark m revisit i placed unnamed is reached hit = rw (placed.captures)
    (found_payload all uri digest m revisit i placed.timed unnamed (subst (λ ls. Reached (entries_from capture_entry 0
    all) ls (instant_mark m)) placed.links (subst (λ us. Reached us links (instant_mark m)) placed.captures (subst
    (Reached es links) is reached))) (subst (λ ls. Hit (entries_from capture_entry 0 all) ls) placed.links (subst (λ
    us. Hit us links) placed.captures hit)))
  where
    Reached : List Entry → List Link → Mark → Type 0
    Reached us ls k = IsReached back us (IsUpTo uri k) (digest_test digest ls) i

    Hit : List Entry → List Link → Type 0
    Hit us ls = states_digest digest (link_at ls (entry_at us i).position) ≡ true

pub payload_missed : (all : List Indexed) (es : List Entry) (links : List Link) (uri digest : List ℕ) (mark : Mark)
    (m : Instant) (revisit : Indexed) → ArePlacedOf all es links → IsUnnamed uri digest m revisit →
    mark ≡ instant_mark m → IsMissed es (IsUpTo uri mark) (digest_test digest links) →
    by_payload all revisit ≡ None
payload_missed all es links uri digest mark m revisit placed unnamed is missed = missed_payload all uri digest m
    revisit placed.timed unnamed (subst (λ ls. Missed (entries_from capture_entry 0 all) ls (instant_mark m))
    placed.links (subst (λ us. Missed us links (instant_mark m)) placed.captures (subst (Missed es links) is missed)))
  where
    Missed : List Entry → List Link → Mark → Type 0
    Missed us ls k = IsMissed us (IsUpTo uri k) (digest_test digest ls)

-- ---- what a revisit refers to

none_without_target : (all : List Indexed) (revisit : Indexed) → revisit.target ≡ None → by_payload all revisit ≡ None
none_without_target all revisit none = (latest_is_last (is_candidate revisit) all).1.1 (λ q r at.
    ap (λ t. has_payload r.kind && is_same_text t r.target && is_same_text revisit.payload_digest r.payload_digest
    && is_by revisit.instant r) none ∙ off (has_payload r.kind) (is_same_text revisit.payload_digest r.payload_digest)
    (is_by revisit.instant r))
  where
    off : (a c d : Bool) → (a && false && c && d) ≡ false
    off true c d = refl
    off false c d = refl

none_without_digest : (all : List Indexed) (revisit : Indexed) → revisit.payload_digest ≡ None →
    by_payload all revisit ≡ None
none_without_digest all revisit none = (latest_is_last (is_candidate revisit) all).1.1 (λ q r at.
    ap (λ d. has_payload r.kind && is_same_text revisit.target r.target && is_same_text d r.payload_digest
    && is_by revisit.instant r) none ∙ off (has_payload r.kind) (is_same_text revisit.target r.target)
    (is_by revisit.instant r))
  where
    off : (a b d : Bool) → (a && b && false && d) ≡ false
    off true true d = refl
    off true false d = refl
    off false b d = refl

-- the target of the record at a position is the text of its entry
pub target_there : (all : List Indexed) (es : List Entry) (links : List Link) (p : ℕ) (text : List ℕ) (r : Indexed) →
    ArePlacedOf all es links → slice_get all p ≡ Some r → IsTextAt es p text → r.target ≡ Some text
target_there all es links p text r placed at found =
    let w : IsCaptureAt all text found.entry = capture_at all text found.entry (subst (λ us. Contains us found.entry)
    placed.captures found.is_present) found.text_is in
    let one : Some w.it ≡ Some r = sym w.is_present ∙ (ap (slice_get all) found.has_position.position_is ∙ at) in
    let same : w.it ≡ r = (cc) in
    ap (λ (x : Indexed). x.target) (sym same) ∙ text_found text w.it.target w.target

-- a capture without an entry has no target, and so no payload
pub none_without_entry : (all : List Indexed) (es : List Entry) (links : List Link) (p : ℕ) (r : Indexed) →
    ArePlacedOf all es links → slice_get all p ≡ Some r → is_capture r.kind ≡ true → IsNone es (HasPosition p) →
    by_payload all r ≡ None
none_without_entry all es links p r placed at kind none = none_without_target all r (by_target r.target refl)
  where
    by_target : (t : Option (List ℕ)) → r.target ≡ t → r.target ≡ None
    by_target None e = e
    by_target (Some t) e =
        let h : HasCaptureEntry t all p r = capture_is_present all t p r placed.timed at (and_from (is_capture r.kind)
        (is_text t r.target) kind (text_is t r.target e)) in
        let f : Entry = entry_of t (instant_mark h.instant) p in
        absurd (none f (subst (λ us. Contains us f) (sym placed.captures) h.is_present) (record { position_is = refl }))

-- by the role of what is kept
abbrev pub instant_in : Mark → Instant
instant_in mark = (mark.major, mark.minor)

abbrev pub led_to : List Indexed → Indexed → Role → Link → Result ℕ Unfound
led_to all r NamesId l = ok_or (by_key all l.first) Unresolved
led_to all r NamesPair l = ok_or (by_pair all (l.second, instant_in l.mark)) Unresolved
led_to all r NamesBoth l = ok_or (option_or (by_key all l.first) (by_pair all (l.second, instant_in l.mark))) Unresolved
led_to all r NamesNothing l = ok_or (by_payload all r) NoReference
led_to all r UnknownProfile l = Err IsUnknown
led_to all r _ l = Err NoReference

unnamed_leads_to : (all : List Indexed) (r : Indexed) (digest : Option (List ℕ)) (instant : Option Instant) →
    r.payload_digest ≡ digest → r.instant ≡ instant → IsSome r.instant →
    led_to all r (unnamed_link digest instant).role (unnamed_link digest instant) ≡ ok_or (by_payload all r) NoReference
unnamed_leads_to all r None instant d i some1 = ap (λ (o : Option ℕ). ok_or o NoReference) (sym
    (none_without_digest all r d))
unnamed_leads_to all r (Some digest) None d i some1 = absurd (true≢false (sym some1 ∙ ap is_some i))
unnamed_leads_to all r (Some digest) (Some instant) d i some1 = refl

or_none : (o : Option ℕ) → option_or o None ≡ o
or_none None = refl
or_none (Some p) = refl

-- the referent, with what the revisit names apart
abbrev referent_by : List Indexed → Indexed → Bool → Option (List ℕ) → Option (List ℕ × Instant) → Result ℕ Unfound
referent_by all r known id pair =
    if not known then Err IsUnknown
    else if is_some id || is_some pair then ok_or (option_or (option_and_then (by_key all) id) (option_and_then
    (by_pair all) pair)) Unresolved
    else ok_or (by_payload all r) NoReference

named_leads_to : (all : List Indexed) (r : Indexed) → IsSome r.instant → (id : Option (List ℕ))
    (pair : Option (List ℕ × Instant)) → led_to all r (named_link id pair r).role (named_link id pair r)
    ≡ referent_by all r true id pair
named_leads_to all r some1 None None = unnamed_leads_to all r r.payload_digest r.instant refl refl some1
named_leads_to all r some1 (Some id) None = ap (λ (o : Option ℕ). ok_or o Unresolved) (sym (or_none (by_key all id)))
named_leads_to all r some1 None (Some pair) = refl
named_leads_to all r some1 (Some id) (Some pair) = refl

leads_to : (all : List Indexed) (r : Indexed) → IsSome r.instant → (known : Bool) → r.reference.known_profile ≡ known →
    led_to all r (revisit_link known r).role (revisit_link known r) ≡ referent_of all r
leads_to all r some1 false e = ap (λ b. referent_by all r b r.reference.named_id r.reference.named_pair) (sym e)
leads_to all r some1 true e = named_leads_to all r some1 r.reference.named_id r.reference.named_pair
    ∙ ap (λ b. referent_by all r b r.reference.named_id r.reference.named_pair) (sym e)

-- what a link leads to is the referent of the revisit that it is kept of
pub led_to_referent : (all : List Indexed) (r : Indexed) (l : Link) (role : Role) → IsSome r.instant →
    l ≡ revisit_link r.reference.known_profile r → l.role ≡ role → led_to all r role l ≡ referent_of all r
led_to_referent all r l role some1 is e =
    ap (λ x. led_to all r x l) (sym e) ∙ (ap (λ (x : Link). led_to all r x.role x) is
    ∙ leads_to all r some1 r.reference.known_profile refl)

-- what a link says of a revisit that names nothing
unnamed_parts : (digest : Option (List ℕ)) (instant : Option Instant) (l : Link) →
    l ≡ unnamed_link digest instant → l.role ≡ NamesNothing →
    (m : Instant) × (digest ≡ Some l.first) × (instant ≡ Some m) × (l.mark ≡ instant_mark m)
unnamed_parts None instant l is e = let z : LeadsNowhere ≡ NamesNothing = sym (ap (λ (x : Link). x.role) is) ∙ e
    in absurd (cc)
unnamed_parts (Some d) None l is e = let z : LeadsNowhere ≡ NamesNothing = sym (ap (λ (x : Link). x.role) is)
    ∙ e in absurd (cc)
unnamed_parts (Some d) (Some m) l is e = (
  m,
  ap (λ (x : Link). Some x.first) (sym is),
  refl,
  ap (λ (x : Link). x.mark) is,
)

named_parts : (id : Option (List ℕ)) (pair : Option (List ℕ × Instant)) (r : Indexed) (l : Link) →
    l ≡ named_link id pair r → l.role ≡ NamesNothing →
    (m : Instant) × (r.payload_digest ≡ Some l.first) × (r.instant ≡ Some m) × (l.mark ≡ instant_mark m)
named_parts None None r l is e = unnamed_parts r.payload_digest r.instant l is e
named_parts (Some id) None r l is e = let z : NamesId ≡ NamesNothing = sym (ap (λ (x : Link). x.role) is) ∙ e in
    absurd (cc)
named_parts None (Some pair) r l is e = let z : NamesPair ≡ NamesNothing = sym (ap (λ (x : Link). x.role) is) ∙ e in
    absurd (cc)
named_parts (Some id) (Some pair) r l is e = let z : NamesBoth ≡ NamesNothing = sym (ap (λ (x : Link). x.role) is)
    ∙ e in absurd (cc)

pub nothing_parts : (known : Bool) (r : Indexed) (l : Link) → l ≡ revisit_link known r → l.role ≡ NamesNothing →
    (m : Instant) × (r.payload_digest ≡ Some l.first) × (r.instant ≡ Some m) × (l.mark ≡ instant_mark m)
nothing_parts false r l is e = let z : UnknownProfile ≡ NamesNothing = sym (ap (λ (x : Link). x.role) is) ∙ e in
    absurd (cc)
nothing_parts true r l is e = named_parts r.reference.named_id r.reference.named_pair r l is e

-- ---- as the code asks

pub fails_right : (a b : Bool) → b ≡ false → (a && b) ≡ false
fails_right true b e = e
fails_right false b e = refl

-- roles of which nothing is looked for
pub others : (all : List Indexed) (r : Indexed) (role : Role) (l : Link) → (role ≡ NamesId → ⊥) → (role ≡ NamesPair →
    ⊥) → (role ≡ NamesBoth → ⊥) → (role ≡ NamesNothing → ⊥) → (role ≡ UnknownProfile → ⊥) →
    led_to all r role l ≡ Err NoReference
others all r OtherRole l a b c d e = refl
others all r Payload l a b c d e = refl
others all r Digested l a b c d e = refl
others all r LeadsNowhere l a b c d e = refl
others all r UnknownProfile l a b c d e = absurd (e refl)
others all r NamesId l a b c d e = absurd (a refl)
others all r NamesPair l a b c d e = absurd (b refl)
others all r NamesBoth l a b c d e = absurd (c refl)
others all r NamesNothing l a b c d e = absurd (d refl)
