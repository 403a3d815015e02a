-- The positions of the members of a series, from what is held.
use Rattle.std.proofs.Common.{◌≡◌, ◌≢◌, ℕ, zero, suc, ◌+◌, ◌<◌, Bool, true, false, cond, ◌&&◌, List, [], ◌∷◌, length, get_or, map, Option, Some, None, refl, sym, ◌∙◌, ap, subst, arith}
use Rattle.std.specs.Prelude.{AllPairs, Contains, filter}
use Rattle.std.specs.List.{filter_map, enumerate_from, cons_option}
use Rattle.std.proofs.lemmas.List.Elements.{Contains-get_or}
use Rattle.warc_record.specs.Kinds.{is_continuation}
use Rattle.warc_order.specs.Entries.{Entry, IsFirst, IsFrom, IsNone, entry_at, no_entry}
use Rattle.warc_segment.specs.declared.held.TotalAndPlace.{TotalAndPlace}
use Rattle.warc_segment.specs.declared.series.Continuation.{Continuation}
use Rattle.warc_segment.specs.Series.{Member, Piece, numbered, member_of, series_of, IsMemberAt, AreMembersAt}
use Rattle.warc_segment.specs.Joined.{PlacedRecord, piece_placed}
use Rattle.warc_segment.specs.Ordered.{member_at, members_of}
use Rattle.warc_segment.specs.Kept.{KeptMember, Kept, kept_in}
use Rattle.warc_segment.specs.Held.{kept_from, side_by_side, AreHeld, held_in, continuation_of, ComesBefore, IsKeptAs, IsWholeSeries, positions_of}
use Rattle.warc_segment.proofs.LeastLemmas.{IsReadSoFar, is_present_map, map_is_present, filter_is_present, is_present_filter}
use Rattle.warc_segment.proofs.SameLemmas.{AreSame, contains_is_present, is_present_contains}
use Rattle.warc_segment.proofs.KeptLemmas.{member_kept, is_of, series_is_kept}
use Rattle.warc_segment.proofs.HeldLemmas.{side_at}
use Rattle.warc_segment.proofs.StepLemmas.{entry_of, nothing_before, one_place}
use Rattle.warc_segment.proofs.JoinLemmas.{blank, id_of, of_id, no_facts, same_members}

-- ---- of a whole series

same_series : (p : ℕ) (id : List ℕ) (es : List Entry) (fs : List TotalAndPlace) (series : List Continuation)
    (all : List PlacedRecord) → AreHeld p es fs → held_in p es fs ≡ kept_in all
    → IsWholeSeries id (side_by_side es fs) series
    → AreSame (series_of (Some id) (map piece_placed all)) (members_of series)
same_series p id es fs series all held was whole =
    let members : side_by_side es fs ≡ (kept_in all).members = ap (λ (k : Kept). k.members) was in
    subst (λ (ms : List Member). AreSame ms (members_of series))
    (ap (λ (ms : List KeptMember). map member_kept (filter (is_of id) ms)) members ∙ sym (series_is_kept id all))
    (same_members p id es fs series held whole)

listed : (series : List Continuation) (p : ℕ) → Contains (positions_of series) p → IsMemberAt (members_of series) p
listed series p at =
    let from = is_present_map (λ (c : Continuation). c.position) series p (contains_is_present (positions_of series) p at) in
    record {
      it = member_at from.0;
      listed = is_present_contains (members_of series) (member_at from.0) (map_is_present member_at series from.0 from.1);
      position = from.2;
    }

positioned : (series : List Continuation) (p : ℕ) → IsMemberAt (members_of series) p → Contains (positions_of series) p
positioned series p is =
    let from = is_present_map member_at series is.it (contains_is_present (members_of series) is.it is.listed) in
    let here : Contains (positions_of series) from.0.position =
    is_present_contains (positions_of series) from.0.position
    (map_is_present (λ (c : Continuation). c.position) series from.0 from.1) in
    subst (Contains (positions_of series)) (ap (λ (m : Member). m.position) from.2 ∙ is.position) here

moved : (a b : List Member) (p : ℕ) → ((m : Member) → IsReadSoFar a m → IsReadSoFar b m) → IsMemberAt a p → IsMemberAt b p
moved a b p to is = record {
  it = is.it;
  listed = is_present_contains b is.it (to is.it (contains_is_present a is.it is.listed));
  position = is.position;
}

position_in : (series : List Continuation) (i d : ℕ) (c : Continuation) → i < length series
    → get_or (positions_of series) i d ≡ (get_or series i c).position
position_in [] i d c within = absurd (omega arith)
position_in (x ∷ series) zero d c within = refl
position_in (x ∷ series) (suc i) d c within = position_in series i d c (omega arith)

length_of : (series : List Continuation) → length (positions_of series) ≡ length series
length_of [] = refl
length_of (c ∷ series) = ap suc (length_of series)

-- of a series, no two are at one position
apart : (p : ℕ) (id : List ℕ) (es : List Entry) (fs : List TotalAndPlace) (series : List Continuation) → AreHeld p es fs
    → IsWholeSeries id (side_by_side es fs) series → AllPairs ◌≢◌ (positions_of series)
apart p id es fs series held whole i j d less within =
    let len : length (positions_of series) ≡ length series = length_of series in
    let inside : j < length series = omega arith in
    let inside_i : i < length series = omega arith in
    let a : Continuation = get_or series i blank in
    let b : Continuation = get_or series j blank in
    let before : ComesBefore a b = whole.some.ordered i j blank less inside in
    let kept_a : IsKeptAs id (side_by_side es fs) a = whole.some.kept i blank inside_i in
    let kept_b : IsKeptAs id (side_by_side es fs) b = whole.some.kept j blank inside in
    λ same.
    let at_a : get_or (positions_of series) i d ≡ a.position = position_in series i d blank inside_i in
    let at_b : get_or (positions_of series) j d ≡ b.position = position_in series j d blank inside in
    let equal : a.position ≡ b.position = sym at_a ∙ (same ∙ at_b) in
    let one : kept_a.it ≡ kept_b.it =
    one_place p es fs kept_a.it kept_b.it held kept_a.is_present kept_b.is_present
    (sym (ap (λ (x : Continuation). x.position) kept_a.is) ∙ (equal ∙ ap (λ (x : Continuation). x.position) kept_b.is)) in
    let both : a ≡ b = kept_a.is ∙ (ap continuation_of one ∙ sym kept_b.is) in
    let less_than : a.position < b.position = before.position (ap (λ (x : Continuation). x.number) both) in
    omega arith

pub members_at : (p : ℕ) (id : List ℕ) (es : List Entry) (fs : List TotalAndPlace) (series : List Continuation)
    (all : List PlacedRecord) → AreHeld p es fs → held_in p es fs ≡ kept_in all
    → IsWholeSeries id (side_by_side es fs) series
    → AreMembersAt (series_of (Some id) (map piece_placed all)) (positions_of series)
members_at p id es fs series all held was whole =
    let same : AreSame (series_of (Some id) (map piece_placed all)) (members_of series) =
    same_series p id es fs series all held was whole in
    record {
      each = λ q. (
        (λ at. moved (members_of series) (series_of (Some id) (map piece_placed all)) q same.back (listed series q at)),
        (λ is. positioned series q (moved (series_of (Some id) (map piece_placed all)) (members_of series) q same.to is)),
      );
      once = apart p id es fs series held whole;
    }

-- ---- of an entry

-- what an entry is held as is a member of its text's series
pub member_of_entry : (p i : ℕ) (id : List ℕ) (es : List Entry) (fs : List TotalAndPlace) (all : List PlacedRecord)
    → AreHeld p es fs → held_in p es fs ≡ kept_in all → i < length es → (entry_at es i).text ≡ id
    → IsMemberAt (series_of (Some id) (map piece_placed all)) (entry_at es i).position
member_of_entry p i id es fs all held was within text =
    let members : side_by_side es fs ≡ (kept_in all).members = ap (λ (k : Kept). k.members) was in
    let m : KeptMember = kept_from (entry_at es i) (get_or fs i no_facts) in
    let there : IsReadSoFar (side_by_side es fs) m = (i, side_at es fs i no_entry no_facts held.same within) in
    let passes : IsReadSoFar (filter (is_of id) (side_by_side es fs)) m =
    filter_is_present (is_of id) (side_by_side es fs) m there (id_of id m.origin text) in
    let listed : IsReadSoFar (map member_kept (filter (is_of id) (side_by_side es fs))) (member_kept m) =
    map_is_present member_kept (filter (is_of id) (side_by_side es fs)) m passes in
    let is : map member_kept (filter (is_of id) (side_by_side es fs)) ≡ series_of (Some id) (map piece_placed all) =
    ap (λ (ms : List KeptMember). map member_kept (filter (is_of id) ms)) members ∙ sym (series_is_kept id all) in
    record {
      it = member_kept m;
      listed = subst (λ (ms : List Member). Contains ms (member_kept m)) is (is_present_contains (map member_kept
          (filter (is_of id) (side_by_side es fs))) (member_kept m) listed);
      position = refl;
    }

none_listed : {X : Type 0} (xs : List X) → ((x : X) → IsReadSoFar xs x → ⊥) → xs ≡ []
none_listed [] none = refl
none_listed (x ∷ xs) none = absurd (none x (0, refl))

-- without an entry of the text there is no member
pub no_entry_no_member : (p : ℕ) (id : List ℕ) (es : List Entry) (fs : List TotalAndPlace) (all : List PlacedRecord)
    → AreHeld p es fs → held_in p es fs ≡ kept_in all → ((e : Entry) → Contains es e → e.text ≡ id → ⊥)
    → series_of (Some id) (map piece_placed all) ≡ []
no_entry_no_member p id es fs all held was none =
    let members : side_by_side es fs ≡ (kept_in all).members = ap (λ (k : Kept). k.members) was in
    let is : series_of (Some id) (map piece_placed all) ≡ map member_kept (filter (is_of id) (side_by_side es fs)) =
    series_is_kept id all ∙ ap (λ (ms : List KeptMember). map member_kept (filter (is_of id) ms)) (sym members) in
    let empty : filter (is_of id) (side_by_side es fs) ≡ [] =
    none_listed (filter (is_of id) (side_by_side es fs)) (λ m at.
    let passes = is_present_filter (is_of id) (side_by_side es fs) m at in
    let entry = entry_of es fs passes.0.0 m held.same passes.0.1 in
    none (entry_at es passes.0.0) (Contains-get_or es passes.0.0 no_entry entry.0)
    (sym entry.2 ∙ of_id id m.origin passes.1)) in
    is ∙ ap (map member_kept) empty

-- a record without an id has no series
no_id : (n : ℕ) (pieces : List Piece) → filter_map (member_of None) (enumerate_from n pieces) ≡ []
no_id n [] = refl
no_id n (piece ∷ pieces) =
    ap (λ (o : Option Member). cons_option o (filter_map (member_of None) (enumerate_from (n + 1) pieces)))
    (none_of (is_continuation piece.kind))
    ∙ no_id (n + 1) pieces
  where
    none_of : (b : Bool) → cond (b && false) (numbered n piece piece.segment.number) None ≡ None
    none_of true = refl
    none_of false = refl

no_facts_none : (es : List Entry) (fs : List TotalAndPlace) → length fs ≡ 0 → side_by_side es fs ≡ []
no_facts_none [] fs none = refl
no_facts_none (e ∷ es) [] none = refl
no_facts_none (e ∷ es) (f ∷ fs) none = absurd (omega arith)

-- where nothing is held, no record has segments
pub nothing_held : (p : ℕ) (es : List Entry) (fs : List TotalAndPlace) (all : List PlacedRecord)
    → held_in p es fs ≡ kept_in all → length fs ≡ 0 → (id : Option (List ℕ))
    → series_of id (map piece_placed all) ≡ []
nothing_held p es fs all was none None = no_id 0 (map piece_placed all)
nothing_held p es fs all was none (Some id) =
    let members : side_by_side es fs ≡ (kept_in all).members = ap (λ (k : Kept). k.members) was in
    series_is_kept id all
    ∙ ap (λ (ms : List KeptMember). map member_kept (filter (is_of id) ms)) (sym members ∙ no_facts_none es fs none)

-- where something is held, it is a member of a series
pub something_held : (p : ℕ) (es : List Entry) (fs : List TotalAndPlace) (all : List PlacedRecord)
    → AreHeld p es fs → held_in p es fs ≡ kept_in all → 0 < length es
    → (id : List ℕ) × (q : ℕ) × IsMemberAt (series_of (Some id) (map piece_placed all)) q
something_held p es fs all held was some = (
  (entry_at es 0).text,
  (entry_at es 0).position,
  member_of_entry p 0 (entry_at es 0).text es fs all held was some refl,
)

-- ---- as a look-up finds it

-- the first entry of a text is held as a member
pub from_first : (p i : ℕ) (key id : List ℕ) (es : List Entry) (fs : List TotalAndPlace) (all : List PlacedRecord)
    (position : ℕ) → AreHeld p es fs → held_in p es fs ≡ kept_in all → key ≡ id → i < length es
    → IsFirst es (IsFrom id (record { major = 0; minor = 0 })) (entry_at es i) → position ≡ (entry_at es i).position
    → IsMemberAt (series_of (Some key) (map piece_placed all)) position
from_first p i key id es fs all position held was same within first at =
    subst (IsMemberAt (series_of (Some key) (map piece_placed all))) (sym at)
    (member_of_entry p i key es fs all held was within (first.passes.text_is ∙ sym same))

pub none_from : (p : ℕ) (key id : List ℕ) (es : List Entry) (fs : List TotalAndPlace) (all : List PlacedRecord)
    → AreHeld p es fs → held_in p es fs ≡ kept_in all → key ≡ id
    → IsNone es (IsFrom id (record { major = 0; minor = 0 })) → series_of (Some key) (map piece_placed all) ≡ []
none_from p key id es fs all held was same none =
    no_entry_no_member p key es fs all held was
    (λ e at text. none e at (record { text_is = text ∙ same; from = nothing_before e.mark }))
