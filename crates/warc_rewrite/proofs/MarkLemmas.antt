-- The marks of segments.
use Rattle.std.proofs.Common.{◌≡◌, ◌≢◌, ◌⊎◌, inl, inr, ℕ, zero, suc, ◌+◌, ◌<◌, ◌≤◌, Bool, true, false, cond, ◌&&◌, List, [], ◌∷◌, ◌++◌, length, get_or, take, Option, Some, None, slice_get, refl, sym, ◌∙◌, ap, subst, arith}
use Rattle.std.specs.Prelude.{Contains, slice_set, nat_le}
use Rattle.std.specs.List.{filter_map, enumerate_from, cons_option}
use Rattle.std.proofs.lemmas.Bool.{cases_eq, cases_lt}
use Rattle.std.proofs.lemmas.List.{length-set}
use Rattle.std.proofs.lemmas.List.Elements.{Contains-append_left, Contains-push, Contains-push_cases}
use Rattle.std.proofs.lemmas.Option.{slice_get-get_or, slice_get_within}
use Rattle.std.proofs.lemmas.Slice.Eq.{bytes_eq-Decides}
use Rattle.warc_record.specs.Kinds.{is_continuation}
use Rattle.warc_record.specs.Readings.{Reading}
use Rattle.warc_record.specs.Texts.{is_same_text}
use Rattle.warc_record.specs.declared.readings.SegmentNumber.{SegmentNumber}
use Rattle.warc_record.specs.declared.readings.SegmentNumber.TheVariants.{Absent, Number, Bad}
use Rattle.warc_reading.proofs.PlacedLemmas.{take_one}
use Rattle.warc_segment.specs.Series.{AreMembersAt, IsMemberAt, Member, Piece, member_of, numbered, series_of}
use Rattle.warc_rewrite.specs.declared.needs.Mark.{Mark}
use Rattle.warc_rewrite.specs.declared.needs.Mark.TheVariants.{Segment}
use Rattle.warc_rewrite.specs.Marks.{mark_in, marks_needed, IsMarked, AreTaken, IsSegmentBy, MarksSegments, TakesSeries}
use Rattle.warc_rewrite.proofs.MarkedWayLemmas.{set_here, set_there}

-- ---- the members of a series, as records

-- the record at a position is a member by what its piece says
pub record IsMemberBy (pieces : List Piece) (id : Option (List ℕ)) (p : ℕ) : Type 0 where
  pub piece : Piece
  pub there : slice_get pieces p ≡ Some piece
  pub it : Member
  pub is : member_of id (p, piece) ≡ Some it

numbered_at : (p : ℕ) (piece : Piece) (number : SegmentNumber) (m : Member) → numbered p piece number ≡ Some m → m.position ≡ p
numbered_at p piece Absent m e = absurd (cc)
numbered_at p piece Bad m e = absurd (cc)
numbered_at p piece (Number k) m e = by_test (nat_le 2 k) e
  where
    by_test : (low : Bool)
        → cond low (Some (record { position = p; number = k; total = piece.segment.total; size = piece.size })) None ≡ Some m
        → m.position ≡ p
    by_test false f = absurd (cc)
    by_test true f =
        let is : m ≡ record { position = p; number = k; total = piece.segment.total; size = piece.size } = cc in
        ap (λ (x : Member). x.position) is

member_position : (id : Option (List ℕ)) (p : ℕ) (piece : Piece) (m : Member) → member_of id (p, piece) ≡ Some m → m.position ≡ p
member_position id p piece m e = by_test (is_continuation piece.kind && is_same_text id piece.segment.origin) e
  where
    by_test : (b : Bool) → cond b (numbered p piece piece.segment.number) None ≡ Some m → m.position ≡ p
    by_test false f = absurd (cc)
    by_test true f = numbered_at p piece piece.segment.number m f

-- a member at n + k of the pieces from n on is the k-th of them
pub record IsFromPiece (pieces : List Piece) (id : Option (List ℕ)) (n : ℕ) (m : Member) : Type 0 where
  pub k : ℕ
  pub piece : Piece
  pub there : slice_get pieces k ≡ Some piece
  pub is : member_of id (n + k, piece) ≡ Some m

cons_found : {X : Type 0} (o : Option X) (xs : List X) (k : ℕ) (x : X) → slice_get (cons_option o xs) k ≡ Some x
    → (o ≡ Some x) ⊎ ((j : ℕ) × (slice_get xs j ≡ Some x))
cons_found None xs k x at = inr (k, at)
cons_found (Some y) xs zero x at = inl at
cons_found (Some y) xs (suc k) x at = inr (k, at)

found_from : (pieces : List Piece) (id : Option (List ℕ)) (n k : ℕ) (m : Member)
    → slice_get (filter_map (member_of id) (enumerate_from n pieces)) k ≡ Some m → IsFromPiece pieces id n m
found_from [] id n k m at = absurd (cc)
found_from (piece ∷ pieces) id n k m at =
    elim (cons_found (member_of id (n, piece)) (filter_map (member_of id) (enumerate_from (n + 1) pieces)) k m at) [
      | inl here ↦
          let z : n ≡ n + 0 = omega arith in
          record { k = 0; piece = piece; there = refl; is = subst (λ (p : ℕ). member_of id (p, piece) ≡ Some m) z here }
      | inr later ↦
          let rest : IsFromPiece pieces id (n + 1) m = found_from pieces id (n + 1) later.0 m later.1 in
          let z : (n + 1) + rest.k ≡ n + suc rest.k = omega arith in
          record {
            k = suc rest.k;
            piece = rest.piece;
            there = rest.there;
            is = subst (λ (p : ℕ). member_of id (p, rest.piece) ≡ Some m) z rest.is;
          }
    ]

pub member_by : (pieces : List Piece) (id : Option (List ℕ)) (p : ℕ) → IsMemberAt (series_of id pieces) p → IsMemberBy pieces id p
member_by pieces id p is =
    let at : slice_get (series_of id pieces) is.listed.0 ≡ Some is.it =
    slice_get-get_or (series_of id pieces) is.listed.0 is.it is.listed.1 ∙ ap Some is.listed.2 in
    let from : IsFromPiece pieces id 0 is.it = found_from pieces id 0 is.listed.0 is.it at in
    let there : is.it.position ≡ 0 + from.k = member_position id (0 + from.k) from.piece is.it from.is in
    let same : from.k ≡ p = omega (arith, there, is.position) in
    let same_too : 0 + from.k ≡ p = omega (arith, there, is.position) in
    record {
      piece = from.piece;
      there = subst (λ (k : ℕ). slice_get pieces k ≡ Some from.piece) same from.there;
      it = is.it;
      is = subst (λ (k : ℕ). member_of id (k, from.piece) ≡ Some is.it) same_too from.is;
    }

pub member_within : (pieces : List Piece) (id : Option (List ℕ)) (p : ℕ) → IsMemberAt (series_of id pieces) p → p < length pieces
member_within pieces id p is =
    let by : IsMemberBy pieces id p = member_by pieces id p is in slice_get_within pieces p by.piece by.there

-- ---- a record is in one series

texts_same : (id : Option (List ℕ)) (origin : Option (List ℕ)) → is_same_text id origin ≡ true → id ≡ origin
texts_same None origin e = cc
texts_same (Some id) None e = cc
texts_same (Some id) (Some origin) e = ap Some ((bytes_eq-Decides id origin).0 e)

and_second : (a b : Bool) → (a && b) ≡ true → b ≡ true
and_second true b e = e
and_second false b e = cc

id_is_origin : (id : Option (List ℕ)) (p : ℕ) (piece : Piece) (m : Member) → member_of id (p, piece) ≡ Some m → id ≡ piece.segment.origin
id_is_origin id p piece m e = by_test (is_continuation piece.kind && is_same_text id piece.segment.origin) refl e
  where
    by_test : (b : Bool) → (is_continuation piece.kind && is_same_text id piece.segment.origin) ≡ b
        → cond b (numbered p piece piece.segment.number) None ≡ Some m → id ≡ piece.segment.origin
    by_test false same f = absurd (cc)
    by_test true same f =
        texts_same id piece.segment.origin (and_second (is_continuation piece.kind) (is_same_text id piece.segment.origin) same)

pub same_id : (pieces : List Piece) (id other : Option (List ℕ)) (p : ℕ) → IsMemberAt (series_of id pieces) p
    → IsMemberAt (series_of other pieces) p → id ≡ other
same_id pieces id other p is too =
    let a : IsMemberBy pieces id p = member_by pieces id p is in
    let b : IsMemberBy pieces other p = member_by pieces other p too in
    let z : Some a.piece ≡ Some b.piece = sym a.there ∙ b.there in
    let y : a.piece ≡ b.piece = cc in
    id_is_origin id p a.piece a.it a.is
    ∙ (ap (λ (x : Piece). x.segment.origin) y ∙ sym (id_is_origin other p b.piece b.it b.is))

-- a member's number isn't 1
low_number : (p : ℕ) (piece : Piece) (number : SegmentNumber) (m : Member) → numbered p piece number ≡ Some m
    → number ≡ Number 1 → ⊥
low_number p piece Absent m e one = cc
low_number p piece Bad m e one = cc
low_number p piece (Number k) m e one =
    let k_is : k ≡ 1 = (cc) in
    let f : numbered p piece (Number 1) ≡ Some m = subst (λ (j : ℕ). numbered p piece (Number j) ≡ Some m) k_is e in
    cc

pub member_not_first : (pieces : List Piece) (id : Option (List ℕ)) (p : ℕ) (piece : Piece) → IsMemberAt (series_of id pieces) p
    → slice_get pieces p ≡ Some piece → piece.segment.number ≢ Number 1
member_not_first pieces id p piece is there =
    let by : IsMemberBy pieces id p = member_by pieces id p is in
    let z : Some piece ≡ Some by.piece = sym there ∙ by.there in
    let y : piece ≡ by.piece = cc in
    λ one. by_test by.piece by.it (is_continuation by.piece.kind && is_same_text id by.piece.segment.origin) by.is
    (ap (λ (x : Piece). x.segment.number) (sym y) ∙ one)
  where
    by_test : (q : Piece) (m : Member) (b : Bool) → cond b (numbered p q q.segment.number) None ≡ Some m
        → q.segment.number ≡ Number 1 → ⊥
    by_test q m false f one = absurd (cc)
    by_test q m true f one = low_number p q q.segment.number m f one

-- ---- a series is marked

segment_marked : (marks : List Mark) (q : ℕ) → mark_in marks q ≡ Segment → IsMarked marks q
segment_marked marks q is = ap marks_needed is

marks_kept : (segments : List ℕ) (old new : List Mark) → MarksSegments segments old new → (q : ℕ) → IsMarked old q → IsMarked new q
marks_kept segments old new marks q is = elim (marks.each q) [
  | inl same ↦ ap marks_needed same ∙ is
  | inr segment ↦ segment_marked new q segment.0
]

pub taken_series : (pieces : List Piece) (head : Reading) (old new : List Mark) (segments : List ℕ) → length old ≡ length pieces
    → AreTaken pieces old → head.segment.number ≡ Number 1 → AreMembersAt (series_of head.id pieces) segments
    → MarksSegments segments old new → TakesSeries pieces head old new
taken_series pieces head old new segments len taken first members marks =
    let each_marked : (q : ℕ) → IsMemberAt (series_of head.id pieces) q → IsMarked new q =
    (λ q is.
    let within : q < length pieces = member_within pieces head.id q is in
    segment_marked new q (marks.all q ((members.each q).1 is) (omega arith))) in
    record {
      kept = marks_kept segments old new marks;
      all = λ q is. each_marked q is.1;
      only = λ q is. elim (marks.each q) [
        | inl same ↦ inl (sym (ap marks_needed same) ∙ is)
        | inr segment ↦ inr (first, (members.each q).0 segment.1)
      ];
      taken = λ s q id is s_in q_in. elim (marks.each s) [
        | inl same ↦ marks_kept segments old new marks q (taken s q id (sym same ∙ is) s_in q_in)
        | inr segment ↦
            let same : id ≡ head.id = same_id pieces id head.id s s_in ((members.each s).0 segment.1) in
            each_marked q (subst (λ (i : Option (List ℕ)). IsMemberAt (series_of i pieces) q) same q_in)
      ];
    }

-- where nothing is left to mark
pub taken_already : (pieces : List Piece) (head : Reading) (old : List Mark) → AreTaken pieces old
    → ((q : ℕ) → IsSegmentBy pieces head q → IsMarked old q) → TakesSeries pieces head old old
taken_already pieces head old taken all =
    record { kept = λ q is. is; all = all; only = λ q is. inl is; taken = taken }

pub taken_before : (pieces : List Piece) (head : Reading) (old : List Mark) (one : ℕ) → AreTaken pieces old
    → IsMemberAt (series_of head.id pieces) one → mark_in old one ≡ Segment → TakesSeries pieces head old old
taken_before pieces head old one taken is marked =
    taken_already pieces head old taken (λ q by. taken one q head.id marked is by.1)

pub none_at : (members : List Member) (q : ℕ) → members ≡ [] → IsMemberAt members q → ⊥
none_at members q none is =
    let z : length members ≡ 0 = ap length none in omega (arith, is.listed.1)

pub taken_none : (pieces : List Piece) (head : Reading) (old : List Mark) → AreTaken pieces old
    → series_of head.id pieces ≡ [] → TakesSeries pieces head old old
taken_none pieces head old taken none =
    taken_already pieces head old taken (λ q by. absurd (none_at (series_of head.id pieces) q none by.1))

pub taken_other : (pieces : List Piece) (head : Reading) (old : List Mark) → AreTaken pieces old
    → (head.segment.number ≡ Number 1 → ⊥) → TakesSeries pieces head old old
taken_other pieces head old taken other =
    taken_already pieces head old taken (λ q by. absurd (other by.0))

-- ---- one segment more

pub segments_none : (marks : List Mark) → MarksSegments [] marks marks
segments_none marks = record { same = refl; each = λ q. inl refl; all = λ q is within. absurd (omega (arith, is.1)) }

pub segments_more : (ss : List ℕ) (old marks : List Mark) (s : ℕ) → MarksSegments ss old marks → s < length marks
    → MarksSegments (ss ++ s ∷ []) old (slice_set marks s Segment)
segments_more ss old marks s before within = record {
  same = length-set marks s Segment ∙ before.same;
  each = λ q. elim (cases_eq q s) [
    | inl same ↦ inr (
      subst (λ (k : ℕ). mark_in (slice_set marks s Segment) k ≡ Segment) (sym same) (set_here marks s Segment within),
      subst (Contains (ss ++ s ∷ [])) (sym same) (Contains-push ss s),
    )
    | inr other ↦ elim (before.each q) [
      | inl kept ↦ inl (set_there marks s q Segment other ∙ kept)
      | inr segment ↦ inr (set_there marks s q Segment other ∙ segment.0, Contains-append_left ss (s ∷ []) q segment.1)
    ]
  ];
  all = λ q is inside. elim (cases_eq q s) [
    | inl same ↦ subst (λ (k : ℕ). mark_in (slice_set marks s Segment) k ≡ Segment) (sym same) (set_here marks s Segment within)
    | inr other ↦ elim (Contains-push_cases ss s q is) [
      | inl earlier ↦ set_there marks s q Segment other ∙ before.all q earlier inside
      | inr same ↦ absurd (other (sym same))
    ]
  ];
}

-- one that is no position
pub segments_past : (ss : List ℕ) (old marks : List Mark) (s : ℕ) → MarksSegments ss old marks → length marks ≤ s
    → MarksSegments (ss ++ s ∷ []) old marks
segments_past ss old marks s before past = record {
  same = before.same;
  each = λ q. elim (before.each q) [
    | inl kept ↦ inl kept
    | inr segment ↦ inr (segment.0, Contains-append_left ss (s ∷ []) q segment.1)
  ];
  all = λ q is inside. elim (Contains-push_cases ss s q is) [
    | inl earlier ↦ before.all q earlier inside
    | inr same ↦ absurd (omega (arith, same, before.same))
  ];
}

pub segments_next : (ss : List ℕ) (i : ℕ) (old marks new : List Mark) → i < length ss → MarksSegments (take i ss) old marks
    → (get_or ss i 0 < length marks → new ≡ slice_set marks (get_or ss i 0) Segment)
    → (length marks ≤ get_or ss i 0 → new ≡ marks) → MarksSegments (take (i + 1) ss) old new
segments_next ss i old marks new within before inside past =
    let s : ℕ = get_or ss i 0 in
    let more : take (i + 1) ss ≡ take i ss ++ s ∷ [] = take_one ss i s (slice_get-get_or ss i 0 within) in
    subst (λ (l : List ℕ). MarksSegments l old new) (sym more) (elim (cases_lt s (length marks)) [
      | inl less ↦
          subst (MarksSegments (take i ss ++ s ∷ []) old) (sym (inside less)) (segments_more (take i ss) old marks s before less)
      | inr beyond ↦
          subst (MarksSegments (take i ss ++ s ∷ []) old) (sym (past beyond)) (segments_past (take i ss) old marks s before beyond)
    ])
