-- What a record needs, and what that needs again: positions from which no way leads out.
use Rattle.std.proofs.Common.{◌≡◌, inl, inr, ℕ, zero, suc, ◌+◌, ◌<◌, ◌≤◌, Bool, true, false, ◌&&◌, List, length, map, Option, Some, None, Result, Ok, Err, option_map, slice_get, refl, sym, ◌∙◌, ap, subst, arith, true≢false, if◌then◌else◌}
use Rattle.std.specs.Prelude.{nat_le, option_and_then}
use Rattle.std.specs.Option.{option_map_or}
use Rattle.std.specs.Result.{result_ok}
use Rattle.std.proofs.lemmas.Bool.{and_parts}
use Rattle.std.proofs.lemmas.Bool.Decides.{nat_tests}
use Rattle.std.proofs.lemmas.List.{length-map}
use Rattle.std.proofs.lemmas.Option.{option_and_then_some, slice_get-map, slice_get_within}
use Rattle.warc_frame.specs.Record.{Record}
use Rattle.warc_record.specs.declared.types.Kind.{Kind}
use Rattle.warc_record.specs.declared.types.Kind.TheVariants.{Warcinfo, Response, Resource, Request, Metadata, Revisit, Conversion, Continuation, Other}
use Rattle.warc_record.specs.declared.readings.SegmentNumber.{SegmentNumber}
use Rattle.warc_record.specs.declared.readings.SegmentNumber.TheVariants.{Absent, Number, Bad}
use Rattle.warc_record.specs.Kinds.{is_continuation, is_revisit}
use Rattle.warc_record.specs.Texts.{is_same_text}
use Rattle.warc_index.specs.Captures.{Indexed, indexed_of}
use Rattle.warc_index.specs.Referents.{is_revisit_at, next_of, referent_at}
use Rattle.warc_index.specs.declared.unfound.Unfound.{Unfound}
use Rattle.warc_index.proofs.LoopLemmas.{referent_at-below}
use Rattle.warc_index.specs.Walks.{StaysBelow, walk}
use Rattle.warc_segment.specs.Joined.{ReadRecord, piece_read}
use Rattle.warc_segment.specs.Series.{Member, Piece, member_of, numbered}
use Rattle.warc_answer.specs.Answers.{index_of}
use Rattle.warc_answer.specs.Payloads.{read_record}
use Rattle.warc.specs.ClosedLaws.{AreClosed, NeededAreClosed, OthersAreClosed}
use Rattle.warc_rewrite.specs.Selecting.{ArePositions}
use Rattle.warc_rewrite.specs.Closing.{AreWithNeeded, AreWithout, ComesTo, IsSegmentOf, Needs, NeedsNoOther}
use Rattle.warc.proofs.PartLemmas.{given_at}

-- ---- members of a series

-- a member is a continuation with a number of at least 2, and is at its position
pub record IsMember (p : ℕ) (piece : Piece) (m : Member) : Type 0 where
  pub position : m.position ≡ p
  pub kind : is_continuation piece.kind ≡ true
  pub number : ℕ
  pub is : piece.segment.number ≡ Number number
  pub late : 2 ≤ number

by_number : (p : ℕ) (piece : Piece) (m : Member) (n : SegmentNumber) → is_continuation piece.kind ≡ true → piece.segment.number ≡ n
    → numbered p piece n ≡ Some m → IsMember p piece m
by_number p piece m Absent kind is e = absurd (cc)
by_number p piece m Bad kind is e = absurd (cc)
by_number p piece m (Number k) kind is e = by_test (nat_le 2 k) refl e
  where
    it : Member
    it = record { position = p; number = k; total = piece.segment.total; size = piece.size }

    by_test : (b : Bool) → nat_le 2 k ≡ b → (if b then Some it else None) ≡ Some m → IsMember p piece m
    by_test false low f = absurd (cc)
    by_test true high f =
        let same : it ≡ m = (cc) in
        record { position = ap (λ (x : Member). x.position) (sym same); kind = kind; number = k; is = is; late = grind (arith, nat_tests) }

pub member_is : (id : Option (List ℕ)) (p : ℕ) (piece : Piece) (m : Member) → member_of id (p, piece) ≡ Some m → IsMember p piece m
member_is id p piece m e = by_test (is_continuation piece.kind && is_same_text id piece.segment.origin) refl e
  where
    by_test : (b : Bool) → (is_continuation piece.kind && is_same_text id piece.segment.origin) ≡ b
        → (if b then numbered p piece piece.segment.number else None) ≡ Some m → IsMember p piece m
    by_test false not f = absurd (cc)
    by_test true both f = by_number p piece m piece.segment.number (and_parts (is_continuation piece.kind) (is_same_text id piece.segment.origin) both).0 refl f

from_piece : (all : List ReadRecord) (j : ℕ) (piece : Piece) → slice_get (map piece_read all) j ≡ Some piece
    → (r : ReadRecord) × (slice_get all j ≡ Some r) × (piece_read r ≡ piece)
from_piece all j piece at = by_found (slice_get all j) refl (sym (slice_get-map piece_read all j) ∙ at)
  where
    by_found : (o : Option ReadRecord) → slice_get all j ≡ o → option_map piece_read o ≡ Some piece
        → (r : ReadRecord) × (slice_get all j ≡ Some r) × (piece_read r ≡ piece)
    by_found None is e = absurd (cc)
    by_found (Some r) is e = (r, is, cc)

-- at the position of a segment is a continuation with a number of at least 2
pub record IsContinuationAt (all : List ReadRecord) (q : ℕ) : Type 0 where
  pub it : ReadRecord
  pub is_present : slice_get all q ≡ Some it
  pub kind : is_continuation it.head.kind ≡ true
  pub number : ℕ
  pub is : it.head.segment.number ≡ Number number
  pub late : 2 ≤ number

pub segment_is : (all : List ReadRecord) (p q : ℕ) → IsSegmentOf all p q → IsContinuationAt all q
segment_is all p q segment =
    let (j, piece, at, is) = given_at (member_of segment.first.head.id) (map piece_read all) 0 segment.member segment.listed in
    let (r, is_present, same) = from_piece all j piece at in
    let member = member_is segment.first.head.id (0 + j) piece segment.member is in
    let z : j ≡ q = (let e : segment.member.position ≡ 0 + j = member.position in omega (arith, e, segment.position)) in
    record {
      it = r;
      is_present = ap (slice_get all) (sym z) ∙ is_present;
      kind = ap (λ (x : Piece). is_continuation x.kind) same ∙ member.kind;
      number = member.number;
      is = ap (λ (x : Piece). x.segment.number) same ∙ member.is;
      late = member.late;
    }

-- ---- ways one after another

pub walk_after : (next : ℕ → Option ℕ) (p q k l : ℕ) → walk next p k ≡ Some q → walk next p (k + l) ≡ walk next q l
walk_after next p q k zero is = let z : k + 0 ≡ k = omega arith in ap (walk next p) z ∙ is
walk_after next p q k (suc l) is =
    let z : k + suc l ≡ suc (k + l) = omega arith in
    ap (walk next p) z ∙ ap (option_and_then next) (walk_after next p q k l is)

-- where nothing is next, the way goes no further
stays_there : (next : ℕ → Option ℕ) (q l r : ℕ) → next q ≡ None → walk next q l ≡ Some r → r ≡ q
stays_there next q zero r none is = (cc)
stays_there next q (suc l) r none is =
    option_and_then_some next (walk next q l) r is (λ s before more. (
    let same : s ≡ q = stays_there next q l s none before in
    let gone : next s ≡ None = ap next same ∙ none in
    absurd (cc)))

not_a_revisit : (kind : Kind) → is_continuation kind ≡ true → is_revisit kind ≡ false
not_a_revisit Warcinfo is = refl
not_a_revisit Response is = refl
not_a_revisit Resource is = refl
not_a_revisit Request is = refl
not_a_revisit Metadata is = refl
not_a_revisit Revisit is = absurd (true≢false (sym is))
not_a_revisit Conversion is = refl
not_a_revisit Continuation is = refl
not_a_revisit Other is = refl

module _ (all : List ReadRecord) where
  abbrev next : ℕ → Option ℕ
  next = next_of (index_of all)

  no_next : (q : ℕ) → IsContinuationAt all q → next q ≡ None
  no_next q is =
      let found : slice_get (index_of all) q ≡ Some (indexed_of is.it.head) =
      slice_get-map (λ (r : ReadRecord). indexed_of r.head) all q ∙ ap (λ o. option_map (λ (r : ReadRecord). indexed_of r.head) o) is.is_present in
      let kind : is_revisit_at (index_of all) q ≡ false =
      ap (λ o. option_map_or (λ (r : Indexed). is_revisit r.kind) o false) found ∙ not_a_revisit is.it.head.kind is.kind in
      ap (λ (b : Bool). if b then result_ok (referent_at (index_of all) (slice_get (index_of all) q)) else None) kind

  comes_after : (p q r : ℕ) → ComesTo all p q → ComesTo all q r → ComesTo all p r
  comes_after p q r first second = record {
    steps = first.steps + second.steps;
    reached = walk_after next p q first.steps second.steps first.reached ∙ second.reached;
  }

  no_first : (f q : ℕ) → IsContinuationAt all f → IsSegmentOf all f q → ⊥
  no_first f q is segment =
      let e : Some is.it ≡ Some segment.first = sym is.is_present ∙ segment.there in
      let same : is.it ≡ segment.first = (cc) in
      let two : Number is.number ≡ Number 1 = sym is.is ∙ ap (λ (r : ReadRecord). r.head.segment.number) same ∙ segment.number in
      let n : is.number ≡ 1 = number_is is.number 1 two in
      let late : 2 ≤ is.number = is.late in
      omega (arith, n, late)
    where
      number_is : (a b : ℕ) → Number a ≡ Number b → a ≡ b
      number_is a b e = cc

  -- what is needed needs no more than the one that needs it
  pub needs_after : (p q r : ℕ) → Needs all p q → Needs all q r → Needs all p r
  needs_after p q r (inl way) (inl more) = inl (comes_after p q r way more)
  needs_after p q r (inl way) (inr more) = inr (record { first = more.first; way = comes_after p q more.first way more.way; segment = more.segment })
  needs_after p q r (inr of) (inl more) =
      let here : r ≡ q = stays_there next q more.steps r (no_next q (segment_is all of.first q of.segment)) more.reached in
      subst (λ (n : ℕ). Needs all p n) (sym here) (inr of)
  needs_after p q r (inr of) (inr more) =
      let at = segment_is all of.first q of.segment in
      let here : more.first ≡ q = stays_there next q more.way.steps more.first (no_next q at) more.way.reached in
      absurd (no_first more.first r (subst (λ (n : ℕ). IsContinuationAt all n) (sym here) at) more.segment)

  module _ (stays : StaysBelow (length (index_of all)) next) (as_many : length (index_of all) ≡ length all) where
    walk_below : (p : ℕ) → p < length all → (k q : ℕ) → walk next p k ≡ Some q → q < length all
    walk_below p lt zero q is = let same : p ≡ q = (cc) in omega (arith, lt, same)
    walk_below p lt (suc k) q is =
        option_and_then_some next (walk next p k) q is (λ r before goes. (
        let here : r < length all = walk_below p lt k r before in
        let within : q < length (index_of all) = stays r q (omega (arith, here, as_many)) goes in
        omega (arith, within, as_many)))

    needs_below : (p q : ℕ) → p < length all → Needs all p q → q < length all
    needs_below p q lt (inl way) = walk_below p lt way.steps q way.reached
    needs_below p q lt (inr of) = let at = segment_is all of.first q of.segment in slice_get_within all q at.it at.is_present

    pub without_needs_no_other : (positions kept : List ℕ) → AreWithout all positions kept → NeedsNoOther all kept
    without_needs_no_other positions kept are p q is needs =
        let (lt, free) = (are.each p).0 is in
        (are.each q).1 (
          needs_below p q lt needs,
          λ one. free (record { named = one.named; is = one.is; needs = needs_after p q one.named needs one.needs }),
        )

  pub needed_needs_no_other : (positions closed : List ℕ) → AreWithNeeded all positions closed → NeedsNoOther all closed
  needed_needs_no_other positions closed are p q is needs =
      let by = (are.each p).0 is in
      (are.each q).1 (record { by = by.by; named = by.named; needs = needs_after by.by p q by.needs needs })

-- ---- the laws

next_by : (b : Bool) (x : Result ℕ Unfound) (q : ℕ) → (if b then result_ok x else None) ≡ Some q → x ≡ Ok q
next_by true (Ok p) q e = let same : p ≡ q = (cc) in ap Ok same
next_by true (Err why) q e = absurd (cc)
next_by false x q e = absurd (cc)

stays : (all : List Indexed) → StaysBelow (length all) (next_of all)
stays all p q lt e =
    referent_at-below all (slice_get all p) q (next_by (is_revisit_at all p) (referent_at all (slice_get all p)) q e)

module _ (records : List Record) where
  abbrev read : List ReadRecord
  read = map read_record records

  positions_of : (ps : List ℕ) → ArePositions (length read) ps → ArePositions (length records) ps
  positions_of ps are = subst (λ (n : ℕ). ArePositions n ps) (length-map records read_record) are

  closed_needed : (positions closed : List ℕ) → AreWithNeeded read positions closed → AreClosed records closed
  closed_needed positions closed are = record {
    are = positions_of closed are.are;
    needs = needed_needs_no_other read positions closed are;
  }

  closed_others : (positions kept : List ℕ) → AreWithout read positions kept → AreClosed records kept
  closed_others positions kept are = record {
    are = positions_of kept are.are;
    needs = without_needs_no_other read (stays (index_of read)) (length-map read (λ (r : ReadRecord). indexed_of r.head)) positions kept are;
  }

pub needed_are_closed : NeededAreClosed
needed_are_closed records positions closed are = closed_needed records positions closed are

pub others_are_closed : OthersAreClosed
others_are_closed records positions kept are = closed_others records positions kept are
