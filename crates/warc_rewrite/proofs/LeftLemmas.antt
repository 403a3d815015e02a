-- Which records are left out: by their segments, and by their ways.
use Rattle.std.proofs.Common.{◌≡◌, ◌⊎◌, ◌↔◌, inl, inr, ℕ, zero, suc, ◌+◌, ◌<◌, ◌≤◌, Bool, true, false, List, [], length, map, Option, Some, None, slice_get, refl, sym, ◌∙◌, ap, subst, arith, true≢false}
use Rattle.std.specs.Prelude.{All, Contains, option_and_then, replicate, slice_set}
use Rattle.std.proofs.lemmas.Bool.{cases_lt}
use Rattle.std.proofs.lemmas.List.Elements.{All-contains}
use Rattle.std.proofs.lemmas.Option.{slice_get_within}
use Rattle.warc_record.specs.Readings.{reading_of}
use Rattle.warc_segment.specs.Series.{Piece, series_of}
use Rattle.warc_index.specs.Referents.{next_of}
use Rattle.warc_index.specs.Walks.{walk}
use Rattle.warc_lookup.specs.Indexed.{indexed_record}
use Rattle.warc_reading.specs.Archive.{IsArchiveOf}
use Rattle.warc_reading.specs.Row.{Placed, Row}
use Rattle.warc_rewrite.specs.declared.remainder.Status.{Status}
use Rattle.warc_rewrite.specs.declared.remainder.Status.TheVariants.{Open, Named, Left, Kept, Touched, Untouched}
use Rattle.warc_rewrite.specs.Closing.{AreWithout, NeedsOneOf}
use Rattle.warc_rewrite.specs.Closure.{records_read}
use Rattle.warc_rewrite.specs.Marks.{AreWhere, IsSegmentAt, pieces_of}
use Rattle.warc_rewrite.specs.Selecting.{ArePositions}
use Rattle.warc_rewrite.specs.Statuses.{AreAllSettled, AreFresh, AreLeftBySegments, AreMemos, AreSettled, IsKeptAt, IsMemoOf, IsNamedAt, LeavesIfNamed, JudgesSeries, LeadsToLeft, NamesAll, needs_none, is_left, is_open, status_at}
use Rattle.warc_rewrite.proofs.MarkLemmas.{none_at}
use Rattle.warc_rewrite.proofs.NeededLemmas.{as_many_read, segment_at, segment_of, walk_from}
use Rattle.warc_rewrite.proofs.SettledLemmas.{known_kept}
use Rattle.warc_rewrite.proofs.StatusLemmas.{put_cases, put_here}
use Rattle.warc_rewrite.proofs.TakenLemmas.{as_many, same_first}

-- ---- memos change nothing else

memo_left : (a b : Status) → IsMemoOf a b → b ≡ Left → ⊥
memo_left a b memo is = elim memo.1 [
  | inl touched ↦ let z : Touched ≡ Left = sym touched ∙ is in absurd (cc)
  | inr untouched ↦ let z : Untouched ≡ Left = sym untouched ∙ is in absurd (cc)
]

memo_named : (a b : Status) → IsMemoOf a b → b ≡ Named → ⊥
memo_named a b memo is = elim memo.1 [
  | inl touched ↦ let z : Touched ≡ Named = sym touched ∙ is in absurd (cc)
  | inr untouched ↦ let z : Untouched ≡ Named = sym untouched ∙ is in absurd (cc)
]

memo_kept : (a b : Status) → IsMemoOf a b → needs_none b ≡ true → ⊥
memo_kept a b memo is = elim memo.1 [
  | inl touched ↦ true≢false (sym is ∙ ap needs_none touched)
  | inr untouched ↦ true≢false (sym is ∙ ap needs_none untouched)
]

open_named : (a : Status) → a ≡ Open → a ≡ Named → ⊥
open_named a opened named = let z : Open ≡ Named = sym opened ∙ named in absurd (cc)

judged_mid : (records : List Placed) (i : ℕ) (p : Placed) (base ss mid : List Status) (named : Bool) → AreLeftBySegments records i base ss
    → JudgesSeries (pieces_of records) (reading_of p.content.fields) ss mid named → AreLeftBySegments records i base mid
judged_mid records i p base ss mid named before series = record {
  named = λ q is. elim (series.kept q) [
    | inl same ↦ same ∙ before.named q is
    | inr memo ↦ absurd (open_named (status_at ss q) memo.0 (before.named q is))
  ];
  only = λ q is. elim (series.kept q) [
    | inl same ↦ before.only q (sym same ∙ is)
    | inr memo ↦ absurd (memo_named (status_at ss q) (status_at mid q) memo is)
  ];
  left = λ r is. elim (series.kept r) [
    | inl same ↦ before.left r (sym same ∙ is)
    | inr memo ↦ absurd (memo_left (status_at ss r) (status_at mid r) memo is)
  ];
  done = λ r q less at segment. elim (series.kept r) [
    | inl same ↦ ap is_left same ∙ before.done r q less at segment
    | inr memo ↦ absurd (true≢false (sym (before.done r q less at segment) ∙ ap is_left memo.0))
  ];
  memos = series.memos;
  unkept = λ q is. elim (series.kept q) [
    | inl same ↦ before.unkept q (sym (ap needs_none same) ∙ is)
    | inr memo ↦ memo_kept (status_at ss q) (status_at mid q) memo is
  ];
}

judged_true : (records : List Placed) (i : ℕ) (p : Placed) (base ss mid : List Status) → AreLeftBySegments records i base ss
    → slice_get records i ≡ Some p → (status_at ss i ≡ Named → ⊥) → i < length mid
    → JudgesSeries (pieces_of records) (reading_of p.content.fields) ss mid true
    → AreLeftBySegments records (i + 1) base (slice_set mid i Left)
judged_true records i p base ss mid before there unnamed within series =
    let middle : AreLeftBySegments records i base mid = judged_mid records i p base ss mid true before series in
    let not_here : IsNamedAt mid i → ⊥ = (λ is. unnamed (before.named i (middle.only i is))) in
    record {
      named = λ q is. elim (put_cases mid i q Left within) [
        | inl set ↦ absurd (unnamed (before.named i (subst (IsNamedAt base) set.0 is)))
        | inr kept ↦ kept ∙ middle.named q is
      ];
      only = λ q is. elim (put_cases mid i q Left within) [
        | inl set ↦ let z : Left ≡ Named = sym set.1 ∙ is in absurd (cc)
        | inr kept ↦ middle.only q (sym kept ∙ is)
      ];
      left = λ r is. elim (put_cases mid i r Left within) [
        | inl set ↦
            let (q, at, segment) = series.has refl in (
              q,
              before.only q at,
              subst (λ (k : ℕ). IsSegmentAt records k q) (sym set.0) (record { first = p; there = there; is = segment }),
            )
        | inr kept ↦ middle.left r (sym kept ∙ is)
      ];
      done = λ r q less at segment. elim (put_cases mid i r Left within) [
        | inl set ↦ ap is_left set.1
        | inr kept ↦ elim (cases_lt r i) [
          | inl earlier ↦ ap is_left kept ∙ middle.done r q earlier at segment
          | inr late ↦
              let same : r ≡ i = omega arith in
              ap (λ (k : ℕ). is_left (status_at (slice_set mid i Left) k)) same ∙ ap is_left (put_here mid i Left within)
        ]
      ];
      memos = record {
        touched = λ s id is in_. elim (put_cases mid i s Left within) [
          | inl set ↦ let z : Left ≡ Touched = sym set.1 ∙ is in absurd (cc)
          | inr kept ↦
              let (q, at, belongs) = middle.memos.touched s id (sym kept ∙ is) in_ in (
                q,
                elim (put_cases mid i q Left within) [
                  | inl set ↦ absurd (not_here (subst (IsNamedAt mid) set.0 at))
                  | inr same ↦ same ∙ at
                ],
                belongs,
              )
        ];
        untouched = λ s q id is in_ too at. elim (put_cases mid i s Left within) [
          | inl set ↦ let z : Left ≡ Untouched = sym set.1 ∙ is in absurd (cc)
          | inr kept ↦ elim (put_cases mid i q Left within) [
            | inl set ↦ let z : Left ≡ Named = sym set.1 ∙ at in absurd (cc)
            | inr same ↦ middle.memos.untouched s q id (sym kept ∙ is) in_ too (sym same ∙ at)
          ]
        ];
      };
      unkept = λ q is. elim (put_cases mid i q Left within) [
        | inl set ↦ absurd (true≢false (sym is ∙ ap needs_none set.1))
        | inr kept ↦ middle.unkept q (sym (ap needs_none kept) ∙ is)
      ];
    }

judged_false : (records : List Placed) (i : ℕ) (p : Placed) (base ss mid : List Status) → AreLeftBySegments records i base ss
    → slice_get records i ≡ Some p → JudgesSeries (pieces_of records) (reading_of p.content.fields) ss mid false
    → AreLeftBySegments records (i + 1) base mid
judged_false records i p base ss mid before there series =
    let middle : AreLeftBySegments records i base mid = judged_mid records i p base ss mid false before series in
    record {
      named = middle.named;
      only = middle.only;
      left = middle.left;
      done = λ r q less at segment. elim (cases_lt r i) [
        | inl earlier ↦ middle.done r q earlier at segment
        | inr late ↦
            let same : r ≡ i = omega arith in
            absurd (series.none refl q (before.named q at) (same_first records i q p there
            (subst (λ (k : ℕ). IsSegmentAt records k q) same segment)))
      ];
      memos = middle.memos;
      unkept = middle.unkept;
    }

by_named : (records : List Placed) (i : ℕ) (p : Placed) (base ss mid new : List Status) (named : Bool) → AreLeftBySegments records i base ss
    → slice_get records i ≡ Some p → (status_at ss i ≡ Named → ⊥) → i < length mid
    → JudgesSeries (pieces_of records) (reading_of p.content.fields) ss mid named
    → (named ≡ true → i < length mid → new ≡ slice_set mid i Left) → (named ≡ false → new ≡ mid)
    → AreLeftBySegments records (i + 1) base new
by_named records i p base ss mid new true before there unnamed within series left kept =
    subst (AreLeftBySegments records (i + 1) base) (sym (left refl within)) (judged_true records i p base ss mid before there unnamed within series)
by_named records i p base ss mid new false before there unnamed within series left kept =
    subst (AreLeftBySegments records (i + 1) base) (sym (kept refl)) (judged_false records i p base ss mid before there series)

pub judged_next : (records : List Placed) (i : ℕ) (p : Placed) (base ss new : List Status) → AreLeftBySegments records i base ss
    → slice_get records i ≡ Some p → (status_at ss i ≡ Named → ⊥) → i < length ss
    → LeavesIfNamed (pieces_of records) (reading_of p.content.fields) i ss new → AreLeftBySegments records (i + 1) base new
judged_next records i p base ss new before there unnamed within judges =
    let inside : i < length judges.mid = omega (arith, judges.same) in
    by_named records i p base ss judges.mid new judges.named before there unnamed inside judges.series judges.left judges.kept

pub judged_past : (records : List Placed) (i : ℕ) (base ss : List Status) → AreLeftBySegments records i base ss → IsNamedAt ss i
    → AreLeftBySegments records (i + 1) base ss
judged_past records i base ss before named = record {
  named = before.named;
  only = before.only;
  left = before.left;
  done = λ r q less at segment. elim (cases_lt r i) [
    | inl earlier ↦ before.done r q earlier at segment
    | inr late ↦ let same : r ≡ i = omega arith in ap (λ (k : ℕ). is_left (status_at ss k)) same ∙ ap is_left named
  ];
  memos = before.memos;
  unkept = before.unkept;
}

pub judged_fewer : (records : List Placed) (n i : ℕ) (base ss : List Status) → n ≤ i → AreLeftBySegments records i base ss
    → AreLeftBySegments records n base ss
judged_fewer records n i base ss le before = record {
  named = before.named;
  only = before.only;
  left = before.left;
  done = λ r q less. before.done r q (omega arith);
  memos = before.memos;
  unkept = before.unkept;
}

fresh_not : (ss : List Status) (q : ℕ) (s : Status) → AreFresh ss → status_at ss q ≡ s → (s ≡ Open) ⊎ (s ≡ Named)
fresh_not ss q s fresh is = elim (fresh q) [
  | inl opened ↦ inl (sym is ∙ opened)
  | inr named ↦ inr (sym is ∙ named)
]

never : (s : Status) → (s ≡ Open → ⊥) → (s ≡ Named → ⊥) → (s ≡ Open) ⊎ (s ≡ Named) → ⊥
never s a b (inl x) = a x
never s a b (inr x) = b x

fresh_unkept : (ss : List Status) (q : ℕ) → AreFresh ss → IsKeptAt ss q → ⊥
fresh_unkept ss q fresh is = elim (fresh q) [
  | inl opened ↦ true≢false (sym is ∙ ap needs_none opened)
  | inr named ↦ true≢false (sym is ∙ ap needs_none named)
]

fresh_memos : (pieces : List Piece) (ss : List Status) → AreFresh ss → AreMemos pieces ss
fresh_memos pieces ss fresh = record {
  touched = λ s id is. absurd (never Touched (λ e. cc) (λ e. cc) (fresh_not ss s Touched fresh is));
  untouched = λ s q id is. absurd (never Untouched (λ e. cc) (λ e. cc) (fresh_not ss s Untouched fresh is));
}

pub judged_fresh : (records : List Placed) (ss : List Status) → AreFresh ss → AreLeftBySegments records 0 ss ss
judged_fresh records ss fresh = record {
  named = λ q is. is;
  only = λ q is. is;
  left = λ r is. absurd (never Left (λ e. cc) (λ e. cc) (fresh_not ss r Left fresh is));
  done = λ r q less. absurd (omega arith);
  memos = fresh_memos (pieces_of records) ss fresh;
  unkept = λ q is. fresh_unkept ss q fresh is;
}

-- without segments none is left out
pub judged_without : (records : List Placed) (n : ℕ) (ss : List Status) → AreFresh ss
    → ((id : Option (List ℕ)) → series_of id (pieces_of records) ≡ []) → AreLeftBySegments records n ss ss
judged_without records n ss fresh none =
    let begun : AreLeftBySegments records 0 ss ss = judged_fresh records ss fresh in
    record {
      named = begun.named;
      only = begun.only;
      left = begun.left;
      done = λ r q less at segment.
          absurd (none_at (series_of (reading_of segment.first.content.fields).id (pieces_of records)) q
          (none (reading_of segment.first.content.fields).id) segment.is.1);
      memos = begun.memos;
      unkept = begun.unkept;
    }

-- ---- what is kept

stays_kept : (next : ℕ → Option ℕ) (base ss : List Status) → AreSettled next base ss → (o : Option ℕ) (r : ℕ)
    → ((q : ℕ) → o ≡ Some q → IsKeptAt ss q) → option_and_then next o ≡ Some r → IsKeptAt ss r
stays_kept next base ss settled None r before to = absurd (cc)
stays_kept next base ss settled (Some q) r before to = settled.kept q r (before q refl) to

way_kept : (next : ℕ → Option ℕ) (base ss : List Status) → AreSettled next base ss → (k p q : ℕ) → IsKeptAt ss p
    → walk next p k ≡ Some q → IsKeptAt ss q
way_kept next base ss settled zero p q kept way = let same : p ≡ q = cc in subst (IsKeptAt ss) same kept
way_kept next base ss settled (suc k) p q kept way =
    stays_kept next base ss settled (walk next p k) q (λ r at. way_kept next base ss settled k p r kept at) way

left_apart : (s : Status) → needs_none s ≡ true → is_left s ≡ true → ⊥
left_apart Open k l = true≢false (sym k)
left_apart Named k l = true≢false (sym k)
left_apart Left k l = true≢false (sym k)
left_apart Kept k l = true≢false (sym l)
left_apart Touched k l = true≢false (sym k)
left_apart Untouched k l = true≢false (sym k)

kept_leads : (next : ℕ → Option ℕ) (base ss : List Status) (p : ℕ) → AreSettled next base ss → IsKeptAt ss p
    → LeadsToLeft next base p → ⊥
kept_leads next base ss p settled kept leads =
    left_apart (status_at ss leads.place) (way_kept next base ss settled leads.steps p leads.place kept leads.way)
    (settled.start leads.place leads.left)

kept_by : (b : Bool) (next : ℕ → Option ℕ) (base ss : List Status) (p : ℕ) → is_left (status_at ss p) ≡ b
    → AreSettled next base ss → is_open (status_at ss p) ≡ false → (LeadsToLeft next base p → ⊥) → IsKeptAt ss p
kept_by true next base ss p is settled known off = absurd (off (settled.left p is))
kept_by false next base ss p is settled known off = known_kept (status_at ss p) known is

-- a named position, or a first segment of a series with a named one
left_kind : (s : Status) → is_left s ≡ true → (s ≡ Named) ⊎ (s ≡ Left)
left_kind Open l = absurd (true≢false (sym l))
left_kind Named l = inl refl
left_kind Left l = inr refl
left_kind Kept l = absurd (true≢false (sym l))
left_kind Touched l = absurd (true≢false (sym l))
left_kind Untouched l = absurd (true≢false (sym l))

-- the positions are named, and no others
pub record AreNames (positions : List ℕ) (base : List Status) : Type 0 where
  pub only : (q : ℕ) → IsNamedAt base q → Contains positions q
  pub all : (q : ℕ) → Contains positions q → IsNamedAt base q

needs_from : (records : List Placed) (positions : List ℕ) (n : ℕ) (base mid : List Status) → AreNames positions base
    → AreLeftBySegments records n base mid → (p : ℕ) → LeadsToLeft (next_of (map indexed_record records)) mid p
    → NeedsOneOf (records_read records) positions p
needs_from records positions n base mid names judged p leads =
    elim (left_kind (status_at mid leads.place) leads.left) [
      | inl named ↦ record {
        named = leads.place;
        is = names.only leads.place (judged.only leads.place named);
        needs = inl (record { steps = leads.steps; reached = walk_from records p leads.steps ∙ leads.way });
      }
      | inr left ↦
          let (q, at, segment) = judged.left leads.place left in
          record {
            named = q;
            is = names.only q at;
            needs = inr (record {
              first = leads.place;
              way = record { steps = leads.steps; reached = walk_from records p leads.steps ∙ leads.way };
              segment = segment_of records leads.place q segment;
            });
          }
    ]

leads_by : (records : List Placed) (positions : List ℕ) (n : ℕ) (base mid : List Status) → length records ≤ n
    → AreNames positions base → AreLeftBySegments records n base mid → (p : ℕ) → NeedsOneOf (records_read records) positions p
    → LeadsToLeft (next_of (map indexed_record records)) mid p
leads_by records positions n base mid le names judged p needs =
    let at : IsNamedAt base needs.named = names.all needs.named needs.is in
    elim needs.needs [
      | inl way ↦ record {
        steps = way.steps;
        place = needs.named;
        way = sym (walk_from records p way.steps) ∙ way.reached;
        left = ap is_left (judged.named needs.named at);
      }
      | inr segment ↦
          let here : IsSegmentAt records segment.first needs.named = segment_at records segment.first needs.named segment.segment in
          let low : segment.first < length records = slice_get_within records segment.first here.first here.there in
          record {
            steps = segment.way.steps;
            place = segment.first;
            way = sym (walk_from records p segment.way.steps) ∙ segment.way.reached;
            left = judged.done segment.first needs.named (omega arith) at here;
          }
    ]

pub is_present_by : (records : List Placed) (positions : List ℕ) (n m : ℕ) (base mid ss : List Status) → length records ≤ n
    → AreNames positions base → AreLeftBySegments records n base mid
    → AreAllSettled (next_of (map indexed_record records)) mid ss m → (p : ℕ) → p < m
    → IsKeptAt ss p ↔ (NeedsOneOf (records_read records) positions p → ⊥)
is_present_by records positions n m base mid ss le names judged settled p low =
    let next : ℕ → Option ℕ = next_of (map indexed_record records) in (
      (λ kept needs. kept_leads next mid ss p settled.settled kept (leads_by records positions n base mid le names judged p needs)),
      (λ off. kept_by (is_left (status_at ss p)) next mid ss p refl settled.settled (settled.known p low)
          (λ leads. off (needs_from records positions n base mid names judged p leads))),
    )

-- ---- at the beginning

pub names_fresh : (positions : List ℕ) (old base : List Status) → ((q : ℕ) → status_at old q ≡ Open)
    → NamesAll positions old base → AreFresh base
names_fresh positions old base opened names q = elim (names.each q) [
  | inl same ↦ inl (same ∙ opened q)
  | inr named ↦ inr named.0
]

pub names_are : (positions : List ℕ) (old base : List Status) → ((q : ℕ) → status_at old q ≡ Open)
    → All (λ p. p < length old) positions → NamesAll positions old base → AreNames positions base
names_are positions old base opened below names = record {
  only = λ q is. elim (names.each q) [
    | inl same ↦ absurd (open_named (status_at base q) (same ∙ opened q) is)
    | inr named ↦ named.1
  ];
  all = λ q is. names.all q is (All-contains (λ p. p < length old) positions q below is);
}

pub begun_settled : (next : ℕ → Option ℕ) (records : List Placed) (n : ℕ) (base mid : List Status) → AreLeftBySegments records n base mid
    → AreSettled next mid mid
begun_settled next records n base mid judged = record {
  start = λ q is. is;
  left = λ q is. record { steps = 0; place = q; way = refl; left = is };
  kept = λ q r is. absurd (judged.unkept q is);
}

pub open_all : (ss : List Status) (n q : ℕ) → ss ≡ replicate n Open → status_at ss q ≡ Open
open_all ss n q is = ap (λ (l : List Status). status_at l q) is ∙ by_len n q
  where
    by_len : (m k : ℕ) → status_at (replicate m Open) k ≡ Open
    by_len zero k = refl
    by_len (suc m) zero = refl
    by_len (suc m) (suc k) = by_len m k

-- ---- the positions that are given

pub others_are : (bytes : List ℕ) (rows : List Row) (positions kept : List ℕ) (ss : List Status) (is : IsArchiveOf bytes rows)
    → length ss ≡ length rows
    → ((p : ℕ) → p < length rows → IsKeptAt ss p ↔ (NeedsOneOf (records_read is.are.records) positions p → ⊥))
    → AreWhere (λ p. needs_none (status_at ss p)) (length ss) kept → AreWithout (records_read is.are.records) positions kept
others_are bytes rows positions kept ss is long is_present listed =
    let many : length rows ≡ length is.are.records = as_many bytes rows is in
    let read : length (records_read is.are.records) ≡ length is.are.records = as_many_read is.are.records in
    record {
      are = subst (λ (n : ℕ). ArePositions n kept) (omega (arith, long, many, read)) listed.are;
      each = λ p. (
        λ in_.
            let (low, on) = (listed.each p).0 in_ in
            (omega (arith, low, long, many, read), (is_present p (omega (arith, low, long))).0 on),
        λ (low, off).
            (listed.each p).1 (omega (arith, low, long, many, read), (is_present p (omega (arith, low, many, read))).1 off),
      );
    }
