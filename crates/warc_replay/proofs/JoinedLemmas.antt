-- How much is joined to an origin: no block twice, so that a replay reads each byte of its archive at most twice.
use Rattle.std.proofs.Common.{◌≡◌, ℕ, zero, suc, ◌+◌, ◌-◌, ◌*◌, ◌<◌, ◌≤◌, Bool, true, false, ◌==◌, ◌&&◌, List, [], ◌∷◌, length, length-append, map, Option, Some, None, Ok, Err, slice_get, refl, sym, ap, ◌∙◌, arith, if◌then◌else◌, nat_le}
use Rattle.std.specs.Prelude.{Result}
use Rattle.std.specs.List.{cons_option, enumerate_from, filter_map, range_with_len}
use Rattle.std.specs.Option.{option_map_or}
use Rattle.std.proofs.lemmas.Bool.{eqb-true}
use Rattle.warc_index.specs.declared.unfound.Unfound.{Unfound}
use Rattle.warc_record.specs.declared.readings.SegmentNumber.{SegmentNumber}
use Rattle.warc_record.specs.declared.readings.SegmentNumber.TheVariants as numbers
use Rattle.warc_record.specs.Kinds.{is_continuation}
use Rattle.warc_record.specs.Texts.{is_same_text}
use Rattle.warc_segment.specs.Gaps.{end_of, followers, gap_of, joined, unless_gap}
use Rattle.warc_segment.specs.Joined.{ReadRecord, joined_records, piece_read, with_members}
use Rattle.warc_segment.specs.Series.{Member, in_order, member_numbered, member_of, numbered, series_of}
use Rattle.warc_segment.specs.declared.gap.Gap.{Gap}
use Rattle.warc_segment.specs.declared.gap.Gap.TheVariants.{Number}
use Rattle.warc_answer.specs.Payloads.{read_record, whole_block}
use Rattle.warc_answer.specs.declared.answer.Path.{Path}
use Rattle.warc_reading.specs.Archive.{SpellsFrom}
use Rattle.warc_reading.specs.Row.{Placed}
use Rattle.warc_reading.proofs.FitLemmas.{front_size}
use Rattle.warc_replay.specs.Replaying.{joined_len, path_reads, reads_of}
use Rattle.warc_replay.proofs.ReplayLemmas.{read_all, read_at}

-- ---- the members with the numbers from one on, each with a weight

abbrev weight : (Member → ℕ) → Option Member → ℕ
weight w None = 0
weight w (Some m) = w m

abbrev weights : (Member → ℕ) → List Member → ℕ
weights w [] = 0
weights w (m ∷ ms) = w m + weights w ms

weights_option : (w : Member → ℕ) (o : Option Member) (ms : List Member) → weights w (cons_option o ms) ≡ weight w o + weights w ms
weights_option w None ms = omega arith
weights_option w (Some m) ms = refl

abbrev numbered_from : ℕ → ℕ → List Member → List Member
numbered_from a l ms = filter_map (member_numbered ms) (range_with_len a l)

numbered_none : (w : Member → ℕ) (l a : ℕ) → weights w (numbered_from a l []) ≡ 0
numbered_none w zero a = refl
numbered_none w (suc l) a = numbered_none w l (a + 1)

passed : (b : Bool) (m : Member) (o : Option Member) → b ≡ false → (if b then Some m else o) ≡ o
passed true m o is = absurd (cc)
passed false m o is = refl

found : (b : Bool) (m : Member) (o : Option Member) → b ≡ true → (if b then Some m else o) ≡ Some m
found true m o is = refl
found false m o is = absurd (cc)

differ : (a b : ℕ) → a < b → (a == b) ≡ false
differ a b low = by_test (a == b) refl
  where
    by_test : (t : Bool) → (a == b) ≡ t → t ≡ false
    by_test true is = absurd (let same : a ≡ b = eqb-true a b is in omega (arith, same, low))
    by_test false is = refl

next_from : (w : Member → ℕ) (l a : ℕ) (ms : List Member) → weights w (numbered_from a (suc l) ms) ≡ weight w (member_numbered ms a) + weights w (numbered_from (a + 1) l ms)
next_from w l a ms = weights_option w (member_numbered ms a) (numbered_from (a + 1) l ms)

-- a member below these numbers isn't among them
below : (w : Member → ℕ) (l a : ℕ) (m : Member) (ms : List Member) → m.number < a → weights w (numbered_from a l (m ∷ ms)) ≡ weights w (numbered_from a l ms)
below w zero a m ms low = refl
below w (suc l) a m ms low =
    let head : member_numbered (m ∷ ms) a ≡ member_numbered ms a = passed (m.number == a) m (member_numbered ms a) (differ m.number a low) in
    let rest : weights w (numbered_from (a + 1) l (m ∷ ms)) ≡ weights w (numbered_from (a + 1) l ms) = below w l (a + 1) m ms (omega (arith, low)) in
    omega (arith, next_from w l a (m ∷ ms), next_from w l a ms, ap (weight w) head, rest)

-- one more member adds at most its weight
one_more : (w : Member → ℕ) (l a : ℕ) (m : Member) (ms : List Member) → weights w (numbered_from a l (m ∷ ms)) ≤ w m + weights w (numbered_from a l ms)
one_more w zero a m ms = omega arith
one_more w (suc l) a m ms = by_test (m.number == a) refl (one_more w l (a + 1) m ms)
  where
    by_test : (b : Bool) → (m.number == a) ≡ b → weights w (numbered_from (a + 1) l (m ∷ ms)) ≤ w m + weights w (numbered_from (a + 1) l ms)
        → weights w (numbered_from a (suc l) (m ∷ ms)) ≤ w m + weights w (numbered_from a (suc l) ms)
    by_test true is more =
        let same : m.number ≡ a = eqb-true m.number a is in
        let head : member_numbered (m ∷ ms) a ≡ Some m = found (m.number == a) m (member_numbered ms a) is in
        let rest : weights w (numbered_from (a + 1) l (m ∷ ms)) ≡ weights w (numbered_from (a + 1) l ms) = below w l (a + 1) m ms (omega (arith, same)) in
        omega (arith, next_from w l a (m ∷ ms), next_from w l a ms, ap (weight w) head, rest)
    by_test false is more =
        let head : member_numbered (m ∷ ms) a ≡ member_numbered ms a = passed (m.number == a) m (member_numbered ms a) is in
        omega (arith, next_from w l a (m ∷ ms), next_from w l a ms, ap (weight w) head, more)

ordered_less : (w : Member → ℕ) (l a : ℕ) (ms : List Member) → weights w (numbered_from a l ms) ≤ weights w ms
ordered_less w l a [] = omega (arith, numbered_none w l a)
ordered_less w l a (m ∷ ms) = omega (arith, one_more w l a m ms, ordered_less w l a ms)

followers_less : (w : Member → ℕ) (o : Option ℕ) (ms : List Member) → weights w (option_map_or (λ n. in_order n ms) o []) ≤ weights w ms
followers_less w None ms = omega arith
followers_less w (Some n) ms = ordered_less w (n - 1) 2 ms

-- ---- the blocks of records

abbrev size_of : Option ReadRecord → ℕ
size_of None = 0
size_of (Some r) = length r.block

abbrev blocks_len : List ReadRecord → ℕ
blocks_len [] = 0
blocks_len (r ∷ rs) = length r.block + blocks_len rs

abbrev size_at : List ReadRecord → Member → ℕ
size_at all m = size_of (slice_get all m.position)

one_block : (o : Option ReadRecord) (rs : List ReadRecord) → length (whole_block (cons_option o rs)) ≡ size_of o + length (whole_block rs)
one_block None rs = omega arith
one_block (Some r) rs = length-append r.block (whole_block rs)

texts_len : (all : List ReadRecord) (ms : List Member) → length (whole_block (filter_map (λ (m : Member). slice_get all m.position) ms)) ≡ weights (size_at all) ms
texts_len all [] = refl
texts_len all (m ∷ ms) =
    one_block (slice_get all m.position) (filter_map (λ (x : Member). slice_get all x.position) ms) ∙ ap (λ n. size_at all m + n) (texts_len all ms)

member_by : (all : List ReadRecord) (r : ReadRecord) (p : ℕ) (number : SegmentNumber) → slice_get all p ≡ Some r → weight (size_at all) (numbered p (piece_read r) number) ≤ length r.block
member_by all r p numbers.Absent at = omega arith
member_by all r p numbers.Bad at = omega arith
member_by all r p (numbers.Number k) at = by_test (nat_le 2 k)
  where
    it_is : Member
    it_is = record { position = p; number = k; total = r.head.segment.total; size = length r.block }

    by_test : (b : Bool) → weight (size_at all) (if b then Some it_is else None) ≤ length r.block
    by_test false = omega arith
    by_test true = omega (arith, ap size_of at)

member_less : (all : List ReadRecord) (id : Option (List ℕ)) (r : ReadRecord) (p : ℕ) → slice_get all p ≡ Some r → weight (size_at all) (member_of id (p, piece_read r)) ≤ length r.block
member_less all id r p at = by_test (is_continuation r.head.kind && is_same_text id r.head.segment.origin)
  where
    by_test : (b : Bool) → weight (size_at all) (if b then numbered p (piece_read r) r.head.segment.number else None) ≤ length r.block
    by_test false = omega arith
    by_test true = member_by all r p r.head.segment.number at

-- a record numbered 1 is in no series
no_member : (w : Member → ℕ) (id : Option (List ℕ)) (r : ReadRecord) (p : ℕ) → r.head.segment.number ≡ numbers.Number 1 → weight w (member_of id (p, piece_read r)) ≡ 0
no_member w id r p is = by_test (is_continuation r.head.kind && is_same_text id r.head.segment.origin)
  where
    by_test : (b : Bool) → weight w (if b then numbered p (piece_read r) r.head.segment.number else None) ≡ 0
    by_test false = refl
    by_test true = ap (λ (s : SegmentNumber). weight w (numbered p (piece_read r) s)) is

abbrev series_from : List ReadRecord → Option (List ℕ) → ℕ → List Member
series_from rest id n = filter_map (member_of id) (enumerate_from n (map piece_read rest))

later : (all rest : List ReadRecord) (r : ReadRecord) (n : ℕ) → ((k : ℕ) → slice_get all (n + k) ≡ slice_get (r ∷ rest) k) → (k : ℕ) → slice_get all (n + 1 + k) ≡ slice_get rest k
later all rest r n at k = let s : n + 1 + k ≡ n + suc k = omega arith in ap (slice_get all) s ∙ at (suc k)

here : (all rest : List ReadRecord) (r : ReadRecord) (n : ℕ) → ((k : ℕ) → slice_get all (n + k) ≡ slice_get (r ∷ rest) k) → slice_get all n ≡ Some r
here all rest r n at = let z : n + 0 ≡ n = omega arith in ap (slice_get all) (sym z) ∙ at 0

series_less : (all : List ReadRecord) (id : Option (List ℕ)) (rest : List ReadRecord) (n : ℕ) → ((k : ℕ) → slice_get all (n + k) ≡ slice_get rest k)
    → weights (size_at all) (series_from rest id n) ≤ blocks_len rest
series_less all id [] n at = omega arith
series_less all id (r ∷ rest) n at =
    omega (arith, weights_option (size_at all) (member_of id (n, piece_read r)) (series_from rest id (n + 1)), member_less all id r n (here all rest r n at), series_less all id rest (n + 1) (later all rest r n at))

-- nor is its block among those of the series
series_without : (all : List ReadRecord) (id : Option (List ℕ)) (rest : List ReadRecord) (n i : ℕ) (r : ReadRecord) → ((k : ℕ) → slice_get all (n + k) ≡ slice_get rest k)
    → slice_get rest i ≡ Some r → r.head.segment.number ≡ numbers.Number 1 → length r.block + weights (size_at all) (series_from rest id n) ≤ blocks_len rest
series_without all id [] n i r at is one = absurd (cc is)
series_without all id (x ∷ rest) n zero r at is one =
    let same : x ≡ r = cc is in
    omega (
      arith,
      weights_option (size_at all) (member_of id (n, piece_read x)) (series_from rest id (n + 1)),
      no_member (size_at all) id x n (ap (λ (y : ReadRecord). y.head.segment.number) same ∙ one),
      series_less all id rest (n + 1) (later all rest x n at),
      ap (λ (y : ReadRecord). length y.block) same,
    )
series_without all id (x ∷ rest) n (suc i) r at is one =
    omega (
      arith,
      weights_option (size_at all) (member_of id (n, piece_read x)) (series_from rest id (n + 1)),
      member_less all id x n (here all rest x n at),
      series_without all id rest (n + 1) i r (later all rest x n at) is one,
    )

block_less : (rest : List ReadRecord) (i : ℕ) (r : ReadRecord) → slice_get rest i ≡ Some r → length r.block ≤ blocks_len rest
block_less [] i r is = absurd (cc is)
block_less (x ∷ rest) zero r is = let same : x ≡ r = cc is in omega (arith, ap (λ (y : ReadRecord). length y.block) same)
block_less (x ∷ rest) (suc i) r is = omega (arith, block_less rest i r is)

joined_less : (all : List ReadRecord) (i : ℕ) (r : ReadRecord) → slice_get all i ≡ Some r → joined_len (joined_records all r) ≤ blocks_len all
joined_less all i r is = by_number r.head.segment.number refl
  where
    ms : List Member
    ms = series_of r.head.id (map piece_read all)

    own : length (whole_block (r ∷ [])) ≤ blocks_len all
    own = omega (arith, block_less all i r is, length-append r.block [])

    by_gap : (o : Option Gap) → r.head.segment.number ≡ numbers.Number 1 → joined_len (with_members all r (unless_gap o ms)) ≤ blocks_len all
    by_gap (Some gap) one = omega arith
    by_gap None one =
        omega (
          arith,
          length-append r.block (whole_block (filter_map (λ (m : Member). slice_get all m.position) (followers ms))),
          texts_len all (followers ms),
          followers_less (size_at all) (end_of ms) ms,
          series_without all r.head.id all 0 i r (λ k. let z : 0 + k ≡ k = omega arith in ap (slice_get all) z) is one,
        )

    by_one : (k : ℕ) (b : Bool) → (k == 1) ≡ b → r.head.segment.number ≡ numbers.Number k
        → joined_len (with_members all r (if b then unless_gap (gap_of (length r.block) ms) ms else Err Number)) ≤ blocks_len all
    by_one k false test has = omega arith
    by_one k true test has = by_gap (gap_of (length r.block) ms) (has ∙ ap (λ n. numbers.Number n) (eqb-true k 1 test))

    by_number : (number : SegmentNumber) → r.head.segment.number ≡ number → joined_len (with_members all r (joined number (length r.block) ms)) ≤ blocks_len all
    by_number numbers.Absent has = own
    by_number numbers.Bad has = omega arith
    by_number (numbers.Number k) has = by_one k (k == 1) refl has

-- ---- in an archive

blocks_fit : (q : ℕ) (ps : List Placed) (text : List ℕ) → SpellsFrom q ps text → blocks_len (read_all ps) ≤ length text
blocks_fit q [] text is = omega arith
blocks_fit q (p ∷ ps) text (front, rest, one, at, start, whole, more) =
    omega (arith, blocks_fit (q + length front) ps rest more, front_size q q p front one at start, at, start, ap length whole, length-append front rest)

head_fits : (q : ℕ) (ps : List Placed) (text : List ℕ) (i : ℕ) (p : Placed) → SpellsFrom q ps text → slice_get ps i ≡ Some p → p.block_start - p.offset + blocks_len (read_all ps) ≤ length text
head_fits q [] text i p is there = absurd (cc there)
head_fits q (x ∷ ps) text zero p (front, rest, one, at, start, whole, more) there =
    let same : x ≡ p = cc there in
    omega (arith, ap (λ (y : Placed). y.block_start - y.offset) same, blocks_fit (q + length front) ps rest more, front_size q q x front one at start, at, start, ap length whole, length-append front rest)
head_fits q (x ∷ ps) text (suc i) p (front, rest, one, at, start, whole, more) there =
    omega (arith, head_fits (q + length front) ps rest i p more there, front_size q q x front one at start, at, start, ap length whole, length-append front rest)

-- the head of an origin and twice its joined block are at most twice the archive
pub path_short : (bytes : List ℕ) (records : List Placed) (way : Result Path Unfound) → SpellsFrom 0 records bytes → path_reads 2 records way ≤ 2 * length bytes
path_short bytes records (Err unfound) is = omega arith
path_short bytes records (Ok path) is = by_origin (slice_get records path.given) refl
  where
    by_origin : (o : Option Placed) → slice_get records path.given ≡ o → reads_of 2 records o ≤ 2 * length bytes
    by_origin None there = omega arith
    by_origin (Some p) there =
        omega (arith, head_fits 0 records bytes path.given p is there, joined_less (read_all records) path.given (read_record p.content) (read_at records path.given p there))
