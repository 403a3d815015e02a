-- Counting the rows that pass a test.
use Rattle.std.proofs.Common.{◌≡◌, ℕ, ◌+◌, ◌<◌, ◌≤◌, ◌==◌, inl, inr, Bool, true, false, List, [], ◌∷◌, length, take, if◌then◌else◌, filter, refl, sym, ap, ◌∙◌, arith, length-append, length-take, Some, slice_index, slice_set}
use Rattle.std.proofs.lemmas.Bool.{cases_Bool, eqb-false, eqb-true}
use Rattle.std.proofs.lemmas.Grind.{get_or-set_at}
use Rattle.std.proofs.lemmas.List.{get_or-set_other}
use Rattle.std.proofs.lemmas.List.Sums.{count_by-le-length, length-filter}
use Rattle.std.proofs.lemmas.List.Elements.{filter-append}
use Rattle.std.specs.List.{slice_get}
use Rattle.warc_record.specs.Kinds.{is_kind, kind_named}
use Rattle.warc_record.specs.declared.types.Kind.{Kind}
use Rattle.warc_record.specs.declared.types.Kind.TheVariants.{Warcinfo, Response, Resource, Request, Metadata, Revisit, Conversion, Continuation, Other}
use Rattle.warc_reading.specs.Row.{Row}
use Rattle.warc_reading.proofs.PlacedLemmas.{take_one}
use Rattle.warc_judged.specs.Counting.{is_of, tally_of}
use Rattle.warc_judged.specs.Tallies.{column_of}

abbrev pub one_if : Bool → ℕ
one_if test = if test then 1 else 0

single : {X : Type 0} (test : X → Bool) (x : X) → length (filter test (x ∷ [])) ≡ one_if (test x)
single test x = elim (test x) as (λ b. length (if b then x ∷ [] else []) ≡ one_if b) [ true ↦ refl | false ↦ refl ]

-- one more
pub count_more : {X : Type 0} (test : X → Bool) (xs : List X) (i : ℕ) (x : X) → slice_get xs i ≡ Some x
    → length (filter test (take (i + 1) xs)) ≡ length (filter test (take i xs)) + one_if (test x)
count_more test xs i x is =
    ap (λ l. length (filter test l)) (take_one xs i x is) ∙ ap length (filter-append test (take i xs) (x ∷ []))
    ∙ length-append (filter test (take i xs)) (filter test (x ∷ [])) ∙ ap (λ n. length (filter test (take i xs)) + n) (single test x)

-- ---- records of each kind

each_kind : (P : Kind → Type 0) → P Warcinfo → P Response → P Resource → P Request → P Metadata → P Revisit → P Conversion → P Continuation → P Other → (kind : Kind) → P kind
each_kind P a b c d e f g h i Warcinfo = a
each_kind P a b c d e f g h i Response = b
each_kind P a b c d e f g h i Resource = c
each_kind P a b c d e f g h i Request = d
each_kind P a b c d e f g h i Metadata = e
each_kind P a b c d e f g h i Revisit = f
each_kind P a b c d e f g h i Conversion = g
each_kind P a b c d e f g h i Continuation = h
each_kind P a b c d e f g h i Other = i

abbrev IsPlaced : Kind → Kind → Type 0
IsPlaced one other = is_kind one other ≡ (column_of one == column_of other)

-- kinds are the same if their places are
is_placed : (one other : Kind) → IsPlaced one other
is_placed Warcinfo = each_kind (IsPlaced Warcinfo) refl refl refl refl refl refl refl refl refl
is_placed Response = each_kind (IsPlaced Response) refl refl refl refl refl refl refl refl refl
is_placed Resource = each_kind (IsPlaced Resource) refl refl refl refl refl refl refl refl refl
is_placed Request = each_kind (IsPlaced Request) refl refl refl refl refl refl refl refl refl
is_placed Metadata = each_kind (IsPlaced Metadata) refl refl refl refl refl refl refl refl refl
is_placed Revisit = each_kind (IsPlaced Revisit) refl refl refl refl refl refl refl refl refl
is_placed Conversion = each_kind (IsPlaced Conversion) refl refl refl refl refl refl refl refl refl
is_placed Continuation = each_kind (IsPlaced Continuation) refl refl refl refl refl refl refl refl refl
is_placed Other = each_kind (IsPlaced Other) refl refl refl refl refl refl refl refl refl

place_within : (kind : Kind) → column_of kind < 9
place_within = each_kind (λ kind. column_of kind < 9) (omega arith) (omega arith) (omega arith) (omega arith) (omega arith) (omega arith) (omega arith) (omega arith) (omega arith)

-- one is added at the place of a kind
raised_at : (kinds : List ℕ) (kind other : Kind) → length kinds ≡ 9
    → slice_index (slice_set kinds (column_of kind) (slice_index kinds (column_of kind) + 1)) (column_of other) ≡ slice_index kinds (column_of other) + one_if (is_kind other kind)
raised_at kinds kind other size = elim (cases_Bool (column_of other == column_of kind)) [
  | inl same ↦
      let at = eqb-true _ _ same in
      get_or-set_at kinds (column_of kind) (column_of other) (slice_index kinds (column_of kind) + 1) 0 at (omega (arith, place_within kind, size))
      ∙ ap (λ i. slice_index kinds i + 1) (sym at) ∙ ap (λ b. slice_index kinds (column_of other) + one_if b) (sym (is_placed other kind ∙ same))
  | inr differs ↦
      get_or-set_other kinds (column_of kind) (column_of other) (slice_index kinds (column_of kind) + 1) 0 (eqb-false (column_of other) (column_of kind) differs)
      ∙ omega arith ∙ ap (λ b. slice_index kinds (column_of other) + one_if b) (sym (is_placed other kind ∙ differs))
]

-- the row at a place is counted too
pub kinds_more : (kinds : List ℕ) (rows : List Row) (n : ℕ) (row : Row) (kind : Kind) (place : ℕ) → length kinds ≡ 9 → slice_get rows n ≡ Some row → kind ≡ kind_named row.kind → place ≡ column_of kind
    → ((other : Kind) → slice_index kinds (column_of other) ≡ tally_of (is_of other) (take n rows))
    → (other : Kind) → slice_index (slice_set kinds place (slice_index kinds place + 1)) (column_of other) ≡ tally_of (is_of other) (take (n + 1) rows)
kinds_more kinds rows n row kind place size at is place_is so_far other =
    ap (λ p. slice_index (slice_set kinds p (slice_index kinds p + 1)) (column_of other)) place_is ∙ raised_at kinds kind other size
    ∙ ap (λ k. slice_index kinds (column_of other) + one_if (is_kind other k)) is
    ∙ ap (λ m. m + one_if (is_of other row)) (so_far other) ∙ sym (count_more (is_of other) rows n row at)

-- no more rows pass than there are
pub tally_within : (test : Row → Bool) (rows : List Row) (n : ℕ) → tally_of test (take n rows) ≤ n
tally_within test rows n = omega (arith, length-filter test (take n rows), count_by-le-length test (take n rows), length-take n rows)
