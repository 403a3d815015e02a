-- What a loop over a table's rows or a record's fields adds to the findings.
use Rattle.std.proofs.Common.{◌≡◌, ℕ, Bool, true, false, ◌&&◌, List, [], ◌∷◌, ◌++◌, map, filter, if◌then◌else◌, refl, sym, ap, ap₂, ◌∙◌}
use Rattle.std.specs.Prelude.{IsUtf8}
use Rattle.std.specs.Str.{is_utf8}
use Rattle.std.proofs.lemmas.Str.{IsUtf8-from_is_utf8, is_utf8-from_IsUtf8}
use Rattle.warc_field.specs.Area.{Pair}
use Rattle.std.proofs.lemmas.List.{append-nil}
use Rattle.warc_record.specs.declared.types.Kind.{Kind}
use Rattle.warc_record.specs.declared.checks.TableCheck.{TableCheck}
use Rattle.warc_record.specs.declared.checks.TableCheck.TheVariants.{Lacks, HasForbidden, Repeats}
use Rattle.warc_record.specs.Kinds.{is_known}
use Rattle.warc_record.specs.Readings.{Reading}
use Rattle.warc_record.specs.Findings.{SeenFinding, Digest, SegmentNumber, IdUsed, NoContentType, Profile, BareId, NoOrigin, by_table, once, not_utf8, has_bad_segment, lacks_content_type, has_unknown_profile, has_bare_id, lacks_origin, findings_by}

pub utf8_is : (bytes : List ℕ) → IsUtf8 bytes → true ≡ is_utf8 bytes
utf8_is bytes is = sym (is_utf8-from_IsUtf8 bytes is)

false_unless : (b : Bool) → ¬ (b ≡ true) → false ≡ b
false_unless true not = absurd (not refl)
false_unless false not = refl

pub utf8_is_not : (bytes : List ℕ) → ¬ (IsUtf8 bytes) → false ≡ is_utf8 bytes
utf8_is_not bytes not = false_unless _ (λ is. not (IsUtf8-from_is_utf8 bytes is))

-- what one item gives, where it passes
abbrev pub reported_if : {X Y : Type 0} → (X → Bool) → (X → Y) → X → List Y
reported_if test reported x = if test x then reported x ∷ [] else []

-- what passes of a list and one more item
pub select_push : {X Y : Type 0} (test : X → Bool) (reported : X → Y) (xs : List X) (x : X)
    → map reported (filter test (xs ++ x ∷ [])) ≡ map reported (filter test xs) ++ reported_if test reported x
select_push test reported [] x = one (test x)
  where
    one : (b : Bool) → map reported (if b then x ∷ [] else []) ≡ (if b then reported x ∷ [] else [])
    one true = refl
    one false = refl
select_push test reported (y ∷ ys) x = more (test y) (select_push test reported ys x)
  where
    more : (b : Bool) → map reported (filter test (ys ++ x ∷ [])) ≡ map reported (filter test ys) ++ reported_if test reported x
        → map reported (if b then y ∷ filter test (ys ++ x ∷ []) else filter test (ys ++ x ∷ []))
        ≡ map reported (if b then y ∷ filter test ys else filter test ys) ++ reported_if test reported x
    more true rest = ap (λ zs. reported y ∷ zs) rest
    more false rest = rest

-- one more item that doesn't pass
pub still_none : {X Y : Type 0} (test : X → Bool) (reported : X → Y) (xs : List X) (x : X) → test x ≡ false
    → map reported (filter test xs) ≡ [] → map reported (filter test (xs ++ x ∷ [])) ≡ []
still_none test reported xs x miss none =
    select_push test reported xs x ∙ ap₂ (λ ys b. ys ++ (if b then reported x ∷ [] else [])) none miss

-- a rule that no check finds broken
pub none_broken : (broken : TableCheck → Bool) → broken Lacks ≡ false → broken HasForbidden ≡ false → broken Repeats ≡ false
    → (check : TableCheck) → broken check ≡ false
none_broken broken lacks forbidden repeats Lacks = lacks
none_broken broken lacks forbidden repeats HasForbidden = forbidden
none_broken broken lacks forbidden repeats Repeats = repeats

-- a table that is kept gives no finding
pub nothing_by_table : (kind : Kind) (fields : List Pair) → ((check : TableCheck) → by_table check kind fields ≡ [])
    → (found : List SeenFinding)
    → found ≡ found ++ by_table Lacks kind fields ++ by_table HasForbidden kind fields ++ by_table Repeats kind fields
nothing_by_table kind fields none found = rw (none Lacks, none HasForbidden, none Repeats) (simp append-nil)

-- the findings, added one group after the other
pub assembled : (reading : Reading) (fields : List Pair) (size : ℕ) (bad used : Bool) (z c four d six f g i : List SeenFinding) (bad-4 five : Bool)
    → z ≡ []
    → c ≡ z ++ by_table Lacks reading.kind fields ++ by_table HasForbidden reading.kind fields ++ by_table Repeats reading.kind fields
    → four ≡ c ++ once Digest bad-4 → d ≡ four ++ once SegmentNumber five → six ≡ d ++ once IdUsed used
    → f ≡ six ++ once NoContentType (lacks_content_type reading.kind fields size) ++ once Profile (has_unknown_profile reading fields)
    → g ≡ f ++ not_utf8 fields → i ≡ g ++ once BareId (has_bare_id reading) ++ once NoOrigin (lacks_origin reading fields)
    → bad-4 ≡ (is_known reading.kind && bad) → five ≡ has_bad_segment reading fields
    → i ≡ findings_by reading fields size bad used
unfolding findings_by
assembled reading fields size bad used z c four d six f g i bad-4 five z-is c-is four-is d-is six-is f-is g-is i-is is-4 is-5 =
    rw (i-is, g-is, f-is, six-is, d-is, four-is, c-is, z-is, is-4, is-5) refl
