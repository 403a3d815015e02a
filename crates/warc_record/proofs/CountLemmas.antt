-- How many findings a record has at most, and how much they tell.
use Rattle.std.proofs.Common.{◌≡◌, ℕ, ◌+◌, ◌<◌, ◌≤◌, Bool, ◌&&◌, not, true, false, List, [], ◌∷◌, ◌++◌, length, map, filter, decimal, length-append, refl, sym, ◌∙◌, ap, arith}
use Rattle.std.proofs.lemmas.List.{length-map}
use Rattle.std.proofs.lemmas.List.Sums.{count_by-le-length, length-filter, sum_by-append, sum_by-cons, sum_by-le-sum_by}
use Rattle.std.proofs.lemmas.List.Filters.{sum_by-filter_both}
use Rattle.std.proofs.lemmas.Fmt.{length-decimal-le}
use Rattle.std.specs.List.{sum_by}
use Rattle.warc_field.specs.Area.{Pair, canonical_fields, canonical_line}
use Rattle.warc_record.specs.declared.types.Kind.{Kind}
use Rattle.warc_record.specs.declared.checks.TableCheck.{TableCheck}
use Rattle.warc_record.specs.declared.checks.TableCheck.TheVariants.{Lacks, HasForbidden, Repeats}
use Rattle.warc_record.specs.Readings.{Reading, reading_of}
use Rattle.warc_record.specs.Table.{Rule, rules}
use Rattle.warc_record.specs.FindingLaws.{FindingsAreFew, FindingsAreShort, reported_len}
use Rattle.warc_record.specs.Findings.{SeenFinding, NotUtf8, Digest, SegmentNumber, IdUsed, NoContentType, Profile, BareId, NoOrigin, broken_rule, by_table, findings_by, findings_of, is_broken, is_not_utf8, not_utf8, has_bad_segment, has_bare_id, has_unknown_profile, lacks_content_type, lacks_origin, once}
use Rattle.warc_record.specs.Kinds.{is_known}

few_of : {X : Type 0} (f : X → SeenFinding) (p : X → Bool) (xs : List X) → length (map f (filter p xs)) ≤ length xs
few_of f p xs = omega (arith, length-map (filter p xs) f, length-filter p xs, count_by-le-length p xs)

table_few : (check : TableCheck) (kind : Kind) (fields : List Pair) → length (by_table check kind fields) ≤ 17
unfolding rules
table_few check kind fields =
    let size : length rules ≡ 17 = refl in
    omega (arith, size, few_of (broken_rule check) (is_broken check kind fields) rules)

once_few : (found : SeenFinding) (holds : Bool) → length (once found holds) ≤ 1
once_few found true = omega arith
once_few found false = omega arith

eleven : (a b c d e f g h i j k : List SeenFinding) (n : ℕ) → length a ≤ 17 → length b ≤ 17 → length c ≤ 17 → length d ≤ 1 → length e ≤ 1 → length f ≤ 1 → length g ≤ 1 → length h ≤ 1
    → length i ≤ n → length j ≤ 1 → length k ≤ 1 → length (a ++ b ++ c ++ d ++ e ++ f ++ g ++ h ++ i ++ j ++ k) ≤ n + 58
eleven a b c d e f g h i j k n la lb lc ld le lf lg lh li lj lk = simp length-append (omega arith)

few_by : (reading : Reading) (fields : List Pair) (size : ℕ) (bad_digest used_id : Bool) → length (findings_by reading fields size bad_digest used_id) ≤ length fields + 58
unfolding findings_by
few_by reading fields size bad_digest used_id =
    eleven _ _ _ _ _ _ _ _ _ _ _ (length fields) (table_few Lacks reading.kind fields) (table_few HasForbidden reading.kind fields) (table_few Repeats reading.kind fields)
    (once_few Digest _) (once_few SegmentNumber _) (once_few IdUsed _) (once_few NoContentType _) (once_few Profile _) (few_of (λ (field : Pair). NotUtf8 field.0) is_not_utf8 fields) (once_few BareId _) (once_few NoOrigin _)

pub findings_are_few : FindingsAreFew
unfolding findings_of
findings_are_few fields size bad_digest used_id = few_by (reading_of fields) fields size bad_digest used_id

reported_map : {X : Type 0} (f : X → SeenFinding) (xs : List X) → sum_by reported_len (map f xs) ≡ sum_by (λ x. reported_len (f x)) xs
reported_map f [] = refl
reported_map f (x ∷ xs) =
    sum_by-cons reported_len (f x) (map f xs) ∙ ap (λ n. reported_len (f x) + n) (reported_map f xs) ∙ sym (sum_by-cons (λ y. reported_len (f y)) x xs)

reported_some : {X : Type 0} (f : X → SeenFinding) (p : X → Bool) (xs : List X) → sum_by reported_len (map f (filter p xs)) ≤ sum_by (λ x. reported_len (f x)) xs
reported_some f p xs =
    omega (arith, reported_map f (filter p xs), sum_by-filter_both p (λ x. not (p x)) (λ x. refl) (λ x. reported_len (f x)) xs)

one_digit : (check : TableCheck) (rule : Rule) → reported_len (broken_rule check rule) ≤ 1 + length rule.name
one_digit Lacks rule = omega (arith, length-decimal-le 1 1 (omega arith) (omega arith) (omega arith))
one_digit HasForbidden rule = omega (arith, length-decimal-le 1 2 (omega arith) (omega arith) (omega arith))
one_digit Repeats rule = omega (arith, length-decimal-le 1 3 (omega arith) (omega arith) (omega arith))

table_names : (check : TableCheck) → sum_by (λ (rule : Rule). reported_len (broken_rule check rule)) rules ≤ 320
unfolding rules
table_names check =
    let names : sum_by (λ (rule : Rule). 1 + length rule.name) rules ≡ 320 = refl in
    let more = sum_by-le-sum_by (λ (rule : Rule). reported_len (broken_rule check rule)) (λ (rule : Rule). 1 + length rule.name) rules
    (one_digit check) in
    omega (arith, names, more)

table_short : (check : TableCheck) (kind : Kind) (fields : List Pair) → sum_by reported_len (by_table check kind fields) ≤ 320
table_short check kind fields =
    omega (arith, table_names check, reported_some (broken_rule check) (is_broken check kind fields) rules)

once_short : (found : SeenFinding) (holds : Bool) → reported_len found ≤ 2 → sum_by reported_len (once found holds) ≤ 2
once_short found true short = omega (arith, short)
once_short found false short = omega arith

-- a number below 100 has at most two digits
two_digits : (number : ℕ) → number < 100 → length (decimal number) + 0 ≤ 2
two_digits number low = omega (arith, length-decimal-le 2 number (omega arith) (omega (arith, low)) (omega (arith, low)))

names_short : (fields : List Pair) → sum_by (λ (field : Pair). reported_len (NotUtf8 field.0)) fields ≤ length (canonical_fields fields)
names_short [] = omega arith
names_short (f ∷ fs) =
    let line : length (canonical_line f) ≡ length f.0 + length f.1 + 4 = simp length-append (omega arith) in
    omega (
      arith,
      line,
      names_short fs,
      length-append (canonical_line f) (canonical_fields fs),
      sum_by-cons (λ (field : Pair). reported_len (NotUtf8 field.0)) f fs,
      length-decimal-le 1 9 (omega arith) (omega arith) (omega arith),
    )

utf8_short : (fields : List Pair) → sum_by reported_len (not_utf8 fields) ≤ length (canonical_fields fields)
utf8_short fields = omega (arith, reported_some (λ (field : Pair). NotUtf8 field.0) is_not_utf8 fields, names_short fields)

eleven_sums : (w : SeenFinding → ℕ) (a b c d e f g h i j k : List SeenFinding) (n : ℕ) → sum_by w a ≤ 320 → sum_by w b ≤ 320 → sum_by w c ≤ 320 → sum_by w d ≤ 2 → sum_by w e ≤ 2 → sum_by w f ≤ 2
    → sum_by w g ≤ 2 → sum_by w h ≤ 2 → sum_by w i ≤ n → sum_by w j ≤ 2 → sum_by w k ≤ 2 → sum_by w (a ++ b ++ c ++ d ++ e ++ f ++ g ++ h ++ i ++ j ++ k) ≤ n + 1000
eleven_sums w a b c d e f g h i j k n la lb lc ld le lf lg lh li lj lk = simp (sum_by-append w) (omega arith)

short_by : (reading : Reading) (fields : List Pair) (size : ℕ) (bad_digest used_id : Bool)
    → sum_by reported_len (findings_by reading fields size bad_digest used_id) ≤ length (canonical_fields fields) + 1000
unfolding findings_by
short_by reading fields size bad_digest used_id =
    eleven_sums reported_len (by_table Lacks reading.kind fields) (by_table HasForbidden reading.kind fields) (by_table Repeats reading.kind fields)
    (once Digest (is_known reading.kind && bad_digest)) (once SegmentNumber (has_bad_segment reading fields)) (once IdUsed used_id)
    (once NoContentType (lacks_content_type reading.kind fields size)) (once Profile (has_unknown_profile reading fields)) (not_utf8 fields)
    (once BareId (has_bare_id reading)) (once NoOrigin (lacks_origin reading fields)) (length (canonical_fields fields))
    (table_short Lacks reading.kind fields) (table_short HasForbidden reading.kind fields) (table_short Repeats reading.kind fields)
    (once_short Digest (is_known reading.kind && bad_digest) (two_digits 4 (omega arith))) (once_short SegmentNumber (has_bad_segment reading fields) (two_digits 5 (omega arith)))
    (once_short IdUsed used_id (two_digits 6 (omega arith))) (once_short NoContentType (lacks_content_type reading.kind fields size) (two_digits 7 (omega arith)))
    (once_short Profile (has_unknown_profile reading fields) (two_digits 8 (omega arith))) (utf8_short fields)
    (once_short BareId (has_bare_id reading) (two_digits 10 (omega arith))) (once_short NoOrigin (lacks_origin reading fields) (two_digits 11 (omega arith)))

pub findings_are_short : FindingsAreShort
unfolding findings_of
findings_are_short fields size bad_digest used_id = short_by (reading_of fields) fields size bad_digest used_id
