-- N4 and N6 among the findings that a record alone shows.
use Rattle.std.proofs.Common.{◌≡◌, ℕ, ◌+◌, Bool, true, false, ◌&&◌, List, [], ◌∷◌, ◌++◌, length, map, if◌then◌else◌, append_assoc, length-append, refl, sym, ap, subst, ◌∙◌, arith}
use Rattle.std.proofs.lemmas.List.{append-nil}
use Rattle.std.proofs.lemmas.List.Elements.{filter-append}
use Rattle.std.specs.List.{filter}
use Rattle.warc_field.specs.Area.{Pair}
use Rattle.warc_record.specs.Kinds.{is_known}
use Rattle.warc_record.specs.Readings.{Reading, kind_of, reading_of}
use Rattle.warc_record.specs.Table.{Rule}
use Rattle.warc_record.specs.Findings.{SeenFinding, Digest, SegmentNumber, IdUsed, NoContentType, Profile, NotUtf8, BareId, NoOrigin, Absent, Forbidden, Repeated, findings_by, findings_of, once}
use Rattle.warc_quick.specs.PlainFindings.{AreFindings}
use Rattle.warc_checking.specs.OwnFindings.{IsWithoutDigest, all_of, is_higher, is_lower, shown_by, shown_plain, with_digest, with_used}

all_reported : {X : Type 0} (test : SeenFinding → Bool) (f : X → SeenFinding) (xs : List X) → ((x : X) → test (f x) ≡ true) → filter test (map f xs) ≡ map f xs
all_reported test f [] is = refl
all_reported test f (x ∷ xs) is = rw (is x) (ap (λ l. f x ∷ l) (all_reported test f xs is))

none_reported : {X : Type 0} (test : SeenFinding → Bool) (f : X → SeenFinding) (xs : List X) → ((x : X) → test (f x) ≡ false) → filter test (map f xs) ≡ []
none_reported test f [] is = refl
none_reported test f (x ∷ xs) is = rw (is x) (none_reported test f xs is)

once_reported : (test : SeenFinding → Bool) (n : SeenFinding) (b : Bool) → test n ≡ true → filter test (once n b) ≡ once n b
once_reported test n true is = rw is refl
once_reported test n false is = refl

once_not : (test : SeenFinding → Bool) (n : SeenFinding) (b : Bool) → test n ≡ false → filter test (once n b) ≡ []
once_not test n true is = rw is refl
once_not test n false is = refl

eleven : (test : SeenFinding → Bool) (a b c d e f g h i j k : List SeenFinding) → filter test (a ++ b ++ c ++ d ++ e ++ f ++ g ++ h ++ i ++ j ++ k)
    ≡ filter test a ++ filter test b ++ filter test c ++ filter test d ++ filter test e ++ filter test f ++ filter test g ++ filter test h ++ filter test i ++ filter test j ++ filter test k
eleven test a b c d e f g h i j k = simp filter-append

-- the first five of eleven lists, and the last five
five_first : (test : SeenFinding → Bool) (a b c d e f g h i j k : List SeenFinding) → filter test a ≡ a → filter test b ≡ b → filter test c ≡ c → filter test d ≡ d → filter test e ≡ e → filter test f ≡ []
    → filter test g ≡ [] → filter test h ≡ [] → filter test i ≡ [] → filter test j ≡ [] → filter test k ≡ [] → filter test (a ++ b ++ c ++ d ++ e ++ f ++ g ++ h ++ i ++ j ++ k) ≡ a ++ b ++ c ++ d ++ e
five_first test a b c d e f g h i j k ia ib ic id ie nf ng nh ni nj nk = eleven test a b c d e f g h i j k ∙ rw (ia, ib, ic, id, ie, nf, ng, nh, ni, nj, nk) (simp append-nil)

five_last : (test : SeenFinding → Bool) (a b c d e f g h i j k : List SeenFinding) → filter test a ≡ [] → filter test b ≡ [] → filter test c ≡ [] → filter test d ≡ [] → filter test e ≡ [] → filter test f ≡ []
    → filter test g ≡ g → filter test h ≡ h → filter test i ≡ i → filter test j ≡ j → filter test k ≡ k → filter test (a ++ b ++ c ++ d ++ e ++ f ++ g ++ h ++ i ++ j ++ k) ≡ g ++ h ++ i ++ j ++ k
five_last test a b c d e f g h i j k na nb nc nd ne nf ig ih ii ij ik = eleven test a b c d e f g h i j k ∙ rw (na, nb, nc, nd, ne, nf, ig, ih, ii, ij, ik) refl

-- the first three, and the last seven
three_first : (test : SeenFinding → Bool) (a b c d e f g h i j k : List SeenFinding) → filter test a ≡ a → filter test b ≡ b → filter test c ≡ c → filter test d ≡ [] → filter test e ≡ [] → filter test f ≡ []
    → filter test g ≡ [] → filter test h ≡ [] → filter test i ≡ [] → filter test j ≡ [] → filter test k ≡ [] → filter test (a ++ b ++ c ++ d ++ e ++ f ++ g ++ h ++ i ++ j ++ k) ≡ a ++ b ++ c
three_first test a b c d e f g h i j k ia ib ic nd ne nf ng nh ni nj nk = eleven test a b c d e f g h i j k ∙ rw (ia, ib, ic, nd, ne, nf, ng, nh, ni, nj, nk) (simp append-nil)

seven_last : (test : SeenFinding → Bool) (a b c d e f g h i j k : List SeenFinding) → filter test a ≡ [] → filter test b ≡ [] → filter test c ≡ [] → filter test d ≡ [] → filter test e ≡ e → filter test f ≡ f
    → filter test g ≡ g → filter test h ≡ h → filter test i ≡ i → filter test j ≡ j → filter test k ≡ k → filter test (a ++ b ++ c ++ d ++ e ++ f ++ g ++ h ++ i ++ j ++ k) ≡ e ++ f ++ g ++ h ++ i ++ j ++ k
seven_last test a b c d e f g h i j k na nb nc nd ie if_ ig ih ii ij ik = eleven test a b c d e f g h i j k ∙ rw (na, nb, nc, nd, ie, if_, ig, ih, ii, ij, ik) refl

abbrev absent : Rule → SeenFinding
absent = λ rule. Absent rule.name

abbrev forbidden : Rule → SeenFinding
forbidden = λ rule. Forbidden rule.name

abbrev repeated : Rule → SeenFinding
repeated = λ rule. Repeated rule.name

abbrev about_field : Pair → SeenFinding
about_field field = NotUtf8 field.0

parted : (a b c d e f g h i j k : List SeenFinding) → (a ++ b ++ c ++ d ++ e) ++ f ++ (g ++ h ++ i ++ j ++ k) ≡ a ++ b ++ c ++ d ++ e ++ f ++ g ++ h ++ i ++ j ++ k
parted a b c d e f g h i j k = simp append_assoc

parted_three : (a b c d e f g h i j k : List SeenFinding) → (a ++ b ++ c) ++ d ++ (e ++ f ++ g ++ h ++ i ++ j ++ k) ≡ a ++ b ++ c ++ d ++ e ++ f ++ g ++ h ++ i ++ j ++ k
parted_three a b c d e f g h i j k = simp append_assoc

-- what is about a field by the table, the other numbers with N4 and N6 or without them, and the fields whose values aren't UTF-8
module _ (ls fs rs : List Rule) (b4 b5 b7 b8 b10 b11 : Bool) (names : List Pair) (used : Bool) where
  abbrev all_by : List SeenFinding → List SeenFinding
  all_by n = map absent ls ++ map forbidden fs ++ map repeated rs ++ once Digest b4 ++ once SegmentNumber b5 ++ n ++ once NoContentType b7 ++ once Profile b8 ++ map about_field names ++ once BareId b10 ++ once NoOrigin b11

  among : filter (is_lower IdUsed) (all_by []) ++ once IdUsed used ++ filter (is_higher IdUsed) (all_by []) ≡ all_by (once IdUsed used)
  among =
      let E = is_lower IdUsed in
      let L = is_higher IdUsed in
      let l = map absent ls in
      let f = map forbidden fs in
      let r = map repeated rs in
      let u = map about_field names in
      let front = five_first E l f r (once Digest b4) (once SegmentNumber b5) [] (once NoContentType b7) (once Profile b8) u (once BareId b10) (once NoOrigin b11)
      (all_reported E absent ls (λ x. refl)) (all_reported E forbidden fs (λ x. refl)) (all_reported E repeated rs (λ x. refl))
      (once_reported E Digest b4 refl) (once_reported E SegmentNumber b5 refl) refl (once_not E NoContentType b7 refl) (once_not E Profile b8 refl) (none_reported E about_field names (λ x. refl))
      (once_not E BareId b10 refl) (once_not E NoOrigin b11 refl) in
      let back = five_last L l f r (once Digest b4) (once SegmentNumber b5) [] (once NoContentType b7) (once Profile b8) u (once BareId b10) (once NoOrigin b11)
      (none_reported L absent ls (λ x. refl)) (none_reported L forbidden fs (λ x. refl)) (none_reported L repeated rs (λ x. refl))
      (once_not L Digest b4 refl) (once_not L SegmentNumber b5 refl) refl (once_reported L NoContentType b7 refl) (once_reported L Profile b8 refl) (all_reported L about_field names (λ x. refl))
      (once_reported L BareId b10 refl) (once_reported L NoOrigin b11 refl) in
      ap (λ x. x ++ once IdUsed used ++ filter L (all_by [])) front
      ∙ ap (λ x. (l ++ f ++ r ++ once Digest b4 ++ once SegmentNumber b5) ++ once IdUsed used ++ x) back
      ∙ parted l f r (once Digest b4) (once SegmentNumber b5) (once IdUsed used) (once NoContentType b7) (once Profile b8) u (once BareId b10) (once NoOrigin b11)

  -- N4 is among them where it holds
  digest_among : (bad : Bool) → with_digest (all_by []) bad ≡ map absent ls ++ map forbidden fs ++ map repeated rs ++ once Digest bad ++ once SegmentNumber b5 ++ [] ++ once NoContentType b7 ++ once Profile b8 ++ map about_field names ++ once BareId b10 ++ once NoOrigin b11
  digest_among bad =
      let E = is_lower Digest in
      let L = is_higher Digest in
      let l = map absent ls in
      let f = map forbidden fs in
      let r = map repeated rs in
      let u = map about_field names in
      let front = three_first E l f r (once Digest b4) (once SegmentNumber b5) [] (once NoContentType b7) (once Profile b8) u (once BareId b10) (once NoOrigin b11)
      (all_reported E absent ls (λ x. refl)) (all_reported E forbidden fs (λ x. refl)) (all_reported E repeated rs (λ x. refl))
      (once_not E Digest b4 refl) (once_not E SegmentNumber b5 refl) refl (once_not E NoContentType b7 refl) (once_not E Profile b8 refl) (none_reported E about_field names (λ x. refl))
      (once_not E BareId b10 refl) (once_not E NoOrigin b11 refl) in
      let back = seven_last L l f r (once Digest b4) (once SegmentNumber b5) [] (once NoContentType b7) (once Profile b8) u (once BareId b10) (once NoOrigin b11)
      (none_reported L absent ls (λ x. refl)) (none_reported L forbidden fs (λ x. refl)) (none_reported L repeated rs (λ x. refl))
      (once_not L Digest b4 refl) (once_reported L SegmentNumber b5 refl) refl (once_reported L NoContentType b7 refl) (once_reported L Profile b8 refl) (all_reported L about_field names (λ x. refl))
      (once_reported L BareId b10 refl) (once_reported L NoOrigin b11 refl) in
      ap (λ x. x ++ once Digest bad ++ filter L (all_by [])) front
      ∙ ap (λ x. (l ++ f ++ r) ++ once Digest bad ++ x) back
      ∙ parted_three l f r (once Digest bad) (once SegmentNumber b5) [] (once NoContentType b7) (once Profile b8) u (once BareId b10) (once NoOrigin b11)

eleven_len : (a b c d e f g h i j k : List SeenFinding) (n : ℕ) → length f ≡ n → length (a ++ b ++ c ++ d ++ e ++ [] ++ g ++ h ++ i ++ j ++ k) + n ≡ length (a ++ b ++ c ++ d ++ e ++ f ++ g ++ h ++ i ++ j ++ k)
eleven_len a b c d e f g h i j k n is = simp length-append (omega (arith, is))

once_len : (b : Bool) → length (once IdUsed b) ≡ (if b then 1 else 0)
once_len true = refl
once_len false = refl

used_among_by : (reading : Reading) (fields : List Pair) (size : ℕ) (bad used : Bool) → with_used (findings_by reading fields size bad false) used ≡ findings_by reading fields size bad used
unfolding findings_by
used_among_by reading fields size bad used = search among

used_count_by : (reading : Reading) (fields : List Pair) (size : ℕ) (bad used : Bool)
    → length (findings_by reading fields size bad false) + (if used then 1 else 0) ≡ length (findings_by reading fields size bad used)
unfolding findings_by
used_count_by reading fields size bad used = search (eleven_len, once_len)

pub used_among : (fields : List Pair) (size : ℕ) (bad used : Bool) → with_used (findings_of fields size bad false) used ≡ findings_of fields size bad used
unfolding findings_of
used_among fields size bad used = used_among_by (reading_of fields) fields size bad used

pub used_count : (fields : List Pair) (size : ℕ) (bad used : Bool) → length (findings_of fields size bad false) + (if used then 1 else 0) ≡ length (findings_of fields size bad used)
unfolding findings_of
used_count fields size bad used = used_count_by (reading_of fields) fields size bad used

both_hold : (a b : Bool) → (a && b) ≡ (b && a)
both_hold true true = refl
both_hold true false = refl
both_hold false true = refl
both_hold false false = refl

digest_among_by : (reading : Reading) (fields : List Pair) (size : ℕ) (any bad : Bool) → with_digest (findings_by reading fields size any false) (is_known reading.kind && bad) ≡ findings_by reading fields size bad false
unfolding findings_by
digest_among_by reading fields size any bad = search digest_among

-- whatever is said of N4, it is put among the others if it holds
pub digest_among_of : (fields : List Pair) (size : ℕ) (any bad : Bool) → with_digest (findings_of fields size any false) (bad && is_known (kind_of fields)) ≡ findings_of fields size bad false
unfolding findings_of
digest_among_of fields size any bad =
    ap (with_digest (findings_by (reading_of fields) fields size any false)) (both_hold bad (is_known (kind_of fields)))
    ∙ digest_among_by (reading_of fields) fields size any bad

-- what a record shows is what is found of it alone
pub all_shown : (fields : List Pair) (size : ℕ) (bad : Bool) → all_of (shown_by fields size bad) ≡ findings_of fields size bad false
all_shown fields size bad = digest_among_of fields size false bad

-- without N4 it has none
pub without_digest : (fields : List Pair) (size : ℕ) → IsWithoutDigest (findings_of fields size false false)
without_digest fields size = digest_among_of fields size false false

-- the findings that are known of a plain head are all that its record alone shows
module _ (fields : List Pair) (size : ℕ) (found : List SeenFinding) (are : AreFindings fields size found) where
  none_among : (before after : List SeenFinding) → before ++ once Digest false ++ once IdUsed false ++ after ≡ before ++ after
  none_among before after = simp append-nil

  found_alone : findings_of fields size false false ≡ found
  found_alone = are.among false false ∙ none_among are.before are.after ∙ sym are.found_is

  pub plain_without_digest : IsWithoutDigest found
  plain_without_digest = subst IsWithoutDigest found_alone (without_digest fields size)

  pub plain_shown : shown_plain found ≡ shown_by fields size false
  plain_shown =
      ap (λ k. record { others = found; known = k; bad = false }) (sym are.known)
      ∙ ap (λ l. record { others = l; known = is_known (kind_of fields); bad = false }) (sym found_alone)
