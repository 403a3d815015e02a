-- A segment's head is as long whichever its digest is, and records that are split by their heads.
use Rattle.std.proofs.Common.{rules, replicate, ◌≡◌, ℕ, ◌+◌, ◌-◌, ◌*◌, ◌^◌, ◌<◌, ◌≤◌, ◌==◌, nat_le, Bool, true, false, List, [], ◌∷◌, ◌++◌, length, length-take, length-drop, length-append, map, drop, min, codes, decimal, Option, Some, None, Result, Err, refl, sym, ap, ◌∙◌, arith, if◌then◌else◌}
use Rattle.std.specs.List.{All, list_all, range_with_len}
use Rattle.std.proofs.lemmas.Bool.{and_from}
use Rattle.std.proofs.lemmas.Bool.Decides.{nat_tests}
use Rattle.std.proofs.lemmas.List.Folds.{list_all-append}
use Rattle.warc_field.specs.Area.{Pair, canonical_fields, canonical_line}
use Rattle.warc_field.specs.Lines.{crlf}
use Rattle.warc_frame.specs.Record.{Record, canonical_len, max_head}
use Rattle.warc_frame.specs.VersionLine.{version_line}
use Rattle.warc_frame.specs.declared.version.Version.{Version}
use Rattle.sha1.specs.Sha1.{sha1}
use Rattle.warc_value.specs.Base32.{base32_of, decoded_of}
use Rattle.warc_value.proofs.LawLemmas.{base32_is_undone}
use Rattle.warc_write.specs.Cutting.{HasParts, part_with}
use Rattle.warc_write.specs.Splitting.{UnlessMemory, first_fields, has_room, kept, next_fields}
use Rattle.warc_write.specs.Splitting.{origin_fields, part_of, piece_at, segment_fields, segment_of}
use Rattle.warc_write.specs.Splitting.{split_of, splittable, total_at, total_fields}
use Rattle.warc_write.specs.Written.{digest_text}
use Rattle.warc_write.specs.declared.segments.SegmentPart.{SegmentPart}
use Rattle.warc_write.specs.declared.segments.SplitFault.{SplitFault}
use Rattle.warc_write.proofs.SegmentLemmas.{head_or_memory, one_more}
use Rattle.warc_write.proofs.TextLemmas.{sha1_fits, sha1_len}

-- ---- how long a head is

line_len : (name a b : List ℕ) → length a ≡ length b → length (canonical_line (name, a)) ≡ length (canonical_line (name, b))
line_len name a b same =
    let one : length (canonical_line (name, a)) ≡ length (name ++ 58 ∷ 32 ∷ a) + length crlf = length-append (name ++ 58 ∷ 32 ∷ a) crlf in
    let two : length (canonical_line (name, b)) ≡ length (name ++ 58 ∷ 32 ∷ b) + length crlf = length-append (name ++ 58 ∷ 32 ∷ b) crlf in
    omega (arith, one, two, length-append name (58 ∷ 32 ∷ a), length-append name (58 ∷ 32 ∷ b), same)

front_len : (xs ys zs : List Pair) → length (canonical_fields ys) ≡ length (canonical_fields zs)
    → length (canonical_fields (xs ++ ys)) ≡ length (canonical_fields (xs ++ zs))
front_len [] ys zs same = same
front_len (x ∷ xs) ys zs same =
    let rest = front_len xs ys zs same in
    omega (arith, length-append (canonical_line x) (canonical_fields (xs ++ ys)), length-append (canonical_line x) (canonical_fields (xs ++ zs)), rest)

value_len : (name a b : List ℕ) (rest : List Pair) → length a ≡ length b
    → length (canonical_fields ((name, a) ∷ rest)) ≡ length (canonical_fields ((name, b) ∷ rest))
value_len name a b rest same =
    omega (arith, length-append (canonical_line (name, a)) (canonical_fields rest), length-append (canonical_line (name, b)) (canonical_fields rest), line_len name a b same)

lines_len : (v : Version) (fields : List Pair) → canonical_len v fields ≡ length (version_line v) + length (canonical_fields fields) + 2
unfolding canonical_len
lines_len v fields =
    let whole : canonical_len v fields ≡ length (version_line v ++ canonical_fields fields) + length crlf = length-append (version_line v ++ canonical_fields fields) crlf in
    omega (arith, whole, length-append (version_line v) (canonical_fields fields))

-- the test of a head by the length of its lines
pub room_by : (v : Version) (fields : List Pair) (line : List ℕ) (n : ℕ) → line ≡ version_line v → length line ≡ 10 → n ≡ length (canonical_fields fields)
    → (fit : Bool) → fit ≡ nat_le n (65536 - length line - 2) → fit ≡ nat_le (canonical_len v fields) max_head
room_by v fields line n is ten same fit test =
    let whole = lines_len v fields in
    let first = ap length is in
    let size : canonical_len v fields ≡ n + 12 = omega (arith, whole, first, ten, same) in
    let room : 65536 - length line - 2 ≡ 65524 = omega (arith, ten) in
    test ∙ ap (nat_le n) room ∙ by_size (canonical_len v fields) size
  where
    by_size : (m : ℕ) → m ≡ n + 12 → nat_le n 65524 ≡ nat_le m max_head
    by_size m e = grind (arith, nat_tests)

pub no_room_by : (v : Version) (fields : List Pair) → 2 ^ 64 ≤ length (canonical_fields fields) → false ≡ nat_le (canonical_len v fields) max_head
no_room_by v fields long =
    let whole = lines_len v fields in
    by_size (canonical_len v fields) (omega (arith, whole, long))
  where
    by_size : (m : ℕ) → 65536 < m → false ≡ nat_le m max_head
    by_size m e = grind (arith, nat_tests)

-- ---- a digest's text has 37 bytes

text_len : (text d : List ℕ) (b : Bool) → (length text == 32) ≡ b → (if b then decoded_of text else None) ≡ Some d → length text ≡ 32
text_len text d true is e = grind (arith, nat_tests)
text_len text d false is e = absurd (cc)

pub digest_text_len : (d : List ℕ) → length d ≡ 20 → All (λ b. b < 256) d → length (digest_text d) ≡ 37
digest_text_len d long small =
    let text = text_len (base32_of d) d (length (base32_of d) == 32) refl (base32_is_undone d long small) in
    omega (arith, length-append (codes "sha1:") (base32_of d), text)

-- twenty zeros are bytes
pub zeros_fit : All (λ b. b < 256) (replicate 20 0)
zeros_fit = search rules

-- ---- a segment's head is as long whichever its digest is

abbrev part_as : ℕ → Option ℕ → ℕ → List ℕ → SegmentPart
part_as number total len digest = record { number = number; total = total; len = len; digest = digest }

fields_len : (given : List Pair) (uuid : List ℕ) (number : ℕ) (total : Option ℕ) (len : ℕ) (d e : List ℕ)
    → length (digest_text d) ≡ length (digest_text e)
    → length (canonical_fields (segment_fields given uuid (part_as number total len d))) ≡ length (canonical_fields (segment_fields given uuid (part_as number total len e)))
fields_len given uuid number total len d e same = by_number (number == 1)
  where
    name : List ℕ
    name = codes "WARC-Block-Digest"

    number_field : List ℕ → Pair
    number_field value = (codes "WARC-Segment-Number", value)

    by_number : (b : Bool)
        → length (canonical_fields (if b then first_fields given (part_as number total len d) else next_fields given uuid (part_as number total len d)))
        ≡ length (canonical_fields (if b then first_fields given (part_as number total len e) else next_fields given uuid (part_as number total len e)))
    by_number true =
        front_len (kept len given) (number_field (codes "1") ∷ (name, digest_text d) ∷ []) (number_field (codes "1") ∷ (name, digest_text e) ∷ [])
        (front_len (number_field (codes "1") ∷ []) ((name, digest_text d) ∷ []) ((name, digest_text e) ∷ []) (value_len name (digest_text d) (digest_text e) [] same))
    by_number false =
        let last : List Pair = (codes "Content-Length", decimal len) ∷ [] in
        let one : List Pair = (name, digest_text d) ∷ last in
        let two : List Pair = (name, digest_text e) ∷ last in
        let front : List Pair = number_field (decimal number) ∷ [] in
        front_len (origin_fields given uuid number) (front ++ (total_fields total ++ one)) (front ++ (total_fields total ++ two))
        (front_len front (total_fields total ++ one) (total_fields total ++ two)
        (front_len (total_fields total) one two (value_len name (digest_text d) (digest_text e) last same)))

head_len : (v : Version) (xs ys : List Pair) → length (canonical_fields xs) ≡ length (canonical_fields ys) → canonical_len v xs ≡ canonical_len v ys
head_len v xs ys same = omega (arith, lines_len v xs, lines_len v ys, same)

-- whether a segment's head has room, by any digest
pub room_of_part : (r : Record) (version : Version) (fields : List Pair) (len : ℕ) (is_bad : Bool) (uuid : List ℕ) (n at : ℕ) (digest : List ℕ) (part : SegmentPart) (fit : Bool)
    → HasParts version fields len is_bad r → length digest ≡ 20 → All (λ b. b < 256) digest
    → part ≡ part_with n len (piece_at n r.block at) at digest
    → fit ≡ nat_le (canonical_len version (segment_fields fields uuid part)) max_head
    → has_room (segment_of r uuid n at) ≡ fit
room_of_part r version fields len is_bad uuid n at digest part fit has long small part_is fit_is =
    let piece = piece_at n r.block at in
    let own : SegmentPart = part_of n (length r.block) piece at in
    let whole : canonical_len r.version (segment_fields r.fields uuid own) ≡ canonical_len version (segment_fields fields uuid (part_of n len piece at)) =
    ap (λ v. canonical_len v (segment_fields r.fields uuid own)) has.version_is
    ∙ ap (λ fs. canonical_len version (segment_fields fs uuid own)) has.fields_are
    ∙ ap (λ k. canonical_len version (segment_fields fields uuid (part_of n k piece at))) has.len_is in
    let texts = digest_text_len (sha1 piece) (sha1_len piece) (sha1_fits piece) ∙ sym (digest_text_len digest long small) in
    let swapped : canonical_len version (segment_fields fields uuid (part_of n len piece at)) ≡ canonical_len version (segment_fields fields uuid part) =
    head_len version (segment_fields fields uuid (part_of n len piece at)) (segment_fields fields uuid (part_with n len piece at digest)) (fields_len fields uuid (at + 1) (total_at n len at) (length piece) (sha1 piece) digest texts)
    ∙ ap (λ p. canonical_len version (segment_fields fields uuid p)) (sym part_is) in
    ap (λ k. nat_le k max_head) (whole ∙ swapped) ∙ sym fit_is

-- one more segment with room
pub fit_more : (f : ℕ → Record) (n : ℕ) → list_all has_room (map f (range_with_len 0 n)) ≡ true → has_room (f n) ≡ true
    → list_all has_room (map f (range_with_len 0 (n + 1))) ≡ true
fit_more f n all one =
    ap (list_all has_room) (sym (one_more f n)) ∙ list_all-append has_room (map f (range_with_len 0 n)) (f n ∷ [])
    ∙ and_from _ _ all (and_from _ _ one refl)

-- how long a piece is
pub piece_len : (n len : ℕ) (block : List ℕ) (at : ℕ) → length block ≡ len → min n (len - at * n) ≡ length (piece_at n block at)
piece_len n len block at is = omega (arith, is, length-take n (drop (at * n) block), length-drop (at * n) block)

-- what a segment's head is to say, from its piece
pub part_from : (n : ℕ) (seen block piece : List ℕ) (at : ℕ) (digest : List ℕ) (part : SegmentPart) → part ≡ part_with n (length seen) (piece_at n seen at) at digest
    → piece ≡ piece_at n seen at → digest ≡ sha1 piece → seen ≡ block → part ≡ part_of n (length block) piece at
part_from n seen block piece at digest part is piece_is digest_is same =
    is ∙ ap (λ p. part_with n (length seen) p at digest) (sym piece_is) ∙ ap (λ d. part_with n (length seen) piece at d) digest_is
    ∙ ap (λ (b : List ℕ). part_with n (length b) piece at (sha1 piece)) same

-- ---- what `cut` answers

-- what splitting fields gives, by the fields of any record that has them
pub head_of_parts : (r : Record) (version : Version) (fields : List Pair) (n len : ℕ) (is_bad : Bool) (answer : Result (List ℕ) SplitFault)
    → HasParts version fields len is_bad r → splittable fields n ≡ answer → splittable r.fields n ≡ answer
head_of_parts r version fields n len is_bad answer has is = ap (λ fs. splittable fs n) has.fields_are ∙ is

pub refused_head : (fault : SplitFault) (r : Record) (version : Version) (fields : List Pair) (n len : ℕ) (is_bad : Bool)
    → HasParts version fields len is_bad r → splittable fields n ≡ Err fault → UnlessMemory fault (split_of r n ≡ Err fault)
refused_head fault r version fields n len is_bad has is =
    head_or_memory fault r n (head_of_parts r version fields n len is_bad (Err fault) has is)
