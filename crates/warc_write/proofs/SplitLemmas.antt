-- The fields of segments, as they are put together.
use Rattle.std.proofs.Common.{◌≡◌, ℕ, ◌+◌, ◌<◌, nat_lt, true, false, List, [], ◌∷◌, ◌++◌, length}
use Rattle.std.proofs.Common.{take, get_or, map}
use Rattle.std.proofs.Common.{append_assoc, codes, decimal, is_none, is_some}
use Rattle.std.proofs.Common.{Err, refl, sym, ap, ◌∙◌}
use Rattle.std.specs.Prelude.{filter}
use Rattle.std.specs.Option.{ok_or}
use Rattle.std.proofs.lemmas.List.{map-append, take_more}
use Rattle.std.proofs.lemmas.List.Elements.{filter-append}
use Rattle.warc_field.specs.Text.{is_blank, is_value, is_value_byte, same}
use Rattle.warc_field.specs.Area.{Pair, value_or_empty}
use Rattle.warc_frame.specs.Names.{content_length}
use Rattle.uuid.specs.Text.{parsed_urn}
use Rattle.warc_record.specs.Heads.{head_fault}
use Rattle.warc_record.specs.Ids.{bare_text}
use Rattle.warc_record.specs.Readings.{kind_of, target_of}
use Rattle.warc_write.specs.declared.segments.SegmentPart.{SegmentPart}
use Rattle.warc_write.specs.declared.segments.SplitFault.TheVariants.{NotUuid, AlreadySegmented}
use Rattle.warc_write.specs.declared.segments.SplitFault.TheVariants.{Kind as BadKind, Size}
use Rattle.warc_write.specs.Splitting.{is_kept, is_segmented, kept, may_be_split}
use Rattle.warc_write.specs.Splitting.{next_fields, origin_fields, splittable}
use Rattle.warc_write.specs.Splitting.{total_fields, with_len}
use Rattle.warc_write.specs.Written.{digest_text}

abbrev pub one : List ℕ → List ℕ → List Pair
one name value = (name, value) ∷ []

-- what is kept of one field
pub kept_none : (len : ℕ) (name value : List ℕ) → same name (codes "WARC-Block-Digest") ≡ true → kept len (one name value) ≡ []
kept_none len name value digest = rw digest refl

pub kept_len : (len : ℕ) (name value : List ℕ) → same name (codes "WARC-Block-Digest") ≡ false → same name content_length ≡ true
    → kept len (one name value) ≡ one name (decimal len)
kept_len len name value digest is = rw digest (rw is refl)

pub kept_same : (len : ℕ) (name value : List ℕ) → same name (codes "WARC-Block-Digest") ≡ false → same name content_length ≡ false
    → kept len (one name value) ≡ one name value
kept_same len name value digest other = rw digest (rw other refl)

pub kept-append : (len : ℕ) (xs ys : List Pair) → kept len (xs ++ ys) ≡ kept len xs ++ kept len ys
kept-append len xs ys = ap (map (with_len len)) (filter-append is_kept xs ys) ∙ map-append (with_len len) (filter is_kept xs) (filter is_kept ys)

-- of a longer front
pub kept_more : (len : ℕ) (given old : List Pair) (i : ℕ) (field : Pair) → i < length given → field ≡ get_or given i field
    → (old ++ kept len (take i given)) ++ kept len (field ∷ []) ≡ old ++ kept len (take (i + 1) given)
kept_more len given old i field below is =
    append_assoc old (kept len (take i given)) (kept len (field ∷ []))
    ∙ ap (λ fs. old ++ fs)
    (ap (λ (f : Pair). kept len (take i given) ++ kept len (f ∷ [])) is
    ∙ sym (kept-append len (take i given) (get_or given i field ∷ []))
    ∙ ap (kept len) (sym (take_more given i field below)))

-- a total between other fields
pub with_total : (front total : List Pair) (a b : Pair) → ((front ++ total) ++ a ∷ []) ++ b ∷ [] ≡ front ++ (total ++ a ∷ b ∷ [])
with_total front total a b = append_assoc (front ++ total) (a ∷ []) (b ∷ []) ∙ append_assoc front total (a ∷ b ∷ [])

pub one_is_value : is_value (codes "1") ≡ true
unfolding is_value is_value_byte is_blank
one_is_value = refl

pub continuation_is_value : is_value (codes "continuation") ≡ true
unfolding is_value is_value_byte is_blank
continuation_is_value = refl

-- the fields of a further segment, as they are added one by one
pub next_from : (given : List Pair) (uuid : List ℕ) (part : SegmentPart) (a b c d e : List Pair) (digest : List ℕ) → a ≡ origin_fields given uuid part.number
    → b ≡ a ++ (codes "WARC-Segment-Number", decimal part.number) ∷ [] → c ≡ b ++ total_fields part.total
    → d ≡ c ++ (codes "WARC-Block-Digest", digest) ∷ [] → digest ≡ digest_text part.digest
    → e ≡ d ++ (codes "Content-Length", decimal part.len) ∷ [] → e ≡ next_fields given uuid part
next_from given uuid part a b c d e digest a_is b_is c_is d_is digest_is e_is =
    let number : Pair = (codes "WARC-Segment-Number", decimal part.number) in
    let last : Pair = (codes "Content-Length", decimal part.len) in
    let front = b_is ∙ ap (λ l. l ++ number ∷ []) a_is in
    let total = c_is ∙ ap (λ l. l ++ total_fields part.total) front in
    let whole = d_is ∙ ap (λ l. l ++ (codes "WARC-Block-Digest", digest) ∷ []) total in
    e_is ∙ ap (λ l. l ++ last ∷ []) whole
    ∙ with_total (origin_fields given uuid part.number ++ number ∷ []) (total_fields part.total) (codes "WARC-Block-Digest", digest) last
    ∙ ap (λ t. (origin_fields given uuid part.number ++ number ∷ []) ++ (total_fields part.total ++ (codes "WARC-Block-Digest", t) ∷ last ∷ [])) digest_is

-- ---- which refusal comes first

pub no_size : (fields : List Pair) (n : ℕ) → nat_lt 0 n ≡ false → splittable fields n ≡ Err Size
unfolding splittable
no_size fields n size = rw size refl

pub no_head : (fields : List Pair) (n : ℕ) → nat_lt 0 n ≡ true → is_none (head_fault fields) ≡ false → splittable fields n ≡ Err BadKind
unfolding splittable
no_head fields n size head = rw (size, head) refl

pub no_kind : (fields : List Pair) (n : ℕ) → nat_lt 0 n ≡ true → is_none (head_fault fields) ≡ true → may_be_split (kind_of fields) ≡ false
    → splittable fields n ≡ Err BadKind
unfolding splittable
no_kind fields n size head kind = rw (size, head, kind) refl

pub no_target : (fields : List Pair) (n : ℕ) → nat_lt 0 n ≡ true → is_none (head_fault fields) ≡ true → may_be_split (kind_of fields) ≡ true
    → is_some (target_of fields) ≡ false → splittable fields n ≡ Err BadKind
unfolding splittable
no_target fields n size head kind target = rw (size, head, kind, target) refl

pub segmented : (fields : List Pair) (n : ℕ) → nat_lt 0 n ≡ true → is_none (head_fault fields) ≡ true → may_be_split (kind_of fields) ≡ true
    → is_some (target_of fields) ≡ true → is_segmented fields ≡ true → splittable fields n ≡ Err AlreadySegmented
unfolding splittable
segmented fields n size head kind target is_present = rw (size, head, kind, target, is_present) refl

pub by_uuid : (fields : List Pair) (n : ℕ) → nat_lt 0 n ≡ true → is_none (head_fault fields) ≡ true → may_be_split (kind_of fields) ≡ true
    → is_some (target_of fields) ≡ true → is_segmented fields ≡ false
    → splittable fields n ≡ ok_or (parsed_urn (bare_text (value_or_empty (codes "WARC-Record-ID") fields))) NotUuid
unfolding splittable
by_uuid fields n size head kind target is_present = rw (size, head, kind, target, is_present) refl
