-- The segments of a good record are good.
use Rattle.std.proofs.Common.{◌≡◌, inl, inr, ℕ, zero, suc, ◌+◌, ◌*◌, ◌<◌, ◌≤◌, ◌==◌, nat_le, nat_lt, Bool}
use Rattle.std.proofs.Common.{true, false, List, [], ◌∷◌, ◌++◌, length, length-take, length-drop, map}
use Rattle.std.proofs.Common.{drop}
use Rattle.std.proofs.Common.{codes, decimal, Option, Some, None, option_map, is_none, is_some, unwrap_or}
use Rattle.std.proofs.Common.{Result, Ok, Err, refl, sym, ap, ◌∙◌, arith, if◌then◌else◌}
use Rattle.std.specs.Option.{option_map_or, option_or}
use Rattle.std.specs.List.{list_all, range_with_len}
use Rattle.std.proofs.lemmas.List.{map-append, take_all}
use Rattle.std.proofs.lemmas.List.Folds.{list_all_at}
use Rattle.std.proofs.lemmas.List.FromFn.{get_or-map-range_with_len, length-map-range_with_len}
use Rattle.warc_write.specs.declared.segments.SplitFault.{SplitFault}
use Rattle.warc_write.specs.declared.segments.SplitFault.TheVariants.{NotUuid, AlreadySegmented}
use Rattle.warc_write.specs.declared.segments.SplitFault.TheVariants.{Kind as BadKind, Size}
use Rattle.warc_write.specs.declared.segments.SplitFault.TheVariants.{Memory, TooLong, BadDigest}
use Rattle.warc_write.specs.Refusing.{RefusesSegment}
use Rattle.warc_write.specs.Splitting.{AllFramed, UnlessMemory, has_room}
use Rattle.warc_record.specs.Blocks.{has_bad_digest}
use Rattle.warc_write.specs.Splitting.{segments_of, split_of, splittable}
use Rattle.warc_write.proofs.SplitLemmas.{no_head, no_size}
use Rattle.warc_write.specs.Rendering.{AllGood}
use Rattle.std.proofs.lemmas.Bool.{and_from, cases_Bool}
use Rattle.std.proofs.lemmas.Bool.Decides.{nat_tests}
use Rattle.warc_field.specs.Text.{is_name, is_name_byte}
use Rattle.warc_field.specs.Area.{Pair, first_value, count_of, value_or_empty}
use Rattle.warc_frame.specs.declared.version.Version.{Version}
use Rattle.warc_frame.specs.declared.fault.FaultKind.{FaultKind}
use Rattle.warc_frame.specs.declared.fault.FaultKind.TheVariants.{Missing, Repeated, BadType, Id, Date}
use Rattle.warc_frame.specs.declared.fault.Mandatory.{Mandatory}
use Rattle.warc_frame.specs.declared.fault.Mandatory.TheVariants.{«Type», RecordId, Date as DateField, ContentLength}
use Rattle.warc_frame.specs.Names.{content_length}
use Rattle.warc_frame.specs.Record.{Record, IsFramed, block_len, block_number, max_block, or_length}
use Rattle.warc_record.proofs.GoodLemmas.{good_heads_have_no_fault}
use Rattle.warc_record.specs.Good.{IsGood, SaysAll}
use Rattle.warc_record.specs.Heads.{is_date, head_fault}
use Rattle.warc_record.specs.Ids.{is_id}
use Rattle.warc_record.specs.Readings.{reading_of}
use Rattle.warc_write.specs.declared.segments.SegmentPart.{SegmentPart}
use Rattle.warc_write.specs.Splitting.{first_fields, kept, next_fields, part_of, piece_at, segment_fields}
use Rattle.warc_write.specs.Splitting.{segment_of}
use Rattle.warc_write.specs.Written.{digest_text}
use Rattle.warc_write.proofs.KeptLemmas.{count_after, first_after, kept_count, kept_first, kept_len_first}
use Rattle.warc_write.proofs.MakeLemmas.{number_of_len}
use Rattle.warc_write.proofs.TextLemmas.{id_is_id}
use Rattle.warc_write.specs.Splitting.{version_5}

-- ---- the first segment

abbrev following : SegmentPart → List Pair
following part = (codes "WARC-Segment-Number", codes "1") ∷ (codes "WARC-Block-Digest", digest_text part.digest) ∷ []

-- the length of a block, by how many fields tell it and the first value
abbrev length_by : ℕ → Option (List ℕ) → Result ℕ FaultKind
length_by count first =
    if count == 0 then Err (Missing ContentLength) else if nat_le 2 count then Err (Repeated ContentLength) else or_length (block_number first)

-- where one length is given, another may are in its place
another : (count n m : ℕ) (first : Option (List ℕ)) → m ≤ max_block → length_by count first ≡ Ok n
    → length_by count (option_map (λ value. decimal m) first) ≡ Ok m
another count n m first small reported = by_count (count == 0) (nat_le 2 count) first reported
  where
    by_count : (none many : Bool) (first : Option (List ℕ))
        → (if none then Err (Missing ContentLength) else if many then Err (Repeated ContentLength) else or_length (block_number first)) ≡ Ok n
        → (if none then Err (Missing ContentLength) else if many then Err (Repeated ContentLength) else or_length (block_number (option_map (λ value. decimal m) first))) ≡ Ok m
    by_count true many first reported = absurd (cc)
    by_count false true first reported = absurd (cc)
    by_count false false None reported = absurd (cc)
    by_count false false (Some value) reported = ap or_length (number_of_len m small)

first_len : (given : List Pair) (part : SegmentPart) (n : ℕ) → block_len given ≡ Ok n → part.len ≤ max_block → block_len (first_fields given part) ≡ Ok part.len
unfolding block_len
first_len given part n reported small =
    let count = count_after content_length (kept part.len given) (following part) refl ∙ kept_count part.len content_length given refl in
    let first = first_after content_length (kept part.len given) (following part) refl ∙ kept_len_first part.len given in
    ap (λ (k : ℕ). length_by k (first_value content_length (first_fields given part))) count
    ∙ (ap (length_by (count_of content_length given)) first ∙ another (count_of content_length given) n part.len (first_value content_length given) small reported)

-- the fault of a field, by how many there are and the first value
abbrev fault_by : Mandatory → (List ℕ → Bool) → FaultKind → ℕ → Option (List ℕ) → Option FaultKind
fault_by field reads fault count first =
    option_or (if is_none first then Some (Missing field) else if nat_lt 1 count then Some (Repeated field) else None)
    (if option_map_or reads first false then None else Some fault)

first_head : (given : List Pair) (part : SegmentPart) → head_fault (first_fields given part) ≡ head_fault given
first_head given part =
    let type_first = first_after (codes "WARC-Type") (kept part.len given) (following part) refl ∙ kept_first part.len (codes "WARC-Type") given refl refl in
    let type_count = count_after (codes "WARC-Type") (kept part.len given) (following part) refl ∙ kept_count part.len (codes "WARC-Type") given refl in
    let id_first = first_after (codes "WARC-Record-ID") (kept part.len given) (following part) refl ∙ kept_first part.len (codes "WARC-Record-ID") given refl refl in
    let id_count = count_after (codes "WARC-Record-ID") (kept part.len given) (following part) refl ∙ kept_count part.len (codes "WARC-Record-ID") given refl in
    let date_first = first_after (codes "WARC-Date") (kept part.len given) (following part) refl ∙ kept_first part.len (codes "WARC-Date") given refl refl in
    let date_count = count_after (codes "WARC-Date") (kept part.len given) (following part) refl ∙ kept_count part.len (codes "WARC-Date") given refl in
    λ i. option_or (fault_by «Type» is_name BadType (type_count i) (type_first i))
    (option_or (fault_by RecordId is_id Id (id_count i) (id_first i)) (fault_by DateField is_date Date (date_count i) (date_first i)))

-- ---- the further ones

next_len : (given : List Pair) (uuid : List ℕ) (part : SegmentPart) (total : Option ℕ) → part.total ≡ total → part.len ≤ max_block → block_len (next_fields given uuid part) ≡ Ok part.len
unfolding block_len
next_len given uuid part None is small = rw is (ap or_length (number_of_len part.len small))
next_len given uuid part (Some total) is small = rw is (ap or_length (number_of_len part.len small))

next_head : (given : List Pair) (uuid : List ℕ) (part : SegmentPart) (total : Option ℕ) → part.total ≡ total → is_date (value_or_empty (codes "WARC-Date") given) ≡ true
    → head_fault (next_fields given uuid part) ≡ None
unfolding is_name is_name_byte
next_head given uuid part None is date = rw (is, id_is_id (version_5 uuid (decimal part.number)), date) refl
next_head given uuid part (Some total) is date = rw (is, id_is_id (version_5 uuid (decimal part.number)), date) refl

-- ---- both

pub segment_len : (given : List Pair) (uuid : List ℕ) (part : SegmentPart) (n : ℕ) → block_len given ≡ Ok n → part.len ≤ max_block
    → block_len (segment_fields given uuid part) ≡ Ok part.len
segment_len given uuid part n reported small = by_number (part.number == 1)
  where
    by_number : (b : Bool) → block_len (if b then first_fields given part else next_fields given uuid part) ≡ Ok part.len
    by_number true = first_len given part n reported small
    by_number false = next_len given uuid part part.total refl small

pub date_is_present : (given : List Pair) → SaysAll (reading_of given) → is_date (value_or_empty (codes "WARC-Date") given) ≡ true
date_is_present given says = ap (λ (o : Option (List ℕ)). is_date (unwrap_or o [])) says.date_text_is ∙ ap is_some says.date_reads

pub segment_head : (given : List Pair) (uuid : List ℕ) (part : SegmentPart) → head_fault given ≡ None → SaysAll (reading_of given)
    → head_fault (segment_fields given uuid part) ≡ None
segment_head given uuid part good says = by_number (part.number == 1)
  where
    by_number : (b : Bool) → head_fault (if b then first_fields given part else next_fields given uuid part) ≡ None
    by_number true = first_head given part ∙ good
    by_number false = next_head given uuid part part.total refl (date_is_present given says)

-- ---- pieces

-- a piece is no longer than the block
pub piece_is_short : (n : ℕ) (block : List ℕ) (at : ℕ) → length block ≤ max_block → length (piece_at n block at) ≤ max_block
piece_is_short n block at small = omega (arith, small, length-take n (drop (at * n) block), length-drop (at * n) block)

pub rest_is_piece : (n : ℕ) (block : List ℕ) (at : ℕ) (rest : List ℕ) → rest ≡ drop (at * n) block → length rest ≤ n → rest ≡ piece_at n block at
rest_is_piece n block at rest is short = is ∙ sym (take_all n (drop (at * n) block) (let same = ap length is in omega (arith, same, short)))

pub segment_is_good : (r : Record) (uuid : List ℕ) (n at : ℕ) (s : Record) → head_fault r.fields ≡ None → SaysAll (reading_of r.fields)
    → s ≡ segment_of r uuid n at → IsFramed s → IsGood s
segment_is_good r uuid n at s good says is framed = record {
  framed = framed;
  head = (good_heads_have_no_fault s.fields).1
      (ap (λ (s : Record). head_fault s.fields) is
      ∙ segment_head r.fields uuid (part_of n (length r.block) (piece_at n r.block at) at) good says);
}

-- a segment from its parts
pub segment_from : (r : Record) (uuid : List ℕ) (n at : ℕ) (version : Version) (fields : List Pair) (block piece : List ℕ) (part : SegmentPart)
    → version ≡ r.version → fields ≡ segment_fields r.fields uuid part → part ≡ part_of n (length r.block) piece at
    → piece ≡ piece_at n r.block at → block ≡ piece → record { version = version; fields = fields; block = block } ≡ segment_of r uuid n at
segment_from r uuid n at version fields block piece part version_is fields_is part_is piece_is block_is =
    let reported : fields ≡ segment_fields r.fields uuid (part_of n (length r.block) (piece_at n r.block at) at) =
    fields_is ∙ ap (segment_fields r.fields uuid) (part_is ∙ ap (λ p. part_of n (length r.block) p at) piece_is) in
    let bytes : block ≡ piece_at n r.block at = block_is ∙ piece_is in
    λ i. record { version = version_is i; fields = reported i; block = bytes i }

-- its length is given
pub segment_reported : (r : Record) (uuid : List ℕ) (n at : ℕ) → IsFramed r → length r.block ≤ max_block
    → block_len (segment_of r uuid n at).fields ≡ Ok (length (segment_of r uuid n at).block)
segment_reported r uuid n at framed small =
    segment_len r.fields uuid (part_of n (length r.block) (piece_at n r.block at) at) (length r.block) framed.number (piece_is_short n r.block at small)

-- ---- all of them

range_push : (a n : ℕ) → range_with_len a (suc n) ≡ range_with_len a n ++ (a + n) ∷ []
range_push a zero = let e : a ≡ a + 0 = omega arith in ap (λ k. k ∷ []) e
range_push a (suc n) =
    let e : a + 1 + n ≡ a + suc n = omega arith in
    ap (λ l. a ∷ l) (range_push (a + 1) n ∙ ap (λ k. range_with_len (a + 1) n ++ k ∷ []) e)

pub one_more : (f : ℕ → Record) (n : ℕ) → map f (range_with_len 0 n) ++ f n ∷ [] ≡ map f (range_with_len 0 (n + 1))
one_more f n =
    let next : suc n ≡ n + 1 = omega arith in
    let own : 0 + n ≡ n = omega arith in
    ap (λ k. map f (range_with_len 0 n) ++ f k ∷ []) (sym own)
    ∙ (sym (map-append f (range_with_len 0 n) ((0 + n) ∷ [])) ∙ (ap (map f) (sym (range_push 0 n)) ∙ ap (λ k. map f (range_with_len 0 k)) next))

pub framed_push : (records : List Record) (r : Record) → AllFramed records → IsFramed r → AllFramed (records ++ r ∷ [])
framed_push [] r all framed = (framed, tt)
framed_push (s ∷ records) r all framed = (all.0, framed_push records r all.1 framed)

pub refuses_all : (fault : SplitFault) (one all : Bool) → (one ≡ false → all ≡ false) → RefusesSegment one fault → RefusesSegment all fault
refuses_all TooLong one all more is = more is
refuses_all Memory one all more is = tt
refuses_all BadKind one all more is = is
refuses_all NotUuid one all more is = is
refuses_all AlreadySegmented one all more is = is
refuses_all Size one all more is = is
refuses_all BadDigest one all more is = is

pub one_without_room : (f : ℕ → Record) (n at : ℕ) → at < n → has_room (f at) ≡ false → list_all has_room (map f (range_with_len 0 n)) ≡ false
one_without_room f n at below none =
    list_all_at has_room (map f (range_with_len 0 n)) at (f at) (let len = length-map-range_with_len f 0 n in omega (arith, below, len))
    (ap has_room (get_or-map-range_with_len f 0 n at at (f at) below (omega arith)) ∙ none)

-- ---- what `split` answers

pub all_good : (r : Record) (uuid : List ℕ) (n : ℕ) (ats : List ℕ) → head_fault r.fields ≡ None → SaysAll (reading_of r.fields)
    → AllFramed (map (segment_of r uuid n) ats) → AllGood (map (segment_of r uuid n) ats)
all_good r uuid n [] good says framed = tt
all_good r uuid n (at ∷ ats) good says framed =
    (segment_is_good r uuid n at (segment_of r uuid n at) good says refl framed.0, all_good r uuid n ats good says framed.1)

none_is : (o : Option FaultKind) → is_none o ≡ true → o ≡ None
none_is None is = refl
none_is (Some x) is = absurd (cc)

pub never : (fault : SplitFault) (uuid : List ℕ) → ◌≡◌ {A = Result (List ℕ) SplitFault} (Err fault) (Ok uuid) → ⊥
never fault uuid e = cc

pub splittable_size : (fields : List Pair) (n : ℕ) (uuid : List ℕ) → splittable fields n ≡ Ok uuid → nat_lt 0 n ≡ true
splittable_size fields n uuid is = elim (cases_Bool (nat_lt 0 n)) [
  | inl some ↦ some
  | inr none ↦ absurd (never Size uuid (sym (no_size fields n none) ∙ is))
]

pub splittable_is_good : (fields : List Pair) (n : ℕ) (uuid : List ℕ) → splittable fields n ≡ Ok uuid → head_fault fields ≡ None
splittable_is_good fields n uuid is = elim (cases_Bool (is_none (head_fault fields))) [
  | inl good ↦ none_is (head_fault fields) good
  | inr bad ↦ absurd (never BadKind uuid (sym (no_head fields n (splittable_size fields n uuid is) bad) ∙ is))
]

-- the rows after those of a head
pub refused_by_head : (r : Record) (n : ℕ) (fault : SplitFault) → splittable r.fields n ≡ Err fault → split_of r n ≡ Err fault
unfolding split_of
refused_by_head r n fault is = rw is refl

pub refused_by_digest : (r : Record) (n : ℕ) (uuid : List ℕ) → splittable r.fields n ≡ Ok uuid → has_bad_digest r ≡ true → split_of r n ≡ Err BadDigest
unfolding split_of
refused_by_digest r n uuid head bad = rw (head, bad) refl

pub not_split : (r : Record) (n : ℕ) (uuid : List ℕ) → splittable r.fields n ≡ Ok uuid → has_bad_digest r ≡ false
    → nat_le (length r.block) n ≡ true → split_of r n ≡ Ok (r ∷ [])
unfolding split_of
not_split r n uuid head digest short = rw (head, digest, short) refl

pub all_split : (r : Record) (n : ℕ) (uuid : List ℕ) → splittable r.fields n ≡ Ok uuid → has_bad_digest r ≡ false
    → nat_le (length r.block) n ≡ false → list_all has_room (segments_of r uuid n) ≡ true → split_of r n ≡ Ok (segments_of r uuid n)
unfolding split_of
all_split r n uuid head digest long room = rw (head, digest, long, room) refl

pub no_room : (r : Record) (n : ℕ) (uuid : List ℕ) → splittable r.fields n ≡ Ok uuid → has_bad_digest r ≡ false
    → nat_le (length r.block) n ≡ false → list_all has_room (segments_of r uuid n) ≡ false → split_of r n ≡ Err TooLong
unfolding split_of
no_room r n uuid head digest long room = rw (head, digest, long, room) refl

-- framed records have room
pub framed_have_room : (records : List Record) → AllFramed records → list_all has_room records ≡ true
framed_have_room [] all = refl
framed_have_room (r ∷ records) all =
    let head = all.0.head in
    let room : has_room r ≡ true = grind (arith, nat_tests) in
    and_from _ _ room (framed_have_room records all.1)

pub head_or_memory : (fault : SplitFault) (r : Record) (n : ℕ) → splittable r.fields n ≡ Err fault → UnlessMemory fault (split_of r n ≡ Err fault)
head_or_memory Memory r n is = tt
head_or_memory NotUuid r n is = refused_by_head r n NotUuid is
head_or_memory AlreadySegmented r n is = refused_by_head r n AlreadySegmented is
head_or_memory BadKind r n is = refused_by_head r n BadKind is
head_or_memory Size r n is = refused_by_head r n Size is
head_or_memory TooLong r n is = refused_by_head r n TooLong is
head_or_memory BadDigest r n is = refused_by_head r n BadDigest is

pub segment_or_memory : (fault : SplitFault) (r : Record) (n : ℕ) (room : Bool) → (room ≡ false → split_of r n ≡ Err TooLong) → RefusesSegment room fault
    → UnlessMemory fault (split_of r n ≡ Err fault)
segment_or_memory TooLong r n room more is = more is
segment_or_memory Memory r n room more is = tt
segment_or_memory BadKind r n room more is = absurd is
segment_or_memory NotUuid r n room more is = absurd is
segment_or_memory AlreadySegmented r n room more is = absurd is
segment_or_memory Size r n room more is = absurd is
segment_or_memory BadDigest r n room more is = absurd is
