-- What is known of payloads once an archive is read.
use Rattle.std.proofs.Common.{◌≡◌, ◌≢◌, ◌==◌, ◌⊎◌, inl, inr, ℕ, zero, suc, ◌+◌, ◌<◌, ◌≤◌, min, Bool, true, false, List, [], ◌∷◌, ◌++◌, length, length-append, length-take, take, drop, Option, Some, None, Result, Ok, Err, OnOk, if◌then◌else◌, refl, sym, ap, ap₂, subst, ◌∙◌, arith}
use Rattle.std.proofs.lemmas.List.{length-map}
use Rattle.std.specs.List.{slice_get}
use Rattle.std.specs.Option.{option_and_then}
use Rattle.std.specs.Prelude.{unwrap_or}
use Rattle.std.specs.Str.{bytes_eq}
use Rattle.warc_field.specs.Area.{Pair, first_value}
use Rattle.warc_frame.specs.Names.{warc_payload_digest}
use Rattle.warc_frame.specs.Record.{Record}
use Rattle.warc_frame.specs.declared.fault.OutFault.{OutFault}
use Rattle.warc_record.proofs.TypedLemmas.{present_or_empty, some_bytes}
use Rattle.warc_record.specs.Readings.{reading_of, unless_empty}
use Rattle.warc_record.specs.declared.types.Kind.{Kind}
use Rattle.warc_record.specs.declared.types.Kind.TheVariants as kinds
use Rattle.warc_quick.specs.Quick.{Says}
use Rattle.warc_quick.specs.declared.head.QuickHead.{QuickHead}
use Rattle.warc_value.specs.declared.hash.Verdict.{Verdict}
use Rattle.warc_value.specs.declared.hash.Verdict.TheVariants.{Good, Bad, Unchecked}
use Rattle.warc_fixity.specs.Decoded.{stated_digest}
use Rattle.warc_fixity.specs.Judged.{stated_verdict, verdict_if_stated}
use Rattle.warc_fixity.specs.Stated.{block_hash}
use Rattle.warc_fixity.specs.declared.names.Algorithm.{Algorithm}
use Rattle.warc_payload.specs.Head.{IsInfoOf, front_of}
use Rattle.warc_payload.specs.declared.HeadInfo.{HeadInfo}
use Rattle.warc_answer.specs.Hashed.{StoredPayload}
use Rattle.warc_answer.specs.Payloads.{is_http_response}
use Rattle.warc_reading.specs.Archive.{contents}
use Rattle.warc_reading.specs.Row.{Placed}
use Rattle.warc_reading.proofs.PlacedLemmas.{below, content_at}
use Rattle.warc_judged.specs.Counting.{verdict_at}
use Rattle.warc_judged.specs.Summary.{has_segment_number}
use Rattle.warc_replay.specs.PayloadStates.{AreKnown, IsComparedAt, holds_own}
use Rattle.warc_replay.specs.Capturing.{AreKnownBlocks}
use Rattle.warc_replay.specs.GoodPayloads.{AreGoodPayloads}
use Rattle.warc_replay.specs.PayloadVerdicts.{AreJudgedPayloads, IsJudgedPayload, IsOwnVerdict, IsVerdictByKind, PayloadJudgements, by_stated, payload_value, payload_verdict_at, value_shown}
use Rattle.warc_replay.proofs.ComparedLemmas.{judged_next}
use Rattle.warc_replay.proofs.KnownLemmas.{nothing_known}
use Rattle.warc_replay.specs.declared.record.digests.Known.{Known}
use Rattle.warc_replay.specs.declared.record.payload.PayloadVerdict.{PayloadVerdict}
use Rattle.warc_replay.specs.declared.record.payload.PayloadVerdict.TheVariants as payload
use Rattle.warc_replay.specs.declared.record.payload.Unjudged.TheVariants as unjudged
use Rattle.warc.specs.KnownPayloads.{AreKnownPayloads, AreRightFor, HoldsPayload, IsPayloadOf, IsRightFor, KnownPayloads, known_at, known_by}

-- ---- places in lists

last_or_before : {X : Type 0} (xs : List X) (x y : X) (i : ℕ) → slice_get (xs ++ x ∷ []) i ≡ Some y → ((i ≡ length xs) × (x ≡ y)) ⊎ (slice_get xs i ≡ Some y)
last_or_before [] x y zero is = inl (refl, cc is)
last_or_before [] x y (suc i) is = absurd (cc is)
last_or_before (z ∷ zs) x y zero is = inr is
last_or_before (z ∷ zs) x y (suc i) is = elim (last_or_before zs x y i is) [
  | inl last ↦ inl (ap suc last.0, last.1)
  | inr before ↦ inr before
]

at_more : {X : Type 0} (xs : List X) (x : X) (i : ℕ) → i < length xs → slice_get (xs ++ x ∷ []) i ≡ slice_get xs i
at_more [] x i low = absurd (omega (arith, low))
at_more (y ∷ ys) x zero low = refl
at_more (y ∷ ys) x (suc i) low = at_more ys x i (omega (arith, low))

at_last : {X : Type 0} (xs : List X) (x : X) (i : ℕ) → i ≡ length xs → slice_get (xs ++ x ∷ []) i ≡ Some x
at_last [] x zero is = refl
at_last [] x (suc i) is = absurd (omega (arith, is))
at_last (y ∷ ys) x zero is = absurd (omega (arith, is))
at_last (y ∷ ys) x (suc i) is = at_last ys x i (omega (arith, is))

taken_at : {X : Type 0} (n : ℕ) (xs : List X) (i : ℕ) (x : X) → slice_get (take n xs) i ≡ Some x → (i < n) × (slice_get xs i ≡ Some x)
taken_at zero xs i x is = absurd (cc is)
taken_at (suc n) [] i x is = absurd (cc is)
taken_at (suc n) (y ∷ ys) zero x is = (omega arith, is)
taken_at (suc n) (y ∷ ys) (suc i) x is =
    let rest = taken_at n ys i x is in
    (omega (arith, rest.0), rest.1)

take_at : {X : Type 0} (n : ℕ) (xs : List X) (i : ℕ) → i < n → slice_get (take n xs) i ≡ slice_get xs i
take_at zero xs i low = absurd (omega (arith, low))
take_at (suc n) [] i low = refl
take_at (suc n) (x ∷ xs) zero low = refl
take_at (suc n) (x ∷ xs) (suc i) low = take_at n xs i (omega (arith, low))

one_at : {X : Type 0} (xs : List X) (i : ℕ) → i < length xs → (x : X) × (slice_get xs i ≡ Some x)
one_at [] i low = absurd (omega (arith, low))
one_at (x ∷ xs) zero low = (x, refl)
one_at (x ∷ xs) (suc i) low = one_at xs i (omega (arith, low))

-- ---- what is kept

abbrev known_of : Option Bool → Option Verdict → Option (Option PayloadVerdict)
known_of s v = known_by (unwrap_or s true) (unwrap_or v Unchecked)

pub none_right : (known : KnownPayloads) → known.stated ≡ [] → known.verdicts ≡ [] → (records : List Placed) → AreRightFor known records
none_right known no_mark no_verdict records i p at =
    let none : known_at known i ≡ None = ap₂ (λ (l : List Bool) (m : List Verdict). known_by (unwrap_or (slice_get l i) true) (verdict_at m i)) no_mark no_verdict in
    subst (λ k. IsRightFor p k) (sym none) tt

pub none_kept : (known : KnownPayloads) → known.stated ≡ [] → known.verdicts ≡ [] → AreKnownPayloads known []
none_kept known no_mark no_verdict = record {
  stated_are = ap length no_mark;
  verdicts_are = ap length no_verdict;
  right = none_right known no_mark no_verdict [];
}

one_longer : {X Y : Type 0} (xs new : List X) (x : X) (ys : List Y) (y : Y) → new ≡ xs ++ x ∷ [] → length xs ≡ length ys → length new ≡ length (ys ++ y ∷ [])
one_longer xs new x ys y is size = ap length is ∙ length-append xs (x ∷ []) ∙ ap (λ k. k + 1) size ∙ sym (length-append ys (y ∷ []))

-- what is kept of one record more
right_more : (old new : KnownPayloads) (records : List Placed) (p : Placed) (s : Bool) (v : Verdict) → AreKnownPayloads old records → IsRightFor p (known_by s v)
    → new.stated ≡ old.stated ++ s ∷ [] → new.verdicts ≡ old.verdicts ++ v ∷ [] → AreKnownPayloads new (records ++ p ∷ [])
right_more old new records p s v are right stated verdicts = record {
  stated_are = one_longer old.stated new.stated s records p stated are.stated_are;
  verdicts_are = one_longer old.verdicts new.verdicts v records p verdicts are.verdicts_are;
  right = λ i q at. elim (last_or_before records p q i at) [
    | inl last ↦
        let a : slice_get new.stated i ≡ Some s = ap (λ l. slice_get l i) stated ∙ at_last old.stated s i (last.0 ∙ sym are.stated_are) in
        let b : slice_get new.verdicts i ≡ Some v = ap (λ l. slice_get l i) verdicts ∙ at_last old.verdicts v i (last.0 ∙ sym are.verdicts_are) in
        subst (λ k. IsRightFor q k) (sym (ap₂ known_of a b)) (subst (λ (r : Placed). IsRightFor r (known_by s v)) last.1 right)
    | inr before ↦
        let low : i < length records = below records i q before in
        let a : slice_get new.stated i ≡ slice_get old.stated i = ap (λ l. slice_get l i) stated ∙ at_more old.stated s i (omega (arith, low, are.stated_are)) in
        let b : slice_get new.verdicts i ≡ slice_get old.verdicts i = ap (λ l. slice_get l i) verdicts ∙ at_more old.verdicts v i (omega (arith, low, are.verdicts_are)) in
        subst (λ k. IsRightFor q k) (sym (ap₂ known_of a b)) (are.right i q before)
  ];
}

pub known_more : {E : Type 0} (answer : Result (Unit {0}) E) (old new : KnownPayloads) (records : List Placed) (p : Placed) (s : Bool) (v : Verdict)
    → AreKnownPayloads old records → IsRightFor p (known_by s v)
    → OnOk answer ((new.stated ≡ old.stated ++ s ∷ []) × (new.verdicts ≡ old.verdicts ++ v ∷ [])) → OnOk answer (AreKnownPayloads new (records ++ p ∷ []))
known_more (Ok u) old new records p s v are right added = right_more old new records p s v are right added.0 added.1
known_more (Err e) old new records p s v are right added = tt

-- what is kept of the first records
pub known_first : (count : ℕ) (old new : KnownPayloads) (records : List Placed) → new.stated ≡ take count old.stated → new.verdicts ≡ take count old.verdicts
    → AreKnownPayloads old records → AreKnownPayloads new (take count records)
known_first count old new records stated verdicts are = record {
  stated_are = ap length stated ∙ length-take count old.stated ∙ ap (min count) are.stated_are ∙ sym (length-take count records);
  verdicts_are = ap length verdicts ∙ length-take count old.verdicts ∙ ap (min count) are.verdicts_are ∙ sym (length-take count records);
  right = λ i p at.
      let there = taken_at count records i p at in
      let a : slice_get new.stated i ≡ slice_get old.stated i = ap (λ l. slice_get l i) stated ∙ take_at count old.stated i there.0 in
      let b : slice_get new.verdicts i ≡ slice_get old.verdicts i = ap (λ l. slice_get l i) verdicts ∙ take_at count old.verdicts i there.0 in
      subst (λ k. IsRightFor p k) (sym (ap₂ known_of a b)) (are.right i p there.1);
}

-- what is kept of all records is right, whatever it is called
pub known_right : {old new : KnownPayloads} {records : List Placed} → old ≡ new → AreKnownPayloads old records → AreRightFor new records
known_right {old} {new} {records} same are = subst (λ (k : KnownPayloads). AreRightFor k records) same are.right

-- ---- the value that states a digest

or_nothing : (text : List ℕ) → unwrap_or (unless_empty text) [] ≡ text
or_nothing [] = refl
or_nothing (b ∷ bs) = rw (some_bytes b bs) refl

value_is : (value : Option (List ℕ)) (text : List ℕ) → option_and_then unless_empty value ≡ unless_empty text → unwrap_or value [] ≡ text
value_is value text same = sym (or_nothing (unwrap_or value [])) ∙ ap (λ (v : Option (List ℕ)). unwrap_or v []) (present_or_empty value ∙ same) ∙ or_nothing text

pub payload_said : (fields : List Pair) (head : QuickHead) → Says fields head → payload_value fields ≡ head.payload_digest.now
payload_said fields head says = value_is (first_value warc_payload_digest fields) head.payload_digest.now says.payload

-- ---- a payload in memory

-- what follows an HTTP head is the payload
pub after_http : (block rest : List ℕ) (info : HeadInfo) {head : _} → IsInfoOf block info head → rest ≡ drop info.head_len block → IsPayloadOf true block rest
after_http block rest info {head} is same = (record { coded = info.transfer_coded; bytes = drop info.head_len block }, sym same, (head, is.front, is.transfer_coded))

pub whole_block : (block : List ℕ) → IsPayloadOf false block block
whole_block block = (record { coded = false; bytes = block }, refl, (refl, refl))

-- the part of a block in which a head is looked for is short
pub front_short : (block text : List ℕ) → text ≡ front_of block → length text ≤ 65536
unfolding front_of
front_short block text same = omega (arith, ap length same, length-take 65536 block)

-- a whole block is the payload where it has no HTTP head
pub own_whole : (content : Record) (kind : Kind) (own http : Bool) (block : List ℕ) → own ≡ holds_own kind → kind ≡ (reading_of content.fields).kind → own ≡ true
    → http ≡ is_http_response (reading_of content.fields) → http ≡ false → block ≡ content.block → HoldsPayload content block
own_whole content kind own http block own_is kind_is is_own http_is none same = record {
  own = ap holds_own (sym kind_is) ∙ sym own_is ∙ is_own;
  is = subst (λ (b : Bool). IsPayloadOf b content.block block) (sym none ∙ http_is) (subst (λ (l : List ℕ). IsPayloadOf false l block) same (whole_block block));
}

-- and else what follows it
pub own_after : (content : Record) (kind : Kind) (own http : Bool) (block rest : List ℕ) → own ≡ holds_own kind → kind ≡ (reading_of content.fields).kind → own ≡ true
    → http ≡ is_http_response (reading_of content.fields) → http ≡ true → block ≡ content.block → IsPayloadOf true block rest → HoldsPayload content rest
own_after content kind own http block rest own_is kind_is is_own http_is is_http same is = record {
  own = ap holds_own (sym kind_is) ∙ sym own_is ∙ is_own;
  is = subst (λ (b : Bool). IsPayloadOf b content.block rest) (sym is_http ∙ http_is) (subst (λ (l : List ℕ). IsPayloadOf true l rest) same is);
}

by_own : (k : Kind) (records : List Record) (position : ℕ) (content : Record) (verdict : PayloadVerdict) → holds_own k ≡ true → IsOwnVerdict content verdict
    → IsVerdictByKind k records position content verdict
by_own kinds.Warcinfo records position content verdict own is = is
by_own kinds.Response records position content verdict own is = is
by_own kinds.Resource records position content verdict own is = is
by_own kinds.Request records position content verdict own is = absurd (cc own)
by_own kinds.Metadata records position content verdict own is = is
by_own kinds.Revisit records position content verdict own is = absurd (cc own)
by_own kinds.Conversion records position content verdict own is = is
by_own kinds.Continuation records position content verdict own is = is
by_own kinds.Other records position content verdict own is = is

good_if : (test coded : Bool) → (if test then Good else Bad) ≡ Good
    → payload.Good ≡ (if test then payload.Good else if coded then payload.Unchecked unjudged.Coded else payload.Bad)
good_if true coded is = refl
good_if false coded is = absurd (cc is)

good_by : (stated : Option (Algorithm × List ℕ)) (p : StoredPayload) → verdict_if_stated stated p.bytes ≡ Good → payload.Good ≡ by_stated stated (Some p)
good_by None p is = absurd (cc is)
good_by (Some (by, digest)) p is = good_if (bytes_eq digest (block_hash by p.bytes)) p.coded is

by_fields : (numbered : Bool) (stated : Option (Algorithm × List ℕ)) (p : StoredPayload) → numbered ≡ false → verdict_if_stated stated p.bytes ≡ Good
    → payload.Good ≡ (if numbered then payload.Unchecked unjudged.Segment else by_stated stated (Some p))
by_fields true stated p none is = absurd (cc none)
by_fields false stated p none is = good_by stated p is

own_good : (content : Record) (bytes value : List ℕ) → HoldsPayload content bytes → has_segment_number content.fields ≡ false → payload_value content.fields ≡ value
    → stated_verdict value bytes ≡ Good → IsOwnVerdict content payload.Good
own_good content bytes value holds none said is =
    let (stored, bytes_are, has) = holds.is in
    let same : verdict_if_stated (stated_digest (payload_value content.fields)) stored.bytes ≡ Good =
    ap₂ (λ v b. verdict_if_stated (stated_digest v) b) said bytes_are ∙ is in
    (Some stored, has, by_fields (has_segment_number content.fields) (stated_digest (payload_value content.fields)) stored none same)

pub not_empty : (text : List ℕ) (b : Bool) → b ≡ (length text == 0) → b ≡ false → text ≢ []
not_empty text b is none same = let e : true ≡ false = sym (is ∙ ap (λ (t : List ℕ). length t == 0) same) ∙ none in absurd (cc e)

-- what is known of a payload that was compared, by its verdict
pub right_by : (p : Placed) (v : Verdict) (bytes value : List ℕ) → HoldsPayload p.content bytes → has_segment_number p.content.fields ≡ false → payload_value p.content.fields ≡ value
    → payload_value p.content.fields ≢ [] → v ≡ stated_verdict value bytes → IsRightFor p (known_by true v)
right_by p Good bytes value holds none said some is = λ records position. (
  some,
  by_own (reading_of p.content.fields).kind records position p.content payload.Good holds.own (own_good p.content bytes value holds none said (sym is)),
)
right_by p Bad bytes value holds none said some is = tt
right_by p Unchecked bytes value holds none said some is = tt

-- of one that wasn't
pub right_unjudged : (p : Placed) (stated : Bool) (v : Verdict) → (stated ≡ false → payload_value p.content.fields ≡ []) → v ≡ Unchecked → IsRightFor p (known_by stated v)
right_unjudged p false v none is = λ records position. none refl
right_unjudged p true v none is = subst (λ (w : Verdict). IsRightFor p (known_by true w)) (sym is) tt

-- ---- judging one more

-- a verdict that is said is one of the list
said_below : (verdicts : List (Option PayloadVerdict)) (i : ℕ) (v : PayloadVerdict) → payload_verdict_at verdicts i ≡ Some v → i < length verdicts
said_below [] i v is = absurd (cc is)
said_below (x ∷ xs) zero v is = omega arith
said_below (x ∷ xs) (suc i) v is = omega (arith, said_below xs i v is)

shown_same : (s : Bool) (v : Verdict) (w : Option PayloadVerdict) (a b : List ℕ) → known_by s v ≡ Some w → value_shown w a ≡ value_shown w b
shown_same false v w a b is = let e : w ≡ None = cc is in ap (λ x. value_shown x a) e ∙ sym (ap (λ x. value_shown x b) e)
shown_same true Good w a b is = let e : w ≡ Some payload.Good = cc is in ap (λ x. value_shown x a) e ∙ sym (ap (λ x. value_shown x b) e)
shown_same true Bad w a b is = absurd (cc is)
shown_same true Unchecked w a b is = absurd (cc is)

on_known : (answer : Result (Unit {0}) OutFault) (judged judges : PayloadJudgements) (verdict : Option PayloadVerdict) (a b : List ℕ) → value_shown verdict a ≡ value_shown verdict b
    → OnOk answer ((judges.verdicts ≡ judged.verdicts ++ verdict ∷ []) × (judges.digests ≡ judged.digests ++ value_shown verdict a ∷ []))
    → OnOk answer ((judges.verdicts ≡ judged.verdicts ++ verdict ∷ []) × (judges.digests ≡ judged.digests ++ value_shown verdict b ∷ []))
on_known (Ok u) judged judges verdict a b same added = (added.0, added.1 ∙ ap (λ d. judged.digests ++ d ∷ []) same)
on_known (Err e) judged judges verdict a b same added = tt

-- a verdict that is known is the next one
pub known_next : (answer : Result (Unit {0}) OutFault) (records : List Placed) (known : KnownPayloads) (n : ℕ) (judged judges : PayloadJudgements) (verdict : Option PayloadVerdict)
    (value : List ℕ) (knows : List Known) → n < length (contents records) → AreRightFor known records → known_at known n ≡ Some verdict → AreKnown (contents records) knows
    → AreJudgedPayloads (contents records) n judged
    → OnOk answer ((judges.verdicts ≡ judged.verdicts ++ verdict ∷ []) × (judges.digests ≡ judged.digests ++ value_shown verdict value ∷ []))
    → OnOk answer (AreKnown (contents records) knows × AreJudgedPayloads (contents records) (n + 1) judges)
known_next answer records known n judged judges verdict value knows low right is known_are are added =
    let (p, at) = one_at records n (omega (arith, low, length-map records (λ (p : Placed). p.content))) in
    let said : IsRightFor p (Some verdict) = subst (λ k. IsRightFor p k) is (right n p at) in
    let here : IsComparedAt (contents records) n p.content.fields verdict =
    record { content = p.content; there = content_at records n p at; fields_are = refl; is = said (contents records) n } in
    let same = shown_same (unwrap_or (slice_get known.stated n) true) (verdict_at known.verdicts n) verdict value (payload_value p.content.fields) is in
    judged_next answer (contents records) n judged judges p.content.fields verdict (payload_value p.content.fields) knows known_are are here refl
    (on_known answer judged judges verdict value (payload_value p.content.fields) same added)

-- the payloads that were judged to be good are good
pub good_judged : (records : List Record) (n : ℕ) (judged : PayloadJudgements) (verdicts : List (Option PayloadVerdict)) → verdicts ≡ judged.verdicts → AreJudgedPayloads records n judged
    → AreGoodPayloads records verdicts
good_judged records n judged verdicts same are = λ position is content there.
    let said : payload_verdict_at judged.verdicts position ≡ Some payload.Good = sym (ap (λ l. payload_verdict_at l position) same) ∙ is in
    let low : position < n = omega (arith, said_below judged.verdicts position payload.Good said, are.verdicts_are) in
    let at = are.each position low in
    let here : at.content ≡ content = (let e : Some at.content ≡ Some content = sym at.there ∙ there in cc e) in
    subst (λ (r : Record). IsJudgedPayload records position r (Some payload.Good)) here (subst (λ w. IsJudgedPayload records position at.content w) said at.is)

-- a list that says nothing of blocks
pub none_known : (blocks : List Verdict) (records : List Placed) → blocks ≡ [] → AreKnownBlocks blocks records
none_known blocks records is = subst (λ (l : List Verdict). AreKnownBlocks l records) (sym is) (nothing_known records)
