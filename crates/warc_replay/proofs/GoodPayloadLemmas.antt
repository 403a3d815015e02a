-- Digests of origins' payloads that are learned from verdicts.
use Rattle.std.proofs.Common.{◌≡◌, ℕ, Bool, true, false, ◌||◌, List, [], ◌∷◌, length, map, append-nil, Option, Some, None, is_some, option_map, Result, Ok, if◌then◌else◌, refl, sym, ap, subst, ◌∙◌}
use Rattle.std.proofs.lemmas.Slice.Eq.{bytes_eq-Decides}
use Rattle.std.specs.List.{list_any, slice_get}
use Rattle.std.specs.Prelude.{IfSome}
use Rattle.std.specs.Str.{bytes_eq}
use Rattle.warc_field.specs.Area.{Pair}
use Rattle.warc_value.specs.declared.hash.Verdict.{Verdict}
use Rattle.warc_frame.specs.Names.{warc_segment_number}
use Rattle.warc_frame.specs.Record.{Record}
use Rattle.warc_frame.specs.Seen.{SeenSource}
use Rattle.warc_frame.specs.declared.fault.OutFault.{OutFault}
use Rattle.warc_frame.proofs.EffectLemmas.{fails_never}
use Rattle.warc_record.specs.Readings.{present_value, reading_of, segment_number}
use Rattle.warc_record.specs.declared.types.Kind.{Kind}
use Rattle.warc_record.specs.declared.types.Kind.TheVariants as kinds
use Rattle.warc_record.specs.declared.readings.SegmentNumber.TheVariants.{Absent}
use Rattle.warc_fixity.specs.Decoded.{stated_digest}
use Rattle.warc_fixity.specs.Judged.{digest_seen}
use Rattle.warc_fixity.specs.Stated.{block_hash}
use Rattle.warc_fixity.specs.declared.hasher.Digest.{Digest}
use Rattle.warc_fixity.specs.declared.names.Algorithm.{Algorithm}
use Rattle.warc_index.specs.Orders.{Indexes}
use Rattle.warc_segment.specs.Gaps.{joined}
use Rattle.warc_segment.specs.Joined.{ReadRecord, joined_records, piece_read, with_members}
use Rattle.warc_segment.specs.Kept.{Kept as Parts}
use Rattle.warc_segment.specs.Series.{series_of}
use Rattle.warc_segment.specs.declared.gap.Gap.{Gap}
use Rattle.warc_answer.specs.Hashed.{HasOnePayload, HasPayload, StoredPayload}
use Rattle.warc_answer.specs.Known.{Agrees, IsDigestOfAny}
use Rattle.warc_answer.specs.Payloads.{has_bad_block, is_http_response, read_record, whole_block}
use Rattle.warc_answer.specs.declared.hashed.PayloadDigest.{PayloadDigest}
use Rattle.warc_reading.specs.Archive.{contents}
use Rattle.warc_reading.specs.Row.{Placed, Row}
use Rattle.warc_reading.proofs.PlacedLemmas.{content_at}
use Rattle.warc_judged.specs.Summary.{has_segment_number}
use Rattle.warc_replay.specs.Capturing.{IsBlockVerdict}
use Rattle.warc_replay.specs.GoodPayloads.{DigestsKnown, IsOwnDigest, IsOwnDigestAt, LearnsOrigin}
use Rattle.warc_replay.specs.PayloadStates.{DigestsOrigin, IsOriginDigest, holds_own}
use Rattle.warc_replay.specs.PayloadVerdicts.{IsJudgedPayload, IsOwnVerdict, IsVerdictByKind, by_stated, payload_value}
use Rattle.warc_replay.specs.declared.record.digests.Known.{Known}
use Rattle.warc_replay.specs.declared.record.payload.PayloadVerdict.{PayloadVerdict}
use Rattle.warc_replay.specs.declared.record.payload.PayloadVerdict.TheVariants.{Good, Bad, Unchecked}
use Rattle.warc_replay.specs.declared.record.payload.Unjudged.TheVariants as unjudged
use Rattle.warc_replay.proofs.ReplayLemmas.{read_all}

-- ---- a payload that is good

-- the verdict is on the payload in the record's own block
own_of : (k : Kind) (records : List Record) (position : ℕ) (content : Record) (verdict : PayloadVerdict) → holds_own k ≡ true
    → IsVerdictByKind k records position content verdict → IsOwnVerdict content verdict
own_of kinds.Warcinfo records position content verdict own is = is
own_of kinds.Response records position content verdict own is = is
own_of kinds.Resource records position content verdict own is = is
own_of kinds.Request records position content verdict own is = absurd (cc own)
own_of kinds.Metadata records position content verdict own is = is
own_of kinds.Revisit records position content verdict own is = absurd (cc own)
own_of kinds.Conversion records position content verdict own is = is
own_of kinds.Continuation records position content verdict own is = is
own_of kinds.Other records position content verdict own is = is

not_numbered : (b : Bool) (x : PayloadVerdict) → Good ≡ (if b then Unchecked unjudged.Segment else x) → (b ≡ false) × (Good ≡ x)
not_numbered true x is = absurd (cc is)
not_numbered false x is = (refl, is)

equal_if : (test coded : Bool) → Good ≡ (if test then Good else if coded then Unchecked unjudged.Coded else Bad) → test ≡ true
equal_if true coded is = refl
equal_if false true is = absurd (cc is)
equal_if false false is = absurd (cc is)

-- it has the digest that is stated
stated_good : (stated : Algorithm × List ℕ) (payload : Option StoredPayload) → Good ≡ by_stated (Some stated) payload
    → (p : StoredPayload) × (payload ≡ Some p) × (stated.1 ≡ block_hash stated.0 p.bytes)
stated_good (by, digest) None is = absurd (cc is)
stated_good (by, digest) (Some p) is =
    (p, refl, (bytes_eq-Decides digest (block_hash by p.bytes)).0 (equal_if (bytes_eq digest (block_hash by p.bytes)) p.coded is))

-- a block has one payload
same_payload : HasOnePayload → (http : Bool) (block : List ℕ) (p q : StoredPayload) → HasPayload http block (Some p) → HasPayload http block (Some q) → p ≡ q
same_payload one http block p q has other =
    let (payload, here, only) = one http block in
    let e : Some p ≡ Some q = sym (only (Some p) has) ∙ only (Some q) other in cc e

own_digest : HasOnePayload → (content : Record) (digest : Option Digest) → option_map digest_seen digest ≡ stated_digest (payload_value content.fields) → IsOwnVerdict content Good
    → IfSome digest (IsOwnDigest content)
own_digest one content None says is = tt
own_digest one content (Some d) says (payload, has, good) =
    let http : Bool = is_http_response (reading_of content.fields) in
    let (alone, by) = not_numbered (has_segment_number content.fields) (by_stated (stated_digest (payload_value content.fields)) payload) good in
    let here : Good ≡ by_stated (Some (digest_seen d)) payload = by ∙ ap (λ s. by_stated s payload) (sym says) in
    let (p, same, hash) = stated_good (digest_seen d) payload here in
    record {
      alone = alone;
      is = λ q other. hash ∙ ap (λ (x : StoredPayload). block_hash (digest_seen d).0 x.bytes) (same_payload one http content.block p q (subst (λ o. HasPayload http content.block o) same has) other);
    }

-- the digest that a head states of it
pub stated_own : HasOnePayload → (records : List Record) (position : ℕ) (content : Record) (fields : List Pair) (kind : Kind) (own : Bool) (value : List ℕ) (digest : Option Digest)
    → own ≡ holds_own kind → own ≡ true → kind ≡ (reading_of fields).kind → fields ≡ content.fields → value ≡ payload_value fields
    → option_map digest_seen digest ≡ stated_digest value → IsJudgedPayload records position content (Some Good) → IfSome digest (IsOwnDigest content)
stated_own one records position content fields kind own value digest own_is is_own kind_is same value_is says judged =
    let held : holds_own (reading_of content.fields).kind ≡ true =
    ap holds_own (sym (kind_is ∙ ap (λ f. (reading_of f).kind) same)) ∙ sym own_is ∙ is_own in
    own_digest one content digest (says ∙ ap stated_digest (value_is ∙ ap payload_value same))
    (own_of (reading_of content.fields).kind records position content Good held judged.1)

-- ---- a record without a segment number

absent_by : (fields : List Pair) (value : Option (List ℕ)) → present_value warc_segment_number fields ≡ value → is_some value ≡ false → segment_number fields ≡ Absent
absent_by fields None is none = rw is refl
absent_by fields (Some text) is none = absurd (cc none)

-- no other block is joined to its own
joined_alone : (all : List ReadRecord) (content : Record) → has_segment_number content.fields ≡ false → joined_records all (read_record content) ≡ Ok (read_record content ∷ [])
joined_alone all content none =
    let r : ReadRecord = read_record content in
    ap (λ n. with_members all r (joined n (length r.block) (series_of r.head.id (map piece_read all))))
    (absent_by content.fields (present_value warc_segment_number content.fields) refl none)

pub alone_is : (records : List Placed) (p : Placed) (joined : List ReadRecord) → joined_records (read_all records) (read_record p.content) ≡ Ok joined
    → has_segment_number p.content.fields ≡ false → joined ≡ read_record p.content ∷ []
alone_is records p joined whole none =
    let e : ◌≡◌ {A = Result (List ReadRecord) Gap} (Ok joined) (Ok (read_record p.content ∷ [])) = sym whole ∙ joined_alone (read_all records) p.content none in cc e

or_no : (b : Bool) → b || false ≡ b
or_no true = refl
or_no false = refl

-- what is known of it is known of what is joined
pub agrees_alone : (own : Verdict) (r : ReadRecord) (joined : List ReadRecord) → joined ≡ r ∷ [] → Agrees own (has_bad_block r) → Agrees own (list_any has_bad_block joined)
agrees_alone own r joined same is = subst (Agrees own) (sym (ap (list_any has_bad_block) same ∙ or_no (has_bad_block r))) is

pub digest_alone : (http other : Bool) (r : ReadRecord) (joined : List ReadRecord) (digest : Digest) → joined ≡ r ∷ [] → other ≡ http → IsDigestOfAny http r.block digest
    → IsDigestOfAny other (whole_block joined) digest
digest_alone http other r joined digest same by is =
    subst (λ (b : Bool). IsDigestOfAny b (whole_block joined) digest) (sym by)
    (subst (λ (t : List ℕ). IsDigestOfAny http t digest) (sym (ap whole_block same ∙ append-nil r.block)) is)

-- ---- digests

-- one that was computed without a look at what is known
pub digests_known : {rows : List Row} {parts : Parts} {origin : ℕ} {old new : SeenSource} {answer : Result (Option PayloadDigest) OutFault} (own : Verdict) (digest : Digest)
    → DigestsOrigin rows parts origin (digest_seen digest).0 old new answer → DigestsKnown rows parts origin own digest old new answer
digests_known {rows} {parts} {origin} {old} {new} {answer} own digest has = record {
  reported = λ bytes held is are mine block. has.reported bytes held is are;
  early = has.early;
  inside = has.inside;
  keeps = has.keeps;
  fails = has.fails;
}

-- ---- by the record at a position

-- there is one record at a position
one_there : (records : List Placed) (position : ℕ) (p : Placed) (content : Record) → slice_get records position ≡ Some p → slice_get (contents records) position ≡ Some content
    → p.content ≡ content
one_there records position p content there here =
    let e : Some p.content ≡ Some content = sym (content_at records position p there) ∙ here in cc e

pub some_there : (records : List Placed) (position : ℕ) (p : Placed) (digest : Option Digest) → slice_get records position ≡ Some p → IfSome digest (IsOwnDigest p.content)
    → IfSome digest (IsOwnDigestAt (contents records) position)
some_there records position p None there is = tt
some_there records position p (Some d) there is = λ content here.
    subst (λ (r : Record). IsOwnDigest r d) (one_there records position p content there here) is

pub stated_there : (records : List Record) (position : ℕ) (stated : Option Digest) (digest : Digest) → stated ≡ Some digest → IfSome stated (IsOwnDigestAt records position)
    → IsOwnDigestAt records position digest
stated_there records position stated digest same is = subst (λ (o : Option Digest). IfSome o (IsOwnDigestAt records position)) same is

-- a digest by its algorithm
pub here_known : (records : List Record) (origin : ℕ) (by other : Algorithm) (digest : Option PayloadDigest) → by ≡ other → IsOriginDigest records origin other digest
    → IsOriginDigest records origin by digest
here_known records origin by other digest same is = subst (λ (a : Algorithm). IsOriginDigest records origin a digest) (sym same) is

pub block_as : (records : List Record) (position : ℕ) (verdict own : Verdict) → own ≡ verdict → IsBlockVerdict records position verdict → IsBlockVerdict records position own
block_as records position verdict own same is = subst (λ (v : Verdict). IsBlockVerdict records position v) (sym same) is

-- nothing is learned
pub learned_nothing : {rows : List Row} {index : Indexes} {parts : Parts} {position : ℕ} {blocks : List Verdict} {verdicts : List (Option PayloadVerdict)} {known : List Known} {seen : SeenSource}
    → LearnsOrigin rows index parts position blocks verdicts known known seen seen (Ok tt)
learned_nothing {rows} {index} {parts} {position} {blocks} {verdicts} {known} {seen} = record {
  reported = λ bytes held is are right good here. here;
  early = tt;
  inside = λ bytes is off. refl;
  keeps = record { kept = refl; watched = refl };
  fails = fails_never refl;
}
