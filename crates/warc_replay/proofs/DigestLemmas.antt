-- The digests of the payloads of origins, over the bytes of an archive.
use Rattle.std.proofs.Common.{◌≡◌, ℕ, ◌<◌, List, length, Option, Some, None, Result, Ok, Err, refl, sym, ap, subst, arith}
use Rattle.std.specs.List.{slice_get}
use Rattle.warc_frame.specs.Effects.{ReadsOnly}
use Rattle.warc_frame.specs.Record.{Record}
use Rattle.warc_frame.specs.Seen.{AsksOnly, IsInRange, SeenSource}
use Rattle.warc_frame.proofs.EffectLemmas.{fails_as}
use Rattle.warc_fixity.specs.declared.names.Algorithm.{Algorithm}
use Rattle.warc_index.specs.declared.unfound.Unfound.{Unfound}
use Rattle.warc_segment.specs.Joined.{PlacesAreOfRecords, ReadRecord, joined_records}
use Rattle.warc_segment.specs.Kept.{Kept as Parts}
use Rattle.warc_segment.specs.declared.gap.Gap.{Gap}
use Rattle.warc_answer.specs.Answers.{path_at}
use Rattle.warc_answer.specs.Hashed.{IsDigestBy, IsPayloadBy, IsPayloadOn}
use Rattle.warc_answer.specs.Payloads.{read_record}
use Rattle.warc_answer.specs.declared.answer.Path.{Path}
use Rattle.warc_answer.specs.declared.answer.ReplayFault.{ReplayFault}
use Rattle.warc_answer.specs.declared.answer.ReplayFault.TheVariants.{Reason, Out}
use Rattle.warc_answer.specs.declared.hashed.PayloadDigest.{PayloadDigest}
use Rattle.warc_reading.specs.Archive.{IsArchiveOf, contents}
use Rattle.warc_reading.specs.Rereading.{HasTextOf}
use Rattle.warc_reading.specs.Row.{Placed, Row, row_of}
use Rattle.warc_reading.proofs.PlaceLemmas.{HeadsAreRead, checkable_archive}
use Rattle.warc_reading.proofs.PlacedLemmas.{content_at, row_has}
use Rattle.warc_replay.specs.Origins.{FindsOrigin}
use Rattle.warc_replay.specs.PayloadStates.{AreKnown, DigestsOrigin, IsKnownOf, IsOriginDigest, IsPathDigest, no_digest}
use Rattle.warc_replay.specs.declared.record.digests.Known.{Known}
use Rattle.warc_replay.proofs.ReplayLemmas.{gap_is, read_all}

-- an origin that isn't found, or whose blocks don't join
pub digest_unfound : {A : Type 0} {rows : List Row} {parts : Parts} {position : ℕ} {old new : SeenSource} (by : Algorithm) (fault : ReplayFault) → PlacesAreOfRecords
    → FindsOrigin {A = A} rows parts position old new (Err fault) → DigestsOrigin rows parts position by old new (no_digest fault)
digest_unfound {A} {rows} {parts} {position} {old} {new} by (Reason why) law has = record {
  reported = λ bytes held of are.
      let (gap, says, at) = has.reported bytes held of are in (
        None,
        record {
          content = at.placed.content;
          there = content_at of.are.records position at.placed at.there;
          is = subst (λ (j : Result (List ReadRecord) Gap). IsPayloadBy at.placed.content j None) (sym (gap_is bytes of.are.records position at.placed of.are.spelled at.there gap law at.gap_is)) refl;
        },
        tt,
      );
  early = tt;
  inside = λ bytes of are. (has.inside bytes of are).asks;
  keeps = has.keeps;
  fails = record { may = has.fails.may; failed = has.fails.failed };
}
digest_unfound {A} {rows} {parts} {position} {old} {new} by (Out e) law has = record {
  reported = λ bytes held of are. tt;
  early = has.early;
  inside = λ bytes of are. (has.inside bytes of are).asks;
  keeps = has.keeps;
  fails = fails_as (Unit {0}) (Option PayloadDigest) has.fails;
}

-- the digest of the payload in joined blocks
pub digest_made : (records : List Placed) (i : ℕ) (p : Placed) (joined : List ReadRecord) (by : Algorithm) (digest : Option PayloadDigest) → slice_get records i ≡ Some p
    → joined_records (read_all records) (read_record p.content) ≡ Ok joined → IsDigestBy p.content joined by digest → IsOriginDigest (contents records) i by digest
digest_made records i p joined by digest there same (payload, is, of) = (
  payload,
  record {
    content = p.content;
    there = content_at records i p there;
    is = subst (λ (j : Result (List ReadRecord) Gap). IsPayloadBy p.content j payload) (sym same) is;
  },
  of,
)

-- one that was known
pub once_known : (records : List Record) (known items : List Known) (origin : ℕ) (by : Algorithm) (one : Known) → known ≡ items → AreKnown records items → IsKnownOf known origin by one
    → IsOriginDigest records origin by one.digest
once_known records known items origin by one same are is =
    let has = are is.index one (subst (λ (l : List Known). slice_get l is.index ≡ Some one) same is.there) in
    subst (λ (a : Algorithm). IsOriginDigest records origin a one.digest) is.algorithm_is (subst (λ (o : ℕ). IsOriginDigest records o one.algorithm one.digest) is.origin_is has)

-- the digest of an origin is the digest at the end of a path to it
pub path_digested : (records : List Record) (position : ℕ) (path : Path) (by : Algorithm) (digest : Option PayloadDigest) → path_at records position ≡ Ok path → IsOriginDigest records path.given by digest
    → IsPathDigest records position by digest
path_digested records position path by digest same (payload, at, of) =
    (payload, subst (λ (f : Result Path Unfound). IsPayloadOn records f payload) (sym same) at, of)

pub path_undigested : (records : List Record) (position : ℕ) (unfound : Unfound) (by : Algorithm) → path_at records position ≡ Err unfound → IsPathDigest records position by None
path_undigested records position unfound by same =
    (None, subst (λ (f : Result Path Unfound). IsPayloadOn records f None) (sym same) refl, tt)

-- ---- the row of a record

-- the record of a row is in the bytes
pub text_there : HeadsAreRead → (bytes : List ℕ) (rows : List Row) (i : ℕ) (row : Row) → IsArchiveOf bytes rows → slice_get rows i ≡ Some row → HasTextOf row bytes
text_there law bytes rows i row is at = row_has bytes (record { records = is.are.records; can = checkable_archive law bytes rows is rows refl }) i row at

abbrev pub text_at_row : HeadsAreRead → (bytes : List ℕ) (rows : List Row) (i : ℕ) (row : Row) (is : IsArchiveOf bytes rows) (p : Placed) → slice_get is.are.records i ≡ Some p
    → row ≡ row_of p → HasTextOf row bytes
text_at_row law bytes rows i row is p there same =
    let can = checkable_archive law bytes rows is rows refl in
    record { placed = p; short = is.short; has = can.heads i p there; written = can.placed.each i p there; row_is = same }

-- its block ends before they do
pub block_inside : HeadsAreRead → (rows : List Row) (i : ℕ) (row : Row) (most : ℕ) {old new : SeenSource} → slice_get rows i ≡ Some row → ReadsOnly (IsInRange row.block_start row.block_len) most old new
    → (bytes : List ℕ) → IsArchiveOf bytes rows → AsksOnly (λ at. at < length bytes) old new
block_inside law rows i row most at reads bytes is off =
    let has = text_there law bytes rows i row is at in
    let begin = ap (λ (r : Row). r.block_start) has.row_is in
    let size = ap (λ (r : Row). r.block_len) has.row_is in
    reads.near (λ q in_. off q (omega (arith, in_.1, begin, size, has.written.end, has.written.within)))
