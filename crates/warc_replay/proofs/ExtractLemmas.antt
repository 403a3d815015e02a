-- What extracting the block of a record promises.
use Rattle.std.proofs.Common.{◌≡◌, ℕ, ◌+◌, ◌≤◌, List, length, take, drop, Option, Some, None, Ok, Err, length-take, refl, sym, ap, subst, ◌∙◌, arith}
use Rattle.std.specs.Prelude.{option_and_then, option_map, Result}
use Rattle.std.specs.Io.KnownBytes.{append_known}
use Rattle.std.specs.List.{slice_get}
use Rattle.std.proofs.lemmas.List.{length-drop}
use Rattle.std.proofs.lemmas.Option.{slice_get-map}
use Rattle.warc_frame.specs.Effects.{FailsBy, HasRange, IsOfDevice, IsRange, ReadsRange}
use Rattle.warc_frame.proofs.EffectLemmas.{fails_more, fails_never, reads_none, reads_within}
use Rattle.warc_frame.specs.Failing.{failed_with}
use Rattle.warc_frame.specs.Record.{max_archive}
use Rattle.warc_frame.specs.Seen.{Seen, SeenSource}
use Rattle.warc_frame.specs.Send.{WentOut, sent_of}
use Rattle.warc_frame.specs.declared.fault.OutFault.{OutFault}
use Rattle.warc_frame.specs.declared.fault.OutFault.TheVariants as outs
use Rattle.warc_reading.specs.Archive.{IsArchiveOf}
use Rattle.warc_replay.specs.Extracting.{Extracts, IsExtract, extracted, position_with}
use Rattle.warc_replay.specs.Parts.{GivesPart, IsGivenCut, ReadsPart, part_len, part_start, part_text}
use Rattle.warc_lookup.specs.Indexed.{Archived, AreOf}
use Rattle.warc_reading.specs.Row.{Placed, Row, row_of}
use Rattle.warc_reading.specs.Placing.{IsPlacedIn}
use Rattle.warc_replay.specs.declared.fault.ExtractFault.{ExtractFault}
use Rattle.warc_replay.specs.declared.fault.ExtractFault.TheVariants.{NoRecord, Out}
use Rattle.warc_replay.specs.declared.record.part.Part.{Part}
use Rattle.warc_replay.specs.declared.record.part.Part.TheVariants.{Head, Block}
use Rattle.warc_reading.proofs.PlacedLemmas.{placed}
use Rattle.warc_reading.proofs.RemainLemmas.{written}
use Rattle.warc_replay.proofs.TakeLemmas.{absent}

nothing_read : (part : Part) (found : Option Row) (s : SeenSource) → ReadsPart part found s s
nothing_read part found s = reads_within (λ at in_. in_) (omega arith) reads_none

no_row : (bytes : List ℕ) (rows : List Row) (is : IsArchiveOf bytes rows) (i : ℕ) → slice_get rows i ≡ None → slice_get is.are.records i ≡ None
no_row bytes rows is i none = absent is.are.records i (ap (λ l. slice_get l i) (sym is.are.rows_are) ∙ none)

pub gives_none : (part : Part) (rows : List Row) (i : ℕ) (s : SeenSource) (o : Seen) → slice_get rows i ≡ None → GivesPart part rows i s s o o (Err NoRecord)
gives_none part rows i s o none = record {
  reported = λ bytes held is. (ap (option_map (λ p. part_text part bytes p)) (no_row bytes rows is i none), refl);
  silent = λ e. refl;
  absent = (λ e. none, λ e. refl);
  reads = nothing_read part (slice_get rows i) s;
  device = tt;
  fails = record { may = refl; failed = λ bytes held is. refl };
  cause = refl;
}

cut_by : (e : OutFault) (found : Option (List ℕ)) (text : List ℕ) (old new : Option (List ℕ)) → IsOfDevice e → found ≡ Some text → WentOut old text new (sent_of e) → IsGivenCut found e old new
cut_by (outs.Read n) found text old new device is went = (text, is, went)
cut_by (outs.Write n) found text old new device is went = (text, is, went)
cut_by (outs.Memory n) found text old new device is went = absurd device

-- where a part of a row's record is
part_there : (part : Part) (bytes : List ℕ) (p : Placed) → IsPlacedIn bytes p → take (part_len part (row_of p)) (drop (part_start part (row_of p)) bytes) ≡ part_text part bytes p
part_there Head bytes p has = refl
part_there Block bytes p has = has.block

part_range : (part : Part) (bytes : List ℕ) (p : Placed) → IsPlacedIn bytes p → length bytes ≤ max_archive → HasRange (part_start part (row_of p)) (part_len part (row_of p)) bytes
part_range Head bytes p has short = (omega (arith, has.order, has.end, has.within), omega (arith, short))
part_range Block bytes p has short = (omega (arith, has.end, has.within), omega (arith, short))

-- a range within the bytes has its length
range_len : (start len : ℕ) (bytes : List ℕ) → start + len ≤ length bytes → length (take len (drop start bytes)) ≡ len
range_len start len bytes within = omega (arith, within, length-take len (drop start bytes), length-drop start bytes)

module _ (part : Part) (rows : List Row) (i : ℕ) (row : Row) (start len : ℕ) (old new : SeenSource) (before after : Seen) (at : slice_get rows i ≡ Some row) (start_is : start ≡ part_start part row)
    (len_is : len ≡ part_len part row) (filled : ReadsRange start len old new) where
  reads : ReadsPart part (slice_get rows i) old new
  reads =
      let P : ℕ → Type 0 = λ s. ReadsRange s len old new in
      let Q : ℕ → Type 0 = λ n. ReadsRange (part_start part row) n old new in
      let there = subst Q len_is (subst P start_is filled) in
      subst (λ o. ReadsPart part o old new) (sym at) (reads_within (λ q in_. in_) (omega arith) there)

  some_row : slice_get rows i ≡ None → ⊥
  some_row none = cc (sym at ∙ none)

  -- the part of the record of the row, where the bytes are those of the archive
  there : (bytes : List ℕ) (is : IsArchiveOf bytes rows) → (text : List ℕ) × (option_map (λ p. part_text part bytes p) (slice_get is.are.records i) ≡ Some text)
      × (take len (drop start bytes) ≡ text) × HasRange start len bytes
  there bytes is =
      let (p, is_present, same) = placed is.are.records i row (sym (ap (λ l. slice_get l i) is.are.rows_are) ∙ at) in
      let text = written bytes is.are.records is.are.spelled i p is_present in
      let from : start ≡ part_start part (row_of p) = start_is ∙ ap (part_start part) same in
      let long : len ≡ part_len part (row_of p) = len_is ∙ ap (part_len part) same in
      let R : ℕ → Type 0 = λ s. HasRange s len bytes in
      let L : ℕ → Type 0 = λ n. HasRange (part_start part (row_of p)) n bytes in (
        part_text part bytes p,
        ap (option_map (λ p. part_text part bytes p)) is_present,
        ap (λ n. take n (drop start bytes)) long ∙ ap (λ s. take (part_len part (row_of p)) (drop s bytes)) from ∙ part_there part bytes p text,
        subst R (sym from) (subst L (sym long) (part_range part bytes p text is.short)),
      )

  pub gives_ok : ((bytes text : List ℕ) → old.holds ≡ Some bytes → IsRange start len bytes text → after.reports ≡ append_known before.reports text)
      → new.faults ≡ old.faults → after.faults ≡ before.faults → GivesPart part rows i old new before after (Ok len)
  gives_ok reported sound cause = record {
    reported = λ bytes held is.
        let (text, found, same, range) = there bytes is in
        (text, found, sym (range_len start len bytes range.0) ∙ ap length same, reported bytes _ held (range, refl) ∙ ap (append_known before.reports) same);
    silent = λ e. cc e;
    absent = (λ e. cc e, λ none. absurd (some_row none));
    reads = reads;
    device = tt;
    fails = fails_never sound;
    cause = cause;
  }

  pub gives_cut : (e : OutFault) → IsOfDevice e
      → ((bytes text : List ℕ) → old.holds ≡ Some bytes → IsRange start len bytes text → WentOut before.reports text after.reports (sent_of e))
      → FailsBy {X = Unit {0}} (λ bytes. (text : List ℕ) × IsRange start len bytes text) (Err e) old new
      → after.faults ≡ failed_with e before.faults → GivesPart part rows i old new before after (Err (Out e))
  gives_cut e device cut fails cause = record {
    reported = λ bytes held is.
        let (text, found, same, range) = there bytes is in
        cut_by e (option_map (λ p. part_text part bytes p) (slice_get is.are.records i)) text before.reports after.reports device found (subst (λ b. WentOut before.reports b after.reports (sent_of e)) same (cut bytes _ held (range, refl)));
    silent = λ no. cc no;
    absent = (λ no. cc no, λ none. absurd (some_row none));
    reads = reads;
    device = device;
    fails = fails_more (λ bytes held is. let (text, found, same, range) = there bytes is in (_, (range, refl))) fails;
    cause = cause;
  }

-- no record has the id
pub extracts_missing : {S : Type 0} (archive : Archived S) (id : List ℕ) (s : SeenSource) (o : Seen)
    → ((records : List Placed) → AreOf records archive.index archive.parts → position_with records id ≡ None) → Extracts archive id s s o o (Err NoRecord)
extracts_missing archive id s o none = record {
  reported = λ bytes held is. (ap (option_map (λ p. part_text Block bytes p)) (ap (option_and_then (slice_get is.listed.are.records)) (none is.listed.are.records is.kept)), refl);
  reads = λ bytes held is. nothing_read Block (option_map row_of (extracted is.listed.are.records id)) s;
  silent = λ no. refl;
  near = (0, nothing_read Block (slice_get archive.listing.rows 0) s);
  device = tt;
  fails = record { may = refl; failed = λ bytes held is. refl };
  cause = refl;
}

-- the record at a position has it first
pub extracts_at : {S : Type 0} (archive : Archived S) (id : List ℕ) (position : ℕ) (old new : SeenSource) (before after : Seen) (answer : Result ℕ ExtractFault)
    → ((records : List Placed) → AreOf records archive.index archive.parts → position_with records id ≡ Some position)
    → GivesPart Block archive.listing.rows position old new before after answer → Extracts archive id old new before after answer
extracts_at archive id position old new before after answer found at = record {
  reported = λ bytes held is.
      let records = is.listed.are.records in
      let here : extracted records id ≡ slice_get records position = ap (option_and_then (slice_get records)) (found records is.kept) in
      subst (λ o. IsExtract o answer before.reports after.reports) (sym here) (at.reported bytes held is.listed);
  reads = λ bytes held is.
      let records = is.listed.are.records in
      let here : extracted records id ≡ slice_get records position = ap (option_and_then (slice_get records)) (found records is.kept) in
      let row : option_map row_of (extracted records id) ≡ slice_get archive.listing.rows position =
      ap (option_map row_of) here ∙ sym (slice_get-map row_of records position) ∙ ap (λ l. slice_get l position) (sym is.listed.are.rows_are) in
      subst (λ o. ReadsPart Block o old new) (sym row) at.reads;
  silent = at.silent;
  near = (position, at.reads);
  device = at.device;
  fails = fails_more (λ bytes held is. is.listed) at.fails;
  cause = at.cause;
}
