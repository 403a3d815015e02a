-- Archives of some records of an archive.
use Rattle.std.proofs.Common.{◌≡◌, ◌⊎◌, inl, inr, ℕ, List, length, map, sym, subst, ◌∙◌}
use Rattle.warc_frame.specs.Device.{Stored}
use Rattle.warc_frame.specs.Record.{Record}
use Rattle.warc_frame.specs.declared.fault.Fault.{Fault}
use Rattle.warc_frame.specs.declared.fault.FaultKind.TheVariants.{Memory}
use Rattle.warc_answer.specs.Payloads.{read_record}
use Rattle.warc_reading.specs.Archive.{IsArchiveOf, IsFaultOf, contents}
use Rattle.warc_reading.specs.Row.{Row}
use Rattle.warc.specs.ClosedLaws.{AnswersAreKept, GivesTheSame, IsAnswerAt, IsOutcomeOf, IsSameGiven, IsSameOutcome, IsSameRecord, NeededAreClosed, OutcomesAreKept}
use Rattle.warc_rewrite.specs.Closing.{AreWithNeeded}
use Rattle.warc_rewrite.specs.Closure.{records_read}
use Rattle.warc_lookup.specs.Indexed.{Archived, IsIndexed}
use Rattle.warc.specs.Laws.{NoFaultWhereSpelled, RecordsAreSpelled}
use Rattle.warc_rewrite.specs.SelectionLaws.{SelectionIsAnArchive, SelectionIsOfTheSelected}
use Rattle.warc_rewrite.specs.Selecting.{ArePositions, at_positions, selected_text}
use Rattle.example_library.specs.Opened.{IsRefused}
use Rattle.example_library.specs.Share.{GivesAsBefore, IsShareOf}

-- what the records at closed positions give among themselves
gives_as_before : OutcomesAreKept → AnswersAreKept → NeededAreClosed → (whole part : List Record) (positions closed : List ℕ)
    → AreWithNeeded (map read_record whole) positions closed → part ≡ at_positions whole closed → GivesAsBefore part whole closed
gives_as_before outcomes answers closes whole part positions closed needed part_is =
    let are = closes whole positions closed needed in record {
      outcomes = λ place position same.
          let P : List Record → Type 0 = λ rs. GivesTheSame (IsSameOutcome closed) (IsOutcomeOf rs place) (IsOutcomeOf whole position) in
          subst P (sym part_is) (outcomes whole closed are place position same);
      answers = λ place position same.
          let P : List Record → Type 0 = λ rs. GivesTheSame (IsSameGiven closed) (IsAnswerAt rs place) (IsAnswerAt whole position) in
          subst P (sym part_is) (answers whole closed are place position same);
    }

pub is_shared : OutcomesAreKept → AnswersAreKept → NeededAreClosed → SelectionIsOfTheSelected → (bytes : List ℕ) (rows : List Row)
    (first : IsArchiveOf bytes rows) (positions closed text : List ℕ) (shared : Archived Stored)
    → AreWithNeeded (records_read first.are.records) positions closed → text ≡ selected_text rows closed bytes
    → shared.listing.source.bytes ≡ text → IsIndexed text shared → IsShareOf bytes rows first positions shared
is_shared outcomes answers closes selected bytes rows first positions closed text shared needed text_is bytes_are opened =
    let P : List ℕ → Type 0 = λ t. IsIndexed t shared in
    let again = subst P (sym bytes_are) opened in
    let written = bytes_are ∙ text_is in
    let whole = contents first.are.records in
    let Q : List ℕ → Type 0 = λ t. (is : IsArchiveOf t shared.listing.rows) → contents is.are.records ≡ at_positions whole closed in
    let same = subst Q (sym written) (λ other. selected bytes rows first closed shared.listing.rows other) in record {
      closed = closed;
      needed = needed;
      written = written;
      opened = again;
      kept = gives_as_before outcomes answers closes whole (contents again.listed.are.records) positions closed needed (same again.listed);
    }

-- what was written opens, unless memory is wanted
pub share_unopened : SelectionIsAnArchive → RecordsAreSpelled → NoFaultWhereSpelled → (bytes text : List ℕ) (rows : List Row) (closed : List ℕ) (f : Fault)
    → IsArchiveOf bytes rows → ArePositions (length rows) closed → text ≡ selected_text rows closed bytes → IsRefused text f → f.kind ≡ Memory
share_unopened archive spelled none bytes text rows closed f is are text_is (inl memory) = memory
share_unopened archive spelled none bytes text rows closed f is are text_is (inr fault) =
    let (others, other) = archive bytes rows closed is are in
    let P : List ℕ → Type 0 = λ t. IsFaultOf t f in
    let selected = selected_text rows closed bytes in
    absurd (none selected (contents other.are.records) f other.short (spelled selected others other) (subst P text_is fault))
